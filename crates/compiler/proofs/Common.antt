-- Laws that nearly every file of the proofs cites: of scope, of what is done, of what stands in scratch, and of lists there.
pub use Rattle.compiler.proofs.Scoping.{Held, keeps-all, keeps-lower, keeps-name, keeps-shows, keeps_then, looked-word, means-global}
pub use Rattle.compiler.proofs.Scoping.{means-manifest, means-unknown, name-there, pushed-keeps, pushed-mark, pushed-name}
pub use Rattle.compiler.proofs.Done.{Same, and, code_is, did_after, did-as, did_at, did-emit, did-fresh, did_none, did-put, did_then}
pub use Rattle.compiler.proofs.Done.{emits-did, emits_none, emits_then, fault-fits, fit_then, least-then, nil-left, nil-right, same-both}
pub use Rattle.compiler.proofs.Done.{same-eq, same_refl, same-swap, same_then}
pub use Rattle.compiler.proofs.Trees.{IsTwo, ends, find, first, is-valof, keeps-lies, kid, kind-is, place_is, second, size_is, value-is}
pub use Rattle.compiler.proofs.Parts.{TwoAt, moved, ready-names, sub, two_at, two-closed}
pub use Rattle.compiler.proofs.Anywhere.{any-expression, any-expressions, with-ways}
pub use Rattle.compiler.proofs.Lists.{First, Kind, Part, Rest, begins, both-deep, both-fine, ended, first_of, goes_on_lem, item, one_size}
pub use Rattle.compiler.proofs.Lists.{one_word, ready-one, rest_all, rest-length, rest-next, taken-sizes}
