use Rattle.laws.proofs.Basics.{ℕ, ◌≡◌, ap, ◌∙◌, length, length-take, arith}
use Rattle.std.specs.Prelude.{Option}
use Rattle.std.specs.Option.{unwrap_or}
use Rattle.language.specs.Symbols.{word, word_width}
use Rattle.symbols.proofs.Runs.{word-run, run-position, run-within}
use Rattle.symbols.proofs.elements.word_at.Goals as goal

pub slice_bounds-kind_of-end : goal.slice_bounds-kind_of-end
slice_bounds-kind_of-end c = let bytes = c.args.bytes.now in
    let e : c.unwrap_or-width.result ≡ word_width bytes = c.unwrap_or-width.ensures
    ∙ ap (λ (o : Option ℕ). unwrap_or o (length bytes)) c.word_end.ensures ∙ run-position word-run bytes in omega (arith, e, run-within word-run bytes, length-take c.unwrap_or-width.result bytes)

pub returns : goal.returns
unfolding word
returns c = let bytes = c.args.bytes.now in
    let e : c.unwrap_or-width.result ≡ word_width bytes = c.unwrap_or-width.ensures
    ∙ ap (λ (o : Option ℕ). unwrap_or o (length bytes)) c.word_end.ensures ∙ run-position word-run bytes in rw (c.kind_of-kind.ensures.kind_value, e)
