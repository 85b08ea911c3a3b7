use Rattle.laws.proofs.Basics.{ℕ, sym, ap, ◌∙◌, [], ◌∷◌, length}
use Rattle.std.specs.Prelude.{Option}
use Rattle.std.specs.Option.{unwrap_or}
use Rattle.language.specs.Symbols.{gap, comment, sign_or_comment}
use Rattle.symbols.proofs.Runs.{comment-end}
use Rattle.symbols.proofs.Spelling.{begins-is}
use Rattle.symbols.proofs.elements.sign_or_comment.Goals as goal

pub returns-then-starts_with : goal.returns-then-starts_with
unfolding sign_or_comment comment
returns-then-starts_with c = let bytes = c.args.bytes.now in
    rw (sym (begins-is (47 ∷ 47 ∷ []) bytes) ∙ sym c.starts_with.ensures.value ∙ c.if-starts_with.true)
    (ap gap (c.unwrap_or-width.ensures ∙ ap (λ (o : Option ℕ). unwrap_or o (length bytes)) c.line_end.ensures ∙ comment-end bytes))

pub returns : goal.returns
unfolding sign_or_comment
returns c = rw (sym (begins-is (47 ∷ 47 ∷ []) c.args.bytes.now) ∙ sym c.starts_with.ensures.value ∙ c.if-starts_with.false) c.sign_at.ensures
