use Rattle.laws.proofs.Basics.{ap, ◌∙◌}
use Rattle.std.specs.Prelude.{Ok}
use Rattle.std.proofs.lemmas.Result.{err_from_is_err_and}
use Rattle.symbols.proofs.Scanning.{nearer-end}
use Rattle.symbols.proofs.Matching.{going_start, going-wrong, going-whole, going-open, stack-fits, going-unmatched, going_on}
use Rattle.symbols.proofs.Writing.{putting-start, putting-end, room_for, number_fits, place_fits, strings-fit, putting-on}
use Rattle.symbols.proofs.Reading.{all-refused, all-read}
use Rattle.symbols.proofs.read_all.Goals as goal

pub loop-found-init : goal.loop-found-init
loop-found-init c = record { brackets = going_start _ _; written = putting-start _ _ c.requires.text_in_bounds }

pub returns-in_err-found : goal.returns-in_err-found
returns-in_err-found c = let p = err_from_is_err_and c.from_residual.result c.from_residual.ensures.1 in
    rw (p.1, p.2) (all-refused _ _ c.loop-found.invariant.written (going-wrong _ _ _ _ _ c.loop-found.invariant.brackets c.next_symbol.ensures c.in_err-found.was))

pub bracket-requires : goal.bracket-requires
bracket-requires c = stack-fits _ _ _ _ _ c.loop-found.invariant.brackets c.next_symbol.ensures (c.in_ok-found.was ∙ ap Ok c.in-Some.is)
    c.requires.text_len_bound.0 c.requires.text_len_bound.1

pub returns-in_default-bracket : goal.returns-in_default-bracket
returns-in_default-bracket c = all-refused _ _ c.loop-found.invariant.written
    (going-unmatched _ _ _ _ _ c.loop-found.invariant.brackets c.next_symbol.ensures (c.in_ok-found.was ∙ ap Ok c.in-Some.is) c.bracket.ensures c.in_default-bracket.is)

pub write-count-requires : goal.write-count-requires
write-count-requires c = (
  room_for _ _ _ _ _ _ _ c.loop-found.invariant.written c.next_symbol.ensures (c.in_ok-found.was ∙ ap Ok c.in-Some.is) c.gains-semicolon.ensures,
  number_fits _ _ _ _ _ _ _ c.loop-found.invariant.written c.next_symbol.ensures (c.in_ok-found.was ∙ ap Ok c.in-Some.is) c.gains-semicolon.ensures
      c.requires.text_len_bound.0 c.numbered-value.ensures,
  place_fits _ _ _ _ _ _ _ c.loop-found.invariant.written c.next_symbol.ensures (c.in_ok-found.was ∙ ap Ok c.in-Some.is) c.gains-semicolon.ensures
      c.requires.text_len_bound.0,
)

pub strings_past-strings-requires : goal.strings_past-strings-requires
strings_past-strings-requires c = strings-fit _ _ _ _ _ _ _ c.loop-found.invariant.written c.next_symbol.ensures (c.in_ok-found.was ∙ ap Ok c.in-Some.is)
    c.gains-semicolon.ensures c.requires.text_len_bound.0

pub loop-found-smaller : goal.loop-found-smaller
loop-found-smaller c = nearer-end c.next_symbol.ensures (c.in_ok-found.was ∙ ap Ok c.in-Some.is)

pub loop-found-preserved : goal.loop-found-preserved
loop-found-preserved c = record {
  brackets = going_on _ _ _ _ _ c.loop-found.invariant.brackets c.next_symbol.ensures (c.in_ok-found.was ∙ ap Ok c.in-Some.is) c.bracket.ensures c.in-Some-bracket.is;
  written = putting-on _ _ _ _ _ _ _ c.loop-found.invariant.written c.next_symbol.ensures (c.in_ok-found.was ∙ ap Ok c.in-Some.is) c.gains-semicolon.ensures
      c.numbered-value.ensures c.strings_past-strings.ensures c.write-count.ensures;
}

pub returns-then-depth-ne0 : goal.returns-then-depth-ne0
returns-then-depth-ne0 c = all-refused _ _ c.loop-found.invariant.written
    (going-open _ _ _ _ _ c.loop-found.invariant.brackets c.next_symbol.ensures (c.in_ok-found.was ∙ ap Ok c.in_default.is) c.if-depth-ne0.true)

pub returns : goal.returns
returns c = all-read _ _ c.loop-found.invariant.written (going-whole _ _ _ _ _ c.loop-found.invariant.brackets c.next_symbol.ensures (c.in_ok-found.was ∙ ap Ok c.in_default.is) c.if-depth-ne0.false)
    (putting-end _ _ _ _ _ _ _ c.loop-found.invariant.written c.next_symbol.ensures (c.in_ok-found.was ∙ ap Ok c.in_default.is)) c.clear_from.ensures
