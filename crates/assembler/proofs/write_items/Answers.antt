use Rattle.laws.proofs.Basics.{⊎_elim, arith}
use Rattle.assembler.proofs.Reading.{reads-one, reads_whole, reads-not}
use Rattle.assembler.proofs.Filling.{filling-end, filling-writable, filling-spelled, filling-unknown, filling-on}
use Rattle.std.proofs.Common.{◌≡◌, Some, None}
use Rattle.std.proofs.lemmas.Result.{err_from_is_err_and}
use Rattle.text.specs.declared.faults.Fault.TheVariants.{UnknownLabel}
use Rattle.assembler.proofs.write_items.Goals as goal

pub returns-in-Whole : goal.returns-in-Whole
returns-in-Whole c = ⊎_elim (λ e. filling-end _ _ _ _ _ _ _ c.loop-first.invariant (reads_whole _ _ c.next_in.ensures e))
    (λ e. filling-end _ _ _ _ _ _ _ c.loop-first.invariant (reads-not _ _ c.next_in.ensures e.1)) c.in-Whole.is

pub write_item-requires : goal.write_item-requires
write_item-requires c = let one = reads-one _ _ c.next_in.ensures c.in-One.is in (
  filling-writable _ _ _ _ _ _ _ c.loop-first.invariant one,
  filling-spelled _ _ _ _ _ _ _ c.loop-first.invariant one,
)

pub returns-in_err-at-in-One : goal.returns-in_err-at-in-One
returns-in_err-at-in-One c = let p = err_from_is_err_and c.from_residual.result c.from_residual.ensures.1 in
    let one = reads-one _ _ c.next_in.ensures c.in-One.is in
    let none : c.write_item.result ≡ None = grind arith in
    let d : c.in_err-at-in-One.field-0.0 ≡ record { fault = UnknownLabel; place = c.in-One.first } = grind arith in
    rw (p.1, p.2, d) (filling-unknown _ _ _ _ _ _ _ c.loop-first.invariant one c.write_item.ensures none)

pub loop-first-smaller : goal.loop-first-smaller
loop-first-smaller c = let one = reads-one _ _ c.next_in.ensures c.in-One.is in
    omega (arith, one.onward, one.within)

pub loop-first-preserved : goal.loop-first-preserved
loop-first-preserved c = let one = reads-one _ _ c.next_in.ensures c.in-One.is in
    let some : c.write_item.result ≡ Some c.in_ok-at-in-One.at = grind arith in
    filling-on _ _ _ _ _ _ _ c.loop-first.invariant one c.write_item.ensures some
