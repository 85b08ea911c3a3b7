use Rattle.laws.proofs.Basics.{arith}
use Rattle.assembler.proofs.Reading.{reads-one, reads_whole, reads-not}
use Rattle.assembler.proofs.Laying.{mapped, unmapped, laying-start, laying-whole, laying-not, laying-count}
use Rattle.assembler.proofs.Laying.{laying-fault, laying-in-range, laying-notable, laying-size, laying-on}
use Rattle.std.proofs.Common.{rules}
use Rattle.std.proofs.lemmas.Result.{err_from_is_err_and}
use Rattle.assembler.proofs.lay_out.Goals as goal

pub loop-place-init : goal.loop-place-init
loop-place-init c = rw c.requires.3 (laying-start c.args.text.now c.args.memory c.args.from c.args.labels.now c.requires.0 c.requires.2)

pub returns-in-Whole : goal.returns-in-Whole
returns-in-Whole c = laying-whole _ _ _ _ _ _ _ _ c.loop-place.invariant (reads_whole _ _ c.next_in.ensures c.in-Whole.is)

pub returns-in-Unreadable : goal.returns-in-Unreadable
returns-in-Unreadable c = laying-not _ _ _ _ _ _ _ _ c.loop-place.invariant (reads-not _ _ c.next_in.ensures c.in-Unreadable.is)

pub fault-requires : goal.fault-requires
fault-requires c = (laying-count _ _ _ _ _ _ _ _ c.loop-place.invariant, c.loop-place.invariant.low)

pub returns-in_err-map_err-in-One : goal.returns-in_err-map_err-in-One
returns-in_err-map_err-in-One c = let p = err_from_is_err_and c.from_residual.result c.from_residual.ensures.1 in
    let one = reads-one _ _ c.next_in.ensures c.in-One.is in
    let m = mapped c.fault.result c.map_err.result _ c.in-One.first c.map_err.ensures.cases (λ e d k. search rules) c.in_err-map_err-in-One.was in
    rw (p.1, p.2, m.1) (laying-fault _ _ _ _ _ _ _ _ c.loop-place.invariant _ one c.fault.ensures m.0)

pub note-requires : goal.note-requires
note-requires c = let one = reads-one _ _ c.next_in.ensures c.in-One.is in
    laying-notable _ _ _ _ _ _ _ _ c.loop-place.invariant _ one c.fault.ensures (unmapped _ _ _ c.map_err.ensures.cases c.in_ok-map_err-in-One.was) (omega arith)

pub size-at-requires : goal.size-at-requires
size-at-requires c = let one = reads-one _ _ c.next_in.ensures c.in-One.is in
    laying-in-range _ _ _ _ _ _ _ _ c.loop-place.invariant _ one c.fault.ensures (unmapped _ _ _ c.map_err.ensures.cases c.in_ok-map_err-in-One.was)

pub overflow_add-at : goal.overflow_add-at
overflow_add-at c = let one = reads-one _ _ c.next_in.ensures c.in-One.is in
    let fits = laying-size _ _ _ _ _ _ _ _ c.loop-place.invariant _ one c.fault.ensures (unmapped _ _ _ c.map_err.ensures.cases c.in_ok-map_err-in-One.was) c.size-at.ensures in
    omega (arith, fits)

pub loop-place-smaller : goal.loop-place-smaller
loop-place-smaller c = let one = reads-one _ _ c.next_in.ensures c.in-One.is in
    omega (arith, one.onward, one.within)

pub loop-place-preserved : goal.loop-place-preserved
loop-place-preserved c = let one = reads-one _ _ c.next_in.ensures c.in-One.is in
    laying-on _ _ _ _ _ _ _ _ c.loop-place.invariant _ one c.fault.ensures (unmapped _ _ _ c.map_err.ensures.cases c.in_ok-map_err-in-One.was) c.note.ensures c.size-at.ensures
