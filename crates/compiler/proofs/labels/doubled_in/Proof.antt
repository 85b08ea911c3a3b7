use Rattle.laws.proofs.Basics.{◌-◌, ◌≡◌, refl, List, length, arith, needs}
use Rattle.compiler.proofs.Language.{Label, labels_of}
use Rattle.compiler.specs.Labels.{LabelAt, Listed, Marks}
use Rattle.compiler.proofs.Doubling.{OwnPart, own-begin, own-next, own-end}
use Rattle.compiler.proofs.labels.doubled_in.Tie as tie

abbrev invariant-loop : tie.invariant-loop-at
invariant-loop source s from end top seen₀ at₀ r₀ seen at r = (length seen ≡ length seen₀) ×
    ((y : Listed (LabelAt s) s from end top) (first : List Label) → Marks seen₀ (labels_of source y.scope first) → OwnPart source r₀ y first seen
    at r)

pub doubled_in_spec : {M : Type 1} → Rattle.compiler.proofs.labels.doubled_in.Statement.statement M
doubled_in_spec = tie.close (tie.spec invariant-loop (λ source s from end top seen₀ at₀ r₀ seen at r. end - at) (λ c. (refl, λ y first m. search own-begin))
    (search needs) (λ c κs. omega arith) (λ c. omega arith)
    -- loop-again
    (λ c. (
      omega arith,
      λ y first m. own-next _ c.args.st c.loop-at-test.true c.next_item-next.ensures
          c.doubled_label-r.ensures y first (c.loop-at.invariant.1 y first m),
    )) (search needs) (λ c. search own-end))
