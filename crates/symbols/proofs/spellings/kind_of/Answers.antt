use Rattle.laws.proofs.Basics.{sym, ap, ◌∙◌}
use Rattle.std.specs.Option.{option_copied}
use Rattle.symbols.proofs.Spelling.{search-starts, search-ends, search-finds, search-passes, search-goes-on, no_bytes}
use Rattle.symbols.proofs.spellings.kind_of.Goals as goal
use Rattle.symbols.proofs.spellings.kind_of.Goals.{then-row-word+else-eq, else-row-word}

pub loop-row-init : goal.loop-row-init
loop-row-init c = search-starts _ (ap option_copied (sym c.in-Some.is) ∙ c.first.ensures.value) c.words_of-row-items.ensures

pub returns-then-eq-clause-kind_value : goal.returns-then-eq-clause-kind_value
returns-then-eq-clause-kind_value c = (search-finds _ _ c.loop-row.invariant _ c.loop-row-test.true c.if-row-word.true (sym c.eq.ensures ∙ c.if-eq.true)).0

pub returns-then-eq-clause-compared_value : goal.returns-then-eq-clause-compared_value
returns-then-eq-clause-compared_value c = (search-finds _ _ c.loop-row.invariant _ c.loop-row-test.true c.if-row-word.true (sym c.eq.ensures ∙ c.if-eq.true)).1

pub loop-row-preserved : goal.loop-row-preserved
loop-row-preserved c = elim c.if-row-word.branch [
  | then-row-word+else-eq w ↦ rw w.compared-is (search-goes-on _ _ c.loop-row.invariant _ c.loop-row-test.true w.if-row-word.true (sym w.eq.ensures ∙ w.if-eq.false))
  | else-row-word w ↦ rw w.compared-is (search-passes _ _ c.loop-row.invariant _ c.loop-row-test.true w.if-row-word.false)
]

pub returns-after-loop-row-clause-kind_value : goal.returns-after-loop-row-clause-kind_value
returns-after-loop-row-clause-kind_value c = (search-ends _ _ c.loop-row.invariant c.loop-row-test.false).0

pub returns-after-loop-row-clause-compared_value : goal.returns-after-loop-row-clause-compared_value
returns-after-loop-row-clause-compared_value c = (search-ends _ _ c.loop-row.invariant c.loop-row-test.false).1

pub returns-in_default-clause-kind_value : goal.returns-in_default-clause-kind_value
returns-in_default-clause-kind_value c = (no_bytes c.args.word.now (ap option_copied (sym c.in_default.is) ∙ c.first.ensures.value)).0

pub returns-in_default-clause-compared_value : goal.returns-in_default-clause-compared_value
returns-in_default-clause-compared_value c = (no_bytes c.args.word.now (ap option_copied (sym c.in_default.is) ∙ c.first.ensures.value)).1
