use Rattle.laws.proofs.Basics.{◌≡◌, sym, ◌∙◌, ◌&&◌, length, leb}
use Rattle.std.proofs.Common.{rules}
use Rattle.assembler.proofs.Reading.{begins, begins-not}
use Rattle.assembler.proofs.Assembling.{passes-length, passes-on, passes-not}
use Rattle.assembler.proofs.passes.Goals as goal

pub returns-then-not-contains : goal.returns-then-not-contains
returns-then-not-contains c =
    let r : c.contains.result ≡ (leb 512 (length c.args.memory.now) && leb (length c.args.memory.now) 32768) = search rules in
    passes-length c.args.text.now c.args.memory.now c.args.labels.now (sym r ∙ c.if-not-contains.true)

pub returns-in-Err : goal.returns-in-Err
returns-in-Err c =
    let r : c.contains.result ≡ (leb 512 (length c.args.memory.now) && leb (length c.args.memory.now) 32768) = search rules in
    passes-not c.args.text.now c.args.memory.now c.args.labels.now (sym r ∙ c.if-not-contains.false)
    (begins-not c.args.text.now c.start_in.ensures c.in-Err.is)

pub returns-in-Ok : goal.returns-in-Ok
returns-in-Ok c =
    let r : c.contains.result ≡ (leb 512 (length c.args.memory.now) && leb (length c.args.memory.now) 32768) = search rules in
    passes-on c.args.text.now c.args.memory.now c.args.labels.now (sym r ∙ c.if-not-contains.false)
    _ (begins c.args.text.now c.start_in.ensures c.in-Ok.is) _ _ _ c.passes_from.ensures
