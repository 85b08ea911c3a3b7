use Rattle.std.proofs.lemmas.Result.{err_from_is_err_and}
use Rattle.laws.proofs.Basics.{arith}
use Rattle.assembler.proofs.Assembling.{passes-fault, placed-fits, passes-image, passes-unknown}
use Rattle.assembler.proofs.passes_from.Goals as goal

pub returns-in_err-end : goal.returns-in_err-end
returns-in_err-end c = let p = err_from_is_err_and c.from_residual.result c.from_residual.ensures.1 in
    rw (p.1, p.2) (passes-fault c.args.text.now c.args.memory.now c.args.labels.now _ c.lay_out.ensures c.in_err-end.was)

pub write_items-requires : goal.write_items-requires
write_items-requires c = placed-fits c.args.text.now c.args.memory.now c.args.labels.now _
    c.lay_out.ensures c.in_ok-end.was (omega arith) c.write_start.ensures

pub returns-in_err-write_items : goal.returns-in_err-write_items
returns-in_err-write_items c = let r = c.from_residual-in_err-write_items in let p = err_from_is_err_and r.result r.ensures.1 in
    rw (p.1, p.2) (passes-unknown c.args.text.now c.args.memory.now c.args.labels.now _
    c.lay_out.ensures c.in_ok-end.was (omega arith) c.write_start.ensures c.write_items.ensures c.in_err-write_items.was)

pub returns : goal.returns
returns c = passes-image c.args.text.now c.args.memory.now c.args.labels.now _
    c.lay_out.ensures c.in_ok-end.was (omega arith) c.write_start.ensures c.write_items.ensures c.in_ok-write_items.was
