use Rattle.compiler.proofs.Doubling.{label-default, label-refused, label-case}
use Rattle.compiler.proofs.labels.doubled_label.Goals as goal

pub returns-then-n-ne-CASE : goal.returns-then-n-ne-CASE
returns-then-n-ne-CASE c = search label-default

pub returns-in-Ok : goal.returns-in-Ok
returns-in-Ok c = search label-case

pub blame-requires : goal.blame-requires
blame-requires c = c.judge-j.ensures.fits

pub returns-in-Err : goal.returns-in-Err
returns-in-Err c = search label-refused
