use Rattle.laws.proofs.Basics.{arith}
use Rattle.language.specs.Bytes.{class_of}
use Rattle.symbols.proofs.Classes.{all-classes-hold, class-digit, class-is}
use Rattle.symbols.proofs.elements.class_of.Goals as goal

pub overflow_sub-result : goal.overflow_sub-result
unfolding class_of
overflow_sub-result c = class-digit _ all-classes-hold c.args.byte (omega arith)

pub returns : goal.returns
unfolding class_of
returns c = class-is _ all-classes-hold c.args.byte (omega arith)
