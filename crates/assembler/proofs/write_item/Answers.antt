use Rattle.assembler.specs.Passes.{item_of}
use Rattle.assembler.proofs.Writing.{label-writes, string-spelling, string-writes}
use Rattle.assembler.proofs.write_item.Goals as goal

pub write_string-requires : goal.write_string-requires
unfolding item_of
write_string-requires c = let is = c.in-String.is in
    string-spelling _ _ _ _ _ (rw is at c.requires.0) (c.requires.1.spelled _ is)

pub returns-in-Label : goal.returns-in-Label
unfolding item_of
returns-in-Label c = rw c.in-Label.is (label-writes _ _ _ _)

pub returns-in-String : goal.returns-in-String
unfolding item_of
returns-in-String c = let is = c.in-String.is in
    rw is (string-writes _ _ _ _ _ (rw is at c.requires.0) (c.requires.1.spelled _ is) _ c.write_string.ensures)
