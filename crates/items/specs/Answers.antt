-- What the code's enums say of the definitions' values. The code's string item has only the number of its characters.
use Rattle.std.specs.Prelude.{ℕ, length, Result, Ok, Err}
use Rattle.items.specs.Item as I
use Rattle.items.specs.Scan as S
use Rattle.items.specs.Next as N
use Rattle.items.specs.declared.Operand.{Operand}
use Rattle.items.specs.declared.Operand.TheVariants as O
use Rattle.items.specs.declared.Base.{Base}
use Rattle.items.specs.declared.Base.TheVariants as B
use Rattle.items.specs.declared.Item.{Item}
use Rattle.items.specs.declared.Item.TheVariants as C
use Rattle.items.specs.declared.Next.{Next}
use Rattle.items.specs.declared.Next.TheVariants as M
use Rattle.items.specs.declared.Unreadable.{Unreadable}

unfoldable pub as_operand : I.Operand → Operand
as_operand (I.number minus size) = O.Number minus size
as_operand (I.address n) = O.Address n

unfoldable pub as_base : I.Base → Base
as_base I.none = B.Plain
as_base I.P = B.P
as_base I.G = B.G

-- the same the other way
abbrev pub operand_of : Operand → I.Operand
operand_of (O.Number minus size) = I.number minus size
operand_of (O.Address n) = I.address n

abbrev pub base_of : Base → I.Base
base_of B.Plain = I.none
base_of B.P = I.P
base_of B.G = I.G

unfoldable pub as_item : I.Item → Item
as_item (I.label n) = C.Label n
as_item (I.instruction f i b x) = C.Instruction f i (as_base b) (as_operand x)
as_item (I.constant x) = C.Constant (as_operand x)
as_item (I.string cs) = C.String (length cs)
as_item (I.global n m) = C.Global n m

unfoldable pub as_next : N.Next → Next
as_next (N.one place i past) = M.One place (as_item i) past
as_next (N.over S.whole) = M.Whole
as_next (N.over (S.unreadable place)) = M.Unreadable place

unfoldable pub as_start : N.Start → Result ℕ Unreadable
as_start (N.from place) = Ok place
as_start (N.not place) = Err (record { place = place })
