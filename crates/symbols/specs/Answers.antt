-- What the code's answer says of what stands at a place.
use Rattle.std.specs.Prelude.{Result, Ok, Err}
use Rattle.text.specs.Faults as F
use Rattle.language.specs.Symbols as S
use Rattle.symbols.specs.Kinds.{number_of}
use Rattle.symbols.specs.declared.elements.Element.{Element}
use Rattle.symbols.specs.declared.elements.Element.TheVariants as E
use Rattle.symbols.specs.declared.elements.Wrong.{Wrong}

abbrev pub element_of : Result Element Wrong → S.Element
element_of (Ok (E.Symbol kind value width)) = S.symbol (number_of kind) value width
element_of (Ok (E.Gap width)) = S.gap width
element_of (Err e) = S.wrong (F.number_of e.fault) e.offset
