-- The kinds of symbols by name: the numbers of the language's definitions (`Kinds`).
use Rattle.std.specs.Prelude.{ℕ, Option, Some, None}
use Rattle.symbols.specs.declared.kinds.Kind.{Kind}
use Rattle.symbols.specs.declared.kinds.Kind.TheVariants as V
use Rattle.language.specs.Kinds as K

abbrev pub number_of : Kind → ℕ
number_of V.Global = K.GLOBAL
number_of V.Manifest = K.MANIFEST
number_of V.Let = K.LET
number_of V.And = K.AND
number_of V.Be = K.BE
number_of V.Vec = K.VEC
number_of V.Valof = K.VALOF
number_of V.Resultis = K.RESULTIS
number_of V.True = K.TRUE
number_of V.False = K.FALSE
number_of V.Not = K.NOT
number_of V.Rem = K.REM
number_of V.Test = K.TEST
number_of V.Do = K.DO
number_of V.Or = K.OR
number_of V.If = K.IF
number_of V.Unless = K.UNLESS
number_of V.While = K.WHILE
number_of V.Until = K.UNTIL
number_of V.Repeat = K.REPEAT
number_of V.Repeatwhile = K.REPEATWHILE
number_of V.Repeatuntil = K.REPEATUNTIL
number_of V.For = K.FOR
number_of V.To = K.TO
number_of V.By = K.BY
number_of V.Switchon = K.SWITCHON
number_of V.Into = K.INTO
number_of V.Case = K.CASE
number_of V.Default = K.DEFAULT
number_of V.Endcase = K.ENDCASE
number_of V.Break = K.BREAK
number_of V.Loop = K.LOOP
number_of V.Return = K.RETURN
number_of V.Finish = K.FINISH
number_of V.Plus = K.PLUS
number_of V.Minus = K.MINUS
number_of V.Star = K.STAR
number_of V.Slash = K.SLASH
number_of V.Equal = K.EQUAL
number_of V.Unequal = K.UNEQUAL
number_of V.Less = K.LESS
number_of V.AtMost = K.ATMOST
number_of V.More = K.MORE
number_of V.AtLeast = K.ATLEAST
number_of V.Left = K.LEFT
number_of V.Right = K.RIGHT
number_of V.Ampersand = K.AMPERSAND
number_of V.Bar = K.BAR
number_of V.Pling = K.PLING
number_of V.At = K.AT
number_of V.Open = K.OPEN
number_of V.Close = K.CLOSE
number_of V.Comma = K.COMMA
number_of V.Semicolon = K.SEMICOLON
number_of V.Colon = K.COLON
number_of V.Assign = K.ASSIGN
number_of V.Begin = K.BEGIN
number_of V.End = K.END
number_of V.Name = K.NAME
number_of V.Number = K.NUMBER
number_of V.String = K.STRING

-- 0 where there is none
abbrev pub number_or : Option Kind → ℕ
number_or (Some k) = number_of k
number_or None = 0
