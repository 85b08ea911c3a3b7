-- Worked examples: whole texts, some of them damaged, with their refusals up to 7; 0 at 0 for none.
use Rattle.laws.proofs.Basics.{ℕ, refl, [], ◌∷◌}
use Prim.Native.String.{String, ◌++◌}
use Rattle.laws.proofs.Table.{Table, ◌gives◌, Each}
use Rattle.language.proofs.Texts.{verdict}

unfoldable verdict-table : Table String (ℕ × ℕ)
verdict-table = ("MANIFEST $( MX1.A =- 512;$) GLOBAL $( S2 : 1\n  RDCH :13 ;\nWRCH :14; G3:\n24\nGX4.A : 25\r\n\tG.5 // (\n  : 26 $)LET FX6.A( "
    ++ "PX7.A) = 25899 |MX1.A\n+ 0 = 512/ 1 - GX4.A LET\nS2 ( )=VALOF // (\n  RESULTIS // (\n  ( @ G3 ) !0") gives (0, 0) ∷
    ("MANIFEST $(  TEST MX1.A =- 512;$) GLOBAL $( G.5 : 1\n  RDCH :13 ;\nWRCH :14; G3:\n24\nGX4.A : 25\r\n\tG.5 // (\n  : 26 $)LET "
    ++ "FX6.A( PX7.A) = 25899 |MX1.A\n+ 0 = 512/ 1 - GX4.A LET\nS2 ( )=VALOF // (\n  RESULTIS // (\n  ( @ G3 ) !0") gives (6, 13) ∷
    ("MANIFEST $( M1 = TRUE $)MANIFEST $( MX2.A= - #177777\nM.3 =#42077 ;\nMX4.A = 2\r\n\tM5 = 0 $)\nMANIFEST$( M.6= -#156024 "
    ++ ";\n$)GLOBAL $( START : // (\n  1\nRDCH : 13; WRCH : // (\n  14 // ;\nG7 :20 // ;\nG.8 : 21 ;\n$) LET START () BE $( $);") gives (0, 0) ∷
    ("MANIFEST $( M1 = TRUE $)MANIFEST $( MX2.A= - #177777\nM.3 =#42077 ;\nMX4.A = 2\r\n\tM5 = 0 $)\nMANIFEST$( M.6= -#156024 "
    ++ ";\n$)GLOBAL $( START : // (\n  WRCH RDCH : 13; WRCH : // (\n  14 // ;\nG7 :20 // ;\nG.8 : 21 ;\n$) LET START () BE $( $);") gives (6, 148) ∷
    ("MANIFEST$( M1 // (\n  = 13 $)MANIFEST $( MX2.A =#60710;M.3= 17$) MANIFEST $( M.4 =-13 $) GLOBAL\n$( SX5.A // (\n  :1;RDCH:13\n  "
    ++ "WRCH\n: 14\n  G.6 : 65\n  G.7 : 66 ;\nGX8.A : 67\r\n\tGX9.A : 68;$) // (\n  LET SX5.A ( ) BE $( // (\n  RDCH( ) $)\n") gives (0, 0) ∷
    ("MANIFEST$( M1 // (\n  = 13 $)MANIFEST $( MX2.A =#60710;M.3= 17 + $) MANIFEST $( M.4 =-13 $) GLOBAL\n$( SX5.A // (\n  "
    ++ ":1;RDCH:13\n  WRCH\n: 14\n  G.6 : 65\n  G.7 : 66 ;\nGX8.A : 67\r\n\tGX9.A : 68;$) // (\n  LET "
    ++ "SX5.A ( ) BE $( // (\n  RDCH( ) $)\n") gives (6, 62) ∷
    ("MANIFEST $(M.1 = - 19 $) GLOBAL $(START : 1\nRDCH: 13 ;\nWRCH: 14; GX2.A: 38\r\n\tGX3.A :39;GX4.A : 40 $) LET START ( )BE $( LET "
    ++ "T.5\n= \"\";LET VX6.A , V7= // (\n  GX3.A,0! T.5\nWRCH('X')\n  $(LET N8 =1\r\n\tUNTIL N8 <= 0 DO $( N8 :=N8- 1;WRCH (!T.5 ) $) $) "
    ++ "$)") gives (0, 0) ∷
    ("MANIFEST $( M.1 =\n- '\"' // ;\nM2 =7 // (\n  $)MANIFEST $( MX3.A\n=M2;M.4 = 10 // ;\nMX5.A = #173101 $) MANIFEST $( M6 =M.1\n  "
    ++ "M7 = // (\n  '/' ;\n$) GLOBAL;\nSTART: 1 ;\nRDCH : 13;WRCH : 14GX8.A: 49; G.9\n:50; G.10 :51\n  G11 : 52 $) LET START (\n) BE$( "
    ++ "M.1( ) $)") gives (5, 220) ∷
    "MANIFEST $( M1=1$) MANIFEST $(M.2= TRUE $) GLOBAL$(START : 1 ;\nRDCH: 13\n  WRCH: 14; G.3 : 31 $) LET START ( ) BE $( $)" gives (0, 0) ∷
    "MANIFEST $( M1=1$) MANIFEST $(M.2= TRUE $) GLOBALGLOBAL$(START : 1 ;\nRDCH: 13\n  WRCH: 14; G.3 : 31 $) LET START ( ) BE $( $)" gives (6, 43) ∷
    "MANIFEST $( M1=1$) MANIFEST $(M.2= TRUE $) GLOBAL$(START : 1 ;\nRDCH: : 13\n  WRCH: 14; G.3 : 31 $) LET START ( ) BE $( $)" gives (6, 69) ∷
    "GLOBAL $( START:1; G:2; RDCH:13; WRCH:14 $) MANIFEST $( M=5 $) LET F(X) = X AND R(X) BE $( $) LET START() BE G := 32767" gives (0, 0) ∷
    []

verdict-examples : Each verdict verdict-table
unfolding verdict verdict-table
verdict-examples = refl
