-- Worked examples: a line that ends in LOOP, before and after LOOP joined the first list of the inserted semicolon (document 02, Req 01).
use Rattle.laws.proofs.Basics.{ℕ, ◌≡◌, refl, List, [], ◌∷◌, length}
use Rattle.laws.proofs.Table.{Table, ◌gives◌, Each}
use Prim.Native.String.{String}
use Rattle.text.specs.Written.{bytes}
use Rattle.language.specs.Symbols.{scan}
use Rattle.language.specs.Strings.{numbered}
use Rattle.language.specs.Semicolons.{firsts}
use Rattle.language.specs.Source.{Read, refused, parsed}
use Rattle.language.specs.Kinds as K
use Rattle.language.specs.Tree as T
use Rattle.language.specs.Tree.{Expression, no_expressions, and_expression, no_suffixes, no_locals, Commands, no_commands, and_command}
use Rattle.language.proofs.Texts.{answer, program_in}
use Rattle.language.proofs.ExampleTrees.{at, name, routine, plain, called}
use Rattle.language.proofs.Loops.{after_by, semicolons_by, parsed_by, formerly, bracket_after, bracket_after_loop, reading-kept}

-- how a text was read
unfoldable formerly_in : String → Read
unfolding answer after_by semicolons_by parsed_by
formerly_in text = parsed_by formerly (bytes text)

-- how many symbols there are by a first list, with the inserted ones
unfoldable count_by : List ℕ → String → ℕ
unfolding answer after_by semicolons_by
count_by list text = length (semicolons_by list (bytes text) (numbered 0 (scan (bytes text)).symbols))

-- VALOF WHILE G DO LOOP, from place 20 on
abbrev waiting : Expression
waiting = T.valof 20 (plain (T.guarded K.WHILE (name 32) (plain (T.leave K.LOOP 37))))

-- F is a block that gives A a value, and then some commands
abbrev giving : Expression → Commands → Read
giving e cs = routine (plain (T.block (T.values (at 18 ∷ []) (and_expression e no_expressions) no_locals) cs))

-- a loop was refused at what stands after the LOOP, and is read now
abbrev loop : String
loop = "LET F() BE WHILE A DO $( IF B DO LOOP\nG() $)"

-- a ( next after a LOOP that ends a VALOF called its value, and now begins a command
abbrev bracket : String
bracket = "LET F() BE $( LET A=VALOF WHILE G DO LOOP\n(B)() $)"

-- the semicolon after a local declaration is optional: where one is inserted now the symbols differ, and the program is the same
abbrev corner : String
corner = "LET F() BE $( LET A=VALOF WHILE G DO LOOP\nB:=1 $)"

abbrev its-program : Read
its-program = giving waiting
    (and_command (plain (T.assignment (and_expression (name 42) no_expressions) (and_expression (T.number 45 1) no_expressions))) no_commands)

unfoldable before-table : Table String Read
before-table = loop gives refused 6 38 ∷
    bracket gives giving (T.suffixed waiting (T.call (and_expression (name 43) no_expressions) (T.call no_expressions no_suffixes))) no_commands ∷
    corner gives its-program ∷
    []

before-examples : Each formerly_in before-table
unfolding formerly_in before-table
before-examples = refl

unfoldable now-table : Table String Read
now-table = loop gives
    routine (plain (T.guarded K.WHILE (name 17) (plain (T.block no_locals (and_command (plain (T.guarded K.IF (name 28) (plain (T.leave K.LOOP 33))))
    (and_command (plain (called 38)) no_commands)))))) ∷
    bracket gives
    giving waiting (and_command (plain (T.call_command (T.suffixed (T.bracketed 42 (name 43)) (T.call no_expressions no_suffixes)))) no_commands) ∷
    corner gives its-program ∷
    []

now-examples : Each program_in now-table
unfolding program_in now-table
now-examples = refl

unfoldable count-table : Table (List ℕ) ℕ
count-table = formerly gives 18 ∷
    firsts gives 19 ∷
    []

count-examples : Each (λ list. count_by list corner) count-table
unfolding count_by count-table
count-examples = refl

-- the same by the law
program-kept : parsed (bytes corner) ≡ its-program
unfolding formerly_in bracket_after bracket_after_loop
program-kept = reading-kept (bytes corner) _ refl refl
