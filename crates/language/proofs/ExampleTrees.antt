-- Worked examples: texts and their trees.
use Rattle.laws.proofs.Basics.{ℕ, refl, [], ◌∷◌, true, false}
use Rattle.laws.proofs.Table.{Table, ◌gives◌, Each}
use Prim.Native.String.{String}
use Rattle.language.specs.Kinds as K
use Rattle.language.specs.Tree as T
use Rattle.language.specs.Tree.{Name, Command, Expression, Constant, no_expressions, and_expression, no_suffixes, no_operations, operation, command}
use Rattle.language.specs.Tree.{no_repeats, no_commands, and_command, no_locals}
use Rattle.language.specs.Source.{Read, read}
use Rattle.language.proofs.Texts.{program_in}

-- a name of one byte
abbrev pub at : (place : ℕ) → Name
at place = record { place = place; width = 1 }

abbrev pub name : (place : ℕ) → Expression
name place = T.name (at place)

abbrev constant : (place value : ℕ) → Constant
constant place value = record { place = place; minus = false; simple = T.literal value }

-- F is a routine
abbrev pub routine : Command → Read
routine c = read (T.functions (record { name = at 4; parameters = []; body = T.routine c } ∷ []) ∷ [])

-- a command with neither labels nor REPEAT forms
abbrev pub plain : T.Unlabelled → Command
plain u = command [] u no_repeats

abbrev pub called : (place : ℕ) → T.Unlabelled
called place = T.call_command (T.suffixed (name place) (T.call no_expressions no_suffixes))

unfoldable program-table : Table String Read
program-table =
    -- a dangling REPEAT takes the call, not the IF
    "LET F() BE IF A DO B() REPEAT" gives
    routine (plain (T.guarded K.IF (name 14) (command [] (called 19) (T.repeat no_repeats)))) ∷
    -- and here the block
    "LET F() BE $( IF A DO B() $) REPEATWHILE C" gives
    routine (command [] (T.block no_locals (and_command (plain (T.guarded K.IF (name 17) (plain (called 22)))) no_commands))
    (T.repeat_on K.REPEATWHILE (name 41) no_repeats)) ∷
    -- two labels before one command: both reach it
    "LET F() BE SWITCHON A INTO $( CASE 1: CASE 2: B(); DEFAULT: $)" gives
    routine (plain (T.switchon (name 20) (and_command (command (T.case 30 (constant 35 1) ∷ T.case 38 (constant 43 2) ∷ []) (called 46) no_repeats)
    (and_command (command (T.default 51 ∷ []) T.empty no_repeats) no_commands)))) ∷
    -- a chain of one binding is a list; brackets are kept, with their place
    "LET F() BE A := B+C-(D)" gives
    routine (plain (T.assignment (and_expression (name 11) no_expressions)
    (and_expression (T.dyadic (name 16) (operation K.PLUS (name 18) (operation K.MINUS (T.bracketed 20 (name 21)) no_operations))) no_expressions))) ∷
    -- declarations: TRUE is 65535, and a constant's place is that of its minus
    "GLOBAL $( A:1; B:-M $) MANIFEST $( M=TRUE $) LET G(X) = X" gives
    read (
    T.globals (record { name = at 10; constant = constant 12 1 } ∷ record
    { name = at 15; constant = record { place = 17; minus = true; simple = T.known (at 18) } } ∷ []) ∷
    T.manifests (record { name = at 35; constant = constant 37 65535 } ∷ []) ∷
    T.functions (record { name = at 49; parameters = at 51 ∷ []; body = T.value (name 56) } ∷ []) ∷
    []) ∷
    -- local declarations
    "LET F() BE $( LET A, B = 1, 2; LET C = VEC 9 $)" gives
    routine (plain (T.block (T.values (at 18 ∷ at 21 ∷ []) (and_expression (T.number 25 1) (and_expression (T.number 28 2) no_expressions))
    (T.vector (at 35) (constant 43 9) no_locals)) no_commands)) ∷
    []

program-examples : Each program_in program-table
unfolding program_in program-table
program-examples = refl
