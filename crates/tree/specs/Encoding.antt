-- How a tree stands in scratch: in postfix form, a node's children and then its record of four entries
--   size of what stands before the record, value, place, kind.
-- So from a node's end its record is found, from the record its last child's end, and from each child's size the child before it.
-- The items of a list each have two entries in front, the size of what follows them and a tag: so a walk goes forwards over a list,
-- item by item. Suffixes have the two entries behind, the size of what stands before them and the tag, since a walk goes from the last
-- suffix in. A node that holds a first part and then a list has that part's size as its value.
use Rattle.std.specs.Prelude.{ℕ, Bool, false, cond, List, [], ◌∷◌, ◌++◌, length}
use Rattle.std.proofs.Math.Option.{Option, none, some}
use Rattle.language.specs.Kinds as K
use Rattle.language.specs.Tree as T
use Rattle.language.specs.Tree.{Name, Simple, Constant, Label, Expression, Expressions, Suffixes, Operations, Command, Commands, Unlabelled}
use Rattle.language.specs.Tree.{Repeats, Locals, Item, Body, Function, Program, ends_in_call, place_of}

-- kinds of nodes that are no kind of symbol: from 128 on, so that a new word or sign changes none of them
abbrev pub MONADIC : ℕ
MONADIC = 128

-- a primary with suffixes, by whether the last of them is a call
abbrev pub SUFFIXED : ℕ
SUFFIXED = 129

abbrev pub CALLED : ℕ
CALLED = 130

unfoldable pub suffixed_kind : (call : Bool) → ℕ
suffixed_kind call = cond call CALLED SUFFIXED

abbrev pub DYADIC : ℕ
DYADIC = 131

-- a command with labels before it, and one with REPEAT forms after it
abbrev pub LABELLED : ℕ
LABELLED = 132

abbrev pub REPEATED : ℕ
REPEATED = 133

-- what stands before a record, and the record
abbrev pub closed : (contents : List ℕ) (value place kind : ℕ) → List ℕ
closed w v p k = w ++ (length w ∷ v ∷ p ∷ k ∷ [])

-- a node without children
abbrev pub leaf : (value place kind : ℕ) → List ℕ
leaf v p k = closed [] v p k

-- an item of a list
abbrev pub item : (tag : ℕ) → (contents : List ℕ) → List ℕ
item tag w = length w ∷ tag ∷ w

-- a suffix
abbrev pub behind : (tag : ℕ) → (contents : List ℕ) → List ℕ
behind tag w = w ++ (length w ∷ tag ∷ [])

unfoldable pub encode_name : Name → List ℕ
encode_name n = leaf n.width n.place K.NAME

unfoldable pub encode_names : List Name → List ℕ
encode_names [] = []
encode_names (n ∷ ns) = encode_name n ++ encode_names ns

-- a constant is a leaf. After a minus, a number is a leaf of that kind, a name has its leaf in a record of that kind; both with the
-- place of the minus
unfoldable pub encode_positive : (place : ℕ) → Simple → List ℕ
encode_positive place (T.literal v) = leaf v place K.NUMBER
encode_positive place (T.known n) = encode_name n

unfoldable pub encode_negative : (place : ℕ) → Simple → List ℕ
encode_negative place (T.literal v) = leaf v place K.MINUS
encode_negative place (T.known n) = closed (encode_name n) 0 place K.MINUS

unfoldable pub encode_constant : Constant → List ℕ
encode_constant c = cond c.minus (encode_negative c.place c.simple) (encode_positive c.place c.simple)

unfoldable pub encode_by : Option Constant → List ℕ
encode_by none = []
encode_by (some c) = encode_constant c

unfoldable pub encode_labels : List Label → List ℕ
encode_labels [] = []
encode_labels (T.case place c ∷ ls) = item K.CASE (closed (encode_constant c) 0 place K.CASE) ++ encode_labels ls
encode_labels (T.default place ∷ ls) = item K.DEFAULT (leaf 0 place K.DEFAULT) ++ encode_labels ls

-- labels before a command, and REPEAT forms after it, if there are any
unfoldable pub labelled : (labels command : List ℕ) → List ℕ
labelled [] w = w
labelled (x ∷ ls) w = closed (x ∷ ls ++ w) (length (x ∷ ls)) 0 LABELLED

unfoldable pub repeated : (command forms : List ℕ) → List ℕ
repeated w [] = w
repeated w (x ∷ rs) = closed (w ++ (x ∷ rs)) (length w) 0 REPEATED

-- An expression's record has the place of its first symbol. The names of a local have their size as the value of its record, whose
-- kind says whether it is a vector.
unfoldable mutual
  pub encode : Expression → List ℕ
  encode (T.number place v) = leaf v place K.NUMBER
  encode (T.string place n) = leaf n place K.STRING
  encode (T.name n) = encode_name n
  encode (T.bracketed place e) = closed (encode e) 0 place K.OPEN
  encode (T.valof place c) = closed (encode_command c) 0 place K.VALOF
  encode (T.monadic place o e) = closed (encode e) o place MONADIC
  encode (T.suffixed e ss) = closed (encode e ++ encode_suffixes ss) (length (encode e)) (place_of e) (suffixed_kind (ends_in_call false ss))
  encode (T.dyadic e os) = closed (encode e ++ encode_operations os) (length (encode e)) (place_of e) DYADIC

  pub encode_expressions : Expressions → List ℕ
  encode_expressions T.no_expressions = []
  encode_expressions (T.and_expression e es) = item 0 (encode e) ++ encode_expressions es

  pub encode_suffixes : Suffixes → List ℕ
  encode_suffixes T.no_suffixes = []
  encode_suffixes (T.call es ss) = behind K.OPEN (encode_expressions es) ++ encode_suffixes ss
  encode_suffixes (T.index e ss) = behind K.PLING (encode e) ++ encode_suffixes ss

  pub encode_operations : Operations → List ℕ
  encode_operations T.no_operations = []
  encode_operations (T.operation o e os) = item o (encode e) ++ encode_operations os

  pub encode_command : Command → List ℕ
  encode_command (T.command ls u rs) = labelled (encode_labels ls) (repeated (encode_unlabelled u) (encode_repeats rs))

  pub encode_commands : Commands → List ℕ
  encode_commands T.no_commands = []
  encode_commands (T.and_command c cs) = item 0 (encode_command c) ++ encode_commands cs

  -- an empty command has no entries: it stands after labels only. The first side of an assignment has no entries in front
  pub encode_unlabelled : Unlabelled → List ℕ
  encode_unlabelled T.empty = []
  encode_unlabelled (T.assignment ls rs) =
      closed (encode_sides ls ++ encode_expressions rs) (length (encode_first ls)) (length (encode_sides ls)) K.ASSIGN
  encode_unlabelled (T.call_command e) = encode e
  encode_unlabelled (T.test e c d) = closed (encode e ++ (encode_command c ++ encode_command d)) 0 0 K.TEST
  encode_unlabelled (T.guarded w e c) = closed (encode e ++ encode_command c) 0 0 w
  encode_unlabelled (T.for n e d k c) =
      closed (encode_name n ++ (encode e ++ (encode d ++ (encode_by k ++ encode_command c)))) (length (encode_by k)) 0 K.FOR
  encode_unlabelled (T.switchon e cs) = closed (encode e ++ encode_commands cs) (length (encode e)) 0 K.SWITCHON
  encode_unlabelled (T.resultis place e) = closed (encode e) 0 place K.RESULTIS
  encode_unlabelled (T.leave w place) = leaf 0 place w
  encode_unlabelled (T.block ls cs) = closed (encode_locals ls ++ encode_commands cs) (length (encode_locals ls)) 0 K.BEGIN

  -- the left sides of an assignment
  pub encode_sides : Expressions → List ℕ
  encode_sides T.no_expressions = []
  encode_sides (T.and_expression e es) = encode e ++ encode_expressions es

  pub encode_first : Expressions → List ℕ
  encode_first T.no_expressions = []
  encode_first (T.and_expression e es) = encode e

  pub encode_repeats : Repeats → List ℕ
  encode_repeats T.no_repeats = []
  encode_repeats (T.repeat rs) = item K.REPEAT [] ++ encode_repeats rs
  encode_repeats (T.repeat_on w e rs) = item w (encode e) ++ encode_repeats rs

  pub encode_locals : Locals → List ℕ
  encode_locals T.no_locals = []
  encode_locals (T.vector n c ls) =
      item K.LET (closed (encode_name n ++ encode_constant c) (length (encode_name n)) 0 K.VEC) ++ encode_locals ls
  encode_locals (T.values ns es ls) =
      item K.LET (closed (encode_names ns ++ encode_expressions es) (length (encode_names ns)) 0 K.LET) ++ encode_locals ls

-- name = constant, or name : constant
unfoldable pub encode_items : List Item → List ℕ
encode_items [] = []
encode_items (x ∷ xs) = item 0 (encode_name x.name ++ encode_constant x.constant) ++ encode_items xs

unfoldable pub encode_body : Body → List ℕ
encode_body (T.value e) = encode e
encode_body (T.routine c) = encode_command c

-- = or BE
unfoldable pub body_word : Body → ℕ
body_word (T.value e) = K.EQUAL
body_word (T.routine c) = K.BE

unfoldable pub encode_functions : List Function → List ℕ
encode_functions [] = []
encode_functions (f ∷ fs) =
    item 0 (closed (encode_name f.name ++ (encode_names f.parameters ++ encode_body f.body)) (length (encode_names f.parameters)) 0
    (body_word f.body))
    ++ encode_functions fs

unfoldable pub encode_program : Program → List ℕ
encode_program [] = []
encode_program (T.globals xs ∷ p) = item K.GLOBAL (encode_items xs) ++ encode_program p
encode_program (T.manifests xs ∷ p) = item K.MANIFEST (encode_items xs) ++ encode_program p
encode_program (T.functions fs ∷ p) = item K.LET (encode_functions fs) ++ encode_program p
