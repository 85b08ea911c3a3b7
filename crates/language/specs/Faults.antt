-- Refusals 8 to 13, each with its place, of a tree: all of them, as lists in the order of the walk (document 01, "Refusal numbers").
use Rattle.std.specs.Prelude.{ℕ, ◌+◌, Bool, true, false, cond, List, [], ◌∷◌, ◌++◌, length, eqb}
use Rattle.std.proofs.Math.Option.{Option, none, some}
use Rattle.language.specs.Kinds.{IF, UNLESS, BREAK, LOOP, ENDCASE, RETURN, AT}
use Rattle.language.specs.Tree as T
use Rattle.language.specs.Tree.{Name, Constant, Label, Expression, Expressions, Suffixes, Operations, Command, Commands, Unlabelled, Repeats}
use Rattle.language.specs.Tree.{place_of}
use Rattle.language.specs.Names as N
use Rattle.language.specs.Names.{Scope, opened, declared, lookup, in_block, on_found}
use Rattle.language.specs.Constants.{Fault, fault, Judged, good, refused, judge, for_vector, for_by, faults_of, judged_word}
use Rattle.language.specs.Resolved.{CaseLabel, has_case, has_default}
use Rattle.language.specs.Resolve.{declare_all, Side, side, no_side, side_of, under, scope_after, height_after, labels_before, labels_of, expression}

-- what a command may leave: BREAK and LOOP a loop, ENDCASE a SWITCHON, RESULTIS a VALOF, RETURN a routine
pub record Leavable : Type 0 where
  pub loop : Bool
  pub switch : Bool
  pub valof : Bool
  pub routine : Bool

-- BREAK, LOOP and ENDCASE don't reach out of a VALOF
abbrev pub in_loop : Leavable → Leavable
in_loop l = record { loop = true; switch = l.switch; valof = l.valof; routine = l.routine }

abbrev pub in_switch : Leavable → Leavable
in_switch l = record { loop = l.loop; switch = true; valof = l.valof; routine = l.routine }

abbrev pub in_valof : Leavable → Leavable
in_valof l = record { loop = false; switch = false; valof = true; routine = l.routine }

-- a command with REPEAT forms after it is the body of a loop
abbrev pub repeated : Repeats → Leavable → Leavable
repeated T.no_repeats l = l
repeated (T.repeat rs) l = in_loop l
repeated (T.repeat_on w e rs) l = in_loop l

abbrev pub unless : Bool → List Fault → List Fault
unless true fs = []
unless false fs = fs

-- 13: nothing here to leave. FINISH leaves the run, from anywhere
abbrev pub leaves : Leavable → (word : ℕ) → Bool
leaves l w =
    cond (eqb w BREAK) l.loop
    (cond (eqb w LOOP) l.loop
    (cond (eqb w ENDCASE) l.switch
    (cond (eqb w RETURN) l.routine true)))

-- 9: name twice in one list or block, at the later name
unfoldable pub twice : List ℕ → Scope → (offset : ℕ) → List Name → List Fault
twice text s offset [] = []
twice text s offset (n ∷ ns) = on_found (in_block text s n) [] (fault n.place 9) ++ twice text (declared s n (N.local offset)) (offset + 1) ns

-- 10, at the side with its brackets
abbrev pub unless_side : (place : ℕ) → Side → List Fault
unless_side place (side t) = []
unless_side place no_side = fault place 10

-- 12: a label that stands before no command of a list after INTO itself; its constant is judged all the same
unfoldable pub misplaced : List ℕ → Scope → List Label → List Fault
misplaced text s [] = []
misplaced text s (T.case place c ∷ ls) = fault place 12 ++ faults_of (judge text s c) ++ misplaced text s ls
misplaced text s (T.default place ∷ ls) = fault place 12 ++ misplaced text s ls

-- 12: a label doubled in its list, at the later one. The good labels before it in the list are known
abbrev pub doubled_case : (place : ℕ) → Judged → List CaseLabel → List Fault
doubled_case place (good v) seen = cond (has_case v seen) (fault place 12) []
doubled_case place (refused fs) seen = fs

abbrev pub doubled_label : List ℕ → Scope → List CaseLabel → Label → List Fault
doubled_label text s seen (T.case place c) = doubled_case place (judge text s c) seen
doubled_label text s seen (T.default place) = cond (has_default seen) (fault place 12) []

unfoldable pub doubled : List ℕ → Scope → (before : List Label) → List Label → List Fault
doubled text s before [] = []
doubled text s before (l ∷ ls) = doubled_label text s (labels_of text s before) l ++ doubled text s (before ++ (l ∷ [])) ls

abbrev pub by_faults : List ℕ → Scope → Option Constant → List Fault
by_faults text s none = []
by_faults text s (some c) = faults_of (for_by text s c)

-- ---- the tree, with what may be left and the heights that Resolve has, from which the words of locals are counted

unfoldable mutual
  pub in_expression : List ℕ → Scope → Leavable → ℕ → Expression → List Fault
  in_expression text s l h (T.number place v) = []
  in_expression text s l h (T.string place k) = []
  -- 8: name unknown
  in_expression text s l h (T.name n) = on_found (lookup text s n) (fault n.place 8) []
  in_expression text s l h (T.bracketed place e) = in_expression text s l h e
  in_expression text s l h (T.valof place c) = in_command text s (in_valof l) h c
  in_expression text s l h (T.monadic place o e) =
      in_expression text s l h e ++ cond (eqb o AT) (unless_side (place_of e) (side_of (expression text s h e))) []
  in_expression text s l h (T.suffixed e ss) = in_expression text s l (under ss h) e ++ in_suffixes text s l h ss
  in_expression text s l h (T.dyadic e os) = in_expression text s l h e ++ in_operations text s l h os

  pub in_suffixes : List ℕ → Scope → Leavable → ℕ → Suffixes → List Fault
  in_suffixes text s l h T.no_suffixes = []
  in_suffixes text s l h (T.call es ss) = in_expressions text s l (under ss h + 2) es ++ in_suffixes text s l h ss
  in_suffixes text s l h (T.index e ss) = in_expression text s l (under ss h + 1) e ++ in_suffixes text s l h ss

  pub in_operations : List ℕ → Scope → Leavable → ℕ → Operations → List Fault
  in_operations text s l h T.no_operations = []
  in_operations text s l h (T.operation o e os) = in_expression text s l (h + 1) e ++ in_operations text s l h os

  pub in_expressions : List ℕ → Scope → Leavable → ℕ → Expressions → List Fault
  in_expressions text s l h T.no_expressions = []
  in_expressions text s l h (T.and_expression e es) = in_expression text s l h e ++ in_expressions text s l (h + 1) es

  -- right sides: each pair in turn, at the same height
  pub in_right_sides : List ℕ → Scope → Leavable → ℕ → Expressions → List Fault
  in_right_sides text s l h T.no_expressions = []
  in_right_sides text s l h (T.and_expression e es) = in_expression text s l h e ++ in_right_sides text s l h es

  -- left sides
  pub in_sides : List ℕ → Scope → Leavable → ℕ → Expressions → List Fault
  in_sides text s l h T.no_expressions = []
  in_sides text s l h (T.and_expression e es) =
      in_expression text s l h e ++ unless_side (place_of e) (side_of (expression text s h e)) ++ in_sides text s l h es

  pub in_command : List ℕ → Scope → Leavable → ℕ → Command → List Fault
  in_command text s l h (T.command ls u rs) = misplaced text s ls ++ in_unlabelled text s (repeated rs l) h u ++ in_repeats text s l h rs

  -- a command of a list after INTO, its labels aside
  pub in_case : List ℕ → Scope → Leavable → ℕ → Command → List Fault
  in_case text s l h (T.command ls u rs) = in_unlabelled text s (repeated rs l) h u ++ in_repeats text s l h rs

  pub in_repeats : List ℕ → Scope → Leavable → ℕ → Repeats → List Fault
  in_repeats text s l h T.no_repeats = []
  in_repeats text s l h (T.repeat rs) = in_repeats text s l h rs
  in_repeats text s l h (T.repeat_on w e rs) = in_expression text s l h e ++ in_repeats text s l h rs

  pub in_unlabelled : List ℕ → Scope → Leavable → ℕ → Unlabelled → List Fault
  in_unlabelled text s l h T.empty = []
  in_unlabelled text s l h (T.assignment left right) = in_sides text s l (h + 1) left ++ in_right_sides text s l h right
  in_unlabelled text s l h (T.call_command e) = in_expression text s l h e
  in_unlabelled text s l h (T.test e c d) = in_expression text s l h e ++ in_command text s l h c ++ in_command text s l h d
  in_unlabelled text s l h (T.guarded w e c) =
      in_expression text s l h e
      ++ cond (eqb w IF) (in_command text s l h c) (cond (eqb w UNLESS) (in_command text s l h c) (in_command text s (in_loop l) h c))
  in_unlabelled text s l h (T.for n first limit by c) =
      in_expression text s l h first ++ in_expression text s l (h + 1) limit ++ by_faults text s by
      ++ in_command text (declared (opened s) n (N.local h)) (in_loop l) (h + 2) c
  in_unlabelled text s l h (T.switchon e cs) = in_expression text s l h e ++ in_cases text s (in_switch l) h [] cs
  in_unlabelled text s l h (T.resultis place e) = unless l.valof (fault place 13) ++ in_expression text s l h e
  in_unlabelled text s l h (T.leave w place) = unless (leaves l w) (fault place 13)
  in_unlabelled text s l h (T.block ls cs) =
      in_locals text (opened s) l h ls
      ++ in_commands text (scope_after text (opened s) h ls) l (height_after text (opened s) h ls) cs

  pub in_locals : List ℕ → Scope → Leavable → ℕ → T.Locals → List Fault
  in_locals text s l h T.no_locals = []
  in_locals text s l h (T.vector n c ls) =
      faults_of (for_vector text s c) ++ twice text s h (n ∷ [])
      ++ in_locals text (declared s n (N.local h)) l (h + 2 + judged_word (for_vector text s c)) ls
  in_locals text s l h (T.values ns es ls) = in_expressions text s l h es ++ twice text s h ns ++ in_locals text (declare_all s h ns) l (h + length ns) ls

  pub in_commands : List ℕ → Scope → Leavable → ℕ → Commands → List Fault
  in_commands text s l h T.no_commands = []
  in_commands text s l h (T.and_command c cs) = in_command text s l h c ++ in_commands text s l h cs

  -- the list after INTO, with the labels before
  pub in_cases : List ℕ → Scope → Leavable → ℕ → (before : List Label) → Commands → List Fault
  in_cases text s l h before T.no_commands = []
  in_cases text s l h before (T.and_command c cs) =
      doubled text s before (labels_before c) ++ in_case text s l h c ++ in_cases text s l h (before ++ labels_before c) cs
