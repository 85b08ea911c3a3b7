-- What `expr` asks can be had: the number 5 alone, with no names in scope. And what `table` and `doubled` ask: CASE 5 before an empty
-- command, of which nothing is refused.
use Rattle.laws.proofs.Basics.{ℕ, suc, ◌+◌, ◌^◌, ◌<◌, ◌≡◌, refl, List, [], ◌∷◌, false, length, arith}
use Rattle.laws.proofs.Cases.{contradiction}
use Rattle.language.specs.Tree as T
use Rattle.compiler.proofs.Language.{depth, outermost, judge, has_case, labels_of, doubled, encode, encode_commands, encode_command, encode_labels}
use Rattle.compiler.proofs.Language.{encode_constant, encode_positive, encode_unlabelled, encode_repeats, labelled, Fine, FineCommands}
use Rattle.compiler.proofs.Language.{FineConstant, FineCommand, FineLabels, FineUnlabelled, FineRepeats}
use Rattle.tree.specs.Encoding.{repeated}
use Rattle.compiler.proofs.Vocabulary.{nothing, State, Here, ReadyE, label_faults, ReadyLabels}

abbrev scratch : List ℕ
scratch = 0 ∷ 0 ∷ 0 ∷ 5 ∷ 0 ∷ 60 ∷ []

abbrev place : Here
place = record { top = 0; height = 2; left = 1; strings = 1; routine = false }

abbrev start : State
start = record { at = 0; label = 1; worst = 0; high = 2 }

pub ready : ReadyE scratch 6 place start
unfolding encode depth Fine
ready = record {
  base = 2;
  lo = 2;
  tree = T.number 0 5;
  scope = outermost;
  lies = record { at = λ i l. let e : 2 + i ≡ suc (suc i) = omega arith in rw e };
  ends = refl;
  above = omega arith;
  long = omega arith;
  small = omega arith;
  shows = nothing refl;
  room = omega arith;
  height = omega arith;
  label = omega arith;
  some = omega arith;
  strings = omega arith;
  shallow = omega arith;
  fine = omega arith;
}

abbrev five : T.Constant
five = record { place = 5; minus = false; simple = T.literal 5 }

abbrev list : T.Commands
list = T.and_command (T.command (T.case 0 five ∷ []) T.empty T.no_repeats) T.no_commands

five-fine : FineConstant five
five-fine = record { small = λ v e. let z : 5 ≡ v = cc in omega arith; place = λ n e q. contradiction cc }

list-long : length (encode_commands list) < 2 ^ 32
unfolding encode_commands encode_command encode_labels encode_constant encode_positive encode_unlabelled encode_repeats labelled repeated
list-long = omega arith

pub ready-labels : ReadyLabels (encode_commands list) 0 (length (encode_commands list)) 0
unfolding FineCommands FineCommand FineLabels FineUnlabelled FineRepeats
ready-labels = record {
  base = 0;
  scope = outermost;
  commands = list;
  lies = record { at = λ i l. let e : 0 + i ≡ i = omega arith in rw e };
  ends = omega arith;
  above = omega arith;
  small = list-long;
  shows = nothing refl;
  fine = (((five-fine, tt), tt, tt, record { labels = λ e. omega arith; alone = λ e. refl }), tt);
}

pub nothing-refused : label_faults [] outermost [] list ≡ []
unfolding label_faults doubled judge labels_of has_case
nothing-refused = refl
