-- After `read_symbols`: eight entries a byte and 64 more are enough for every text, and what is read is the text's tree.
use Rattle.laws.proofs.Basics.{ℕ, ◌+◌, ◌-◌, ◌*◌, ◌^◌, ◌<◌, ◌≤◌, ◌≡◌, refl, ap, subst, List, [], ◌∷◌, ◌++◌, false, length, replicate, length-append}
use Rattle.laws.proofs.Basics.{length-replicate, arith, le-ltb}
use Rattle.language.specs.Symbols.{Symbol, Fault, none, fault, scan}
use Rattle.language.specs.Brackets.{first_fault, brackets}
use Rattle.language.specs.Source.{Symbols, good, faulty, on_fault, symbols_of, Read, read, refused, on_tree, read_symbols, parsed}
use Rattle.language.specs.Reader.{Out, ok, no, Source}
use Rattle.language.specs.Tree.{Program}
use Rattle.language.specs.Grammar.{tree_of}
use Rattle.symbols.specs.Read.{entries, outcome}
use Rattle.symbols.proofs.Semicolons.{symbols_in, few}
use Rattle.tree.specs.Encoding.{encode_program}
use Rattle.tree.specs.Read.{decoded, source_in, too_short, answer_by, tree_read}
use Rattle.tree.specs.Read as Answers
use Rattle.tree.specs.Read.{Answer}

pub decoded-entries : (ss : List Symbol) (rest : List ℕ) → decoded (length ss) (entries ss ++ rest) ≡ ss
unfolding decoded entries
decoded-entries [] rest = refl
decoded-entries (s ∷ ss) rest = ap (λ (l : List Symbol). s ∷ l) (decoded-entries ss rest)

pub entries-size : (ss : List Symbol) → length (entries ss) ≡ length ss * 3
unfolding entries
entries-size [] = refl
entries-size (s ∷ ss) = omega (arith, entries-size ss)

-- no more symbols than bytes, where the text is good
number : Symbols → ℕ
number (good ss) = length ss
number (faulty k place) = 0

few-by : (f : Fault) (ss : List Symbol) (m : ℕ) → length ss ≤ m → number (on_fault f ss) ≤ m
unfolding number
few-by none ss m h = h
few-by (fault k place) ss m h = omega arith

pub few-good : (text : List ℕ) (ss : List Symbol) → symbols_of text ≡ good ss → length ss ≤ length text
unfolding symbols_of symbols_in number
few-good text ss e =
    subst (λ (y : Symbols). number y ≤ length text) e (few-by (first_fault (length text) (brackets [] (scan text).symbols) (scan text).ending)
    (symbols_in text) (length text) (few text))

pub enough :
    (text : List ℕ) (ss : List Symbol) (room : ℕ) → symbols_of text ≡ good ss → 8 * length text + 64 ≤ room → room < 2 ^ 32
    → too_short room (length ss) ≡ false
unfolding too_short
enough text ss room e h l = rw (le-ltb room (length ss * 8 + 64) (omega (arith, few-good text ss e)), le-ltb (2 ^ 32 - 1) room (omega arith)) refl

-- what the definition of both stages says, as an answer
pub as_answer : (count : ℕ) → Read → Answer
as_answer count (read p) = Answers.read (count * 3 + length (encode_program p))
as_answer count (refused k place) = Answers.refused k place

same_answer : (src : Source) (count : ℕ) (o : Out Program) → answer_by src count o ≡ as_answer count (on_tree src o)
unfolding as_answer
same_answer src count (ok p next) = refl
same_answer src count (no k at) = refl

pub stages :
    (text : List ℕ) (ss : List Symbol) (room : ℕ) → symbols_of text ≡ good ss → 8 * length text + 64 ≤ room → room < 2 ^ 32
    → tree_read (outcome room (good ss)).scratch (length ss) (length text) ≡ as_answer (length ss) (parsed text)
unfolding tree_read source_in parsed read_symbols
stages text ss room e h l = let rest : List ℕ = replicate (room - length (entries ss)) 0 in
    let size : length (entries ss ++ rest) ≡ room = omega
    (arith, length-append (entries ss) rest, length-replicate {A = ℕ} (room - length (entries ss)) 0, entries-size ss, few-good text ss e) in
    rw (size, enough text ss room e h l, decoded-entries ss rest, e) (same_answer (record { symbols = ss; size = length text }) (length ss)
    (tree_of (record { symbols = ss; size = length text })))
