-- The compiler's text makes at most eight program words a source symbol and sixteen more, its strings' own words apart.
use Rattle.laws.proofs.Basics.{ℕ, ◌+◌, ◌*◌, ◌≤◌, ◌≡◌, refl, List, [], ◌∷◌, length, arith}
use Rattle.items.specs.Item as I
use Rattle.items.specs.Item.{Item}
use Rattle.items.specs.Scan as Z
use Rattle.items.specs.Render.{render}
use Rattle.items.proofs.Rendered.{places, rendered}
use Rattle.assembler.specs.Words.{size}
use Rattle.text.proofs.Packed.{length_pairs}
use Rattle.language.specs.Symbols.{scan}
use Rattle.language.specs.Program.{begin, Named, functions_of, accepted}
use Rattle.language.specs.Whole.{refusal_of, funs, functions_in, strings_in}
use Rattle.code.specs.Placed.{word_count, string_words}
use Rattle.code.specs.Generate.{items_of, text_of}
use Rattle.code.proofs.Measures.{sum, text_sum, sum-items, weigh, size-most}
use Rattle.code.proofs.Bounds.{all_words, few-program}
use Rattle.language.proofs.Accepted.{Facts, facts}
use Rattle.code.proofs.GoodSource.{good}

-- the program words of items
sizes-weigh : (p : ℕ) (xs : List Item) → word_count (places p xs) ≤ weigh xs
unfolding word_count places sum
sizes-weigh p [] = omega arith
sizes-weigh p (x ∷ xs) = omega (arith, sizes-weigh (p + length (render x) + 1) xs, size-most x)

string-words : (ss : List (List ℕ)) → text_sum (λ cs. size (I.string cs)) ss ≡ string_words ss
unfolding text_sum size string_words
string-words [] = refl
string-words (cs ∷ ss) = omega (arith, string-words ss, length_pairs (length cs) cs)

items-weigh : (ns : List Named) (ss : List (List ℕ)) → weigh (items_of (funs ns) ss) ≤ all_words ns + string_words ss
items-weigh ns ss = omega (arith, sum-items 1 (λ cs. size (I.string cs)) 0 (λ _. 0) (λ _ _ _. omega arith) (funs ns) ss _ refl, string-words ss)

pub items-words : (source : List ℕ) (x : Facts source)
    → weigh (items_of (functions_in source) (strings_in source)) ≤ 8 * length (scan source).symbols + string_words (strings_in source)
unfolding functions_of
items-words source x =
    let w : weigh (items_of (functions_in source) (strings_in source)) ≤ all_words (functions_of source x.tree) + string_words (strings_in source)
    = rw x.functions (items-weigh (functions_of source x.tree) (strings_in source)) in
    omega (arith, w, (few-program (length (strings_in source)) source begin x.tree x.fine).1, x.tokens)

-- the words of the text's items, whether or not it is assembled
pub few_words : (source : List ℕ) (scratch : ℕ) → refusal_of source scratch ≡ accepted
    → word_count (Z.scan (text_of source)).items ≤ 8 * length (scan source).symbols + 16 + string_words (strings_in source)
unfolding text_of
few_words source scratch a = let x : Facts source = facts source scratch a in
    rw (rendered (items_of (functions_in source) (strings_in source)) (good source x).sound)
    (omega (arith, sizes-weigh 2 (items_of (functions_in source) (strings_in source)), items-words source x))
