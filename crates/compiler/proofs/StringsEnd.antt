-- How many strings there are, and that every string among a source's symbols ends.
use Rattle.laws.proofs.Basics.{ℕ, ◌≡◌, refl, List, [], ◌∷◌, length, eqb}
use Rattle.laws.proofs.Cases.{by_cases, contradiction}
use Rattle.language.specs.Kinds.{STRING}
use Rattle.language.specs.Symbols.{Symbol, Fault, none, fault, scan}
use Rattle.language.specs.Brackets.{first_fault, brackets}
use Rattle.language.specs.Source as S
use Rattle.language.specs.Source.{symbols_of, on_fault}
use Rattle.language.proofs.SymbolFacts.{AllWords, symbols_now, words-now}
use Rattle.language.specs.Whole.{strings_among}
use Rattle.compiler.specs.Strings.{string_count, Ends, AllEnd, no_symbol, and_symbol}

-- ---- counts

pub string-count-is : (source : List ℕ) (ss : List Symbol) → string_count ss ≡ length (strings_among source ss)
unfolding string_count strings_among
string-count-is source [] = refl
string-count-is source (x ∷ xs) = by_cases (eqb x.kind STRING) (λ e. rw (e, string-count-is source xs)) (λ e. rw (e, string-count-is source xs))

-- ---- the symbols of a text

pub first_ends : {text : List ℕ} {x : Symbol} {xs : List Symbol} → AllEnd text (x ∷ xs) → x.kind ≡ STRING → Ends text x.place
first_ends (and_symbol f a) = f

pub others-end : {text : List ℕ} {x : Symbol} {xs : List Symbol} → AllEnd text (x ∷ xs) → AllEnd text xs
others-end (and_symbol f a) = a

module _ (text : List ℕ) where
  -- what is known of symbols says that their strings end
  all_end : (xs : List Symbol) → AllWords text xs → AllEnd text xs
  unfolding AllWords
  all_end [] h = no_symbol
  all_end (x ∷ xs) h =
      and_symbol (λ e. let k = h.0.closes e in record { characters = k.characters; width = k.width; closes = k.closes }) (all_end xs h.1)

  pub strings-end : (ss : List Symbol) → symbols_of text ≡ S.good ss → AllEnd text ss
  unfolding symbols_of scan
  strings-end ss e = go (first_fault (length text) (brackets [] (scan text).symbols) (scan text).ending) e
    where
      go : (f : Fault) → on_fault f (symbols_now text) ≡ S.good ss → AllEnd text ss
      go none q = let z : symbols_now text ≡ ss = cc in rw z at (all_end (symbols_now text) (words-now text))
      go (fault number place) q = contradiction cc
