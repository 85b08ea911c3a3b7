-- Readers: from a position among a source's symbols to a tree and the position after it, or to a refusal's number and the position of
-- the symbol that is refused. `do` reads one part after another, and the first refusal is the answer. A reader looks one symbol ahead
-- and never goes back.
use Rattle.std.specs.Prelude.{ℕ, zero, suc, ◌+◌, Bool, true, false, cond, List, length, get_or, eqb}
use Rattle.language.specs.Kinds.{NOTHING, COMMA, SEMICOLON, CLOSE, END, NAME}
use Rattle.language.specs.Symbols.{Symbol}
use Rattle.language.specs.Tree.{Name}

-- what is read: the symbols, by their positions, and the text's length, which is the place of a symbol wanted at the end
pub record Source : Type 0 where
  pub symbols : List Symbol
  pub size : ℕ

pub data Out (A : Type 0) : Type 0 where
  ok : A → (next : ℕ) → Out A
  no : (number at : ℕ) → Out A

abbrev pub Reader : Type 0 → Type 0
Reader A = Source → (at : ℕ) → Out A

abbrev pub on_out : {A B : Type 0} → Out A → (A → ℕ → Out B) → Out B
on_out (ok a next) f = f a next
on_out (no number at) f = no number at

infixl 1 ◌>>=◌
abbrev pub ◌>>=◌ : {A B : Type 0} → Reader A → (A → Reader B) → Reader B
◌>>=◌ r f s at = on_out (r s at) (λ a next. f a s next)

abbrev pub return : {A : Type 0} → A → Reader A
return a s at = ok a at

-- what stands at a position: a symbol, or the end
abbrev pub symbol_at : Source → ℕ → Symbol
symbol_at s at = get_or s.symbols at (record { kind = NOTHING; value = 0; place = s.size })

abbrev pub kind_at : Source → ℕ → ℕ
kind_at s at = (symbol_at s at).kind

abbrev pub value_at : Source → ℕ → ℕ
value_at s at = (symbol_at s at).value

abbrev pub place_at : Source → ℕ → ℕ
place_at s at = (symbol_at s at).place

abbrev pub is : (kind : ℕ) → Source → (at : ℕ) → Bool
is kind s at = eqb (kind_at s at) kind

-- refused 6: the symbol here cannot follow those before it
unfoldable pub unexpected : {A : Type 0} → Reader A
unexpected s at = no 6 at

-- the symbol here, whatever it is
unfoldable pub any : Reader Symbol
any s at = ok (symbol_at s at) (at + 1)

-- the place of the symbol here, which stays to be read
unfoldable pub here : Reader ℕ
here s at = ok (place_at s at) at

-- a symbol of a kind; what is given is its place
unfoldable pub the : (kind : ℕ) → Reader ℕ
the kind s at = cond (is kind s at) (ok (place_at s at) (at + 1)) (unexpected s at)

-- a symbol of a kind, if it stands here
unfoldable pub optional : (kind : ℕ) → Reader Bool
optional kind s at = cond (is kind s at) (ok true (at + 1)) (ok false at)

unfoldable pub a_name : Reader Name
a_name s at = cond (is NAME s at) (ok (record { place = place_at s at; width = value_at s at }) (at + 1)) (unexpected s at)

-- Lists. An item is given as what puts it before the items after it; `none` is the list of no items.

-- what is read if the symbol here is one of those, otherwise nothing
abbrev pub when_here : {A : Type 0} → (begins : ℕ → Bool) → (none : A) → Reader A → Reader A
when_here begins none r s at = elim (begins (kind_at s at)) [ true ↦ r s at | false ↦ ok none at ]

-- { item }, at most so many: as long as the symbol here is one that begins an item
unfoldable pub many_up_to : {A : Type 0} → (most : ℕ) → (none : A) → (begins : ℕ → Bool) → Reader (A → A) → Reader A
many_up_to zero none begins item = return none
many_up_to (suc n) none begins item =
    when_here begins none (do
      put ← item
      rest ← many_up_to n none begins item
      return (put rest))

-- { item }: no more than there are symbols, since each item takes one at least
unfoldable pub many : {A : Type 0} → (none : A) → (begins : ℕ → Bool) → Reader (A → A) → Reader A
many none begins item s at = many_up_to (length s.symbols) none begins item s at

-- $), or what is read otherwise
abbrev pub end_or : {A : Type 0} → (none : A) → Reader A → Reader A
end_or none r s at = elim (is END s at) [ true ↦ ok none (at + 1) | false ↦ r s at ]

-- { ; item } [;] $), with at most so many items
unfoldable pub more_up_to : {A : Type 0} → (most : ℕ) → (none : A) → Reader (A → A) → Reader A
more_up_to zero none item = unexpected
more_up_to (suc n) none item =
    end_or none (do
      _ ← the SEMICOLON
      end_or none (do
        put ← item
        rest ← more_up_to n none item
        return (put rest)))

-- item { ; item } [;] $)
unfoldable pub items : {A : Type 0} → (none : A) → Reader (A → A) → Reader A
items none item s at = (do put ← item; rest ← more_up_to (length s.symbols) none item; return (put rest)) s at

abbrev pub is_comma : (kind : ℕ) → Bool
is_comma kind = eqb kind COMMA

-- { , item }
unfoldable pub further_items : {A : Type 0} → (none : A) → Reader (A → A) → Reader A
further_items none item = many none is_comma (do _ ← the COMMA; item)

-- item { , item } )
unfoldable pub one_up_to_close : {A : Type 0} → (none : A) → Reader (A → A) → Reader A
one_up_to_close none item = do
  put ← item
  rest ← further_items none item
  _ ← the CLOSE
  return (put rest)

-- [item { , item }] )
unfoldable pub up_to_close : {A : Type 0} → (none : A) → Reader (A → A) → Reader A
up_to_close none item s at = cond (is CLOSE s at) (ok none (at + 1)) (one_up_to_close none item s at)
