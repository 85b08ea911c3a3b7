-- Every source that is accepted is good: its items can be written and read back, and its functions are formed.
use Rattle.laws.proofs.Basics.{ℕ, suc, ◌+◌, ◌*◌, ◌≤◌, ◌≡◌, ap, List, [], ◌∷◌, ◌++◌, false, cond, length, ltb, arith, lt-ltb, le-ltb}
use Rattle.laws.proofs.Cases.{by_order, contradiction}
use Rattle.items.specs.Item as I
use Rattle.language.specs.Resolved as R
use Rattle.language.specs.Resolved.{Body, Fun, Start, nowhere, in_global}
use Rattle.language.specs.Constants.{fault}
use Rattle.language.specs.Heights.{of_body, heights_of, greatest, largest_height}
use Rattle.language.specs.Program.{begin, Named, functions_of, height_faults, accepted}
use Rattle.language.specs.Whole.{refusal_of, funs, strings_in}
use Rattle.assembler.specs.Assemble.{assembled}
use Rattle.std.specs.Prelude.{Ok}
use Rattle.code.specs.Faithful.{placement_of, Faithful}
use Rattle.code.specs.Placed.{WellPlaced}
use Rattle.code.specs.Generate.{body_labels, body_code, functions_code, strings_code, starts_code, start_in, items_of, text_of, nowhere_else}
use Rattle.language.proofs.Tokens.{program_tokens}
use Rattle.language.proofs.SymbolFacts.{strings-now}
use Rattle.language.proofs.Formed.{FormedF}
use Rattle.language.proofs.Leaving.{LeavesF}
use Rattle.language.proofs.Forming.{AllFormed, FormedStart, length-funs, program-formed}
use Rattle.code.proofs.Sounding.{Span, span, Sounds, s-none, s-more, all_sound, sounds-both, Low, near_none, sound-e, sound-c}
use Rattle.language.proofs.Widths.{covered}
use Rattle.code.proofs.StringFacts.{strings-now-sound}
use Rattle.language.proofs.Accepted.{Facts, facts, formed}
use Rattle.code.proofs.Bounds.{inner_labels, few-program}
use Rattle.code.proofs.Measures.{fun_labels}
use Rattle.code.proofs.Good.{Good}
use Rattle.code.proofs.Faithful.{faithful}
use Rattle.code.proofs.WellPlaced.{well_placed}

-- ---- heights

greatest-low : (x : ℕ) (hs : List ℕ) → greatest x hs ≤ 8192 → (x ≤ 8192) × Low hs
unfolding greatest Low
greatest-low x [] l = (l, tt)
greatest-low x (h ∷ hs) l = let p = greatest-low (cond (ltb x h) h x) hs l in
    by_order x h (λ m. let k : h ≤ 8192 = rw (lt-ltb x h m) at p.0 in (omega arith, (k, p.1))) (λ m.
    let k : x ≤ 8192 = rw (le-ltb x h m) at p.0 in (k, (omega arith, p.1)))

heights-low : (f : Fun) → largest_height f ≤ 8192 → (2 + f.parameters ≤ 8192) × Low (of_body (2 + f.parameters) f.body)
unfolding largest_height heights_of Low
heights-low f l = let p = (greatest-low 0 ((2 + f.parameters) ∷ of_body (2 + f.parameters) f.body) l).1 in p

first-low : (n : Named) (ns : List Named) → height_faults (n ∷ ns) ≡ [] → (largest_height n.fun ≤ 8192) × (height_faults ns ≡ [])
unfolding height_faults
first-low n ns h = by_order 8192 (largest_height n.fun)
    (λ l. let z : fault n.name.place 16 ++ height_faults ns ≡ [] = rw (lt-ltb 8192 (largest_height n.fun) l) at h in contradiction cc)
    (λ l. (l, rw (le-ltb 8192 (largest_height n.fun) l) at h))

-- ---- items

module _ (T functions strings : ℕ) (few : suc functions + strings ≤ T) where
  body-sound : (h n : ℕ) (b : Body) → h ≤ 8192 → Span T n (body_labels b) → FormedF functions strings h b → Low (of_body h b) → LeavesF b
      → Sounds T (body_code (suc functions) h n b)
  unfolding body_code body_labels
  body-sound h n (R.expression e) l m f w y = sound-e T functions strings few h n e l m f w y
  body-sound h n (R.routine c) l m f w y = sound-c T functions strings few h n nowhere_else c l m near_none f w y

  functions-sound : (l n : ℕ) (ns : List Named) → Span T l (length ns) → Span T n (inner_labels ns) → AllFormed functions strings ns
      → height_faults ns ≡ [] → Sounds T (functions_code (suc functions) l n (funs ns))
  unfolding functions_code funs fun_labels AllFormed
  functions-sound l n [] a b f h = s-none
  functions-sound l n (x ∷ ns) a b f h = let p = first-low x ns h in
      let q = heights-low x.fun p.0 in
      s-more {x = I.label l} (record { first = a.one; last = omega (arith, a.room) })
      (sounds-both (body-sound (2 + x.fun.parameters) n x.fun.body q.0 (span b.one (omega (arith, b.room))) f.0 q.1 f.3)
      (s-more {x = I.instruction 7 false I.none (I.number false 4)} (record { eight = omega arith; right = omega arith })
      (functions-sound (suc l) (n + body_labels x.fun.body) ns (span (omega arith) (omega (arith, a.room)))
      (span (omega (arith, b.one)) (omega (arith, b.room))) f.1 p.1)))

  starts-sound : (l : ℕ) (ns : List Named) → Span T l (length ns) → AllFormed functions strings ns → Sounds T (starts_code l (funs ns))
  unfolding starts_code funs AllFormed
  starts-sound l [] a f = s-none
  starts-sound l (x ∷ ns) a f = go x.fun.start f.2 (starts-sound (suc l) ns (span (omega arith) (omega (arith, a.room))) f.1)
    where
      go : (s : Start) → FormedStart s → {is : List I.Item} → Sounds T is → Sounds T (start_in s l is)
      go nowhere p q = q
      go (in_global n) p q = s-more {x = I.global n l} (record { global = p; start = record { first = a.one; last = omega (arith, a.room) } }) q

-- ---- the theorem

module _ (source : List ℕ) (x : Facts source) where
  unfoldable pub ns : List Named
  ns = functions_of source x.tree

  abbrev S : ℕ
  S = length (strings_in source)

  -- past all labels
  abbrev pub total : ℕ
  total = suc (length (funs ns)) + S + inner_labels ns

  pub labels-few : inner_labels ns + 4 * length ns ≤ program_tokens 3 x.tree
  unfolding ns functions_of
  labels-few = (few-program S source begin x.tree x.fine).0

  -- a label a byte
  pub few-in-all : total ≤ suc (length source)
  few-in-all = omega (arith, labels-few, length-funs ns, x.weights, covered source, ap length x.strings, strings-now source)

  pub total-low : total ≤ 32768
  total-low = omega (arith, few-in-all, x.short)

  all-formed : AllFormed (length (funs ns)) S ns
  unfolding ns
  all-formed = program-formed S source x.tree x.fine x.no-faults

  no-heights : height_faults ns ≡ []
  unfolding ns
  no-heights = x.no-heights

  pub items-sound : Sounds total (items_of (funs ns) (strings_in source))
  unfolding items_of
  items-sound = let e : length (funs ns) ≡ length ns = length-funs ns in
      sounds-both (functions-sound total (length (funs ns)) S (omega arith) 1 (suc (length (funs ns)) + S) ns (span (omega arith) (omega arith))
      (span (omega arith) (omega arith)) all-formed no-heights) (sounds-both (strings-sounds (span (omega arith) (omega arith)))
      (starts-sound total (length (funs ns)) S (omega arith) 1 ns (span (omega arith) (omega arith)) all-formed))
    where
      strings-sounds : Span total (suc (length (funs ns))) S → Sounds total (strings_code (suc (length (funs ns))) (strings_in source))
      strings-sounds k = rw x.strings (strings-now-sound source (suc (length (funs ns))) (rw x.strings at k))

  pub good : Good source
  unfolding ns
  good = record { sound = rw x.functions (all_sound total total-low items-sound); formed = formed source x }

-- demand 3, for every source that is accepted
pub compiled-faithful : (source : List ℕ) (scratch : ℕ) → refusal_of source scratch ≡ accepted → Faithful source (text_of source)
compiled-faithful source scratch h = faithful source (good source (facts source scratch h))

-- and the placement rules, wherever its text is assembled
pub compiled-placed : (source : List ℕ) (scratch : ℕ) → refusal_of source scratch ≡ accepted → (memory room first : ℕ)
    → (h : (assembled (text_of source) memory room).answer ≡ Ok first)
    → WellPlaced source (placement_of source (assembled (text_of source) memory room).table first) (assembled (text_of source) memory room).table
    (assembled (text_of source) memory room).memory
compiled-placed source scratch a memory room first h = well_placed source (good source (facts source scratch a)) memory room first h
