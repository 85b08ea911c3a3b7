-- Both passes together: each way through `assemble` gives what the definition says.
use Rattle.laws.proofs.Basics.{ℕ, ◌-◌, ◌≤◌, ◌≡◌, refl, sym, ap, ◌∙◌, List, [], ◌∷◌, ◌++◌, length, take, replicate, length-replicate, arith}
use Rattle.laws.proofs.Basics.{Bool, true, false, ◌&&◌, leb}
use Rattle.laws.proofs.Cases.{contradiction}
use Rattle.items.specs.Item.{Placed}
use Rattle.items.specs.Scan.{Ending, whole, unreadable, Scan, ends, scan}
use Rattle.assembler.specs.declared.Label.{Label}
use Rattle.assembler.specs.Layout.{vacant, Laid, laid, refused, lay, unknowns}
use Rattle.assembler.specs.Assemble.{start, image, Assembly, refuse, accept, on_laid, assembled, numbers, Assembles}
use Rattle.words.specs.Globals.{no_globals}
use Rattle.assembler.specs.Passes.{listed, Table, after_ending, laid_by, Lays, FitsAll, as_written, WritesAll, Passes}
use Rattle.std.specs.Prelude.{Result, Ok, Err}
use Rattle.text.specs.Faults.{number_of}
use Rattle.text.specs.Line.{refusal}
use Rattle.text.specs.declared.Refusal.{Refusal}
use Rattle.text.specs.declared.faults.Fault.TheVariants as F
use Rattle.assembler.specs.declared.Faulted.{Faulted}
use Rattle.assembler.specs.declared.Index.{Index}
use Rattle.assembler.proofs.Indexing.{writes-same}
use Rattle.assembler.proofs.Noting.{count-labels}
use Rattle.assembler.proofs.Image.{Ends, laid-ends, image-is}

-- ---- what the first pass's answer says of the layout and the ending

laid-was : (e : Ending) (o : Laid) {labels : List Label} {end : ℕ} → laid labels end ≡ after_ending e o → (e ≡ whole) × (o ≡ laid labels end)
unfolding after_ending
laid-was whole o h = (refl, sym h)
laid-was (unreadable p) (laid ls n) h = contradiction cc
laid-was (unreadable p) (refused k q) h = contradiction cc

module _ (text : List ℕ) (memory room number place : ℕ) where
  same-refusal : {n p : ℕ} → refused number place ≡ refused n p → refuse text memory room number place ≡ refuse text memory room n p
  same-refusal {n} {p} h = let y : number ≡ n = cc in
      let z : place ≡ p = cc in
      rw (y, z)

  refused-was : (o : Laid) (e : Ending) (items : List Placed) → refused number place ≡ after_ending e o
      → refuse text memory room number place ≡ on_laid text memory room o (record { items = items; ending = e })
  unfolding after_ending
  refused-was (refused n p) whole items h = same-refusal h
  refused-was (refused n p) (unreadable q) items h = same-refusal h
  refused-was (laid ls n) whole items h = contradiction cc
  refused-was (laid ls n) (unreadable q) items h = same-refusal h

-- ---- the table of an accepted text

table_is : (count : ℕ) (table : List Label) → Table count table
    → table ≡ take count table ++ replicate (length table - length (take count table)) vacant
table_is count table t = t.others ∙ rw (count-labels count table t)

-- ---- the passes' answers

pub length-fixed : (n : ℕ) → 416 ≤ n → length (start ++ no_globals ++ replicate (n - 416) 0) ≡ n
unfolding no_globals
length-fixed n h = let z : length (replicate {A = ℕ} (n - 416) 0) ≡ n - 416 = length-replicate (n - 416) 0 in omega arith

module _ (text m₀ : List ℕ) (table : List Label) (s : Scan) {layout : Result ℕ Faulted} {table₁ : List Label} {index : Index}
    (l : Lays (length m₀) s table layout table₁ index) where
  -- the labels that the pass found
  abbrev labels : List Label
  labels = take index.count table₁

  -- what is to be given
  abbrev wanted : Assembly
  wanted = on_laid text (length m₀) (length table) (lay (length m₀) (length table) 416 [] s.items) s

  pub passes-fault : {f : Faulted} → layout ≡ Err f → Passes text (length m₀) (length table) wanted (Err f) m₀ table₁
  unfolding laid_by
  passes-fault {f} q =
      let h : refused (number_of f.fault) f.place ≡ after_ending s.ending (lay (length m₀) (length table) 416 [] s.items) = (rw q at l.answers) in (
        refl,
        l.same,
        sym (refused-was text (length m₀) (length table) (number_of f.fault) f.place
            (lay (length m₀) (length table) 416 [] s.items) s.ending s.items h),
      )

  module _ {end : ℕ} (q : layout ≡ Ok end) (b : 416 ≤ length m₀) where
    laid-is : (s.ending ≡ whole) × (lay (length m₀) (length table) 416 [] s.items ≡ laid labels end)
    unfolding laid_by
    laid-is = laid-was s.ending (lay (length m₀) (length table) 416 [] s.items) (rw q at l.answers)

    placed-ends : Ends (length m₀) 416 s.items end
    placed-ends = laid-ends (length m₀) (length table) 416 [] s.items b laid-is.1

    module _ {m₁ : List ℕ} (f : m₁ ≡ start ++ no_globals ++ replicate (length m₀ - 416) 0) where
      length-start : length m₁ ≡ length m₀
      length-start = ap length f ∙ length-fixed (length m₀) b

      pub placed-fits : (416 ≤ length m₁) × FitsAll (length m₁) 416 s.items
      placed-fits = rw length-start (b, placed-ends.fits)

      module _ {written : Result (Unit {0}) Faulted} {m₂ : List ℕ} (w' : WritesAll (listed index) s m₁ written m₂) where
        w : WritesAll labels s m₁ written m₂
        w = writes-same l.indexed w'

        known-all : (us : List ℕ) → Ok tt ≡ as_written us → us ≡ []
        unfolding as_written
        known-all [] h = refl
        known-all (u ∷ us) h = contradiction cc

        pub passes-image : written ≡ Ok tt → Passes text (length m₀) (length table) wanted (Ok end) m₂ table₁
        unfolding accept
        passes-image h = let u : unknowns labels s.items ≡ [] = known-all _ (sym h ∙ w.answers) in
            let i : m₂ ≡ image (length m₀) labels s.items end = w.writes h ∙ rw f (image-is (length m₀) labels s.items end b placed-ends) in
            rw (laid-is.1, laid-is.0, u) (record { answers = refl; fills = i; tables = rw (← l.same) (table_is index.count table₁ l.tabled) })

        unknown-first : (us : List ℕ) (g : Faulted) → Err g ≡ as_written us → (v : List ℕ) × (us ≡ g.place ∷ v) × (g.fault ≡ F.UnknownLabel)
        unfolding as_written
        unknown-first [] g h = contradiction cc
        unknown-first (u ∷ us) g h = let z : g ≡ record { fault = F.UnknownLabel; place = u } = cc in (us, rw z, rw z)

        pub passes-unknown : {g : Faulted} → written ≡ Err g → Passes text (length m₀) (length table) wanted (Err g) m₂ table₁
        passes-unknown {g} h = let u = unknown-first (unknowns labels s.items) g (sym h ∙ w.answers) in
            (w.same ∙ length-start, l.same, rw (laid-is.1, laid-is.0, u.1, u.2))

-- ---- the whole

module _ (text m₀ : List ℕ) (t₀ : List Label) where
  abbrev fitting : Bool
  fitting = leb 512 (length m₀) && leb (length m₀) 32768

  pub passes-length : fitting ≡ false → Passes text (length m₀) (length t₀) (assembled text (length m₀) (length t₀))
      (Err (record { fault = F.Memory; place = 0 })) m₀ t₀
  unfolding assembled
  passes-length h = (refl, refl, rw h)

  module _ (h : fitting ≡ true) where
    pub passes-on : (s : Scan) → scan text ≡ s → (answer : Result ℕ Faulted) (m' : List ℕ) (t' : List Label)
        → Passes text (length m₀) (length t₀) (on_laid text (length m₀) (length t₀) (lay (length m₀) (length t₀) 416 [] s.items) s) answer m' t'
        → Passes text (length m₀) (length t₀) (assembled text (length m₀) (length t₀)) answer m' t'
    unfolding assembled
    passes-on s e answer m' t' g = rw (h, e) g

    pub passes-not : {place : ℕ} → scan text ≡ ends (unreadable place)
        → Passes text (length m₀) (length t₀) (assembled text (length m₀) (length t₀)) (Err (record { fault = F.Unreadable; place = place })) m₀ t₀
    unfolding assembled lay
    passes-not e = (refl, refl, rw (h, e))

-- from a memory and a table that were cleared
module _ (text m₀ : List ℕ) (t₀ : List Label) {m₁ : List ℕ} {t₁ : List Label} (m : m₁ ≡ replicate (length m₀) 0)
    (t : t₁ ≡ replicate (length t₀) vacant) where
  memory-length : length m₁ ≡ length m₀
  memory-length = ap length m ∙ length-replicate (length m₀) 0

  table-length : length t₁ ≡ length t₀
  table-length = ap length t ∙ length-replicate (length t₀) vacant

  module _ (answer : Result ℕ Faulted) (m₂ : List ℕ) (t₂ : List Label)
      (p : Passes text (length m₁) (length t₁) (assembled text (length m₁) (length t₁)) answer m₂ t₂) where
    pub assembles-not : {f : Faulted} → answer ≡ Err f → {m' : List ℕ} {t' : List Label} → m' ≡ replicate (length m₂) 0
        → t' ≡ replicate (length t₂) vacant → {r : Refusal} → r ≡ refusal text (number_of f.fault) f.place → Assembles text m₀ t₀ (Err r) m' t'
    unfolding refuse
    assembles-not {f} e a b {r} i = let q = rw e at p in
        let q0 : length m₂ ≡ length m₁ = q.0 in
        let q1 : length t₂ ≡ length t₁ = q.1 in
        let w : assembled text (length m₀) (length t₀) ≡ refuse text (length m₀) (length t₀) (number_of f.fault) f.place =
        rw (memory-length, table-length) at q.2 in
        record {
          answers = rw w (ap Err i);
          tells = rw w (ap numbers (ap Err i));
          fills = rw w (a ∙ rw (q0, memory-length));
          tables = rw w (b ∙ rw (q1, table-length));
        }
