-- The numbered acts of X (document 01, "Machine"): the table of their numbers, and what each does.
use Rattle.std.specs.Prelude.{ℕ, zero, suc, ◌%◌, cond, List, [], ◌∷◌, length, get_or, set, ltb, eqb}
use Rattle.words.specs.Words.{add, sub, mul, quot, rem, eq, ne, lt, ge, gt, le, conj, disj, shl, shr}
use Rattle.machine.specs.Outcome.{Out, ok, stop, ◌>>=◌, read}
use Rattle.machine.specs.State.{State, at, with_a, with_c, framed, took, wrote}
use Rattle.machine.specs.declared.Registers.{Registers}

pub data Act : Type 0 where
  unlisted indirect negate invert back finish switch rdch wrch : Act
  -- into A, with B left and kept: from B and A
  dyadic : (ℕ → ℕ → Out ℕ) → Act

abbrev pub always : (ℕ → ℕ → ℕ) → ℕ → ℕ → Out ℕ
always f b a = ok (f b a)

-- 33: zero divisor
abbrev pub unless_zero : (ℕ → ℕ → ℕ) → ℕ → ℕ → Out ℕ
unless_zero f b a = cond (eqb a 0) (stop 33) (ok (f b a))

-- by number, from 0: 1 word at A, 2 negate, 3 complement, 4 return, 5 * 6 / 7 REM 8 + 9 - 10 = 11 ~= 12 < 13 >= 14 > 15 <=
-- 16 << 17 >> 18 & 19 |, 22 finish, 23 switch, 27 RDCH, 28 WRCH
abbrev pub acts : List Act
acts =
    unlisted ∷ indirect ∷ negate ∷ invert ∷ back
    ∷ dyadic (always mul) ∷ dyadic (unless_zero quot) ∷ dyadic (unless_zero rem) ∷ dyadic (always add) ∷ dyadic (always sub)
    ∷ dyadic (always eq) ∷ dyadic (always ne) ∷ dyadic (always lt) ∷ dyadic (always ge) ∷ dyadic (always gt)
    ∷ dyadic (always le) ∷ dyadic (always shl) ∷ dyadic (always shr) ∷ dyadic (always conj) ∷ dyadic (always disj)
    ∷ unlisted ∷ unlisted ∷ finish ∷ switch ∷ unlisted
    ∷ unlisted ∷ unlisted ∷ rdch ∷ wrch ∷ []

abbrev pub act_of : ℕ → Act
act_of n = get_or acts n unlisted

-- 1: A := the word at A
unfoldable pub indirected : Registers → List ℕ → Out Registers
indirected r memory = do
  v ← read memory r.a
  ok (with_a v r)

-- 4, return: C from P+1, P from P
unfoldable pub returned : Registers → List ℕ → Out Registers
returned r memory = do
  c ← read memory (add r.p 1)
  p ← read memory r.p
  ok (framed p c r)

-- 5 to 19
unfoldable pub combined : (ℕ → ℕ → Out ℕ) → Registers → Out Registers
combined f r = do
  v ← f r.b r.a
  ok (with_a v r)

-- the address beside the first number equal to a among n pairs from i on, or the default
unfoldable pub sought : List ℕ → (a default n i : ℕ) → Out ℕ
sought memory a default zero i = ok default
sought memory a default (suc n) i = do
  v ← read memory i
  cond (eqb v a) (read memory (add i 1)) (sought memory a default n (add i 2))

-- 23, switch: after it stand n, the default address, n pairs of number and address
unfoldable pub switched : Registers → List ℕ → Out Registers
switched r memory = do
  n ← read memory r.c
  default ← read memory (add r.c 1)
  c ← sought memory r.a default n (add r.c 2)
  ok (with_c c r)

-- 27: the next byte of the input, or -1 at the end
unfoldable pub received : Registers → List ℕ → Registers
received r input = cond (ltb r.taken (length input)) (took (get_or input r.taken 0) r) (with_a 65535 r)

-- 28: the low eight bits of A; 35: output full
unfoldable pub sent : State → Out State
sent s =
    cond (ltb s.regs.written (length s.out))
    (ok (at (wrote s.regs) s.mem (set s.out s.regs.written (s.regs.a % 256))))
    (stop 35)
