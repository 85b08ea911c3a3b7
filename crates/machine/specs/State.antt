-- The machine's state: its registers, with the places reached in input and output and what the last completed instruction stored, its
-- memory and its output.
use Rattle.std.specs.Prelude.{ℕ, ◌+◌, true, false, List}
use Rattle.machine.specs.declared.Registers.{Registers}

pub record State : Type 0 where
  pub regs : Registers
  pub mem : List ℕ
  pub out : List ℕ

abbrev pub at : Registers → List ℕ → List ℕ → State
at r m o = record { regs = r; mem = m; out = o }

-- A=B=C=0, G=16, P the first stack word, input and output at their first byte; nothing stored
abbrev pub start_registers : ℕ → Registers
start_registers first = record { a = 0; b = 0; c = 0; p = first; g = 16; taken = 0; written = 0; stored = false; from = 0; words = 0 }

-- the last instruction stored nothing
abbrev pub storing_nothing : Registers → Registers
storing_nothing r =
    record { a = r.a; b = r.b; c = r.c; p = r.p; g = r.g; taken = r.taken; written = r.written; stored = false; from = 0; words = 0 }

-- Registers put anew. What an instruction puts, its C past it included, says that it stored nothing: none, 0 and 0 (document 02, Req 07);
-- S and K then say what they stored.
abbrev pub with_a : ℕ → Registers → Registers
with_a v r = record { a = v; b = r.b; c = r.c; p = r.p; g = r.g; taken = r.taken; written = r.written; stored = false; from = 0; words = 0 }

abbrev pub with_c : ℕ → Registers → Registers
with_c v r = record { a = r.a; b = r.b; c = v; p = r.p; g = r.g; taken = r.taken; written = r.written; stored = false; from = 0; words = 0 }

-- B:=A, A:=v
abbrev pub loaded : ℕ → Registers → Registers
loaded v r = record { a = v; b = r.a; c = r.c; p = r.p; g = r.g; taken = r.taken; written = r.written; stored = false; from = 0; words = 0 }

-- P and C, as a call or a return sets them
abbrev pub framed : (p c : ℕ) → Registers → Registers
framed p c r = record { a = r.a; b = r.b; c = c; p = p; g = r.g; taken = r.taken; written = r.written; stored = false; from = 0; words = 0 }

-- one byte of the input more, in A
abbrev pub took : ℕ → Registers → Registers
took v r = record { a = v; b = r.b; c = r.c; p = r.p; g = r.g; taken = r.taken + 1; written = r.written; stored = false; from = 0; words = 0 }

-- one byte of the output more
abbrev pub wrote : Registers → Registers
wrote r = record { a = r.a; b = r.b; c = r.c; p = r.p; g = r.g; taken = r.taken; written = r.written + 1; stored = false; from = 0; words = 0 }

-- so many words stored, from an address on
abbrev pub having_stored : (from words : ℕ) → Registers → Registers
having_stored from words r =
    record {
      a = r.a;
      b = r.b;
      c = r.c;
      p = r.p;
      g = r.g;
      taken = r.taken;
      written = r.written;
      stored = true;
      from = from;
      words = words;
    }
