-- The number of bytes read, once matched, is within the buffer: for the programs, which lend that part of it.
use Rattle.std.specs.Prelude.{Option, Some}
use Rattle.laws.proofs.Basics.{ℕ, ◌≤◌, ◌≡◌, sym, List, length, take, length-take-le}
use Rattle.messages.specs.Fits.{Fits}

pub loaded : {answer : Option ℕ} {buffer : List ℕ} {n : ℕ} → Fits answer buffer → answer ≡ Some n → n ≤ length buffer
loaded {buffer = buffer} h e = let k : Fits (Some _) buffer = rw e at h in k.by

-- a part of a list, from its start
pub part : (n : ℕ) (xs : List ℕ) → n ≤ length xs → n ≡ length (take n xs)
part n xs h = sym (length-take-le n xs h)

pub loaded-part : {answer : Option ℕ} {buffer : List ℕ} {n : ℕ} → Fits answer buffer → answer ≡ Some n → n ≡ length (take n buffer)
loaded-part {buffer = buffer} {n = n} h e = part n buffer (loaded h e)
