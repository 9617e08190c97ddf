-- Sets of tags: one lemma for each return.
use mathlib.Core.Path.{◌≡◌, ◌∙◌}
use Prim.Native.Nat.{ℕ, ◌≤◌, ◌<◌, ◌+◌, ◌*◌, ◌^◌, ◌%◌}
use native.Mathlib.Omega.{arith}
use native.Mathlib.Nat.{one-mul}
use borrow.Author.Tests.{lt-ltb, le-ltb}
use lib.Pow.{shl_exact}
use Rattle.types.specs.Inner.Work.{context_bit}

pub one_bit : (n : ℕ) → n < 64 → 1 * 2 ^ n % 18446744073709551616 ≡ 2 ^ n
one_bit n h = let l : 1 < 2 ^ 1 = omega arith in let q : 1 + n ≤ 64 = omega arith in shl_exact 1 n 64 l q ∙ one-mul (2 ^ n)

pub context-low : (n r : ℕ) → n < 32 → r ≡ 2 ^ (32 + n) → r ≡ context_bit n
unfolding context_bit
context-low n r h e = rw (lt-ltb n 32 h) e

pub context-high : (n : ℕ) → 32 ≤ n → 0 ≡ context_bit n
unfolding context_bit
context-high n h = rw (le-ltb n 32 h)
