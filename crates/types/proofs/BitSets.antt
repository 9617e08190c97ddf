-- A number's bits, for sets of tags.
use mathlib.Core.Path.{◌≡◌, refl, sym, ap, ◌∙◌}
use mathlib.Core.Bool.{Bool, true, false}
use Prim.Native.Nat.{ℕ, zero, suc, ◌<◌, ◌+◌, ◌*◌, ◌/◌, ◌%◌, ◌^◌, min, max}
use native.Mathlib.Omega.{arith}
use native.Mathlib.Nat.{pow-suc}
use borrow.Author.Tests.{eqb-true, eqb-false}
use lib.Dec.{eqb, eqb-suc-suc, eqb-zero-suc, eqb-suc-zero}
use lib.Bits.{bit_and, bit_or, and_step, or_step, and_le_l, and_mask}
use lib.Pow.{shr-shr}
use Rattle.octets.specs.Pick.{pick, both, no, all}
use Rattle.types.specs.Inner.Work.{bit_of}
use Rattle.octets.proofs.Laws.{all-at, all-is}

pub bit_none : (g : ℕ) → bit_of 0 g ≡ false
unfolding bit_of
bit_none zero = refl
bit_none (suc g) = bit_none g

-- ---- one digit
max_bit : (u v : ℕ) → u < 2 → v < 2 → (max u v < 2) × (eqb (max u v) 1 ≡ pick (eqb u 1) true (eqb v 1))
max_bit zero zero a b = (omega arith, refl)
max_bit zero (suc zero) a b = (omega arith, refl)
max_bit (suc zero) zero a b = (omega arith, refl)
max_bit (suc zero) (suc zero) a b = (omega arith, refl)
max_bit (suc (suc u)) v a b = absurd (omega arith)
max_bit zero (suc (suc v)) a b = absurd (omega arith)
max_bit (suc zero) (suc (suc v)) a b = absurd (omega arith)

min_bit : (u v : ℕ) → u < 2 → v < 2 → (min u v < 2) × (eqb (min u v) 1 ≡ both (eqb u 1) (eqb v 1))
min_bit zero zero a b = (omega arith, refl)
min_bit zero (suc zero) a b = (omega arith, refl)
min_bit (suc zero) zero a b = (omega arith, refl)
min_bit (suc zero) (suc zero) a b = (omega arith, refl)
min_bit (suc (suc u)) v a b = absurd (omega arith)
min_bit zero (suc (suc v)) a b = absurd (omega arith)
min_bit (suc zero) (suc (suc v)) a b = absurd (omega arith)

low_digit : (n q r : ℕ) → n ≡ q * 2 + r → r < 2 → (n % 2 ≡ r) × (n / 2 ≡ q)
low_digit n q r e h = (omega arith, omega arith)

-- ---- sums and products of sets
pub bit_or_lem : (g a b : ℕ) → bit_of (bit_or a b) g ≡ pick (bit_of a g) true (bit_of b g)
unfolding bit_of
bit_or_lem zero a b =
    let w = max_bit (a % 2) (b % 2) (omega arith) (omega arith) in
    ap (λ (x : ℕ). eqb x 1) (low_digit (bit_or a b) (bit_or (a / 2) (b / 2)) (max (a % 2) (b % 2)) (or_step a b) w.0).0 ∙ w.1
bit_or_lem (suc g) a b =
    let w = max_bit (a % 2) (b % 2) (omega arith) (omega arith) in
    ap (λ (x : ℕ). bit_of x g) (low_digit (bit_or a b) (bit_or (a / 2) (b / 2)) (max (a % 2) (b % 2)) (or_step a b) w.0).1 ∙ bit_or_lem g (a / 2) (b / 2)

pub bit_and_lem : (g a b : ℕ) → bit_of (bit_and a b) g ≡ both (bit_of a g) (bit_of b g)
unfolding bit_of
bit_and_lem zero a b =
    let w = min_bit (a % 2) (b % 2) (omega arith) (omega arith) in
    ap (λ (x : ℕ). eqb x 1) (low_digit (bit_and a b) (bit_and (a / 2) (b / 2)) (min (a % 2) (b % 2)) (and_step a b) w.0).0 ∙ w.1
bit_and_lem (suc g) a b =
    let w = min_bit (a % 2) (b % 2) (omega arith) (omega arith) in
    ap (λ (x : ℕ). bit_of x g) (low_digit (bit_and a b) (bit_and (a / 2) (b / 2)) (min (a % 2) (b % 2)) (and_step a b) w.0).1 ∙ bit_and_lem g (a / 2) (b / 2)

-- ---- one bit alone
doubled : (a : ℕ) → (2 ^ suc a % 2 ≡ 0) × (2 ^ suc a / 2 ≡ 2 ^ a)
doubled a = low_digit (2 ^ suc a) (2 ^ a) 0 (let p = pow-suc 2 a in omega arith) (omega arith)

pub bit_one : (g a : ℕ) → bit_of (2 ^ a) g ≡ eqb g a
unfolding bit_of
bit_one zero zero = refl
bit_one zero (suc a) = ap (λ (x : ℕ). eqb x 1) (doubled a).0 ∙ sym (eqb-zero-suc a)
bit_one (suc g) zero = bit_none g ∙ sym (eqb-suc-zero g)
bit_one (suc g) (suc a) = ap (λ (x : ℕ). bit_of x g) (doubled a).1 ∙ bit_one g a ∙ sym (eqb-suc-suc g a)

-- ---- no bit at all
pub no_bits : (k n : ℕ) → n < 2 ^ k → ((g : ℕ) → g < k → bit_of n g ≡ false) → n ≡ 0
unfolding bit_of
no_bits zero n h f = omega arith
no_bits (suc k) n h f =
    let p = pow-suc 2 k in
    let l : n / 2 < 2 ^ k = omega arith in
    let q = no_bits k (n / 2) l (λ g b. f (suc g) (omega arith)) in
    let z = eqb-false (n % 2) 1 (f 0 (omega arith)) in
    digit n q z
  where
    digit : (n : ℕ) → n / 2 ≡ 0 → (n % 2 ≡ 1 → ⊥) → n ≡ 0
    digit n q z = omega arith

-- two sets have no element in common
no_true : (b : Bool) → no b ≡ true → b ≡ false
no_true true e = sym e
no_true false e = refl

pub sets-apart : (k a b : ℕ) → a < 2 ^ k → eqb (bit_and a b) 0 ≡ all (λ g. no (both (bit_of a g) (bit_of b g))) k
sets-apart k a b h = go (eqb (bit_and a b) 0) refl (all (λ g. no (both (bit_of a g) (bit_of b g))) k) refl
  where
    go : (x : Bool) → eqb (bit_and a b) 0 ≡ x → (y : Bool) → all (λ g. no (both (bit_of a g) (bit_of b g))) k ≡ y → x ≡ y
    go true e true f = refl
    go false e false f = refl
    go true e false f = sym (sym f ∙ all-is (λ g. no (both (bit_of a g) (bit_of b g))) k (λ g l. ap no (sym (bit_and_lem g a b) ∙ ap (λ (x : ℕ). bit_of x g) (eqb-true (bit_and a b) 0 e) ∙ bit_none g)))
    go false e true f =
        let m = and_le_l a b in
        let l : bit_and a b < 2 ^ k = omega arith in
        absurd (eqb-false (bit_and a b) 0 e (no_bits k (bit_and a b) l (λ g c. bit_and_lem g a b ∙ no_true (both (bit_of a g) (bit_of b g)) (all-at (λ g. no (both (bit_of a g) (bit_of b g))) k g f c))))

-- ---- a bit by a shift and a mask
pub shifted_bit : (g n : ℕ) → bit_of n g ≡ eqb (n / 2 ^ g % 2) 1
unfolding bit_of
shifted_bit zero n = let q : n / 1 ≡ n = omega arith in ap (λ (x : ℕ). eqb (x % 2) 1) (sym q)
shifted_bit (suc g) n =
    let q : 1 + g ≡ suc g = omega arith in
    shifted_bit g (n / 2) ∙ ap (λ (x : ℕ). eqb (x % 2) 1) (shr-shr n 1 g) ∙ ap (λ (x : ℕ). eqb (n / 2 ^ x % 2) 1) q

pub bit_is : (n p g : ℕ) → n ≡ p → eqb (bit_and (n / 2 ^ g) 1) 1 ≡ bit_of p g
bit_is n p g e = ap (λ (x : ℕ). eqb x 1) (and_mask (n / 2 ^ g) 1) ∙ sym (shifted_bit g n) ∙ ap (λ (x : ℕ). bit_of x g) e
