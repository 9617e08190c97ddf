-- The definitions of text and lists by their cases, as laws for the layers above.
use mathlib.Core.Path.{◌≡◌, refl, sym, ap₂, ◌∙◌}
use mathlib.Core.Bool.{Bool, true, false, false≢true}
use mathlib.Core.List.{List, [], ◌∷◌}
use Prim.Native.Nat.{ℕ, zero, suc, ◌≤◌, ◌<◌, ◌+◌, ◌-◌, ◌*◌}
use native.Mathlib.Omega.{arith}
use borrow.Author.Tests.{eqb-true, leb-true, ltb-true, ltb-false}
use lib.Dec.{ltb, leb, eqb}
use lib.ListN.{length}
use Rattle.octets.specs.Pick.{pick, both, all}
use Rattle.octets.specs.Octets.{octet, every, larger, same, below, nibble, paired}
use Rattle.octets.specs.Inner.Answers.{highest_from}
use Rattle.octets.specs.Text.{is_digit, is_number, decimal_from, onto_first, pieces}
use Rattle.octets.proofs.Laws.{both_true, pick_cases}

-- ---- choices: r is what the code found of the test t
module _ {A : Type 0} (r t : Bool) (x a b : A) (told : r ≡ t) where
  pub pick_first : r ≡ true → x ≡ a → x ≡ pick t a b
  pick_first h e = rw (sym told ∙ h) e

  pub pick_second : r ≡ false → x ≡ b → x ≡ pick t a b
  pick_second h e = rw (sym told ∙ h) e

-- ---- a test of every octet
module _ (f : ℕ → Bool) where
  pub every-nil : every f [] ≡ true
  unfolding every
  every-nil = refl

  pub every-cons : (b : ℕ) (s : List ℕ) → every f (b ∷ s) ≡ both (f b) (every f s)
  unfolding every
  every-cons b s = refl

-- ---- decimal numbers
pub decimal-nil : (n : ℕ) → decimal_from n [] ≡ n
unfolding decimal_from
decimal-nil n = refl

pub decimal-cons : (n b : ℕ) (s : List ℕ) → decimal_from n (b ∷ s) ≡ decimal_from (n * 10 + (b - 48)) s
unfolding decimal_from
decimal-cons n b s = refl

pub number-nil : is_number [] ≡ false
unfolding is_number
number-nil = refl

pub number-cons : (b : ℕ) (s : List ℕ) → is_number (b ∷ s) ≡ pick (eqb b 48) (eqb (length s) 0) (both (is_digit b) (every is_digit s))
unfolding is_number every
number-cons b s = refl

-- ---- texts divided by dots
pub pieces-nil : pieces [] ≡ [] ∷ []
unfolding pieces
pieces-nil = refl

pub pieces-cons : (b : ℕ) (s : List ℕ) → pieces (b ∷ s) ≡ pick (eqb b 46) ([] ∷ pieces s) (onto_first b (pieces s))
unfolding pieces
pieces-cons b s = refl

pub digit_within : (b : ℕ) → is_digit b ≡ true → (48 ≤ b) × (b ≤ 57)
unfolding is_digit
digit_within b e = let w = both_true (leb 48 b) (leb b 57) e in (leb-true _ _ w.0, leb-true _ _ w.1)

-- ---- two lists
pub same-nil : same [] [] ≡ true
unfolding same
same-nil = refl

pub same_shorter : (b : ℕ) (s : List ℕ) → same [] (b ∷ s) ≡ false
unfolding same
same_shorter b s = refl

pub same_longer : (a : ℕ) (l : List ℕ) → same (a ∷ l) [] ≡ false
unfolding same
same_longer a l = refl

pub same-cons : (a b : ℕ) (l s : List ℕ) → same (a ∷ l) (b ∷ s) ≡ both (eqb a b) (same l s)
unfolding same
same-cons a b l s = refl

pub same-is : (a b : List ℕ) → same a b ≡ true → a ≡ b
unfolding same
same-is [] [] e = refl
same-is [] (b ∷ s) e = absurd (false≢true e)
same-is (a ∷ l) [] e = absurd (false≢true e)
same-is (a ∷ l) (b ∷ s) e = let w = both_true (eqb a b) (same l s) e in ap₂ (λ (x : ℕ) (y : List ℕ). x ∷ y) (eqb-true a b w.0) (same-is l s w.1)

pub below-nil : below [] [] ≡ false
unfolding below
below-nil = refl

pub below_shorter : (b : ℕ) (s : List ℕ) → below [] (b ∷ s) ≡ true
unfolding below
below_shorter b s = refl

pub below_longer_list : (a : ℕ) (l : List ℕ) → below (a ∷ l) [] ≡ false
unfolding below
below_longer_list a l = refl

pub below-cons : (a b : ℕ) (l s : List ℕ) → below (a ∷ l) (b ∷ s) ≡ pick (ltb a b) true (pick (ltb b a) false (below l s))
unfolding below
below-cons a b l s = refl

-- ---- pairs of hexadecimal digits
pub paired-nil : paired [] ≡ []
unfolding paired
paired-nil = refl

pub paired-one : (a : ℕ) → paired (a ∷ []) ≡ []
unfolding paired
paired-one a = refl

pub paired-two : (a b : ℕ) (s : List ℕ) → paired (a ∷ b ∷ s) ≡ (nibble a * 16 + nibble b) ∷ paired s
unfolding paired
paired-two a b s = refl

-- ---- the largest octet
pub larger-least : (a b : ℕ) → (a ≤ larger a b) × (b ≤ larger a b)
unfolding larger
larger-least a b = pick_cases (λ (x : ℕ). (a ≤ x) × (b ≤ x)) (ltb a b) b a
    (λ e. (omega (arith, ltb-true), omega arith))
    (λ e. (omega arith, omega (arith, ltb-false)))

pub larger-most : (a b n : ℕ) → a ≤ n → b ≤ n → larger a b ≤ n
unfolding larger
larger-most a b n f g = pick_cases (λ (x : ℕ). x ≤ n) (ltb a b) b a (λ e. g) (λ e. f)

pub highest-least : (n : ℕ) (s : List ℕ) → n ≤ highest_from n s
unfolding highest_from
highest-least n [] = omega arith
highest-least n (b ∷ s) = let r = highest-least (larger n b) s in omega (arith, (larger-least n b).0)

pub highest-cons : (n b : ℕ) (s : List ℕ) → (highest_from n (b ∷ s) ≡ highest_from (larger n b) s) × (b ≤ highest_from n (b ∷ s))
unfolding highest_from
highest-cons n b s = let r = highest-least (larger n b) s in (refl, omega (arith, (larger-least n b).1))

-- ---- a test of every octet, by places
pub every-is : (f : ℕ → Bool) (s : List ℕ) → ((i : ℕ) → i < length s → f (octet s i) ≡ true) → every f s ≡ true
unfolding every
every-is f [] h = refl
every-is f (b ∷ s) h = rw (h 0 (omega arith)) (every-is f s (λ i l. h (suc i) (omega arith)))

pub every-at : (f : ℕ → Bool) (s : List ℕ) (i : ℕ) → every f s ≡ true → i < length s → f (octet s i) ≡ true
unfolding every
every-at f [] i e h = absurd (omega arith)
every-at f (b ∷ s) zero e h = (both_true (f b) (every f s) e).0
every-at f (b ∷ s) (suc i) e h = every-at f s i (both_true (f b) (every f s) e).1 (omega arith)

-- ---- a test of all numbers below one
pub all_suc : (f : ℕ → Bool) (n : ℕ) → all f (suc n) ≡ both (f n) (all f n)
unfolding all
all_suc f n = refl
