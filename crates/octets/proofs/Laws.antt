-- Laws of the definitions, for this crate's proofs and for the layers above.
use mathlib.Core.Path.{◌≡◌, refl, sym, ap, ◌∙◌}
use mathlib.Core.Bool.{Bool, true, false, not, false≢true}
use mathlib.Core.Logic.{◌⊎◌, ⊎_elim}
use mathlib.Core.List.{List, [], ◌∷◌}
use Prim.Native.Nat.{ℕ, zero, suc, ◌≤◌, ◌<◌, ◌+◌, ◌-◌}
use native.Mathlib.Omega.{arith}
use native.Mathlib.Numerals.{add-one}
use native.Mathlib.Nat.{eq-or-lt_of_le}
use borrow.Author.Tests.{not-true, not-false}
use lib.ListN.{length, drop, drop_of_length-le, get_or-eq_default, length-drop}
use lib.Seq.{drop-cons, take-nil, take_all}
use Rattle.std.specs.List.{list_all}
use Rattle.octets.specs.Pick.{pick, both, either, all}
use Rattle.octets.specs.Octets.{octet, part, every}

-- ---- tests
-- what holds of both sides of a choice, each under its test, holds of the choice
pub pick_cases : {A : Type 0} (P : A → Type 0) (t : Bool) (a b : A) → (t ≡ true → P a) → (t ≡ false → P b) → P (pick t a b)
pick_cases P true a b f g = f refl
pick_cases P false a b f g = g refl

pub never : (x : Bool) → both x false ≡ false
never true = refl
never false = refl

-- ---- octets by place
pub octet-past : (s : List ℕ) (i : ℕ) → length s ≤ i → 0 ≡ octet s i
octet-past s i h = sym (get_or-eq_default s 0 h)

-- an octet that is not 0 stands inside the list
pub octet-inside : (s : List ℕ) (i : ℕ) → 0 < octet s i → i < length s
octet-inside [] i h = omega arith
octet-inside (b ∷ s) zero h = omega arith
octet-inside (b ∷ s) (suc k) h = let r = octet-inside s k h in omega arith

-- the rest of a list from a place within it, and from its end
pub rest-cons : (s : List ℕ) (i : ℕ) → i < length s → drop i s ≡ octet s i ∷ drop (i + 1) s
rest-cons s i h = rw (add-one, drop-cons s i 0)

pub rest-none : (s : List ℕ) (i : ℕ) → length s ≤ i → drop i s ≡ []
rest-none s i h = drop_of_length-le s h

pub rest-length : (s : List ℕ) (i : ℕ) → length (drop i s) ≡ length s - i
rest-length s i = length-drop i s

-- ---- parts
pub part-past : (s : List ℕ) (at n : ℕ) → length s ≤ at → part s at n ≡ []
part-past s at n h = rw (drop_of_length-le s h) (take-nil n)

pub part-rest : (s : List ℕ) (at n : ℕ) → length s - at ≤ n → part s at n ≡ drop at s
part-rest s at n h = take_all n (drop at s) (rw length-drop h)

-- ---- a test of every octet, as the code makes it of a slice
pub every_all : (f : ℕ → Bool) (s : List ℕ) → list_all f s ≡ every f s
unfolding every
every_all f [] = refl
every_all f (b ∷ s) = grind (arith, every_all f s)

-- ---- a test of every octet, in a loop: it has held up to i
module _ (f : ℕ → Bool) (s : List ℕ) (i : ℕ) (inv : every f (drop i s) ≡ every f s) where
  pub every-done : length s ≤ i → true ≡ every f s
  unfolding every
  every-done h = rw (rest-none s i h) at inv

  module _ (h : i < length s) where
    here : pick (f (octet s i)) (every f (drop (i + 1) s)) false ≡ every f s
    unfolding every
    here = sym (ap (every f) (rest-cons s i h)) ∙ inv

    pub every_fails : f (octet s i) ≡ false → false ≡ every f s
    every_fails e = rw e at here

    pub every_holds : f (octet s i) ≡ true → every f (drop (i + 1) s) ≡ every f s
    every_holds e = rw e at here

    -- u is what the code found
    module _ (u : Bool) (told : u ≡ f (octet s i)) where
      pub every-bad : not u ≡ true → false ≡ every f s
      every-bad e = every_fails (sym told ∙ not-true u e)

      pub every_more : not u ≡ false → every f (drop (i + 1) s) ≡ every f s
      every_more e = every_holds (sym told ∙ not-false u e)

-- ---- two tests, one after the other: r and u are what the code found of p and q
pub either_first : (r p q : Bool) → r ≡ p → r ≡ true → true ≡ pick p true q
either_first r p q e h = rw (sym e ∙ h)

pub either_second : (r p q u : Bool) → r ≡ p → r ≡ false → u ≡ q → u ≡ pick p true q
either_second r p q u e h f = rw (sym e ∙ h) f

-- what follows from either test
pub either_in : {P : Type 0} (a b : Bool) → (a ≡ true → P) → (b ≡ true → P) → either a b ≡ true → P
either_in true b f g e = f refl
either_in false b f g e = g e

-- ---- a test of all numbers below one
last_or : (n i : ℕ) → i < suc n → (i ≡ n) ⊎ (i < n)
last_or n i h = eq-or-lt_of_le (omega arith)

pub both_true : (a b : Bool) → both a b ≡ true → (a ≡ true) × (b ≡ true)
both_true true b e = (refl, e)
both_true false b e = absurd (false≢true e)

pub all-at : (f : ℕ → Bool) (n i : ℕ) → all f n ≡ true → i < n → f i ≡ true
unfolding all
all-at f zero i e h = absurd (omega arith)
all-at f (suc n) i e h =
    let w = both_true (f n) (all f n) e in
    ⊎_elim (λ q. rw q w.0) (λ l. all-at f n i w.1 l) (last_or n i h)

pub all-is : (f : ℕ → Bool) (n : ℕ) → ((i : ℕ) → i < n → f i ≡ true) → all f n ≡ true
unfolding all
all-is f zero h = refl
all-is f (suc n) h = rw (h n (omega arith), all-is f n (λ i l. h i (omega arith)))

pub all_cong : (f g : ℕ → Bool) (n : ℕ) → ((i : ℕ) → i < n → f i ≡ g i) → all f n ≡ all g n
unfolding all
all_cong f g zero h = refl
all_cong f g (suc n) h = rw (h n (omega arith), all_cong f g n (λ i l. h i (omega arith)))

pub all_not : (f : ℕ → Bool) (n i : ℕ) → i < n → f i ≡ false → all f n ≡ false
unfolding all
all_not f zero i h e = absurd (omega arith)
all_not f (suc n) i h e = ⊎_elim (λ q. rw (← q, e)) (λ l. rw (all_not f n i l e) (never (f n))) (last_or n i h)

-- in a loop that counts up: r is what the code found of i
pub all_none : (f : ℕ → Bool) → all f 0 ≡ true
unfolding all
all_none f = refl

module _ (f : ℕ → Bool) (i : ℕ) (r : Bool) (told : r ≡ f i) where
  pub all_more : all f i ≡ true → not r ≡ false → all f (i + 1) ≡ true
  unfolding all
  all_more a c = rw (add-one i, sym told ∙ not-false r c, a)

  pub all-bad : (n : ℕ) → i < n → not r ≡ true → false ≡ all f n
  all-bad n h c = sym (all_not f n i h (sym told ∙ not-true r c))

pub all_done : (f : ℕ → Bool) (i n : ℕ) → all f i ≡ true → i ≤ n → n ≤ i → true ≡ all f n
all_done f i n a h l = let e : i ≡ n = omega arith in sym (rw e at a)
