-- Whole rows that follow another: one lemma for each return and each turn of a loop of the first pass's functions on one such row.
use mathlib.Core.Path.{◌≡◌, refl, sym, ap, ◌∙◌}
use mathlib.Core.Bool.{Bool, true, false, not}
use mathlib.Core.List.{List}
use Prim.Native.Nat.{ℕ, ◌≤◌, ◌<◌, ◌+◌, ◌-◌, ◌*◌}
use native.Mathlib.Omega.{arith}
use borrow.Author.Tests.{not-true, not-false, eq-eqb, ne_eqb}
use lib.Dec.{ltb, eqb}
use lib.ListN.{length, get_or}
use Rattle.octets.specs.Pick.{pick, both, no, all}
use Rattle.octets.specs.Octets.{octet, same}
use Rattle.octets.proofs.Laws.{all_none, all_more, all_not}
use Rattle.rows.specs.Paper.{table_limits}
use Rattle.rows.specs.Row.{kind_at, name_at, row_size, is_follower}
use Rattle.rows.specs.Body.{row_formed}
use Rattle.rows.specs.Inner.Sizes.{formed_size, WholeName, WholeFollower}
use Rattle.rows.proofs.KindLaws.{whole-follower, follower-name}
use Rattle.rows.proofs.FollowerSteps.{formed-least, formed-size}
use Rattle.clauses.specs.Clauses.{same_name, same_number}
use Rattle.clauses.specs.Inner.Work.{place_in, FollowersIn, differs_at, new_name_at, number_differs_at, new_number_at, new_at, follower_size}

-- ---- row i, one of those from `first` on and before row n
module _ (t w : List ℕ) (first n i : ℕ) (before : FollowersIn t w first n) (low : first ≤ i) (more : i < n) where
  pub before-name : WholeName t (get_or w (2 * i) 0)
  before-name = follower-name t (get_or w (2 * i) 0) (before.whole i low more)

  pub before-octet : get_or w (2 * i) 0 + 25 < length t
  before-octet = let whole = before.whole i low more in let l = whole.least in omega arith

  pub before-fits : (most : ℕ) → length t < most → get_or w (2 * i) 0 + 25 < most
  before-fits most h = let l = before-octet in omega arith

-- ---- a test of each of them; r is whether row i is the same
module _ (f : ℕ → Bool) (first : ℕ) where
  test-start : all f (first - first) ≡ true
  test-start = let z : first - first ≡ 0 = omega arith in ap (all f) z ∙ all_none f

  module _ (i : ℕ) (low : first ≤ i) (r : Bool) (told : f (i - first) ≡ no r) where
    test-found : (n : ℕ) → i < n → r ≡ true → false ≡ all f (n - first)
    test-found n more e = sym (all_not f (n - first) (i - first) (omega arith) (told ∙ ap (λ (x : Bool). no x) e))

    test-other : all f (i - first) ≡ true → r ≡ false → all f (i + 1 - first) ≡ true
    test-other tested e =
        let z : i - first + 1 ≡ i + 1 - first = omega arith in
        ap (all f) (sym z) ∙ all_more f (i - first) true (sym (told ∙ ap (λ (x : Bool). no x) e)) tested refl

-- all of them have been tested
pub tested-all : (t w : List ℕ) (first n i : ℕ) (f : ℕ → Bool) → FollowersIn t w first n → f i ≡ true → (first ≤ n → i ≤ n) → n ≤ i → true ≡ f n
tested-all t w first n i f before tested within ended =
    let u = within before.fewer in let e : i ≡ n = omega arith in sym tested ∙ ap f e

-- the place of a row by either count
placed : (w : List ℕ) (first i : ℕ) → first ≤ i → place_in w (first + (i - first)) ≡ get_or w (2 * i) 0
placed w first i l = let z : 2 * (first + (i - first)) ≡ 2 * i = omega arith in ap (λ (x : ℕ). get_or w x 0) z

-- ---- names and numbers
module _ (t w : List ℕ) (first p : ℕ) where
  pub name-start : new_name_at t w first first p ≡ true
  unfolding new_name_at
  name-start = test-start (differs_at t w first p) first

  pub number-start : new_number_at t w first first p ≡ true
  unfolding new_number_at
  number-start = test-start (number_differs_at t w first p) first

  module _ (i : ℕ) (low : first ≤ i) where
    module _ (r : Bool) (told : r ≡ same (name_at t (get_or w (2 * i) 0)) (name_at t p)) where
      differs_told : differs_at t w first p (i - first) ≡ no r
      unfolding differs_at same_name
      differs_told = ap (λ (x : ℕ). no (same_name t x p)) (placed w first i low) ∙ ap (λ (x : Bool). no x) (sym told)

      pub name_repeated : (n : ℕ) → i < n → r ≡ true → false ≡ new_name_at t w first n p
      unfolding new_name_at
      name_repeated n more e = test-found (differs_at t w first p) first i low r differs_told n more e

      pub name-other : new_name_at t w first i p ≡ true → r ≡ false → new_name_at t w first (i + 1) p ≡ true
      unfolding new_name_at
      name-other tested e = test-other (differs_at t w first p) first i low r differs_told tested e

    number_told : (r : Bool) → eqb (octet t (get_or w (2 * i) 0 + 25)) (octet t (p + 25)) ≡ r → number_differs_at t w first p (i - first) ≡ no r
    unfolding number_differs_at same_number
    number_told r e = ap (λ (x : ℕ). no (same_number t x p)) (placed w first i low) ∙ ap (λ (x : Bool). no x) e

    pub number_repeated : (n : ℕ) → i < n → octet t (get_or w (2 * i) 0 + 25) ≡ octet t (p + 25) → false ≡ new_number_at t w first n p
    unfolding new_number_at
    number_repeated n more e = test-found (number_differs_at t w first p) first i low true (number_told true (eq-eqb _ _ e)) n more refl

    pub number-other : new_number_at t w first i p ≡ true → (octet t (get_or w (2 * i) 0 + 25) ≡ octet t (p + 25) → ⊥) → new_number_at t w first (i + 1) p ≡ true
    unfolding new_number_at
    number-other tested e = test-other (number_differs_at t w first p) first i low false (number_told false (ne_eqb _ _ e)) tested refl

-- ---- the octets of a row that follows another
module _ (t w : List ℕ) (first n p size : ℕ) (told : size ≡ formed_size table_limits.members t p) where
  pub size-inside : p < length t → p + size ≤ length t
  size-inside l = let h = formed-least table_limits.members t p in omega arith

  pub size_none : size ≡ 0 → 0 ≡ follower_size t w first n p
  unfolding follower_size formed_size
  size_none e = go (ltb (length t - p) (row_size (kind_at t p))) (row_formed table_limits.members t p) (new_at t w first n p) (sym e ∙ told)
    where
      go : (x y z : Bool) → ◌≡◌ {A = ℕ} 0 (pick x 0 (pick y (row_size (kind_at t p)) 0))
          → ◌≡◌ {A = ℕ} 0 (pick x 0 (pick (both y z) (row_size (kind_at t p)) 0))
      go true y z h = refl
      go false true true h = h
      go false true false h = refl
      go false false z h = refl

  module _ (some : size ≡ 0 → ⊥) where
    sized : size ≡ row_size (octet t p)
    sized = told ∙ formed-size table_limits.members t p (λ z. some (told ∙ z))

    pub size-whole : p < length t → is_follower (octet t p) ≡ true → WholeFollower t p
    size-whole l f = let s = sized in let h = size-inside l in whole-follower t p f (omega arith)

    by-new : follower_size t w first n p ≡ pick (new_at t w first n p) size 0
    unfolding follower_size formed_size
    by-new = go (ltb (length t - p) (row_size (kind_at t p))) (row_formed table_limits.members t p) told
      where
        go : (x y : Bool) → size ≡ pick x 0 (pick y (row_size (kind_at t p)) 0)
            → pick x 0 (pick (both y (new_at t w first n p)) (row_size (kind_at t p)) 0) ≡ pick (new_at t w first n p) size 0
        go true y h = absurd (some h)
        go false true h = ap (λ (x : ℕ). pick (new_at t w first n p) x 0) (sym h)
        go false false h = absurd (some h)

    module _ (a : Bool) (named : a ≡ new_name_at t w first n p) where
      pub size_repeated : not a ≡ true → 0 ≡ follower_size t w first n p
      unfolding new_at
      size_repeated e = rw (by-new, sym named ∙ not-true a e)

      module _ (g : not a ≡ false) where
        pub size-other : (octet t p ≡ 18 → ⊥) → size ≡ follower_size t w first n p
        unfolding new_at
        size-other k = rw (by-new, sym named ∙ not-false a g, ne_eqb (octet t p) 18 k)

        module _ (k : octet t p ≡ 18) (b : Bool) (numbered : b ≡ new_number_at t w first n p) where
          pub size_number : not b ≡ true → 0 ≡ follower_size t w first n p
          unfolding new_at
          size_number e = rw (by-new, sym named ∙ not-false a g, eq-eqb (octet t p) 18 k, sym numbered ∙ not-true b e)

          pub size_bit : not b ≡ false → size ≡ follower_size t w first n p
          unfolding new_at
          size_bit e = rw (by-new, sym named ∙ not-false a g, eq-eqb (octet t p) 18 k, sym numbered ∙ not-false b e)
