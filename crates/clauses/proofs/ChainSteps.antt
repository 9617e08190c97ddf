-- Chains: the longest from a row on, by the longest from the rows that it names.
use mathlib.Core.Path.{◌≡◌, refl, sym, ap, ap₂, ◌∙◌}
use mathlib.Core.Bool.{Bool, true, false, true≢false}
use mathlib.Core.List.{List}
use Prim.Native.Nat.{ℕ, zero, suc, ◌≤◌, ◌<◌, ◌+◌}
use native.Mathlib.Omega.{arith}
use native.Mathlib.Numerals.{add-one}
use borrow.Author.Tests.{ltb-true, ltb-false, leb-true, leb-false, le-leb, lt-leb}
use lib.Dec.{ltb, leb, leb-suc-suc}
use Rattle.octets.specs.Pick.{pick, both, either, no, all}
use Rattle.octets.specs.Octets.{larger}
use Rattle.octets.proofs.Laws.{all_cong}
use Rattle.rows.specs.Row.{kind_at, row_at, is_type_kind, is_member, is_group, is_list, named_at, members_at}
use Rattle.rows.proofs.KindLaws.{member_no_type, member_no_group, list-type, list_no_group, group_type, list-names, names-none}
use Rattle.clauses.specs.Clauses.{of_member, chain_fits}
use Rattle.clauses.specs.Inner.Work.{member_type, tallest}
use Rattle.clauses.proofs.PassLaws.{both_end}

-- ---- the largest of some numbers
pub tallest-none : (f : ℕ → ℕ) → 0 ≡ tallest f 0
unfolding tallest
tallest-none f = refl

pub tallest-more : (f : ℕ → ℕ) (j m x r : ℕ) → m ≡ tallest f j → x ≡ f j → r ≡ larger x m → r ≡ tallest f (j + 1)
unfolding tallest
tallest-more f j m x r e g h = rw (add-one j) (h ∙ ap₂ larger g e)

pub tallest-done : (f : ℕ → ℕ) (j n m : ℕ) → m ≡ tallest f j → j ≤ n → n ≤ j → m ≡ tallest f n
tallest-done f j n m e h l = let q : j ≡ n = omega arith in rw q at e

both_leb : (a b k : ℕ) → both (leb a k) (leb b k) ≡ leb (larger a b) k
unfolding larger
both_leb a b k = go (ltb a b) refl (leb b k) refl (leb a k) refl ∙ out (ltb a b)
  where
    out : (x : Bool) → pick x (leb b k) (leb a k) ≡ leb (pick x b a) k
    out true = refl
    out false = refl

    go : (x : Bool) → ltb a b ≡ x → (y : Bool) → leb b k ≡ y → (z : Bool) → leb a k ≡ z → both z y ≡ pick x y z
    go true p true q true r = refl
    go true p true q false r = absurd (let h = ltb-true a b p in let l = leb-true b k q in let m = leb-false a k r in omega arith)
    go true p false q true r = refl
    go true p false q false r = refl
    go false p true q true r = refl
    go false p true q false r = refl
    go false p false q true r = absurd (let h = ltb-false a b p in let l = leb-false b k q in let m = leb-true a k r in omega arith)
    go false p false q false r = refl

all_leb : (f : ℕ → ℕ) (k n : ℕ) → all (λ j. leb (f j) k) n ≡ leb (tallest f n) k
unfolding all tallest
all_leb f k zero = sym (le-leb 0 k (omega arith))
all_leb f k (suc n) = rw (all_leb f k n) (both_leb (f n) (tallest f n) k)

-- ---- the chains from row i on
no_group : (t : List ℕ) (p : ℕ) → is_group (kind_at t p) ≡ false → members_at t p ≡ 0
unfolding members_at
no_group t p e = rw e

either_true : (a : Bool) → either a true ≡ true
either_true true = refl
either_true false = refl

pub chain-none : (t s : List ℕ) (i : ℕ) → chain_fits 0 t s i ≡ false
unfolding chain_fits
chain-none t s i = refl

module _ (t s : List ℕ) (i : ℕ) where
  -- one step: of a list by its element, of any other row by its members
  pub chain-step : (n : ℕ) → chain_fits (suc n) t s i
      ≡ pick (is_list (kind_at t (row_at s i))) (chain_fits n t s (named_at t (row_at s i))) (all (of_member (chain_fits n t s) t s i) (members_at t (row_at s i)))
  unfolding chain_fits all
  chain-step n = go (is_list (kind_at t (row_at s i))) refl (is_member (kind_at t (row_at s i))) refl (is_group (kind_at t (row_at s i))) refl
    where
      go : (x : Bool) → is_list (kind_at t (row_at s i)) ≡ x → (y : Bool) → is_member (kind_at t (row_at s i)) ≡ y → (z : Bool) → is_group (kind_at t (row_at s i)) ≡ z
          → chain_fits (suc n) t s i ≡ pick x (chain_fits n t s (named_at t (row_at s i))) (all (of_member (chain_fits n t s) t s i) (members_at t (row_at s i)))
      go true l y m z g =
          rw (list-type (kind_at t (row_at s i)) l, list-names t (row_at s i) l, no_group t (row_at s i) (list_no_group (kind_at t (row_at s i)) l))
          (both_end (chain_fits n t s (named_at t (row_at s i))))
      go false l true m z g =
          rw (member_no_type (kind_at t (row_at s i)) m, no_group t (row_at s i) (member_no_group (kind_at t (row_at s i)) m))
      go false l false m true g =
          rw (group_type (kind_at t (row_at s i)) g, names-none t (row_at s i) l (λ h. true≢false (sym h ∙ m)))
      go false l false m false g =
          rw (names-none t (row_at s i) l (λ h. true≢false (sym h ∙ m)), no_group t (row_at s i) g)
          (either_true (no (is_type_kind (kind_at t (row_at s i)))))

  one_more : (d k : ℕ) → leb d k ≡ leb (d + 1) (suc k)
  one_more d k = sym (leb-suc-suc d k) ∙ ap (λ (x : ℕ). leb x (suc k)) (sym (add-one d))

  -- of a list by those from its element's row on
  pub chain-list : (d : ℕ) → is_list (kind_at t (row_at s i)) ≡ true → ((k : ℕ) → chain_fits k t s (named_at t (row_at s i)) ≡ leb d k)
      → (k : ℕ) → chain_fits k t s i ≡ leb (d + 1) k
  chain-list d e below zero = chain-none t s i ∙ sym (lt-leb (d + 1) 0 (omega arith))
  chain-list d e below (suc k) = chain-step k ∙ rw e (below k ∙ one_more d k)

  -- of any other row by those from its members' types on
  pub chain-members : (f : ℕ → ℕ) → is_list (kind_at t (row_at s i)) ≡ false
      → ((j : ℕ) → j < members_at t (row_at s i) → (k : ℕ) → chain_fits k t s (member_type t s i j) ≡ leb (f j) k)
      → (k : ℕ) → chain_fits k t s i ≡ leb (tallest f (members_at t (row_at s i)) + 1) k
  unfolding of_member
  chain-members f e below zero = chain-none t s i ∙ sym (lt-leb (tallest f (members_at t (row_at s i)) + 1) 0 (omega arith))
  chain-members f e below (suc k) =
      chain-step k
      ∙ rw e (all_cong (of_member (chain_fits k t s) t s i) (λ j. leb (f j) k) (members_at t (row_at s i)) (λ j l. below j l k)
      ∙ all_leb f k (members_at t (row_at s i))
      ∙ one_more (tallest f (members_at t (row_at s i))) k)
