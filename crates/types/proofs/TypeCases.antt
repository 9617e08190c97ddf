-- The definitions of types by their cases, as laws for the layers above.
use mathlib.Core.Path.{◌≡◌, refl, sym, ap}
use mathlib.Core.Bool.{Bool, true, false, false≢true}
use mathlib.Core.List.{List}
use Prim.Native.Nat.{ℕ, zero, suc, ◌≤◌, ◌+◌}
use native.Mathlib.Omega.{arith}
use borrow.Author.Tests.{ne_eqb, eqb-true, eqb-false}
use lib.Dec.{eqb}
use Rattle.octets.specs.Pick.{pick, either}
use Rattle.rows.specs.Row.{kind_at, mode_at, number_at, is_type_kind, is_group, is_list, names_row, named_at, row_at}
use Rattle.rows.proofs.KindLaws.{list_kinds, list-type, list_no_group, list-names}
use Rattle.types.specs.Types.{untagged, explicit, implicit, Ty, basic, sequence, choice, list_of, Members, no_more, more, tagging_of, member_of}
use Rattle.types.specs.Types.{members_from, bits_after, typed}

pub tagging_cases : (mode n : ℕ) → tagging_of mode n ≡ pick (eqb mode 0) untagged (pick (eqb mode 1) (explicit n) (implicit n))
unfolding tagging_of
tagging_cases mode n = refl

pub member-tagging : (t : List ℕ) (i p : ℕ) → (member_of t i p).tagging ≡ tagging_of (mode_at t p) (number_at t p)
unfolding member_of
member-tagging t i p = refl

module _ (f : ℕ → Ty) (t s : List ℕ) (i : ℕ) where
  pub members-none : members_from f t s i zero ≡ no_more
  unfolding members_from
  members-none = refl

  pub members-more : (n : ℕ) → members_from f t s i (suc n) ≡ more (member_of t i (row_at s i)) (f (named_at t (row_at s i))) (members_from f t s (i + 1) n)
  unfolding members_from
  members-more n = refl

-- ---- the type of a row by its kind; above this module nobody unfolds `typed`
module _ (t s : List ℕ) (i : ℕ) (e : Ty) (ms : Members) where
  pub typed_cases : (P : Ty → Type 0) → (kind_at t (row_at s i) ≡ 12 → P (sequence ms)) → (kind_at t (row_at s i) ≡ 13 → P (choice ms))
      → (is_list (kind_at t (row_at s i)) ≡ true → P (list_of (kind_at t (row_at s i)) e))
      → ((kind_at t (row_at s i) ≡ 12 → ⊥) → (kind_at t (row_at s i) ≡ 13 → ⊥) → is_list (kind_at t (row_at s i)) ≡ false
      → P (basic (kind_at t (row_at s i)) (bits_after t s i))) → P (typed t s i e ms)
  unfolding typed
  typed_cases P a b c d = go (eqb (kind_at t (row_at s i)) 12) refl (eqb (kind_at t (row_at s i)) 13) refl (is_list (kind_at t (row_at s i))) refl
    where
      go : (x : Bool) → eqb (kind_at t (row_at s i)) 12 ≡ x → (y : Bool) → eqb (kind_at t (row_at s i)) 13 ≡ y → (z : Bool) → is_list (kind_at t (row_at s i)) ≡ z
          → P (pick x (sequence ms) (pick y (choice ms) (pick z (list_of (kind_at t (row_at s i)) e) (basic (kind_at t (row_at s i)) (bits_after t s i)))))
      go true q y r z l = a (eqb-true (kind_at t (row_at s i)) 12 q)
      go false q true r z l = b (eqb-true (kind_at t (row_at s i)) 13 r)
      go false q false r true l = c l
      go false q false r false l = d (eqb-false (kind_at t (row_at s i)) 12 q) (eqb-false (kind_at t (row_at s i)) 13 r) l

  pub typed-sequence : kind_at t (row_at s i) ≡ 12 → typed t s i e ms ≡ sequence ms
  unfolding typed
  typed-sequence h = rw h

  pub typed-choice : kind_at t (row_at s i) ≡ 13 → typed t s i e ms ≡ choice ms
  unfolding typed
  typed-choice h = rw h

  pub typed_basic : (kind_at t (row_at s i) ≡ 12 → ⊥) → (kind_at t (row_at s i) ≡ 13 → ⊥) → is_list (kind_at t (row_at s i)) ≡ false
      → typed t s i e ms ≡ basic (kind_at t (row_at s i)) (bits_after t s i)
  unfolding typed
  typed_basic a b c = rw (ne_eqb (kind_at t (row_at s i)) 12 a, ne_eqb (kind_at t (row_at s i)) 13 b, c)

  pub typed-small : kind_at t (row_at s i) ≤ 11 → typed t s i e ms ≡ basic (kind_at t (row_at s i)) (bits_after t s i)
  typed-small l = typed_basic (λ z. omega arith) (λ z. omega arith) no-list
    where
      no-list : is_list (kind_at t (row_at s i)) ≡ false
      no-list = rw (list_kinds (kind_at t (row_at s i)), ne_eqb (kind_at t (row_at s i)) 14 (λ z. omega arith), ne_eqb (kind_at t (row_at s i)) 15 (λ z. omega arith))

  pub typed-list : is_list (kind_at t (row_at s i)) ≡ true → typed t s i e ms ≡ list_of (kind_at t (row_at s i)) e
  unfolding typed is_group
  typed-list h = go (eqb (kind_at t (row_at s i)) 12) (eqb (kind_at t (row_at s i)) 13) (list_no_group (kind_at t (row_at s i)) h)
    where
      go : (x y : Bool) → either x y ≡ false
          → pick x (sequence ms) (pick y (choice ms) (pick (is_list (kind_at t (row_at s i))) (list_of (kind_at t (row_at s i)) e)
          (basic (kind_at t (row_at s i)) (bits_after t s i)))) ≡ list_of (kind_at t (row_at s i)) e
      go true y g = absurd (false≢true (sym g))
      go false true g = absurd (false≢true (sym g))
      go false false g = rw h

  -- the row that it names matters where it is a type's and names one
  pub typed-named : (f : Ty) → (is_type_kind (kind_at t (row_at s i)) ≡ true → names_row t (row_at s i) ≡ true → e ≡ f) → typed t s i e ms ≡ typed t s i f ms
  unfolding typed
  typed-named f same = go (eqb (kind_at t (row_at s i)) 12) (eqb (kind_at t (row_at s i)) 13) (is_list (kind_at t (row_at s i))) refl
    where
      go : (x y z : Bool) → is_list (kind_at t (row_at s i)) ≡ z
          → pick x (sequence ms) (pick y (choice ms) (pick z (list_of (kind_at t (row_at s i)) e) (basic (kind_at t (row_at s i)) (bits_after t s i))))
          ≡ pick x (sequence ms) (pick y (choice ms) (pick z (list_of (kind_at t (row_at s i)) f) (basic (kind_at t (row_at s i)) (bits_after t s i))))
      go true y z l = refl
      go false true z l = refl
      go false false true l = ap (list_of (kind_at t (row_at s i))) (same (list-type (kind_at t (row_at s i)) l) (list-names t (row_at s i) l))
      go false false false l = refl
