-- Basic kinds, for the layers above.
use mathlib.Core.Path.{◌≡◌, refl, sym, ap, ◌∙◌}
use mathlib.Core.Bool.{Bool, true, false, false≢true}
use Prim.Native.Nat.{ℕ, ◌≤◌}
use borrow.Author.Tests.{le-leb, ne_eqb}
use Rattle.rows.specs.Row.{is_member, is_list}
use Rattle.rows.proofs.KindLaws.{list_kinds, member_no_list}
use Rattle.table.specs.Inner.Words.{is_basic}

-- no SEQUENCE, CHOICE or list is basic
pub basic_kind : (k : ℕ) → is_basic k ≡ true → (k ≡ 12 → ⊥) × (k ≡ 13 → ⊥) × (is_list k ≡ false)
unfolding is_basic
basic_kind k e = (other 12 refl, other 13 refl, rw (list_kinds k, ne_eqb k 14 (other 14 refl), ne_eqb k 15 (other 15 refl)))
  where
    other : (n : ℕ) → is_basic n ≡ false → k ≡ n → ⊥
    other n f z = false≢true (sym f ∙ ap is_basic (sym z) ∙ e)

pub small_basic : (k : ℕ) → k ≤ 11 → is_basic k ≡ true
unfolding is_basic
small_basic k l = rw (le-leb k 11 l)

-- nor is any of them a member, whose kind no type has
no_member : (k c : ℕ) → is_member c ≡ false → k ≡ c → is_member k ≡ true → ⊥
no_member k c f e h = false≢true (sym f ∙ ap is_member (sym e) ∙ h)

pub sequence_no_member : (k : ℕ) → k ≡ 12 → is_member k ≡ true → ⊥
unfolding is_member
sequence_no_member k = no_member k 12 refl

pub choice_no_member : (k : ℕ) → k ≡ 13 → is_member k ≡ true → ⊥
unfolding is_member
choice_no_member k = no_member k 13 refl

pub list_no_member : (k : ℕ) → is_list k ≡ true → is_member k ≡ true → ⊥
list_no_member k e h = false≢true (sym (member_no_list k h) ∙ e)

pub is_false_lem : (x : Bool) → (x ≡ true → ⊥) → x ≡ false
is_false_lem true n = absurd (n refl)
is_false_lem false n = refl
