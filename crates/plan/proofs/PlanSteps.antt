-- The numbers of one identifier: one lemma for each need, its premises as the code has them.
use mathlib.Core.Path.{◌≡◌, sym, ap, ap₂, ◌∙◌}
use mathlib.Core.Bool.{Bool, true, false, not}
use mathlib.Core.List.{List}
use Prim.Native.Nat.{ℕ, ◌≤◌, ◌<◌, ◌+◌}
use native.Mathlib.Omega.{arith}
use borrow.Author.Tests.{not-true, not-false, le-leb, lt-leb}
use lib.ListN.{length}
use lib.Dec.{leb}
use Rattle.octets.specs.Pick.{pick}
use Rattle.rows.specs.Row.{kind_at, named_at, members_at, is_list}
use Rattle.table.specs.Inner.Rows.{table_rows, place_at}
use Rattle.table.specs.Inner.Words.{Worded}
use Rattle.reference.specs.Inner.Work.{first_named}
use Rattle.plan.specs.Inner.Resolve.{member_plan, name_plan, list_plan}
use Rattle.plan.specs.declared.Planning.{Planning}
use Rattle.plan.proofs.RowLaws.{member-here, member-fits}

-- ---- lists
module _ (t : List ℕ) (row k : ℕ) (kind-is : k ≡ kind_at t (place_at t row)) (u : Bool) (told : u ≡ is_list k) where
  listed : (b : Bool) → u ≡ b → is_list (kind_at t (place_at t row)) ≡ b
  listed b e = sym (told ∙ ap is_list kind-is) ∙ e

  pub list_told : not u ≡ false → is_list (kind_at t (place_at t row)) ≡ true
  list_told e = listed true (not-false u e)

  pub list-none : (s n next : ℕ) → not u ≡ true → Planning.No ≡ list_plan t row s n next
  unfolding list_plan
  list-none s n next e = rw (listed false (not-true u e))

  pub list_some : (s n next to : ℕ) → not u ≡ false → to ≡ named_at t (place_at t row) → Planning.To s n 0 to next ≡ list_plan t row s n next
  unfolding list_plan
  list_some s n next to e f = rw (list_told e) (ap (λ (y : ℕ). Planning.To s n 0 y next) f)

-- ---- members
module _ (t w : List ℕ) (row n : ℕ) (ok : Worded t w) (here : row < length (table_rows t)) (counted : n ≡ members_at t (place_at t row)) (j : ℕ) (low : j < n) where
  pub find_here : row + 1 + j < length (table_rows t)
  find_here = member-here t w row ok here j (omega arith)

  pub find_fits : row + 1 + j < 18446744073709551616
  find_fits = member-fits t w row ok here j (omega arith)

  pub find_one : j < members_at t (place_at t row)
  find_one = omega arith

module _ (t : List ℕ) (row : ℕ) (x : List ℕ) (next n j : ℕ) (counted : n ≡ members_at t (place_at t row)) (found : j ≡ first_named t (table_rows t) row x) where
  pub name-none : n ≤ j → Planning.No ≡ name_plan t row x next
  unfolding name_plan
  name-none h = sym (ap₂ (λ (y z : ℕ). pick (leb y z) Planning.No (member_plan t row z next)) (sym counted) (sym found) ∙ ap (λ (y : Bool). pick y Planning.No (member_plan t row j next)) (le-leb n j h))

  pub name_some : j < n → (p : Planning) → p ≡ member_plan t row j next → p ≡ name_plan t row x next
  unfolding name_plan
  name_some h p e = e ∙ sym (ap₂ (λ (y z : ℕ). pick (leb y z) Planning.No (member_plan t row z next)) (sym counted) (sym found) ∙ ap (λ (y : Bool). pick y Planning.No (member_plan t row j next)) (lt-leb n j h))
