-- One identifier at a target: one lemma for each return; its premises are the facts as the code has them.
use mathlib.Core.Path.{◌≡◌, refl, sym, ap, ap₂, ◌∙◌}
use mathlib.Core.Bool.{Bool, true, false}
use Rattle.std.specs.Prelude.{Option, None, Some}
use mathlib.Core.List.{List}
use Prim.Native.Nat.{ℕ, zero, suc, ◌≤◌, ◌<◌, ◌+◌, ◌-◌}
use native.Mathlib.Omega.{arith}
use borrow.Author.Tests.{lt-ltb, le-ltb}
use lib.Dec.{ltb}
use Rattle.octets.specs.Pick.{pick, bind}
use Rattle.octets.specs.Octets.{part}
use Rattle.rows.specs.Row.{named_at, row_at, members_at}
use Rattle.types.specs.Types.{Ty, Members, member_of, members_from, type_from}
use Rattle.value.specs.Inner.Work.{first}
use Rattle.value.proofs.LeafSteps.{first-none, first_step_lem}
use Rattle.reference.specs.Reference.{name}
use Rattle.reference.specs.Allowed.{of_type, member_type, under_members}
use Rattle.reference.specs.Inner.Work.{named_of, report_target}
use Rattle.reference.specs.declared.Target.{Target}

module _ (chain : ℕ) (t s : List ℕ) (row : ℕ) where
  abbrev parts : Members
  parts = members_from (type_from chain t s) t s (row + 1) (members_at t (row_at s row))

  -- ---- a member by its name
  module _ (r : List ℕ) (a b : ℕ) where
    abbrev x : List ℕ
    x = part r a (b - a)

    abbrev tests : ℕ → Bool
    tests = named_of t s row (part r a (b - a))

    abbrev taken : ℕ → Option Ty
    taken j = Some (type_from chain t s (named_at t (row_at s (row + 1 + j))))

    one : (j k : ℕ) → member_type x (members_from (type_from chain t s) t s (row + 1 + j) (suc k)) ≡ pick (tests j) (taken j) (member_type x (members_from (type_from chain t s) t s (row + 1 + (j + 1)) k))
    unfolding members_from member_of member_type named_of
    one j k = let q : row + 1 + j + 1 ≡ row + 1 + (j + 1) = omega arith in
        ap (λ (y : ℕ). pick (tests j) (taken j) (member_type x (members_from (type_from chain t s) t s y k))) q

    none_left : (j : ℕ) → member_type x (members_from (type_from chain t s) t s (row + 1 + j) 0) ≡ None
    unfolding members_from member_type
    none_left j = refl

    by_first : (k j : ℕ) → member_type x (members_from (type_from chain t s) t s (row + 1 + j) k) ≡ pick (ltb (first tests k j) (j + k)) (taken (first tests k j)) None
    by_first zero j =
        let q : ltb j (j + 0) ≡ false = le-ltb j (j + 0) (omega arith) in
        none_left j ∙ sym (ap (λ (y : ℕ). pick (ltb y (j + 0)) (taken y) None) (sym (first-none tests j)) ∙ ap (λ (y : Bool). pick y (taken j) None) q)
    by_first (suc k) j =
        one j k
        ∙ ap (λ (y : Option Ty). pick (tests j) (taken j) y) (by_first k (j + 1))
        ∙ found j k (tests j)
        ∙ ap (λ (y : ℕ). pick (ltb y (j + suc k)) (taken y) None) (sym (first_step_lem tests k j))
      where
        found : (j k : ℕ) (y : Bool) → pick y (taken j) (pick (ltb (first tests k (j + 1)) (j + 1 + k)) (taken (first tests k (j + 1))) None)
            ≡ pick (ltb (pick y j (first tests k (j + 1))) (j + suc k)) (taken (pick y j (first tests k (j + 1)))) None
        found j k true = let q : ltb j (j + suc k) ≡ true = lt-ltb j (j + suc k) (omega arith) in sym (ap (λ (y : Bool). pick y (taken j) None) q)
        found j k false = let q : j + 1 + k ≡ j + suc k = omega arith in ap (λ (y : ℕ). pick (ltb (first tests k (j + 1)) y) (taken (first tests k (j + 1))) None) q

    module _ (p n j : ℕ) (placed : p ≡ row_at s row) (counted : n ≡ members_at t p) (search : j ≡ first (named_of t s row (part r a (b - a))) (members_at t (row_at s row)) 0) where
      counting : members_at t (row_at s row) ≡ n
      counting = sym (counted ∙ ap (members_at t) placed)

      whole : member_type x parts ≡ pick (ltb j n) (taken j) None
      whole =
          let q : row + 1 ≡ row + 1 + 0 = omega arith in
          let d : 0 + members_at t (row_at s row) ≡ members_at t (row_at s row) = omega arith in
          ap (λ (y : ℕ). member_type x (members_from (type_from chain t s) t s y (members_at t (row_at s row)))) q
          ∙ by_first (members_at t (row_at s row)) 0
          ∙ ap₂ (λ (y z : ℕ). pick (ltb y z) (taken y) None) (sym search) (d ∙ counting)

      pub name-none : n ≤ j → report_target chain t s None ≡ under_members (name (part r a (b - a))) parts
      name-none h = sym (ap (λ (o : Option Ty). bind o (λ ty. Some (of_type ty))) (whole ∙ ap (λ (y : Bool). pick y (taken j) None) (le-ltb j n h)))

      module _ (l : j < n) (i : ℕ) (typed-by : i ≡ named_at t (row_at s (row + 1 + j))) where
        pub name-found : report_target chain t s (Some (Target.Row i)) ≡ under_members (name (part r a (b - a))) parts
        name-found =
            ap (λ (y : ℕ). Some (of_type (type_from chain t s y))) typed-by
            ∙ sym (ap (λ (o : Option Ty). bind o (λ ty. Some (of_type ty))) (whole ∙ ap (λ (y : Bool). pick y (taken j) None) (lt-ltb j n l)))
