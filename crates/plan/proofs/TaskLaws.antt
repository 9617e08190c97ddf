-- The task of a plan's first numbers, and plans for another task.
use mathlib.Core.Path.{◌≡◌, refl, sym, ap, ap₂, ◌∙◌}
use mathlib.Core.Bool.{Bool}
use Rattle.std.specs.Prelude.{Some}
use mathlib.Core.List.{List, [], ◌∷◌}
use Prim.Native.Nat.{ℕ, ◌<◌, ◌+◌, ◌*◌}
use native.Mathlib.Omega.{arith}
use borrow.Author.Tests.{eq-eqb, ne_eqb}
use lib.ListN.{length, get_or, set, length-set}
use lib.Seq.{get_or-set_same, get_or-set_other}
use Rattle.rows.specs.Row.{members_at}
use Rattle.types.specs.Types.{Presence, mandatory, optional, default, Member, Ty, Members}
use Rattle.table.specs.Inner.Rows.{table_rows, place_at, member_at, member_type_at}
use Rattle.reference.specs.Reference.{Id}
use Rattle.reference.specs.Allowed.{Target, of_type, member_type, under, allowed_from}
use Rattle.plan.specs.Inner.Task.{Task, counting, listing, testing, task_of, passes_contents}
use Rattle.plan.specs.Inner.Test.{Test, test_of}
use Rattle.plan.specs.Inner.Plan.{absent_of, Names, here, later, ByName, SameSteps, Relisted}
use Rattle.plan.specs.Inner.Plan.{Planned, over, member, alternative, to-position, to-from_end, to-count, to-all}

module _ (q : List ℕ) where
  pub is-counting : get_or q 0 0 ≡ 0 → task_of q ≡ counting (get_or q 1 0)
  unfolding task_of
  is-counting e = rw (eq-eqb (get_or q 0 0) 0 e)

  pub is-listing : (get_or q 0 0 ≡ 0 → ⊥) → get_or q 0 0 ≡ 1 → task_of q ≡ listing
  unfolding task_of
  is-listing a e = rw (ne_eqb (get_or q 0 0) 0 a, eq-eqb (get_or q 0 0) 1 e)

  pub is-testing : (get_or q 0 0 ≡ 0 → ⊥) → (get_or q 0 0 ≡ 1 → ⊥) → task_of q ≡ testing (test_of (get_or q 2 0) (get_or q 3 0)) (get_or q 1 0)
  unfolding task_of
  is-testing a b = rw (ne_eqb (get_or q 0 0) 0 a, ne_eqb (get_or q 0 0) 1 b)

-- ---- writing it
pub counting-is : (q : List ℕ) (limit : ℕ) → length q ≡ 72 → task_of (set (set q 0 0) 1 limit) ≡ counting limit
counting-is q limit long =
    let a = length-set q 0 0 in
    is-counting (set (set q 0 0) 1 limit) (get_or-set_other (set q 0 0) 1 0 limit 0 (λ z. absurd (omega arith)) ∙ get_or-set_same q 0 0 0 (omega arith))
    ∙ ap counting (get_or-set_same (set q 0 0) 1 limit 0 (omega arith))

-- the four numbers of a test
module _ (q : List ℕ) (budget k n : ℕ) (long : length q ≡ 72) where
  abbrev filled : List ℕ
  filled = set (set (set (set q 0 2) 1 budget) 2 k) 3 n

  first : get_or filled 0 0 ≡ 2
  first =
      let a = length-set q 0 2 in
      get_or-set_other (set (set (set q 0 2) 1 budget) 2 k) 3 0 n 0 (λ z. absurd (omega arith))
      ∙ get_or-set_other (set (set q 0 2) 1 budget) 2 0 k 0 (λ z. absurd (omega arith))
      ∙ get_or-set_other (set q 0 2) 1 0 budget 0 (λ z. absurd (omega arith))
      ∙ get_or-set_same q 0 2 0 (omega arith)

  second : get_or filled 1 0 ≡ budget
  second =
      let a = length-set q 0 2 in
      get_or-set_other (set (set (set q 0 2) 1 budget) 2 k) 3 1 n 0 (λ z. absurd (omega arith))
      ∙ get_or-set_other (set (set q 0 2) 1 budget) 2 1 k 0 (λ z. absurd (omega arith))
      ∙ get_or-set_same (set q 0 2) 1 budget 0 (omega arith)

  third : get_or filled 2 0 ≡ k
  third =
      let a = length-set q 0 2 in
      let b = length-set (set q 0 2) 1 budget in
      get_or-set_other (set (set (set q 0 2) 1 budget) 2 k) 3 2 n 0 (λ z. absurd (omega arith)) ∙ get_or-set_same (set (set q 0 2) 1 budget) 2 k 0 (omega arith)

  fourth : get_or filled 3 0 ≡ n
  fourth =
      let a = length-set q 0 2 in
      let b = length-set (set q 0 2) 1 budget in
      let c = length-set (set (set q 0 2) 1 budget) 2 k in
      get_or-set_same (set (set (set q 0 2) 1 budget) 2 k) 3 n 0 (omega arith)

  pub testing-is : (test : Test) → test_of k n ≡ test → task_of filled ≡ testing test budget
  testing-is test e =
      let z = first in
      is-testing filled (λ y. absurd (omega arith)) (λ y. absurd (omega arith))
      ∙ ap₂ (λ (y u : ℕ). testing (test_of y u) (get_or filled 1 0)) third fourth
      ∙ ap₂ (λ (y : Test) (u : ℕ). testing y u) e second

  pub filled-long : length filled ≡ 72
  filled-long = length-set (set (set (set q 0 2) 1 budget) 2 k) 3 n ∙ length-set (set (set q 0 2) 1 budget) 2 k ∙ length-set (set q 0 2) 1 budget ∙ length-set q 0 2 ∙ long

pub two-long : (q : List ℕ) (a b : ℕ) → length q ≡ 72 → length (set (set q 0 a) 1 b) ≡ 72
two-long q a b e = length-set (set q 0 a) 1 b ∙ length-set q 0 a ∙ e

pub listing-is : (q : List ℕ) → length q ≡ 72 → task_of (set q 0 1) ≡ listing
listing-is q long = let e = get_or-set_same q 0 1 0 (omega arith) in is-listing (set q 0 1) (λ z. absurd (omega arith)) e

pub test_set : (q : List ℕ) (k n budget : ℕ) → length q ≡ 72 → task_of (set (set (set (set q 0 2) 1 budget) 2 k) 3 n) ≡ testing (test_of k n) budget
test_set q k n budget long = testing-is q budget k n long (test_of k n) refl

pub steps_kept : (q : List ℕ) (k n budget : ℕ) → SameSteps q (set (set (set (set q 0 2) 1 budget) 2 k) 3 n)
steps_kept q k n budget =
    record {
      kept = λ i h.
          get_or-set_other (set (set (set q 0 2) 1 budget) 2 k) 3 i n 0 (λ z. absurd (omega arith))
          ∙ get_or-set_other (set (set q 0 2) 1 budget) 2 i k 0 (λ z. absurd (omega arith))
          ∙ get_or-set_other (set q 0 2) 1 i budget 0 (λ z. absurd (omega arith))
          ∙ get_or-set_other q 0 i 2 0 (λ z. absurd (omega arith));
    }

-- the type of the member that has a name
pub names-type : {x : List ℕ} {ms : Members} {j : ℕ} {m : Member} {u : Ty} → Names x ms j m u → member_type x ms ≡ Some u
unfolding member_type
names-type (here e _) = rw e
names-type (later e n) = rw e (names-type n)

-- ---- the steps of a plan for another task
-- where what each last member comes to is the same; `Led` is what is known of where the identifiers lead
module _ (t q p x : List ℕ) (d : Bool) (steps : SameSteps q p) (Led : Target → Type 0)
    (same : (is : List Id) (row j : ℕ) → row < length (table_rows t) → j < members_at t (place_at t row)
    → ((g : Target) → allowed_from is (of_type (member_type_at t (row + 1 + j))) ≡ Some g → Led g)
    → absent_of d (task_of q) x is (member_at t (row + 1 + j)).presence ≡ absent_of d (task_of p) x is (member_at t (row + 1 + j)).presence) where
  by_name : (k row j : ℕ) (nm : List ℕ) → 0 < k → ByName t q k row j nm → ByName t p k row j nm
  by_name k row j nm h n =
      record {
        low = n.low;
        row_is = steps.kept (4 * k + 1) (omega arith) ∙ n.row_is;
        index_is = steps.kept (4 * k + 2) (omega arith) ∙ n.index_is;
        here = n.here;
        one = n.one;
        named = n.named;
      }

  pub replanned : (k : ℕ) (ty : Ty) (is : List Id) → 0 < k → ((g : Target) → allowed_from is (of_type ty) ≡ Some g → Led g) → Planned t q x d k ty is
      → Planned t p x d k ty is
  unfolding allowed_from under
  replanned k ty is h led (over e) = over (steps.kept (4 * k) (omega arith) ∙ e)
  replanned k ty is h led (member {row = row} {j = j} {nm = nm} {is = js} e n c rest) =
      let on : (g : Target) → allowed_from js (of_type (member_type_at t (row + 1 + j))) ≡ Some g → Led g = λ g a. led g (rw (names-type n.named) a) in
      member (steps.kept (4 * k) (omega arith) ∙ e) (by_name k row j nm h n)
      (steps.kept (4 * k + 3) (omega arith) ∙ c ∙ same js row j n.here n.one on) (replanned (k + 1) _ js (omega arith) on rest)
  replanned k ty is h led (alternative {row = row} {j = j} {nm = nm} {is = js} e n c rest) =
      alternative (steps.kept (4 * k) (omega arith) ∙ e) (by_name k row j nm h n) c
      (replanned (k + 1) _ js (omega arith) (λ g a. led g (rw (names-type n.named) a)) rest)
  replanned k ty is h led (to-position {is = js} e low r rest) =
      to-position (steps.kept (4 * k) (omega arith) ∙ e) low (steps.kept (4 * k + 1) (omega arith) ∙ r) (replanned (k + 1) _ js (omega arith) led rest)
  replanned k ty is h led (to-from_end {is = js} e low r rest) =
      to-from_end (steps.kept (4 * k) (omega arith) ∙ e) low (steps.kept (4 * k + 1) (omega arith) ∙ r) (replanned (k + 1) _ js (omega arith) led rest)
  replanned k ty is h led (to-count e low) = to-count (steps.kept (4 * k) (omega arith) ∙ e) low
  replanned k ty is h led (to-all {is = js} e low rest) = to-all (steps.kept (4 * k) (omega arith) ∙ e) low (replanned (k + 1) _ js (omega arith) led rest)

-- ---- a listing of what was counted
same_absent : (limit : ℕ) (d : Bool) (x : List ℕ) (is : List Id) (p : Presence) → absent_of d (counting limit) x is p ≡ absent_of d listing x is p
unfolding passes_contents
same_absent limit d x [] mandatory = refl
same_absent limit d x [] optional = refl
same_absent limit d x [] (default c) = refl
same_absent limit d x (i ∷ is) p = refl

pub relisted : (q : List ℕ) → length q ≡ 72 → Relisted q (set q 0 1)
unfolding Relisted
relisted q long t x d k limit ty is counts from w =
    replanned t q (set q 0 1) x d (record { kept = λ i h. get_or-set_other q 0 i 1 0 (λ z. absurd (omega arith)) }) (λ _. Unit {0})
    (λ js row j _ _ _. absent_same js (member_at t (row + 1 + j)).presence) k ty is from (λ _ _. tt) w
  where
    absent_same : (js : List Id) (p : Presence) → absent_of d (task_of q) x js p ≡ absent_of d (task_of (set q 0 1)) x js p
    absent_same js p = ap (λ (y : Task). absent_of d y x js p) counts ∙ same_absent limit d x js p ∙ sym (ap (λ (y : Task). absent_of d y x js p) (listing-is q long))
