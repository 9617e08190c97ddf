-- One component: one lemma for each need, its premises as the code has them.
use mathlib.Core.Path.{◌≡◌, sym, ap, ap₂, ◌∙◌}
use mathlib.Core.Bool.{Bool, true, false}
use mathlib.Core.List.{List, []}
use Prim.Native.Nat.{ℕ, ◌≤◌, ◌<◌, ◌+◌, ◌-◌, ◌*◌, ◌/◌}
use native.Mathlib.Omega.{arith}
use borrow.Author.Tests.{lt-ltb, le-ltb, le-leb, lt-leb, eq-eqb, ne_eqb}
use lib.ListN.{length, get_or, set, length-set}
use lib.Dec.{eqb}
use Rattle.octets.specs.Octets.{part}
use Rattle.value.specs.Value.{spot_at}
use Rattle.reference.specs.Numbers.{stored, by_count, Numbers, numbers_of}
use Rattle.plan.specs.Inner.Task.{task_of, passes_contents, passes_count, passes}
use Rattle.plan.specs.Inner.Plan.{first_at, second_at, absent_at}
use Rattle.plan.proofs.TaskLaws.{is-counting, is-listing, is-testing}
use Rattle.walk.specs.Inner.Raw.{start_of, next_after}
use Rattle.walk.specs.Inner.Run.{Seen, seen, put, list_one, count_one, test_one, noted, visited, absent_numbers, absent_run}
use Rattle.walk.specs.declared.State.{State}
use Rattle.walk.proofs.RawLaws.{start-long, start-before}

abbrev numbers : ℕ → ℕ → ℕ → Numbers
numbers a b c = record { source = a; place = b; number = c }

-- ---- counted
module _ (limit n : ℕ) where
  pub count-more : n < limit → State.Going (n + 1) ≡ count_one limit n
  unfolding count_one
  count-more h = rw (lt-ltb n limit h)

  pub count_full : limit ≤ n → State.Going n ≡ count_one limit n
  unfolding count_one
  count_full h = rw (le-ltb n limit h)

-- ---- tested
module _ (budget n : ℕ) (a : Bool) where
  pub test-over : budget ≤ n → State.Over ≡ test_one budget a n
  unfolding test_one
  test-over h = rw (le-ltb n budget h)

  pub test-accepted : n < budget → a ≡ true → State.Accepted (n + 1) ≡ test_one budget a n
  unfolding test_one
  test-accepted l h = rw (lt-ltb n budget l, h)

  pub test-other : n < budget → a ≡ false → State.Going (n + 1) ≡ test_one budget a n
  unfolding test_one
  test-other l h = rw (lt-ltb n budget l, h)

-- ---- listed
pub room_2 : (m : List ℕ) (n i x : ℕ) → n < length m / 3 → n * 3 + 1 < length (set m i x)
room_2 m n i x h = let e = length-set m i x in omega arith

pub room_3 : (m : List ℕ) (n i x j y : ℕ) → n < length m / 3 → n * 3 + 2 < length (set (set m i x) j y)
room_3 m n i x j y h = let e = length-set (set m i x) j y in let f = length-set m i x in omega arith

module _ (a b c n : ℕ) (m : List ℕ) where
  pub list_over : length m / 3 ≤ n → seen State.Over m ≡ list_one (numbers a b c) n m
  unfolding list_one
  list_over h = rw (le-leb (length m / 3) n h)

  pub list_written : n < length m / 3 → seen (State.Going (n + 1)) (set (set (set m (n * 3) a) (n * 3 + 1) b) (n * 3 + 2) c) ≡ list_one (numbers a b c) n m
  unfolding list_one put
  list_written h = rw (lt-leb (length m / 3) n h)

-- ---- any task
module _ (q : List ℕ) (task : ℕ) (read : task ≡ get_or q 0 0) where
  module _ (good : Bool) (c : Numbers) (n : ℕ) (m : List ℕ) where
    pub note_count : task ≡ 0 → (limit : ℕ) → limit ≡ get_or q 1 0 → (r : State) → r ≡ count_one limit n → seen r m ≡ noted (task_of q) good c n m
    unfolding noted
    note_count z limit e r f = rw (is-counting q (sym read ∙ z), ← e, ← f)

    pub note_list : (task ≡ 0 → ⊥) → task ≡ 1 → (w : Seen) → w ≡ list_one c n m → w ≡ noted (task_of q) good c n m
    unfolding noted
    note_list a o w f = rw (is-listing q (λ e. a (read ∙ e)) (sym read ∙ o)) f

    pub note_test : (task ≡ 0 → ⊥) → (task ≡ 1 → ⊥) → (limit : ℕ) → limit ≡ get_or q 1 0 → (r : State) → r ≡ test_one limit good n → seen r m ≡ noted (task_of q) good c n m
    unfolding noted
    note_test a b limit e r f = rw (is-testing q (λ y. a (read ∙ y)) (λ y. b (read ∙ y)), ← e, ← f)

-- ---- the value at a place, and a count
module _ (v : List ℕ) (at start stop : ℕ) (a : start ≡ start_of v at) (b : stop ≡ next_after v at) where
  pub visit_span : start ≤ stop
  visit_span = let c = start-before v at in omega arith

  pub visit_size : at ≤ stop
  visit_size = let c = start-before v at in let d = start-long v at in omega arith

  pub visit_is : (q x m c : List ℕ) (n : ℕ) (good : Bool) → c ≡ part v start (stop - start) → good ≡ passes_contents (task_of q) x c → (w : Seen)
      → w ≡ noted (task_of q) good (numbers 0 at (stop - at)) n m → w ≡ visited (task_of q) x (stored (spot_at v at (start_of v at) (next_after v at - start_of v at))) n m
  unfolding visited passes numbers_of spot_at
  visit_is q x m contents n good u e w f =
      let c = start-before v at in
      let d = start-long v at in
      let z : stop - at ≡ start_of v at + (next_after v at - start_of v at) - at = omega arith in
      let g = e ∙ ap (passes_contents (task_of q) x) u ∙ ap₂ (λ (y u : ℕ). passes_contents (task_of q) x (part v y (u - y))) a b in
      f ∙ ap₂ (λ (y : Bool) (u : ℕ). noted (task_of q) y (numbers 0 at u) n m) g z

pub visit_count_is : (q m : List ℕ) (at size n : ℕ) (good : Bool) → good ≡ passes_count (task_of q) size → (w : Seen) → w ≡ noted (task_of q) good (numbers 2 at size) n m
    → w ≡ visited (task_of q) [] (by_count at size) n m
unfolding visited passes numbers_of
visit_count_is q m at size n good e w f = f ∙ ap (λ (y : Bool). noted (task_of q) y (numbers 2 at size) n m) e

-- ---- an absent member
module _ (q : List ℕ) (k at n : ℕ) (m : List ℕ) (absent : ℕ) (read : absent ≡ absent_at q k) where
  pub absent_none : absent ≡ 0 → seen (State.Going n) m ≡ absent_run q k at n m
  unfolding absent_run
  absent_none z = rw (← read, eq-eqb absent 0 z)

  pub absent_noted : (absent ≡ 0 → ⊥) → (a b : ℕ) → a ≡ first_at q k → b ≡ second_at q k → (w : Seen)
      → w ≡ noted (task_of q) (eqb absent 2) (numbers 1 at (a + 1 + b)) n m → w ≡ absent_run q k at n m
  unfolding absent_run
  absent_noted other a b e f w g =
      let z : numbers 1 at (a + 1 + b) ≡ absent_numbers q k at = ap₂ (λ (y u : ℕ). numbers 1 at (y + 1 + u)) e f in
      rw (← read, ne_eqb absent 0 other) (g ∙ ap (λ (y : Numbers). noted (task_of q) (eqb absent 2) y n m) z)
