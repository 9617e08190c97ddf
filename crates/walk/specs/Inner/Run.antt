-- What is done with the components that a walk reaches, one after another, in lent memory m.
use Rattle.std.specs.Prelude.{ℕ, ◌+◌, ◌-◌, ◌*◌, ◌/◌, Bool, List, [], ◌∷◌, length, set, ltb, leb, eqb}
use Rattle.octets.specs.Pick.{pick}
use Rattle.reference.specs.Named.{Held}
use Rattle.value.specs.Value.{spot_at}
use Rattle.reference.specs.Numbers.{Component, stored, component, Numbers, numbers_of}
use Rattle.plan.specs.Inner.Task.{Task, counting, listing, testing, task_of, passes}
use Rattle.plan.specs.Inner.Plan.{first_at, second_at, absent_at}
use Rattle.walk.specs.Inner.Raw.{start_of, next_after}
use Rattle.walk.specs.declared.State.{State}

-- where the walk stands, and the lent memory
pub data Seen : Type 0 where
  seen : State → List ℕ → Seen

-- three numbers for component n, where there is room
unfoldable pub put : Numbers → ℕ → List ℕ → List ℕ
put c n m = set (set (set m (n * 3) c.source) (n * 3 + 1) c.place) (n * 3 + 2) c.number

unfoldable pub list_one : Numbers → ℕ → List ℕ → Seen
list_one c n m = pick (leb (length m / 3) n) (seen State.Over m) (seen (State.Going (n + 1)) (put c n m))

-- a count goes up to its limit, and stays there
unfoldable pub count_one : ℕ → ℕ → State
count_one limit n = pick (ltb n limit) (State.Going (n + 1)) (State.Going n)

-- a test within the budget
unfoldable pub test_one : ℕ → Bool → ℕ → State
test_one budget accepted n = pick (ltb n budget) (pick accepted (State.Accepted (n + 1)) (State.Going (n + 1))) State.Over

-- one component after n, by its three numbers; a test accepts it, or doesn't
unfoldable pub noted : Task → Bool → Numbers → ℕ → List ℕ → Seen
noted (counting limit) accepted c n m = seen (count_one limit n) m
noted listing accepted c n m = list_one c n m
noted (testing r budget) accepted c n m = seen (test_one budget accepted n) m

unfoldable pub visited : Task → List ℕ → Component → ℕ → List ℕ → Seen
visited task x c n m = noted task (passes task x c) (numbers_of c) n m

-- the value at a place, behind a header that is not doubted
abbrev pub value_at : List ℕ → ℕ → Component
value_at v at = stored (spot_at v at (start_of v at) (next_after v at - start_of v at))

-- a walk goes on only while it is going
abbrev pub onward : (ℕ → List ℕ → Seen) → Seen → Seen
onward f (seen (State.Going n) m) = f n m
onward f (seen (State.Accepted n) m) = seen (State.Accepted n) m
onward f (seen State.Over m) = seen State.Over m

unfoldable pub run : Task → List ℕ → Seen → List Held → Seen
run task x w [] = w
run task x w (h ∷ hs) = run task x (onward (visited task x (component h)) w) hs

-- ---- without memory
-- a count after n
unfoldable pub counted_to : ℕ → ℕ → List Held → ℕ
counted_to limit n [] = n
counted_to limit n (h ∷ hs) = counted_to limit (pick (ltb n limit) (n + 1) n) hs

-- tests after n, each of a component that a test accepts or doesn't
unfoldable pub tested_to : ℕ → (Component → Bool) → ℕ → List Held → State
tested_to budget accepts n [] = State.Going n
tested_to budget accepts n (h ∷ hs) =
    let more = tested_to budget accepts (n + 1) hs in
    pick (ltb n budget) (pick (accepts (component h)) (State.Accepted (n + 1)) more) State.Over

unfoldable pub ran_to : Task → List ℕ → ℕ → List Held → State
ran_to (counting limit) x n hs = State.Going (counted_to limit n hs)
ran_to listing x n hs = State.Over
ran_to (testing r budget) x n hs = tested_to budget (passes (testing r budget) x) n hs

-- ---- the absent member of step k of a plan, at the place of its SEQUENCE
abbrev pub absent_numbers : List ℕ → ℕ → ℕ → Numbers
absent_numbers q k at = record { source = 1; place = at; number = first_at q k + 1 + second_at q k }

unfoldable pub absent_run : List ℕ → ℕ → ℕ → ℕ → List ℕ → Seen
absent_run q k at n m = pick (eqb (absent_at q k) 0) (seen (State.Going n) m) (noted (task_of q) (eqb (absent_at q k) 2) (absent_numbers q k at) n m)
