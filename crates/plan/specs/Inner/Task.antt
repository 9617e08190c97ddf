-- What is done with each component that a walk reaches: it is counted up to a limit, listed, or tested within a budget. A plan's first numbers say which: the
-- task, its limit or budget, and the two numbers of its test.
use Rattle.std.specs.Prelude.{ℕ, Bool, true, List, get_or, eqb}
use Rattle.octets.specs.Pick.{pick}
use Rattle.reference.specs.Numbers.{Component, stored, by_default, by_count, contents_of}
use Rattle.plan.specs.Inner.Test.{Test, accepted, accepted_count, test_of}

pub data Task : Type 0 where
  counting : ℕ → Task
  listing : Task
  testing : Test → ℕ → Task

unfoldable pub task_of : List ℕ → Task
task_of q =
    pick (eqb (get_or q 0 0) 0) (counting (get_or q 1 0))
    (pick (eqb (get_or q 0 0) 1) listing
    (testing (test_of (get_or q 2 0) (get_or q 3 0)) (get_or q 1 0)))

-- a task lets contents pass; a count; a component: a test by its comparison with the operand x; the others let all pass
unfoldable pub passes_contents : Task → List ℕ → List ℕ → Bool
passes_contents (counting limit) x c = true
passes_contents listing x c = true
passes_contents (testing test budget) x c = accepted test x c

unfoldable pub passes_count : Task → ℕ → Bool
passes_count (counting limit) n = true
passes_count listing n = true
passes_count (testing test budget) n = accepted_count test n

unfoldable pub passes : Task → List ℕ → Component → Bool
passes task x (stored s) = passes_contents task x s.contents
passes task x (by_default place m) = passes_contents task x (contents_of m.presence)
passes task x (by_count place n) = passes_count task n
