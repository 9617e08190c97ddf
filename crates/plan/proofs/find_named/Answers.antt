use native.Mathlib.Omega.{arith}
use Rattle.reference.proofs.TargetSteps.{find_start, find_found, find_again, find_done}
use Rattle.plan.proofs.PlanSteps.{find_here, find_fits}
use borrow.Author.Rules.{rules}
use Rattle.plan.proofs.find_named.Goals as goal

pub loop-j-init : goal.loop-j-init
loop-j-init c = (search rules, search rules, search find_start)

pub overflow_add-row-in-loop-j : goal.overflow_add-row-in-loop-j
overflow_add-row-in-loop-j c = record { fits = search find_fits }

pub place-requires : goal.place-requires
place-requires c = record { worded = search rules; here = search find_here }

pub returns-then-is_named : goal.returns-then-is_named
returns-then-is_named c = search find_found

pub loop-j-preserved : goal.loop-j-preserved
loop-j-preserved c = (omega arith, search rules, search find_again)

pub returns : goal.returns
returns c = search (rules, find_done)
