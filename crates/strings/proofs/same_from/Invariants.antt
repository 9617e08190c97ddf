use Rattle.strings.specs.Inner.Comparing.{beside, same_from, weight}
use mathlib.Core.Path.{◌≡◌}
use Rattle.strings.proofs.same_from.Given as goal

abbrev pub invariant-loop-same : goal.invariant-loop-same
invariant-loop-same l = beside l.fold l.c l.x l.s ≡ same_from l.fold l.c l.x l.first

abbrev pub decreases-loop-same : goal.decreases-loop-same
decreases-loop-same l = weight l.fold l.c l.s
