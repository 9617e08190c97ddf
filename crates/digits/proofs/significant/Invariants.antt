use Rattle.digits.specs.Inner.Significant.{significant}
use lib.ListN.{length}
use mathlib.Core.Path.{◌≡◌}
use Rattle.digits.proofs.significant.Given as goal

abbrev pub invariant-loop-last : goal.invariant-loop-last
invariant-loop-last l = significant l.last l.h ≡ significant (length l.h) l.h

abbrev pub decreases-loop-last : goal.decreases-loop-last
decreases-loop-last l = l.last
