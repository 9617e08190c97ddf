use lib.ListN.{length}
use Prim.Native.Nat.{◌-◌}
use Rattle.clauses.proofs.PassSteps.{Passing}
use Rattle.clauses.proofs.scan.Given as goal

abbrev pub invariant-loop-at : goal.invariant-loop-at
invariant-loop-at l = Passing l.t l.w l.at l.n l.follower l.due l.first

abbrev pub decreases-loop-at : goal.decreases-loop-at
decreases-loop-at l = length l.t - l.at
