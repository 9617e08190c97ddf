use lib.ListN.{length}
use Prim.Native.Nat.{◌+◌, ◌-◌}
use Rattle.plan.proofs.Resolving.{Steps}
use Rattle.plan.proofs.follow.Given as goal

abbrev pub invariant-loop-place : goal.invariant-loop-place
invariant-loop-place l = Steps l.t l.r l.x l.defaults l.initial.q l.q l.row l.place l.step

abbrev pub decreases-loop-place : goal.decreases-loop-place
decreases-loop-place l = length l.r + 1 - l.place
