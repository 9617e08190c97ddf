use Prim.Native.Nat.{◌-◌}
use lib.ListN.{length}
use Rattle.der.proofs.ContentsSteps.{Skipped}
use Rattle.der.proofs.skip_printable.Given as goal

abbrev pub invariant-loop-i : goal.invariant-loop-i
invariant-loop-i l = Skipped l.c l.i

abbrev pub decreases-loop-i : goal.decreases-loop-i
decreases-loop-i l = length l.c - l.i
