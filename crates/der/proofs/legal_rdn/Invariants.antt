use Rattle.der.proofs.NameSteps.{Pairs}
use Prim.Native.Nat.{◌-◌}
use lib.ListN.{length}
use Rattle.der.proofs.legal_rdn.Given as goal

abbrev pub invariant-loop-at : goal.invariant-loop-at
invariant-loop-at l = Pairs l.c l.n l.before l.at

abbrev pub decreases-loop-at : goal.decreases-loop-at
decreases-loop-at l = length l.c - l.at
