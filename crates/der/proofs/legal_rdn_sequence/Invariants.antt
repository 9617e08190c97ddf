use Rattle.der.proofs.NameSteps.{Rdns}
use Prim.Native.Nat.{◌-◌}
use lib.ListN.{length}
use Rattle.der.proofs.legal_rdn_sequence.Given as goal

abbrev pub invariant-loop-at : goal.invariant-loop-at
invariant-loop-at l = Rdns l.c l.n l.at

abbrev pub decreases-loop-at : goal.decreases-loop-at
decreases-loop-at l = length l.c - l.at
