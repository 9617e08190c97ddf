use Prim.Native.Nat.{◌+◌, ◌-◌}
use lib.ListN.{length}
use Rattle.bitnames.specs.Inner.Sets.{names_after}
use Rattle.bitnames.proofs.SetSteps.{Gathering}
use Rattle.bitnames.proofs.listed_in.Given as goal

abbrev pub invariant-loop-at : goal.invariant-loop-at
invariant-loop-at l = Gathering (names_after l.t l.row) l.s l.at l.set

abbrev pub decreases-loop-at : goal.decreases-loop-at
decreases-loop-at l = length l.s + 1 - l.at
