use Rattle.der.proofs.SubSteps.{legal_from}
use Rattle.der.specs.Contents.{subidentifiers, legal_oid}
use mathlib.Core.Path.{◌≡◌}
use Prim.Native.Nat.{◌-◌, ◌≤◌}
use lib.ListN.{length, drop}
use Rattle.der.proofs.legal_oid.Given as goal

abbrev pub invariant-loop-i : goal.invariant-loop-i
invariant-loop-i l = (l.n ≤ 32) × (legal_from l.n (subidentifiers (drop l.i l.c)) ≡ legal_oid l.c)

abbrev pub decreases-loop-i : goal.decreases-loop-i
decreases-loop-i l = length l.c - l.i
