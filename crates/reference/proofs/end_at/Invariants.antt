use Rattle.reference.specs.Inner.Work.{end_at}
use lib.ListN.{length}
use Prim.Native.Nat.{◌≤◌}
use mathlib.Core.Path.{◌≡◌}
use Rattle.reference.proofs.end_at.Given as goal

abbrev pub invariant-loop-i : goal.invariant-loop-i
invariant-loop-i l = (l.k ≤ l.i) × (l.i ≤ length l.r) × (end_at l.r l.k ≡ end_at l.r l.i)
