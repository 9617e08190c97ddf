use Rattle.octets.specs.Octets.{same}
use Rattle.rows.specs.Row.{unfilled}
use mathlib.Core.Path.{◌≡◌}
use Prim.Native.Nat.{◌≤◌}
use lib.ListN.{length, drop}
use Rattle.reference.proofs.has_name.Given as goal

abbrev pub invariant-loop-i : goal.invariant-loop-i
invariant-loop-i l = (l.i ≤ length l.x) × (same (unfilled (drop l.i l.field)) (drop l.i l.x) ≡ same (unfilled l.field) l.x)
