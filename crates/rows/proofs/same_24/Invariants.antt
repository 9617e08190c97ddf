use Prim.Native.Nat.{◌*◌}
use mathlib.Core.Path.{◌≡◌}
use mathlib.Core.Bool.{true}
use Rattle.octets.specs.Octets.{part, same}
use Rattle.rows.proofs.same_24.Given as goal

abbrev pub invariant-loop-k : goal.invariant-loop-k
invariant-loop-k l = same (part l.t l.p (8 * l.k)) (part l.t l.q (8 * l.k)) ≡ true
