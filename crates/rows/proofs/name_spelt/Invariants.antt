use Prim.Native.Nat.{◌<◌}
use mathlib.Core.Path.{◌≡◌}
use mathlib.Core.Bool.{true}
use Rattle.octets.specs.Pick.{all}
use Rattle.rows.specs.Body.{followed}
use Rattle.rows.specs.Row.{name_octet_at}
use Rattle.rows.proofs.name_spelt.Given as goal

abbrev pub invariant-loop-j : goal.invariant-loop-j
invariant-loop-j l = (all (followed l.t l.p) l.j ≡ true) × (0 < name_octet_at l.t l.p l.j)
