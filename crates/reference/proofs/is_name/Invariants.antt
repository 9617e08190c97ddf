use Rattle.octets.specs.Text.{name_from, is_name}
use lib.ListN.{drop}
use mathlib.Core.Path.{◌≡◌}
use Rattle.reference.proofs.is_name.Given as goal

abbrev pub invariant-loop-i : goal.invariant-loop-i
invariant-loop-i l = name_from l.a (drop l.i l.p) ≡ is_name l.p
