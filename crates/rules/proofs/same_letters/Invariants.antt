use mathlib.Core.List.{map}
use mathlib.Core.Path.{◌≡◌}
use lib.ListN.{drop}
use Rattle.octets.specs.Octets.{same}
use Rattle.octets.specs.Text.{lower}
use Rattle.rules.specs.Rule.{same_name}
use Rattle.rules.proofs.same_letters.Given as goal

abbrev pub invariant-loop-i : goal.invariant-loop-i
invariant-loop-i l = same (map lower (drop l.i l.a)) (map lower (drop l.i l.b)) ≡ same_name l.a l.b
