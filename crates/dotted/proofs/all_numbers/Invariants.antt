use Rattle.der.specs.Dotted.{every_number}
use Rattle.dotted.specs.Inner.Arcs.{numbers_after}
use Rattle.octets.specs.Text.{pieces}
use lib.ListN.{drop}
use mathlib.Core.Path.{◌≡◌}
use Rattle.dotted.proofs.all_numbers.Given as goal

abbrev pub invariant-loop-i : goal.invariant-loop-i
invariant-loop-i l = numbers_after l.form (drop l.i l.t) ≡ every_number (pieces (drop l.at l.t))
