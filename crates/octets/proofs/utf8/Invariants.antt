use Rattle.octets.specs.Utf8.{utf8_from, utf8}
use mathlib.Core.Path.{◌≡◌}
use lib.ListN.{drop}
use Rattle.octets.proofs.utf8.Given as goal

abbrev pub invariant-loop-b : goal.invariant-loop-b
invariant-loop-b l = utf8_from l.a (drop l.b-index l.s) ≡ utf8 l.s
