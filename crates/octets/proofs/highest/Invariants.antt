use Rattle.octets.specs.Inner.Answers.{highest_from, highest}
use mathlib.Core.Path.{◌≡◌}
use lib.ListN.{drop}
use Rattle.octets.proofs.highest.Given as goal

abbrev pub invariant-loop-b : goal.invariant-loop-b
invariant-loop-b l = highest_from l.most (drop l.b-index l.s) ≡ highest l.s
