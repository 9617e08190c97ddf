use Rattle.strings.specs.Inner.Comparing.{is_plain}
use lib.ListN.{drop}
use mathlib.Core.Bool.{true}
use mathlib.Core.Path.{◌≡◌}
use Rattle.strings.proofs.is_plain.Given as goal

abbrev pub invariant-loop-b : goal.invariant-loop-b
invariant-loop-b l = is_plain l.space (drop l.b-index l.p) ≡ is_plain true l.p
