use Rattle.octets.specs.Octets.{same}
use Rattle.strings.specs.Prepared.{prepared}
use Rattle.strings.specs.Inner.Comparing.{folded, same_from}
use mathlib.Core.Path.{◌≡◌}
use Rattle.strings.proofs.same_prepared.Given as goal

abbrev pub invariant-loop-i : goal.invariant-loop-i
invariant-loop-i l = same_from l.fold l.c l.x l.i ≡ same (prepared l.fold l.c) (folded l.fold l.x)
