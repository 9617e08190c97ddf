use Rattle.dotted.specs.Inner.Arcs.{arc_at, arc_from}
use lib.ListN.{drop}
use mathlib.Core.Path.{◌≡◌}
use Rattle.dotted.proofs.read_arc.Given as goal

abbrev pub invariant-loop-i : goal.invariant-loop-i
invariant-loop-i l = arc_from l.d (drop l.i l.t) l.i ≡ arc_at l.t l.at
