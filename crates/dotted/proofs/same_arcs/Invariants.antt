use Rattle.der.specs.Dotted.{dotted_arcs}
use Rattle.der.specs.Meaning.{arcs_of}
use Rattle.dotted.specs.Inner.Arcs.{rest_pieces}
use Rattle.dotted.specs.Inner.Held.{matches, rest_arcs, rest_held}
use Rattle.octets.specs.Octets.{same}
use lib.ListN.{length}
use mathlib.Core.Path.{◌≡◌}
use Rattle.dotted.proofs.same_arcs.Given as goal

abbrev pub invariant-loop-a : goal.invariant-loop-a
invariant-loop-a l = matches (rest_held l.c l.h) (rest_arcs l.t l.a) ≡ same (arcs_of l.c) (dotted_arcs l.t)

abbrev pub decreases-loop-a : goal.decreases-loop-a
decreases-loop-a l = length (rest_pieces l.t l.a)
