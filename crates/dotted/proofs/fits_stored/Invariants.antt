use Rattle.std.specs.Prelude.{Some}
use Rattle.dotted.specs.Inner.Stored.{fitting}
use Rattle.dotted.specs.Inner.Held.{rest_arcs}
use Rattle.der.specs.Dotted.{dotted_arcs}
use mathlib.Core.Path.{◌≡◌}
use Rattle.dotted.proofs.fits_stored.Given as goal

abbrev pub invariant-loop-left : goal.invariant-loop-left
invariant-loop-left l = fitting l._left (rest_arcs l.t (Some l.i)) ≡ fitting 33 (dotted_arcs l.t)

abbrev pub decreases-loop-left : goal.decreases-loop-left
decreases-loop-left l = l._left
