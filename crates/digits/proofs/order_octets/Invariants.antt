use Rattle.std.specs.Ordering.{nat_cmp}
use Rattle.std.specs.Cmp.Lexicographic.{slice_cmp}
use Rattle.octets.specs.Octets.{paired}
use lib.ListN.{drop}
use mathlib.Core.Path.{◌≡◌}
use Rattle.digits.proofs.order_octets.Given as goal

abbrev pub invariant-loop-b : goal.invariant-loop-b
invariant-loop-b l = slice_cmp nat_cmp (drop l.b-index l.c) (paired (drop l.j l.h)) ≡ slice_cmp nat_cmp l.c (paired l.h)
