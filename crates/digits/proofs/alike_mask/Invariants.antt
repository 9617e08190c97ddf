use Rattle.der.specs.Meaning.{bits_of}
use Rattle.digits.specs.Inner.Alike.{alike_number}
use lib.ListN.{drop}
use mathlib.Core.Path.{◌≡◌}
use Rattle.digits.proofs.alike_mask.Given as goal

abbrev pub invariant-loop-i : goal.invariant-loop-i
invariant-loop-i l = alike_number (drop l.i (bits_of l.c)) l.rest ≡ alike_number (bits_of l.c) l.mask
