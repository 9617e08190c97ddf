use Rattle.digits.specs.Inner.Answers.{bits_in, rest_bits}
use Rattle.der.specs.Meaning.{bits_of}
use Rattle.octets.specs.Octets.{same}
use lib.ListN.{drop}
use mathlib.Core.Path.{◌≡◌}
use Rattle.digits.proofs.same_bit_list.Given as goal

abbrev pub invariant-loop-i : goal.invariant-loop-i
invariant-loop-i l = same (drop l.i (bits_of l.c)) (rest_bits l.hexed l.h l.a) ≡ same (bits_of l.c) (bits_in l.hexed l.h)
