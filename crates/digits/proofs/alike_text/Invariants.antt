use Rattle.der.specs.Meaning.{bits_of}
use Rattle.digits.specs.Inner.Alike.{alike}
use Rattle.digits.specs.Inner.Answers.{bits_in, rest_bits}
use lib.ListN.{drop}
use mathlib.Core.Path.{◌≡◌}
use Rattle.digits.proofs.alike_text.Given as goal

abbrev pub invariant-loop-i : goal.invariant-loop-i
invariant-loop-i l = alike (drop l.i (bits_of l.c)) (rest_bits l.hexed l.h l.a) ≡ alike (bits_of l.c) (bits_in l.hexed l.h)
