use Rattle.digits.specs.Inner.Alike.{alike}
use Rattle.digits.specs.Inner.Answers.{rest_bits}
use lib.ListN.{length}
use mathlib.Core.List.{[]}
use mathlib.Core.Path.{◌≡◌}
use Rattle.digits.proofs.zeros_from.Given as goal

abbrev pub invariant-loop-drawn : goal.invariant-loop-drawn
invariant-loop-drawn l = alike [] (rest_bits l.hexed l.h l.a) ≡ alike [] (rest_bits l.hexed l.h l.initial.a)

abbrev pub decreases-loop-drawn : goal.decreases-loop-drawn
decreases-loop-drawn l = length (rest_bits l.hexed l.h l.a)
