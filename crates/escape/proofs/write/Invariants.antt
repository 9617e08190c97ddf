use Rattle.escape.proofs.Steps.{Escapes}
use Rattle.escape.proofs.write.Given as goal

abbrev pub invariant-loop-i : goal.invariant-loop-i
invariant-loop-i l = Escapes l.text l.initial.room l.n l.i l.room
