use Rattle.assertion.proofs.Steps.{Braces}
use Rattle.assertion.proofs.brace_at.Given as goal

abbrev pub invariant-loop-i : goal.invariant-loop-i
invariant-loop-i l = Braces l.s l.at l.i l.inner l.quoted
