use Rattle.strings.proofs.Preparing.{Preparing}
use Rattle.strings.specs.Inner.Comparing.{left}
use Rattle.strings.proofs.prepare_behind.Given as goal

abbrev pub invariant-loop-found : goal.invariant-loop-found
invariant-loop-found l = Preparing l.fold l.form l.p l.from l.initial.memory l.at l.before l.n l.memory

abbrev pub decreases-loop-found : goal.decreases-loop-found
decreases-loop-found l = left l.form l.p l.at
