use Rattle.strings.proofs.ImageSteps.{Seeking}
use Rattle.strings.specs.Inner.Comparing.{left}
use Rattle.strings.proofs.next_image.Given as goal

abbrev pub invariant-loop-b : goal.invariant-loop-b
invariant-loop-b l = Seeking l.fold l.form l.s l.first l.initial.before l.at l.before

abbrev pub decreases-loop-b : goal.decreases-loop-b
decreases-loop-b l = left l.form l.s l.at
