use Rattle.table.proofs.PassSteps.{Gathers, Joins}
use Rattle.types.specs.Inner.Work.{never}
use Rattle.table.proofs.choice_tags.Given as goal

abbrev pub invariant-loop-j : goal.invariant-loop-j
invariant-loop-j l = Gathers l.w never l.first l.n l.last l.set l.j × Joins l.w l.first l.n l.last l.set l.j
