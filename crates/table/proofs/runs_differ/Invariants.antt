use Rattle.table.proofs.PassSteps.{Gathers}
use Rattle.table.specs.Inner.Pass.{mandatory_in}
use Rattle.table.proofs.runs_differ.Given as goal

abbrev pub invariant-loop-j : goal.invariant-loop-j
invariant-loop-j l = Gathers l.w (mandatory_in l.w) l.first l.n l.last l.set l.j
