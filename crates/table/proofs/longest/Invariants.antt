use Rattle.clauses.specs.Inner.Work.{tallest}
use Rattle.table.specs.Inner.Pass.{chain_after}
use mathlib.Core.Path.{◌≡◌}
use Rattle.table.proofs.longest.Given as goal

abbrev pub invariant-loop-j : goal.invariant-loop-j
invariant-loop-j l = l.most ≡ tallest (chain_after l.w l.first) l.j
