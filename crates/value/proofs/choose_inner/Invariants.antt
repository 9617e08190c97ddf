use Prim.Native.Nat.{◌-◌}
use lib.ListN.{length}
use Rattle.table.specs.Inner.Rows.{table_rows}
use Rattle.value.proofs.NestedSteps.{Descends}
use Rattle.value.proofs.choose_inner.Given as goal

abbrev pub invariant-loop-member : goal.invariant-loop-member
invariant-loop-member l = Descends l.t l.v l.row l.at l.end l.choice

abbrev pub decreases-loop-member : goal.decreases-loop-member
decreases-loop-member l = length (table_rows l.t) - l.choice
