use Prim.Native.Nat.{◌-◌}
use Rattle.rows.specs.Paper.{table_limits}
use Rattle.table.specs.Inner.Rows.{table_rows}
use Rattle.value.proofs.ElementSteps.{Listed}
use Rattle.value.proofs.check_alike.Given as goal

abbrev pub invariant-loop-i : goal.invariant-loop-i
invariant-loop-i l = Listed table_limits.chain l.t (table_rows l.t) l.row l.v l.start l.stop l.before l.i

abbrev pub decreases-loop-i : goal.decreases-loop-i
decreases-loop-i l = l.stop - l.i
