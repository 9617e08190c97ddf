use Rattle.value.specs.Inner.Work.{first, starts_of}
use Rattle.rows.specs.Paper.{table_limits}
use Rattle.table.specs.Inner.Rows.{table_rows}
use mathlib.Core.Path.{◌≡◌}
use Prim.Native.Nat.{◌-◌}
use Rattle.value.proofs.choose.Given as goal

abbrev pub invariant-loop-j : goal.invariant-loop-j
invariant-loop-j l =
    first (starts_of table_limits.chain l.t (table_rows l.t) l.row l.v l.end l.at) l.n 0
    ≡ first (starts_of table_limits.chain l.t (table_rows l.t) l.row l.v l.end l.at) (l.n - l.j) l.j
