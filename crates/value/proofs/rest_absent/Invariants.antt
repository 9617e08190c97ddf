use mathlib.Core.Path.{◌≡◌}
use Prim.Native.Nat.{◌+◌, ◌-◌}
use Rattle.rows.specs.Paper.{table_limits}
use Rattle.types.specs.Types.{type_from, members_from}
use Rattle.table.specs.Inner.Rows.{table_rows}
use Rattle.value.specs.Inner.Work.{none_mandatory, members_on}
use Rattle.value.proofs.rest_absent.Given as goal

abbrev pub invariant-loop-j : goal.invariant-loop-j
invariant-loop-j l =
    none_mandatory (members_on l.t l.row l.from)
    ≡ none_mandatory (members_from (type_from table_limits.chain l.t (table_rows l.t)) l.t (table_rows l.t) (l.row + 1 + l.j) (l.n - l.j))
