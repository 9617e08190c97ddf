use Rattle.reference.specs.Inner.Work.{named_of}
use Rattle.value.specs.Inner.Work.{first}
use Rattle.table.specs.Inner.Rows.{table_rows, place_at}
use Rattle.rows.specs.Row.{members_at}
use Rattle.octets.specs.Octets.{part}
use Prim.Native.Nat.{◌≤◌, ◌-◌}
use mathlib.Core.Path.{◌≡◌}
use Rattle.plan.proofs.find_named.Given as goal

abbrev pub invariant-loop-j : goal.invariant-loop-j
invariant-loop-j l = (l.j ≤ l.n) × (l.n ≡ members_at l.t (place_at l.t l.row)) × (first (named_of l.t (table_rows l.t) l.row (part l.r l.a (l.b - l.a))) l.n 0 ≡ first (named_of l.t (table_rows l.t) l.row (part l.r l.a (l.b - l.a))) (l.n - l.j) l.j)
