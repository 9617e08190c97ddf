-- The check: each need is answered by one lemma.
use Prim.Native.Nat.{◌*◌, ◌+◌, ◌-◌}
use Rattle.value.proofs.MemberSteps.{Fielded}
use Rattle.value.proofs.ElementSteps.{Listed}
use lib.ListN.{length}
use Rattle.rows.specs.Paper.{table_limits}
use Rattle.rows.specs.Row.{row_at, named_at}
use Rattle.table.specs.Inner.Rows.{table_rows}
use Rattle.value.proofs.+check.Given as goal

abbrev pub decreases-check : goal.decreases-check
decreases-check l = 5 * (length (table_rows l.t.now) - l.row) + 3

abbrev pub decreases-check_choice : goal.decreases-check_choice
decreases-check_choice l = 5 * (length (table_rows l.t.now) - l.row) + 2

abbrev pub decreases-check_elements : goal.decreases-check_elements
decreases-check_elements l = 5 * (length (table_rows l.t.now) - l.row) + 2

abbrev pub invariant-check_elements-loop-i : goal.invariant-check_elements-loop-i
invariant-check_elements-loop-i l = Listed table_limits.chain l.t (table_rows l.t) l.row l.v l.start l.stop l.before l.i

abbrev pub decreases-check_elements-loop-i : goal.decreases-check_elements-loop-i
decreases-check_elements-loop-i l = l.stop - l.i

abbrev pub decreases-check_fields : goal.decreases-check_fields
decreases-check_fields l = 5 * (length (table_rows l.t.now) - l.row) + 2

abbrev pub invariant-check_fields-loop-j : goal.invariant-check_fields-loop-j
invariant-check_fields-loop-j l = Fielded table_limits.chain l.t (table_rows l.t) l.row l.v l.start l.stop l.n l.i l.j

abbrev pub decreases-check_member : goal.decreases-check_member
decreases-check_member l = 5 * (length (table_rows l.t.now) - named_at l.t.now (row_at (table_rows l.t.now) l.row)) + 6

abbrev pub decreases-check_tagged : goal.decreases-check_tagged
decreases-check_tagged l = 5 * (length (table_rows l.t.now) - named_at l.t.now (row_at (table_rows l.t.now) l.row)) + 5

abbrev pub decreases-check_wrapped : goal.decreases-check_wrapped
decreases-check_wrapped l = 5 * (length (table_rows l.t.now) - l.row) + 4
