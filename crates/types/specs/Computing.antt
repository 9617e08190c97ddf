-- The definitions of this crate and those below, as one name for the `unfolding` line of a computed example.
use Rattle.std.specs.Prelude.{ℕ}
use Rattle.clauses.specs.Computing.{groups_compute}
use Rattle.types.specs.Types.{tagging_of, presence_of, member_of, members_from, bits_from, typed, type_from, type_at}
use Rattle.types.specs.Begins.{begins, member_begins, apart_at, apart, apart_from_all, alternatives_differ, apart_in_run, runs_differ, tags_apart}
use Rattle.types.specs.Admitted.{tags_differ, rows_formed, rows_named, members_agree, types_fit, admitted_rows, admitted}
use Rattle.types.specs.Inner.Work.{row_count}
use Rattle.types.specs.Check.{table_report}

unfoldable pub table_computes : ℕ
unfolding groups_compute tagging_of presence_of member_of members_from bits_from typed type_from type_at begins member_begins apart_at apart
    apart_from_all alternatives_differ apart_in_run runs_differ tags_apart tags_differ rows_formed rows_named members_agree types_fit admitted_rows admitted row_count
    table_report
table_computes = 0
