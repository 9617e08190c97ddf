use Rattle.rules.proofs.MemberRows.{member-here, member-fits}
use Rattle.rules.proofs.Steps.{row-string, row-tagged}
use Rattle.rules.proofs.is_string_row.Goals as goal

pub overflow_add-row-2 : goal.overflow_add-row-2
overflow_add-row-2 c = record { fits = search member-fits }

pub place-requires-clause-here : goal.place-requires-clause-here
place-requires-clause-here c = search member-here

pub kind_of_type-requires-clause-here : goal.kind_of_type-requires-clause-here
kind_of_type-requires-clause-here c = search member-here

pub returns-then-mode_at-eq0 : goal.returns-then-mode_at-eq0
returns-then-mode_at-eq0 c = search row-string

pub returns-else-mode_at-eq0 : goal.returns-else-mode_at-eq0
returns-else-mode_at-eq0 c = search row-tagged
