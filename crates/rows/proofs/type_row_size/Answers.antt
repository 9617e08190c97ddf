use Rattle.rows.proofs.Steps.{size_basic, size_group, size-list, size-named, size-name, size_none}
use Rattle.rows.proofs.type_row_size.Goals as goal

pub returns-then-within : goal.returns-then-within
returns-then-within c = search size_basic

pub returns-then-is_group : goal.returns-then-is_group
returns-then-is_group c = search size_group

pub returns-then-is_list : goal.returns-then-is_list
returns-then-is_list c = search size-list

pub returns-then-kind-eq-NAMED_BIT_STRING : goal.returns-then-kind-eq-NAMED_BIT_STRING
returns-then-kind-eq-NAMED_BIT_STRING c = search size-named

pub returns-then-within-2 : goal.returns-then-within-2
returns-then-within-2 c = search size-name

pub returns : goal.returns
returns c = search size_none
