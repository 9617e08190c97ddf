use Rattle.rows.proofs.Steps.{type-plain, type-named, type-name}
use Rattle.rows.proofs.is_type_kind.Goals as goal

pub returns-then-within : goal.returns-then-within
returns-then-within c = search type-plain

pub returns-then-kind-eq-NAMED_BIT_STRING : goal.returns-then-kind-eq-NAMED_BIT_STRING
returns-then-kind-eq-NAMED_BIT_STRING c = search type-named

pub returns : goal.returns
returns c = search type-name
