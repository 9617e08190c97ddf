use Rattle.rows.proofs.Steps.{names-count, names-none}
use Rattle.rows.proofs.bit_names_at.Goals as goal

pub returns-then-kind_at-eq-NAMED_BIT_STRING : goal.returns-then-kind_at-eq-NAMED_BIT_STRING
returns-then-kind_at-eq-NAMED_BIT_STRING c = search names-count

pub returns : goal.returns
returns c = search names-none
