use Rattle.der.proofs.NameLaws.{type_usable}
use Rattle.der.proofs.NameSteps.{pair-misfit, contents-fit, pair_no_type, pair_is}
use borrow.Author.Rules.{rules}
use Rattle.der.proofs.legal_pair.Goals as goal

pub open_within-requires : goal.open_within-requires
open_within-requires c = record { within = search rules; usable = search type_usable }

pub returns-in_default : goal.returns-in_default
returns-in_default c = search pair-misfit

pub returns-else-legal_oid : goal.returns-else-legal_oid
returns-else-legal_oid c = search pair_no_type

pub overflow_add-start : goal.overflow_add-start
overflow_add-start c = record { fits = search contents-fit }

pub returns-then-legal_oid : goal.returns-then-legal_oid
returns-then-legal_oid c = search pair_is
