use Rattle.value.proofs.LeafSteps.{inside-fits, inside-ends}
use Rattle.value.proofs.PlainSteps.{plain-misfit, plain-default, plain-is}
use Rattle.value.proofs.FirstSteps.{seen_usable}
use borrow.Author.Rules.{rules}
use Rattle.value.proofs.check_plain.Goals as goal

pub open_seen-requires : goal.open_seen-requires
open_seen-requires c = record { within = search rules; here = search rules; usable = search seen_usable }

pub returns-in_default : goal.returns-in_default
returns-in_default c = search plain-misfit

pub is_default-requires : goal.is_default-requires
is_default-requires c = record { worded = search rules; here = search rules; member = search rules; inside = search inside-ends }

pub returns-then-is_default : goal.returns-then-is_default
returns-then-is_default c = search plain-default

pub overflow_add-start : goal.overflow_add-start
overflow_add-start c = record { fits = search inside-fits }

pub check_basic-requires : goal.check_basic-requires
check_basic-requires c = record { ordered = search rules; inside = search inside-ends }

pub returns : goal.returns
returns c = search plain-is
