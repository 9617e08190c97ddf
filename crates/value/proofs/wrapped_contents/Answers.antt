use Rattle.value.proofs.DefaultSteps.{wrapped_none, wrapped_found}
use Rattle.value.proofs.LeafSteps.{inside-fits, inside-ends}
use Rattle.value.proofs.TagSteps.{first_usable, kind_usable}
use borrow.Author.Rules.{rules}
use Rattle.value.proofs.wrapped_contents.Goals as goal

pub open_within-requires : goal.open_within-requires
open_within-requires c = record { within = search rules; usable = search first_usable }

pub returns-in_default : goal.returns-in_default
returns-in_default c = search wrapped_none

pub overflow_add-start : goal.overflow_add-start
overflow_add-start c = record { fits = search inside-fits }

pub open_within-requires-2 : goal.open_within-requires-2
open_within-requires-2 c = record { within = search inside-ends; usable = search kind_usable }

pub returns : goal.returns
returns c = search wrapped_found
