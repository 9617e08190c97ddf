use Rattle.value.proofs.EntrySteps.{stored-bad, stored-whole, root-here, root-typed}
use Rattle.value.proofs.TagSteps.{own_usable}
use borrow.Author.Rules.{rules}
use Rattle.value.proofs.is_stored.Goals as goal

pub own_first-tag-requires : goal.own_first-tag-requires
own_first-tag-requires c = record { worded = search rules; here = search root-here; typed = search root-typed }

pub check-requires : goal.check-requires
check-requires c = record { worded = search rules; here = search root-here; inside = search rules; usable = search own_usable }

pub returns-in_default : goal.returns-in_default
returns-in_default c = search stored-bad

pub returns : goal.returns
returns c = search stored-whole
