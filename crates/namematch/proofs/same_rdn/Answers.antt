use Rattle.namematch.proofs.Steps.{match_other, match_start, match_done, match_low, match_misfit, match_none, match_more}
use Rattle.der.proofs.NameLaws.{pair_usable}
use Rattle.der.proofs.NameSteps.{contents-fit}
use borrow.Author.Rules.{rules}
use Rattle.namematch.proofs.same_rdn.Goals as goal

pub count-requires : goal.count-requires
count-requires c = search pair_usable

pub returns-then-count-n : goal.returns-then-count-n
returns-then-count-n c = search match_other

pub loop-init : goal.loop-init
loop-init c = search match_start

pub open_within-requires : goal.open_within-requires
open_within-requires c = record { within = search rules; usable = search pair_usable }

pub returns-in_default : goal.returns-in_default
returns-in_default c = search match_misfit

pub use_attribute-requires : goal.use_attribute-requires
use_attribute-requires c = record { few = search rules; low = search match_low }

pub returns-in_default-use_attribute : goal.returns-in_default-use_attribute
returns-in_default-use_attribute c = search match_none

pub overflow_add-at : goal.overflow_add-at
overflow_add-at c = record { fits = search contents-fit }

pub loop-preserved : goal.loop-preserved
loop-preserved c = search match_more

pub returns : goal.returns
returns c = search match_done
