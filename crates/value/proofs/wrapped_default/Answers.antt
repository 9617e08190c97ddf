use Rattle.value.proofs.LeafSteps.{contents-fits, contents-ends, holds-none, holds_same}
use borrow.Author.Rules.{rules}
use Rattle.value.proofs.wrapped_default.Goals as goal

pub wrapped_contents-requires : goal.wrapped_contents-requires
wrapped_contents-requires c = record { worded = search rules; here = search rules; member = search rules; explicit = search rules; inside = search rules }

pub returns-in_default : goal.returns-in_default
returns-in_default c = search holds-none

pub overflow_add-stop : goal.overflow_add-stop
overflow_add-stop c = record { fits = search contents-fits }

pub slice_bounds-equals_default-end : goal.slice_bounds-equals_default-end
slice_bounds-equals_default-end c = search contents-ends

pub returns : goal.returns
returns c = search holds_same
