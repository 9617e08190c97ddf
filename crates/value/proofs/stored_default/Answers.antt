use Rattle.value.proofs.DefaultSteps.{presence-is, explicit-is, stored_told}
use Rattle.value.proofs.LeafSteps.{stored_not}
use borrow.Author.Rules.{rules}
use Rattle.value.proofs.stored_default.Goals as goal

pub returns-else-presence-eq2 : goal.returns-else-presence-eq2
returns-else-presence-eq2 c = search stored_not

pub wrapped_default-requires : goal.wrapped_default-requires
wrapped_default-requires c = record { worded = search rules; here = search rules; member = search rules; explicit = search explicit-is; stored = search presence-is; inside = search rules }

pub returns-then-presence-eq2 : goal.returns-then-presence-eq2
returns-then-presence-eq2 c = search stored_told
