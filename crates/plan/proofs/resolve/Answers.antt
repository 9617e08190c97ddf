use Rattle.reference.proofs.FollowSteps.{target-whole, target_is}
use Rattle.plan.proofs.Resolving.{first-within, resolves-whole, resolves-given, whole-task, whole_long}
use borrow.Author.Rules.{rules}
use Rattle.plan.proofs.resolve.Goals as goal

pub returns-then-not-given : goal.returns-then-not-given
returns-then-not-given c = record { leads = search target-whole; within = search first-within; planned = search resolves-whole; task = search whole-task }

pub returns : goal.returns
returns c = record { leads = search target_is; within = search rules; planned = search resolves-given; task = search rules }
