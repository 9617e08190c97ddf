use Rattle.value.proofs.DefaultSteps.{default_none, default-is}
use borrow.Author.Rules.{rules}
use Rattle.value.proofs.is_default.Goals as goal

pub equals_default-requires : goal.equals_default-requires
equals_default-requires c = record { worded = search rules; here = search rules; member = search rules; stored = search rules }

pub returns-then-presence-eq2 : goal.returns-then-presence-eq2
returns-then-presence-eq2 c = search default-is

pub returns : goal.returns
returns c = search default_none
