use Rattle.value.proofs.ElementSteps.{element-here, leaves_are}
use borrow.Author.Rules.{rules}
use Rattle.value.proofs.has_leaves.Goals as goal

pub kind-requires : goal.kind-requires
kind-requires c = record { worded = search rules; here = search element-here }

pub returns : goal.returns
returns c = search leaves_are
