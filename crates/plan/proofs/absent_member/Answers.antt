use Rattle.plan.proofs.Resolving.{absent_none, absent_passes, absent_fails}
use Rattle.plan.proofs.absent_member.Goals as goal

pub returns-then-presence-ne2 : goal.returns-then-presence-ne2
returns-then-presence-ne2 c = search absent_none

pub returns-then-passes_contents : goal.returns-then-passes_contents
returns-then-passes_contents c = search absent_passes

pub returns : goal.returns
returns c = search absent_fails
