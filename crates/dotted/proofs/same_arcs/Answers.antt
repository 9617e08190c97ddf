use Rattle.dotted.proofs.HeldSteps.{arcs-above, arcs-differ, arcs-ended, arcs_fall, arcs-more, arcs-over, arcs-start}
use Rattle.dotted.proofs.same_arcs.Goals as goal

pub loop-a-init : goal.loop-a-init
loop-a-init c = search arcs-start

pub returns : goal.returns
returns c = search arcs-over

pub returns-in_default-next_held : goal.returns-in_default-next_held
returns-in_default-next_held c = search arcs-ended

pub returns-in_default-small_arc : goal.returns-in_default-small_arc
returns-in_default-small_arc c = search arcs-above

pub returns-then-arc-from : goal.returns-then-arc-from
returns-then-arc-from c = search arcs-differ

pub loop-a-smaller : goal.loop-a-smaller
loop-a-smaller c = search arcs_fall

pub loop-a-preserved : goal.loop-a-preserved
loop-a-preserved c = search arcs-more
