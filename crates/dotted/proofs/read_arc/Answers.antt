use Rattle.dotted.proofs.ArcSteps.{arc_done, arc_dot, arc_more, arc_start}
use Rattle.dotted.proofs.read_arc.Goals as goal

pub loop-i-init : goal.loop-i-init
loop-i-init c = search arc_start

pub returns-then-b-eq46 : goal.returns-then-b-eq46
returns-then-b-eq46 c = search arc_dot

pub loop-i-preserved : goal.loop-i-preserved
loop-i-preserved c = search arc_more

pub returns : goal.returns
returns c = search arc_done
