use Rattle.walk.proofs.VisitSteps.{visit_span, visit_size, visit_is}
use Rattle.walk.proofs.visit.Goals as goal

pub overflow_sub-o : goal.overflow_sub-o
overflow_sub-o c = search visit_span

pub overflow_sub-o-2 : goal.overflow_sub-o-2
overflow_sub-o-2 c = search visit_size

pub returns : goal.returns
returns c = search visit_is
