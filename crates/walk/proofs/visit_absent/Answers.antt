use Rattle.walk.proofs.VisitSteps.{absent_none, absent_noted}
use Rattle.walk.proofs.visit_absent.Goals as goal

pub returns-then-absent-eq0 : goal.returns-then-absent-eq0
returns-then-absent-eq0 c = search absent_none

pub returns : goal.returns
returns c = search absent_noted
