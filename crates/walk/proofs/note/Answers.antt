use Rattle.walk.proofs.VisitSteps.{note_count, note_list, note_test}
use Rattle.walk.proofs.note.Goals as goal

pub returns-then-task-eq0 : goal.returns-then-task-eq0
returns-then-task-eq0 c = search note_count

pub returns-then-task-eq1 : goal.returns-then-task-eq1
returns-then-task-eq1 c = search note_list

pub returns : goal.returns
returns c = search note_test
