use Rattle.plan.proofs.TaskLaws.{test_set, steps_kept, filled-long}
use Rattle.plan.proofs.set_test.Goals as goal

pub returns : goal.returns
returns c = record { task = search test_set; steps = search steps_kept }
