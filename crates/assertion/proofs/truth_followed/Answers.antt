use Rattle.assertion.proofs.Steps.{truth-alone, truth-followed}
use Rattle.assertion.proofs.truth_followed.Goals as goal

pub returns-in_err-p : goal.returns-in_err-p
returns-in_err-p c = rw c.from_residual.ensures (search (truth-alone, c.in_err-p.was))

pub returns : goal.returns
returns c = search (truth-followed, c.in_ok-p.was)
