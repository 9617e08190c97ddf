use Rattle.assertion.proofs.Steps.{rule-bare, rule_labelled}
use Rattle.assertion.proofs.rule_part.Goals as goal

pub returns-in_err-p : goal.returns-in_err-p
returns-in_err-p c = rw c.from_residual.ensures (search (rule-bare, c.in_err-p.was))

pub returns : goal.returns
returns c = search (rule_labelled, c.in_ok-p.was)
