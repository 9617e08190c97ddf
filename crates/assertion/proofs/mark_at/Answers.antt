use Rattle.assertion.proofs.Steps.{mark-other, mark-is}
use Rattle.assertion.proofs.mark_at.Goals as goal

pub returns-then-octet-c : goal.returns-then-octet-c
returns-then-octet-c c = search mark-other

pub returns : goal.returns
returns c = search mark-is
