use Rattle.value.proofs.TagSteps.{tags-apart, tags-class}
use Rattle.value.proofs.same_tag.Goals as goal

pub returns-else-a-b : goal.returns-else-a-b
returns-else-a-b c = search tags-apart

pub returns-then-a-b : goal.returns-then-a-b
returns-then-a-b c = search tags-class
