use Rattle.reference.proofs.IdSteps.{other_word, other-end, other_name}
use Rattle.reference.proofs.read_other.Goals as goal

pub returns-then-octet-ne45 : goal.returns-then-octet-ne45
returns-then-octet-ne45 c = search other_word

pub returns-then-is_position : goal.returns-then-is_position
returns-then-is_position c = search other-end

pub returns : goal.returns
returns c = search other_name
