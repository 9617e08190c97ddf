use Rattle.dotted.proofs.Steps.{dotted-alone, dotted-bad, dotted-is, dotted_joint}
use Rattle.dotted.proofs.is_dotted.Goals as goal

pub returns-then-is_joint : goal.returns-then-is_joint
returns-then-is_joint c = search dotted_joint

pub returns-then-not-arc : goal.returns-then-not-arc
returns-then-not-arc c = search dotted-bad

pub returns-in_default : goal.returns-in_default
returns-in_default c = search dotted-alone

pub returns : goal.returns
returns c = search dotted-is
