use Rattle.dotted.proofs.Steps.{under-bad, under-end, under-is, under-wrong}
use Rattle.dotted.proofs.dotted_under.Goals as goal

pub returns-then-not-arc : goal.returns-then-not-arc
returns-then-not-arc c = search under-bad

pub returns-then-not-are_roots : goal.returns-then-not-are_roots
returns-then-not-are_roots c = search under-wrong

pub returns-in_default : goal.returns-in_default
returns-in_default c = search under-end

pub returns : goal.returns
returns c = search under-is
