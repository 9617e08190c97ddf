use Rattle.rules.proofs.NameSteps.{name_differs, name_done, name-more, name-start}
use Rattle.rules.proofs.same_letters.Goals as goal

pub loop-i-init : goal.loop-i-init
loop-i-init c = search name-start

pub returns-then-not-same_letter : goal.returns-then-not-same_letter
returns-then-not-same_letter c = search name_differs

pub loop-i-preserved : goal.loop-i-preserved
loop-i-preserved c = search name-more

pub returns : goal.returns
returns c = search name_done
