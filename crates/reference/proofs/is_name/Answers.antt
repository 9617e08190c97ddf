use Rattle.reference.proofs.IdSteps.{name-other, name-start, name-bad, name-more, name-letter, name-whole}
use Rattle.reference.proofs.is_name.Goals as goal
use Rattle.reference.proofs.is_name.Goals.{else-not-is_letter-via-then-not-is_letter+else-not-may_follow, else-not-is_letter-via-else-not-is_letter}

pub returns-then-not-is_lower : goal.returns-then-not-is_lower
returns-then-not-is_lower c = search name-other

pub loop-i-init : goal.loop-i-init
loop-i-init c = search name-start

pub returns-then-not-may_follow : goal.returns-then-not-may_follow
returns-then-not-may_follow c = search name-bad

pub loop-i-preserved : goal.loop-i-preserved
loop-i-preserved c =
    elim c.else-not-is_letter.branch [
      | else-not-is_letter-via-then-not-is_letter+else-not-may_follow w ↦ search name-more
      | else-not-is_letter-via-else-not-is_letter w ↦ search name-letter
    ]

pub returns : goal.returns
returns c = search name-whole
