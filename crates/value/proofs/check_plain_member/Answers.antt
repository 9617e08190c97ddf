use Rattle.value.proofs.FirstSteps.{plain-past, seen-is, plain_here, plain-wrong, plain_absent}
use borrow.Author.Rules.{rules}
use Rattle.value.proofs.check_plain_member.Goals as goal

pub returns-then-stop-i : goal.returns-then-stop-i
returns-then-stop-i c = search plain-past

pub check_plain-requires : goal.check_plain-requires
check_plain-requires c = record { worded = search rules; here = search rules; member = search rules; plain = search rules; inside = search rules; before = search rules; seen = search seen-is }

pub returns-then-o-first : goal.returns-then-o-first
returns-then-o-first c = search plain_here

pub returns-then-same_tag : goal.returns-then-same_tag
returns-then-same_tag c = search plain-wrong

pub returns : goal.returns
returns c = search plain_absent
