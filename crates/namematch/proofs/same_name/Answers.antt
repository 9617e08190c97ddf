use Rattle.namematch.proofs.NameSteps.{name-empty, name-other, name-last, name-within}
use Rattle.der.proofs.NameLaws.{rdn_usable}
use mathlib.Core.Path.{◌∙◌}
use Rattle.namematch.proofs.same_name.Goals as goal

pub count-n-requires : goal.count-n-requires
count-n-requires c = search rdn_usable

pub returns-then-n-eq0 : goal.returns-then-n-eq0
returns-then-n-eq0 c = c.is_empty.ensures ∙ search name-empty

pub returns-else-same_last : goal.returns-else-same_last
returns-else-same_last c = search name-other

pub same_before-requires : goal.same_before-requires
same_before-requires c = record { within = search name-within; rest = search name-last }
