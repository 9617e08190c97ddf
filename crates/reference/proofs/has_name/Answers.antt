use Rattle.reference.proofs.NameSteps.{name-short, name_longer, name-other, name-fill, name-on, name_done}
use mathlib.Core.Path.{refl}
use borrow.Author.Rules.{rules}
use Rattle.reference.proofs.has_name.Goals as goal
use Rattle.reference.proofs.has_name.Goals.{then-field-i-via-then-field-i, then-field-i-via-else-field-i+then-b-eq0}

pub returns-then-field-x : goal.returns-then-field-x
returns-then-field-x c = search name-short

pub returns-then-octet-ne0 : goal.returns-then-octet-ne0
returns-then-octet-ne0 c = search name_longer

pub loop-i-init : goal.loop-i-init
loop-i-init c = (search rules, refl)

pub returns-then-field-i : goal.returns-then-field-i
returns-then-field-i c =
    elim c.then-field-i.branch [
      | then-field-i-via-then-field-i w ↦ search (rules, name-other)
      | then-field-i-via-else-field-i+then-b-eq0 w ↦ search (rules, name-fill)
    ]

pub loop-i-preserved : goal.loop-i-preserved
loop-i-preserved c = (search rules, search (rules, name-on))

pub returns : goal.returns
returns c = search name_done
