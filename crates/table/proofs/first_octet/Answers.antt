use Rattle.table.proofs.Steps.{octet-explicit, octet-implicit, octet-none, octet-own}
use Rattle.table.proofs.first_octet.Goals as goal

pub returns-then-mode-eq1 : goal.returns-then-mode-eq1
returns-then-mode-eq1 c = search octet-explicit

pub returns-then-mode-ne0 : goal.returns-then-mode-ne0
returns-then-mode-ne0 c = search octet-implicit

pub returns-then-kind-eq-CHOICE : goal.returns-then-kind-eq-CHOICE
returns-then-kind-eq-CHOICE c = search octet-none

pub returns : goal.returns
returns c = search octet-own
