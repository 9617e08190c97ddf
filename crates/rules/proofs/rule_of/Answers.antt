use mathlib.Core.Path.{refl}
use Rattle.octets.specs.Text.{is_digit, is_upper, lower}
use Rattle.rules.specs.Rule.{known_rules}
use Rattle.rules.proofs.NameSteps.{row-number, row-word, rows-formed, rule-here, rule-after, rule-none}
use Rattle.rules.proofs.rule_of.Goals as goal

pub loop-name-init : goal.loop-name-init
unfolding known_rules is_digit is_upper lower
loop-name-init c = (refl, refl)

pub is_called-requires-clause-word : goal.is_called-requires-clause-word
is_called-requires-clause-word c = search row-word

pub is_called-requires-clause-number : goal.is_called-requires-clause-number
is_called-requires-clause-number c = search row-number

pub returns-then-is_called : goal.returns-then-is_called
returns-then-is_called c = search rule-here

pub loop-name-preserved : goal.loop-name-preserved
loop-name-preserved c = (search rule-after, search rows-formed)

pub returns : goal.returns
returns c = search rule-none
