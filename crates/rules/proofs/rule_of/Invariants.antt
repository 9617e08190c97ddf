use mathlib.Core.List.{map}
use mathlib.Core.Bool.{true}
use mathlib.Core.Path.{◌≡◌}
use lib.ListN.{drop}
use Rattle.rules.specs.Rule.{known_rules, rule_of}
use Rattle.rules.proofs.NameSteps.{row_of, formed}
use Rattle.rules.proofs.rule_of.Given as goal

abbrev pub invariant-loop-name : goal.invariant-loop-name
invariant-loop-name l = (rule_of (map row_of (drop l.name-index l.name-items)) l.t ≡ rule_of known_rules l.t) × (formed (drop l.name-index l.name-items) ≡ true)
