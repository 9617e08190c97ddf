use borrow.Author.Rules.{rules}
use Rattle.bitnames.proofs.SetSteps.{list-none, list-empty, list-bits}
use Rattle.bitnames.proofs.listed_bits.Goals as goal

pub returns-then-not-in_braces : goal.returns-then-not-in_braces
returns-then-not-in_braces c = search list-none

pub returns-then-is_empty : goal.returns-then-is_empty
returns-then-is_empty c = search (rules, list-empty)

pub returns : goal.returns
returns c = search (rules, list-bits)
