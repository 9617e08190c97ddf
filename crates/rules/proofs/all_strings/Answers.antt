use Rattle.octets.proofs.Laws.{all-bad, all_done, all_more, all_none}
use Rattle.rules.specs.Inner.Answers.{string_row}
use native.Mathlib.Omega.{arith}
use borrow.Author.Rules.{rules}
use Rattle.rules.proofs.all_strings.Goals as goal

pub loop-j-init : goal.loop-j-init
loop-j-init c = (search rules, all_none (string_row _ _))

pub returns-then-not-is_string_row : goal.returns-then-not-is_string_row
returns-then-not-is_string_row c = search all-bad

pub loop-j-preserved : goal.loop-j-preserved
loop-j-preserved c = (omega arith, search all_more)

pub returns : goal.returns
returns c = search all_done
