use Rattle.evaluation.proofs.ItemSteps.{row-led}
use Rattle.evaluation.proofs.BitsSteps.{test-row, test-count, test-nothing}
use borrow.Author.Rules.{rules}
use Rattle.evaluation.proofs.bits_test.Goals as goal

pub bits_test_at-requires : goal.bits_test_at-requires
bits_test_at-requires c = record { worded = search rules; here = search row-led }

pub returns-in-Row : goal.returns-in-Row
returns-in-Row c = search test-row

pub returns-in-Count : goal.returns-in-Count
returns-in-Count c = search test-count

pub returns-in_default : goal.returns-in_default
returns-in_default c = search test-nothing
