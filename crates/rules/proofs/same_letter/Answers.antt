use Rattle.rules.proofs.NameSteps.{upper-fits, letter-same, letter-upper, letter-lower, letter-differs}
use Rattle.rules.proofs.same_letter.Goals as goal

pub returns-then-a-b : goal.returns-then-a-b
returns-then-a-b c = search letter-same

pub overflow_add-result : goal.overflow_add-result
overflow_add-result c = record { fits = search upper-fits }

pub overflow_add-result-then-is_upper-2 : goal.overflow_add-result-then-is_upper-2
overflow_add-result-then-is_upper-2 c = record { fits = search upper-fits }

pub returns-then-is_upper : goal.returns-then-is_upper
returns-then-is_upper c = search letter-upper

pub returns-then-is_upper-2 : goal.returns-then-is_upper-2
returns-then-is_upper-2 c = search letter-lower

pub returns : goal.returns
returns c = search letter-differs
