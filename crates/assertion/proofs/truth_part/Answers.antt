use Rattle.assertion.proofs.Steps.{truth_true, truth_false, truth-none}
use Rattle.assertion.proofs.truth_part.Goals as goal

pub returns-in-Some : goal.returns-in-Some
returns-in-Some c = search truth_true

pub returns-in-Some-word_at : goal.returns-in-Some-word_at
returns-in-Some-word_at c = search truth_false

pub returns : goal.returns
returns c = search truth-none
