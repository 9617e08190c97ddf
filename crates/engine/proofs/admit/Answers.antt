use Rattle.engine.proofs.ListSteps.{admit_not, admit_words, admit_told}
use Rattle.engine.proofs.admit.Goals as goal

pub returns-then-admit_table-eq0 : goal.returns-then-admit_table-eq0
returns-then-admit_table-eq0 c = record { told = search admit_not; words = search admit_words }

pub returns : goal.returns
returns c = record { told = search admit_told; words = search admit_words }
