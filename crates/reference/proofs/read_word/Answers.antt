use Rattle.reference.proofs.IdSteps.{word_is, word_bad}
use Rattle.reference.proofs.read_word.Goals as goal

pub returns-then-is_name : goal.returns-then-is_name
returns-then-is_name c = search word_is

pub returns : goal.returns
returns c = search word_bad
