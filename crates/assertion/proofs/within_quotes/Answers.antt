use Rattle.assertion.proofs.Steps.{quotes_none}
use Rattle.assertion.proofs.within_quotes.Goals as goal

pub returns-then-b-a : goal.returns-then-b-a
returns-then-b-a c = search quotes_none
