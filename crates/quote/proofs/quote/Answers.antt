use Rattle.quote.proofs.Steps.{quote_text}
use Rattle.quote.proofs.Reading.{reads_report}
use Rattle.quote.proofs.quote.Goals as goal

pub returns-clause-reads : goal.returns-clause-reads
returns-clause-reads c = reads_report _ c.args.room.now _ _ (search quote_text)
