use Rattle.escape.proofs.Steps.{escape_text}
use Rattle.escape.proofs.Reading.{reads_report}
use Rattle.escape.proofs.escape.Goals as goal

pub returns-clause-reads : goal.returns-clause-reads
returns-clause-reads c = reads_report _ c.args.room.now _ _ (search escape_text)
