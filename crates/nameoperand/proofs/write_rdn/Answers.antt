use Rattle.nameoperand.proofs.WritingSteps.{single-read, single-written, single-long}
use borrow.Author.Rules.{rules}
use Rattle.nameoperand.proofs.write_rdn.Goals as goal

pub write_from-written-requires : goal.write_from-written-requires
write_from-written-requires c = record { short = search rules; behind = search rules; read = search single-read }

pub returns : goal.returns
returns c = search single-written
