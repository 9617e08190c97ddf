use Rattle.strings.proofs.Preparing.{plain_end, plain_loose, plain-on}
use Rattle.strings.proofs.is_plain.Goals as goal

pub returns-then-is_loose : goal.returns-then-is_loose
returns-then-is_loose c = search plain_loose

pub loop-b-preserved : goal.loop-b-preserved
loop-b-preserved c = search plain-on

pub returns : goal.returns
returns c = search plain_end
