use Rattle.table.proofs.Writing.{check_size, check_not, check_is}
use Rattle.table.proofs.check_table.Goals as goal

pub returns-then-not-fits : goal.returns-then-not-fits
returns-then-not-fits c = search check_size

pub returns-then-n-eq0 : goal.returns-then-n-eq0
returns-then-n-eq0 c = search check_not

pub returns : goal.returns
returns c = search check_is
