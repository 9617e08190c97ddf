use Rattle.names.proofs.NameSteps.{rdn-over, rdn-none, rdn-done, rdn-more}
use borrow.Author.Rules.{rules}
use Rattle.names.proofs.rdn_end.Goals as goal

pub returns-in_err-end : goal.returns-in_err-end
returns-in_err-end c = rw c.from_residual.ensures (search (rules, rdn-none, c.in_err-end.was))

pub returns-then-octet-ne43 : goal.returns-then-octet-ne43
returns-then-octet-ne43 c = search (rules, rdn-done, c.in_ok-end.was)

pub loop-preserved : goal.loop-preserved
loop-preserved c = search (rules, rdn-more, c.in_ok-end.was)

pub returns : goal.returns
returns c = search (rules, rdn-over)
