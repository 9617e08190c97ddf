use Rattle.std.proofs.lemmas.Result.{err_from_is_err_and}
use Rattle.evaluation.proofs.FilterSteps.{assertion-bad, assertion_full, assertion_judged, assertion_over, assertion-passed}
use Rattle.evaluation.proofs.judge_assertion.Goals as goal

pub returns-then-left-eq0 : goal.returns-then-left-eq0
returns-then-left-eq0 c = search assertion_full

pub returns-in_default : goal.returns-in_default
returns-in_default c = search assertion-bad

pub returns-then-not-left : goal.returns-then-not-left
returns-then-not-left c = rw c.of-judged.ensures (search assertion-passed)

pub returns-in_err-judged : goal.returns-in_err-judged
returns-in_err-judged c = let p = err_from_is_err_and c.from_residual.result c.from_residual.ensures.1 in rw (p.1, p.2) (search (assertion_over, c.in_err-judged.was))

pub returns : goal.returns
returns c = search (assertion_judged, c.in_ok-judged.was)
