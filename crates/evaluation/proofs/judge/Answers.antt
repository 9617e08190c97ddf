use Rattle.std.proofs.lemmas.Result.{err_from_is_err_and}
use Rattle.evaluation.proofs.FilterSteps.{text_at, text-fault, text-other, text_trailing}
use Rattle.evaluation.proofs.judge.Goals as goal

pub returns-then-not-utf8 : goal.returns-then-not-utf8
returns-then-not-utf8 c = search text-other

pub returns-in_err-whole : goal.returns-in_err-whole
returns-in_err-whole c = let p = err_from_is_err_and c.from_residual.result c.from_residual.ensures.1 in rw (p.1, p.2) (search (text-fault, c.in_err-whole.was))

pub returns-then-whole-f : goal.returns-then-whole-f
returns-then-whole-f c = search (text_trailing, c.in_ok-whole.was)

pub returns : goal.returns
returns c = search (text_at, c.in_ok-whole.was)
