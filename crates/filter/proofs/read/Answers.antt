use Rattle.filter.proofs.Steps.{read-other, read-bad, read_trailing, read_left, read_whole}
use native.Mathlib.Omega.{arith}
use Rattle.filter.proofs.read.Goals as goal

pub returns-then-not-utf8 : goal.returns-then-not-utf8
returns-then-not-utf8 c = search read-other

pub returns-in_err-rest : goal.returns-in_err-rest
returns-in_err-rest c = rw c.from_residual.ensures (search (read-bad, c.in_err-rest.was))

pub returns-then-rest-text : goal.returns-then-rest-text
returns-then-rest-text c = search (read_trailing, c.in_ok-rest.was)

pub overflow_sub-rest : goal.overflow_sub-rest
overflow_sub-rest c = omega (arith, read_left _ _ _ _ _ c.read_filter.ensures c.in_ok-rest.was)

pub returns : goal.returns
returns c = search (read_whole, c.in_ok-rest.was)
