use mathlib.Core.Bool.{not}
use mathlib.Core.Path.{ap}
use Rattle.assertion.proofs.Steps.{word_none, word_fits, word_is}
use native.Mathlib.Omega.{arith}
use Rattle.assertion.proofs.word_at.Goals as goal

pub returns-then-not-starts : goal.returns-then-not-starts
returns-then-not-starts c = search word_none

pub overflow_add-result : goal.overflow_add-result
overflow_add-result c = let a = c.args in omega (arith, word_fits a.w.now a.s.now a.at c.starts.result c.starts.ensures (ap not c.if-not-starts.false))

pub returns : goal.returns
returns c = search word_is
