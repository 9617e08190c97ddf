use mathlib.Core.Path.{refl}
use Rattle.reference.proofs.IdSteps.{end_dot, end_on, end-done}
use borrow.Author.Rules.{rules}
use Rattle.reference.proofs.end_at.Goals as goal

pub loop-i-init : goal.loop-i-init
loop-i-init c = (search rules, search rules, refl)

pub returns-then-r-i-eq46 : goal.returns-then-r-i-eq46
returns-then-r-i-eq46 c = record { value = search end_dot; after = search rules; within = search rules }

pub loop-i-preserved : goal.loop-i-preserved
loop-i-preserved c = (search rules, search rules, search end_on)

pub returns : goal.returns
returns c = record { value = search end-done; after = search rules; within = search rules }
