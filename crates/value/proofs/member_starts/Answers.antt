use mathlib.Core.Path.{◌∙◌}
use borrow.Author.Tests.{le-ltb}
use Rattle.value.proofs.TagSteps.{starts-past, starts_is}
use Rattle.value.proofs.member_starts.Goals as goal

pub returns-else-i-stop : goal.returns-else-i-stop
returns-else-i-stop c = le-ltb _ _ c.if-i-stop.false ∙ search starts-past

pub returns-then-i-stop : goal.returns-then-i-stop
returns-then-i-stop c = search starts_is
