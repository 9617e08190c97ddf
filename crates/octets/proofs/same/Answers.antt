use mathlib.Core.Path.{◌∙◌}
use Rattle.octets.proofs.Steps.{same_pointwise}
use Rattle.octets.proofs.same.Goals as goal

pub returns : goal.returns
returns c = c.eq.ensures ∙ same_pointwise c.args.a.now c.args.b.now
