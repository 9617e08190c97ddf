use Rattle.walk.proofs.Members.{inside_wrapped, inside-bare}
use Rattle.walk.proofs.inside.Goals as goal

pub returns-then-tagged-eq1 : goal.returns-then-tagged-eq1
returns-then-tagged-eq1 c = search inside_wrapped

pub returns : goal.returns
returns c = search inside-bare
