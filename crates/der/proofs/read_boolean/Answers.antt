use Rattle.der.proofs.MeaningSteps.{truth-is}
use Rattle.der.proofs.read_boolean.Goals as goal

pub returns : goal.returns
returns c = search truth-is
