use Rattle.engine.proofs.ListSteps.{reference-none, reference-given}
use Rattle.engine.proofs.reference_fits.Goals as goal

pub returns-then-not-given : goal.returns-then-not-given
returns-then-not-given c = search reference-none

pub returns : goal.returns
returns c = search reference-given
