use Rattle.strings.proofs.ImageSteps.{high-last, high-single, high-pair, high-on, high-stays}
use Rattle.strings.proofs.read_high.Goals as goal

pub returns-in_default : goal.returns-in_default
returns-in_default c = record { image = search (high-last, c.in_default.ensures); on = search high-stays }

pub returns-then-not-is_pair : goal.returns-then-not-is_pair
returns-then-not-is_pair c = record { image = search (high-single, c.in-Some.ensures); on = search high-stays }

pub returns : goal.returns
returns c = record { image = search (high-pair, c.in-Some.ensures); on = search (high-on, c.in-Some.ensures) }
