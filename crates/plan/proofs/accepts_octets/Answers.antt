use Rattle.plan.proofs.PassSteps.{octets-digits, octets-text, octets-named, octets-name}
use Rattle.plan.proofs.accepts_octets.Goals as goal

pub returns-then-comparison-lt-FOLDED : goal.returns-then-comparison-lt-FOLDED
returns-then-comparison-lt-FOLDED c = search octets-digits

pub returns-then-comparison-lt-NAMED_HEXADECIMAL : goal.returns-then-comparison-lt-NAMED_HEXADECIMAL
returns-then-comparison-lt-NAMED_HEXADECIMAL c = search octets-text

pub returns-then-comparison-lt-NAME : goal.returns-then-comparison-lt-NAME
returns-then-comparison-lt-NAME c = search octets-named

pub returns : goal.returns
returns c = search octets-name
