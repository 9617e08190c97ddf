use Rattle.integers.proofs.Steps.{lift_low, lift_minus, lift_plus, lift_room}
use Rattle.integers.proofs.lift.Goals as goal

pub overflow_sub-result : goal.overflow_sub-result
overflow_sub-result c = search lift_low

pub returns-then-is_below-clause-value : goal.returns-then-is_below-clause-value
returns-then-is_below-clause-value c = search lift_minus

pub overflow_add-result : goal.overflow_add-result
overflow_add-result c = record { fits = search lift_room }

pub returns-clause-value : goal.returns-clause-value
returns-clause-value c = search lift_plus
