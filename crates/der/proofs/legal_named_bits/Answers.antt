use native.Mathlib.Omega.{arith}
use Rattle.std.proofs.lemmas.Grind.{common_steps}
use Rattle.der.specs.Contents.{legal_named_bits}
use Rattle.der.proofs.ContentsSteps.{named-long, named_first_in, named_last_in, named-unused, named-last}
use Rattle.der.proofs.legal_named_bits.Goals as goal

pub returns-else-legal_bits : goal.returns-else-legal_bits
unfolding legal_named_bits
returns-else-legal_bits c = grind (arith, common_steps)

pub returns-then-c-eq1 : goal.returns-then-c-eq1
unfolding legal_named_bits
returns-then-c-eq1 c = grind (arith, common_steps)

pub overflow_sub-result : goal.overflow_sub-result
overflow_sub-result c = search named-long

pub bounds-c-c : goal.bounds-c-c
bounds-c-c c = search named_last_in

pub bounds-c-0 : goal.bounds-c-0
bounds-c-0 c = search named_first_in

pub overflow_shr-result : goal.overflow_shr-result
overflow_shr-result c = search named-unused

pub returns-else-c-eq1 : goal.returns-else-c-eq1
returns-else-c-eq1 c = search named-last
