use Rattle.names.proofs.ValueSteps.{valued_start, value-ended, value-places, value-wrong}
use Rattle.names.proofs.ValueSteps.{value-escaped, value_stopped, value-bad, value-bare, escaped-less, bare-less}
use Rattle.names.proofs.value_end.Goals as goal

pub loop-b-init : goal.loop-b-init
loop-b-init c = search valued_start

pub returns-in-End : goal.returns-in-End
returns-in-End c = record { value = search value-ended; places = search value-places }

pub returns-in-Wrong : goal.returns-in-Wrong
returns-in-Wrong c = record { value = search value-wrong; places = tt }

pub loop-b-smaller-in-Escaped : goal.loop-b-smaller-in-Escaped
loop-b-smaller-in-Escaped c = search escaped-less

pub loop-b-preserved-in-Escaped : goal.loop-b-preserved-in-Escaped
loop-b-preserved-in-Escaped c = search value-escaped

pub returns-then-ends_value : goal.returns-then-ends_value
returns-then-ends_value c = record { value = search value_stopped; places = search value-places }

pub returns-then-not-may_stand : goal.returns-then-not-may_stand
returns-then-not-may_stand c = record { value = search value-bad; places = tt }

pub loop-b-smaller : goal.loop-b-smaller
loop-b-smaller c = search bare-less

pub loop-b-preserved : goal.loop-b-preserved
loop-b-preserved c = search value-bare
