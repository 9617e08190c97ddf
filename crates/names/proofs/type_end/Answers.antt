use Rattle.names.proofs.AttributeSteps.{type-over, type-places, type-found, type-none, type-on}
use Rattle.names.proofs.type_end.Goals as goal

pub returns-then-b-eq61 : goal.returns-then-b-eq61
returns-then-b-eq61 c = record { read = search type-found; places = search type-places }

pub returns-then-not-is_type_octet : goal.returns-then-not-is_type_octet
returns-then-not-is_type_octet c = record { read = search type-none; places = tt }

pub loop-i-preserved : goal.loop-i-preserved
loop-i-preserved c = search type-on

pub returns : goal.returns
returns c = record { read = search type-over; places = tt }
