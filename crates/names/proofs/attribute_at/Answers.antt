use Rattle.names.proofs.AttributeSteps.{attribute_typeless, attribute_undotted, attribute_valueless, attribute-is, attribute-places}
use Rattle.names.proofs.attribute_at.Goals as goal

pub returns-in_err-equals : goal.returns-in_err-equals
returns-in_err-equals c = record {
  attribute = rw c.from_residual.ensures (search (attribute_typeless, c.in_err-equals.was));
  places = rw c.from_residual.ensures tt;
}

pub returns-then-not-is_dotted : goal.returns-then-not-is_dotted
returns-then-not-is_dotted c = record { attribute = search (attribute_undotted, c.in_ok-equals.was); places = tt }

pub returns-in_err-end : goal.returns-in_err-end
returns-in_err-end c = record {
  attribute = rw c.from_residual-in_err-end.ensures (search (attribute_valueless, c.in_ok-equals.was, c.in_err-end.was));
  places = rw c.from_residual-in_err-end.ensures tt;
}

pub returns : goal.returns
returns c = record {
  attribute = search (attribute-is, c.in_ok-equals.was, c.in_ok-end.was);
  places = search (attribute-places, c.in_ok-equals.was, c.in_ok-end.was);
}
