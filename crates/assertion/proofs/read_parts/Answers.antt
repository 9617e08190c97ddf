use Rattle.assertion.proofs.Steps.{parts_no_component, parts_no_defaults, parts_are}
use Rattle.assertion.proofs.read_parts.Goals as goal

pub returns-in_err-component : goal.returns-in_err-component
returns-in_err-component c = rw c.from_residual.ensures (search (parts_no_component, c.in_err-component.was))

pub returns-in_err-defaults : goal.returns-in_err-defaults
returns-in_err-defaults c = rw c.from_residual-in_err-defaults.ensures (search (parts_no_defaults, c.in_ok-component.was, c.in_err-defaults.was))

pub returns : goal.returns
returns c = search (parts_are, c.in_ok-component.was, c.in_ok-defaults.was)
