use Rattle.der.proofs.Steps.{header-none, header_31, header-misfit, header_is}
use Rattle.der.proofs.read_header.Goals as goal

pub returns-then-end-at : goal.returns-then-end-at
returns-then-end-at c = search header-none

pub returns-then-tag-eq31 : goal.returns-then-tag-eq31
returns-then-tag-eq31 c = search header_31

pub returns-in_default : goal.returns-in_default
returns-in_default c = search header-misfit

pub returns : goal.returns
returns c = search header_is
