use Rattle.value.proofs.DefaultSteps.{default_longer, default-short, default-same}
use Rattle.value.proofs.equals_default.Goals as goal

pub returns-else-c-default_length : goal.returns-else-c-default_length
returns-else-c-default_length c = search default_longer

pub plain-requires : goal.plain-requires
plain-requires c = search default-short

pub returns-then-c-default_length : goal.returns-then-c-default_length
returns-then-c-default_length c = search (
  default-same,
  c.shared_slice_known-2-1.given,
  c.shared_slice_known-1.given,
)
