use Rattle.rows.proofs.Steps.{members_group, members-none}
use Rattle.rows.proofs.members_at.Goals as goal

pub returns-then-is_group : goal.returns-then-is_group
returns-then-is_group c = search members_group

pub returns : goal.returns
returns c = search members-none
