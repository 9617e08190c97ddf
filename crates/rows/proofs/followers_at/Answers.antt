use Rattle.rows.proofs.Steps.{followers_none, followers_count}
use Rattle.rows.proofs.followers_at.Goals as goal

pub returns-then-follower-eq0 : goal.returns-then-follower-eq0
returns-then-follower-eq0 c = search followers_none

pub returns : goal.returns
returns c = search followers_count
