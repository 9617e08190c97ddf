use Rattle.rows.proofs.Steps.{field_whole}
use Rattle.rows.proofs.member_number.Goals as goal

pub returns : goal.returns
returns c = search field_whole
