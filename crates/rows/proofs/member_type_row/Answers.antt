use Rattle.rows.proofs.Steps.{type_row_whole}
use Rattle.rows.proofs.member_type_row.Goals as goal

pub returns : goal.returns
returns c = search type_row_whole
