use Rattle.rows.proofs.Steps.{member_tag, member-presence, member-filled}
use Rattle.rows.proofs.fields_formed.Goals as goal

pub returns-then-not-tag_formed : goal.returns-then-not-tag_formed
returns-then-not-tag_formed c = search member_tag

pub returns-then-t-q-gt2 : goal.returns-then-t-q-gt2
returns-then-t-q-gt2 c = search member-presence

pub returns : goal.returns
returns c = search member-filled
