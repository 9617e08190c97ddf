use Rattle.rows.proofs.FollowerSteps.{member-behind, member-whole, member_cut, member_hyphen, member_unformed, member-sized}
use Rattle.rows.proofs.member_size.Goals as goal

pub returns-then-t-p-lt-MEMBER_BYTES : goal.returns-then-t-p-lt-MEMBER_BYTES
returns-then-t-p-lt-MEMBER_BYTES c = search member_cut

pub returns-then-t-p-eq45 : goal.returns-then-t-p-eq45
returns-then-t-p-eq45 c = search member_hyphen

pub fields_formed-requires : goal.fields_formed-requires
fields_formed-requires c = record { behind = search member-behind; whole = search member-whole }

pub returns-then-not-fields_formed : goal.returns-then-not-fields_formed
returns-then-not-fields_formed c = search member_unformed

pub returns : goal.returns
returns c = search member-sized
