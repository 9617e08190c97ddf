use Rattle.rows.proofs.FollowerSteps.{long-behind, long-whole, long_cut, long_unnamed, long_unformed, long-sized}
use Rattle.rows.proofs.long_member_size.Goals as goal

pub returns-then-t-p-lt-LONG_MEMBER_BYTES : goal.returns-then-t-p-lt-LONG_MEMBER_BYTES
returns-then-t-p-lt-LONG_MEMBER_BYTES c = search long_cut

pub returns-then-not-long_name_formed : goal.returns-then-not-long_name_formed
returns-then-not-long_name_formed c = search long_unnamed

pub fields_formed-requires : goal.fields_formed-requires
fields_formed-requires c = record { behind = search long-behind; whole = search long-whole }

pub returns-then-not-fields_formed : goal.returns-then-not-fields_formed
returns-then-not-fields_formed c = search long_unformed

pub returns : goal.returns
returns c = search long-sized
