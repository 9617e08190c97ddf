use Rattle.value.proofs.EntrySteps.{storage_not, worded-here, storage-bad, storage-good}
use Rattle.value.proofs.check_storage.Goals as goal

pub returns-then-admit_table-eq0 : goal.returns-then-admit_table-eq0
returns-then-admit_table-eq0 c = search storage_not

pub is_stored-requires : goal.is_stored-requires
is_stored-requires c = search worded-here

pub returns-then-not-is_stored : goal.returns-then-not-is_stored
returns-then-not-is_stored c = search storage-bad

pub returns : goal.returns
returns c = search storage-good
