use Rattle.table.proofs.Writing.{admit_none, admit_count, admit_start, admit_not, admit_is, leaves_none, leaves}
use Rattle.table.proofs.admit_table.Goals as goal

pub returns-then-n-eq0 : goal.returns-then-n-eq0
returns-then-n-eq0 c = record { count = search admit_none; leaves = leaves_none _ _ }

pub write_rows-requires : goal.write_rows-requires
write_rows-requires c = record { going = search admit_start; count = search admit_count }

pub returns-then-not-write_rows : goal.returns-then-not-write_rows
returns-then-not-write_rows c = record { count = search admit_not; leaves = leaves_none _ _ }

pub returns : goal.returns
returns c = record { count = search admit_is; leaves = search leaves }
