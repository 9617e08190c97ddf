-- Document 01's numbers of a table: "1 to 128 whole rows", "at most 16 type rows", members and alternatives to 16. Document 02: Q-2 has names of bits to 16
-- as well; by Q-4 refusal "1 takes 8,064 bytes for the table .. the 128 rows stay".
use Rattle.rows.specs.Limits.{Limits}

abbrev pub table_limits : Limits
table_limits = record { least = 1; most = 8064; rows = 128; chain = 16; members = 16 }
