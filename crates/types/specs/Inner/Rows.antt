-- What a row describes, by the table's octets t and the places s of its rows, at document 01's limits: names for contracts.
use Rattle.std.specs.Prelude.{ℕ, ◌+◌, List}
use Rattle.rows.specs.Paper.{table_limits}
use Rattle.rows.specs.Row.{row_at, named_at, mode_at, number_at, members_at}
use Rattle.types.specs.Types.{Tagging, tagging_of, Member, member_of, Ty, type_from, Members, members_from}

abbrev pub row_type : List ℕ → List ℕ → ℕ → Ty
row_type t s i = type_from table_limits.chain t s i

-- the members or alternatives that stand after a row
abbrev pub row_members : List ℕ → List ℕ → ℕ → Members
row_members t s i = members_from (type_from table_limits.chain t s) t s (i + 1) (members_at t (row_at s i))

-- of a member row: the member, its tag mode, its type
abbrev pub row_member : List ℕ → List ℕ → ℕ → Member
row_member t s i = member_of t i (row_at s i)

abbrev pub row_tagging : List ℕ → List ℕ → ℕ → Tagging
row_tagging t s i = tagging_of (mode_at t (row_at s i)) (number_at t (row_at s i))

abbrev pub row_member_type : List ℕ → List ℕ → ℕ → Ty
row_member_type t s i = row_type t s (named_at t (row_at s i))
