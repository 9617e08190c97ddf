-- What row i of a table describes, at document 01's limits: names for contracts.
use Rattle.std.specs.Prelude.{ℕ, ◌≡◌, true, List}
use Rattle.rows.specs.Paper.{table_limits}
use Rattle.rows.specs.Row.{rows, row_at, kind_at, is_member}
use Rattle.clauses.specs.Clauses.{type_kind}
use Rattle.types.specs.Types.{Tagging, Member, Ty, Members}
use Rattle.types.specs.Inner.Rows.{row_type, row_members, row_member, row_tagging, row_member_type}

-- the places of a table's rows
abbrev pub table_rows : List ℕ → List ℕ
table_rows t = rows table_limits.rows t

abbrev pub place_at : List ℕ → ℕ → ℕ
place_at t i = row_at (table_rows t) i

-- row i is a member row, is none
abbrev pub MemberRow : List ℕ → ℕ → Type 0
MemberRow t i = is_member (kind_at t (place_at t i)) ≡ true

abbrev pub TypeRow : List ℕ → ℕ → Type 0
TypeRow t i = is_member (kind_at t (place_at t i)) ≡ true → ⊥

abbrev pub type_at : List ℕ → ℕ → Ty
type_at t i = row_type t (table_rows t) i

-- the members or alternatives that stand after row i
abbrev pub members_after : List ℕ → ℕ → Members
members_after t i = row_members t (table_rows t) i

-- of a member row: the member, its tag mode, its type, the kind of its type
abbrev pub member_at : List ℕ → ℕ → Member
member_at t i = row_member t (table_rows t) i

abbrev pub tagging_at : List ℕ → ℕ → Tagging
tagging_at t i = row_tagging t (table_rows t) i

abbrev pub member_type_at : List ℕ → ℕ → Ty
member_type_at t i = row_member_type t (table_rows t) i

abbrev pub member_kind_at : List ℕ → ℕ → ℕ
member_kind_at t i = type_kind t (table_rows t) i
