-- Where one step of a plan leads, as the functions of the walk answer it.
use Rattle.std.specs.Prelude.{◌≡◌, List, [], ◌∷◌, ℕ, zero, suc, ◌+◌, length}
use Rattle.octets.specs.Pick.{pick}
use Rattle.types.specs.Types.{Member, Ty}
use Rattle.table.specs.Inner.Rows.{member_at, member_type_at, tagging_at}
use Rattle.value.specs.Value.{Value, Fields, end_fields, present, absent}
use Rattle.value.specs.Decode.{starts_here}
use Rattle.reference.specs.Named.{Held, value, size, element_at, element_from_end}
use Rattle.walk.specs.Inner.Stands.{Stands, within, InList, InRow}
use Rattle.walk.specs.declared.Move.{Move}

-- to the one value of a type that is held, or to none
abbrev pub One : Ty → List ℕ → List Held → Move → Type 0
One ty v hs (Move.To p) = (x : Value) × (Stands ty v p x) × (hs ≡ value x ∷ [])
One ty v hs Move.Absent = ⊥
One ty v hs Move.Nothing = hs ≡ []

-- the elements between two places are so many; the one at a position, or at a position from the end, is where a move leads
unfoldable pub Counts : List ℕ → ℕ → ℕ → ℕ → Type 0
Counts v start stop r = (l : InList v start stop) → r ≡ size l.xs

unfoldable pub FindsNth : List ℕ → ℕ → ℕ → ℕ → Move → Type 0
FindsNth v start stop n r = (l : InList v start stop) → One l.element v (element_at n l.xs) r

unfoldable pub FindsLast : List ℕ → ℕ → ℕ → ℕ → Move → Type 0
FindsLast v start stop n r = (l : InList v start stop) → One l.element v (element_from_end n l.xs) r

-- ---- the field at an index, from 0
pub data Picked : Type 0 where
  there : Value → Picked
  lacking : Member → Picked
  past : Picked

unfoldable pub picked_at : ℕ → Fields → Picked
picked_at j end_fields = past
picked_at zero (present m x fs) = there x
picked_at zero (absent m fs) = lacking m
picked_at (suc j) (present m x fs) = picked_at j fs
picked_at (suc j) (absent m fs) = picked_at j fs

-- a move leads to the field of member row r
abbrev pub FieldIs : List ℕ → List ℕ → ℕ → Picked → Move → Type 0
FieldIs t v r f (Move.To p) = (x : Value) × (Stands (member_type_at t r) v p x) × (f ≡ there x)
FieldIs t v r f Move.Absent = f ≡ lacking (member_at t r)
FieldIs t v r f Move.Nothing = ⊥

unfoldable pub FindsMember : List ℕ → List ℕ → ℕ → ℕ → ℕ → ℕ → Move → Type 0
FindsMember t v row j start stop r = (l : InRow t v row start stop) → FieldIs t v (row + 1 + j) (picked_at j l.fs) r

-- ---- the alternative of member row r, if it can begin at a place: alternatives' tags differ
unfoldable pub alternative_move : List ℕ → List ℕ → ℕ → ℕ → Move
alternative_move t v r at = pick (starts_here (member_at t r) (member_type_at t r) v (length v) at) (Move.To (within (tagging_at t r) v at)) Move.Nothing
