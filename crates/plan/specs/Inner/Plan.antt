-- A plan: what the identifiers of a reference come to on a type, as numbers. Four for each step: its sort, two numbers, and what an absent member comes to.
-- The first four say the task.
use Rattle.std.specs.Prelude.{◌≡◌, Bool, true, false, List, [], ◌∷◌, ℕ, suc, ◌≤◌, ◌<◌, ◌+◌, ◌*◌, length, get_or}
use Rattle.octets.specs.Pick.{pick}
use Rattle.octets.specs.Octets.{same}
use Rattle.rows.specs.Row.{members_at}
use Rattle.types.specs.Types.{Presence, mandatory, optional, default, Member, Ty, sequence, choice, list_of, Members, no_more, more}
use Rattle.types.specs.Begins.{alternatives_differ}
use Rattle.table.specs.Inner.Rows.{table_rows, place_at, members_after, member_at, member_type_at}
use Rattle.reference.specs.Reference.{position, from_end, count, all, Id, name, index}
use Rattle.reference.specs.Inner.Work.{cap}
use Rattle.plan.specs.Inner.Sort as sort
use Rattle.plan.specs.Inner.Task.{Task, counting, task_of, passes_contents}

-- ---- the numbers of step k
abbrev pub sort_at : List ℕ → ℕ → ℕ
sort_at q k = get_or q (4 * k) 0

-- a row, or a position
abbrev pub first_at : List ℕ → ℕ → ℕ
first_at q k = get_or q (4 * k + 1) 0

-- the index of a member or alternative
abbrev pub second_at : List ℕ → ℕ → ℕ
second_at q k = get_or q (4 * k + 2) 0

abbrev pub absent_at : List ℕ → ℕ → ℕ
absent_at q k = get_or q (4 * k + 3) 0

-- a step of an identifier, a step of identifiers or of their end: a type allows at most 16 identifiers
abbrev pub Within : ℕ → Type 0
Within k = k < 17

abbrev pub Low : ℕ → Type 0
Low k = k ≤ 17

-- what an absent member comes to, behind which the identifiers is are left: 0 nothing, 1 a default that a test doesn't accept, 2 one that passes
abbrev pub absent_of : Bool → Task → List ℕ → List Id → Presence → ℕ
absent_of defaults task x [] (default c) = pick defaults (pick (passes_contents task x c) 2 1) 0
absent_of defaults task x [] mandatory = 0
absent_of defaults task x [] optional = 0
absent_of defaults task x (i ∷ is) p = 0

-- ---- names
-- no member has the name x
pub data Unnamed (x : List ℕ) : Members → Type 0 where
  nil : Unnamed x no_more
  cons : {m : Member} {ty : Ty} {ms : Members} → same m.name x ≡ false → Unnamed x ms → Unnamed x (more m ty ms)

-- the member at an index has the name x, and no other
pub data Names (x : List ℕ) : Members → ℕ → Member → Ty → Type 0 where
  here : {m : Member} {ty : Ty} {ms : Members} → same m.name x ≡ true → Unnamed x ms → Names x (more m ty ms) 0 m ty
  later : {m : Member} {ty : Ty} {ms : Members} {j : ℕ} {n : Member} {u : Ty} → same m.name x ≡ false → Names x ms j n u → Names x (more m ty ms) (suc j) n u

-- the numbers of step k are the row of a SEQUENCE or CHOICE and the index j of its member with the name x
pub record ByName (t q : List ℕ) (k row j : ℕ) (x : List ℕ) : Type 0 where
  pub low : Within k
  pub row_is : first_at q k ≡ row
  pub index_is : second_at q k ≡ j
  pub here : row < length (table_rows t)
  pub one : j < members_at t (place_at t row)
  pub named : Names x (members_after t row) j (member_at t (row + 1 + j)) (member_type_at t (row + 1 + j))

-- ---- the numbers from step k on stand for identifiers on a type, for a task with the operand x
pub data Planned (t q x : List ℕ) (defaults : Bool) : ℕ → Ty → List Id → Type 0 where
  over : {k : ℕ} {ty : Ty} → sort_at q k ≡ sort.end → Planned t q x defaults k ty []
  member : {k row j : ℕ} {nm : List ℕ} {is : List Id} → sort_at q k ≡ sort.member → ByName t q k row j nm
      → absent_at q k ≡ absent_of defaults (task_of q) x is (member_at t (row + 1 + j)).presence
      → Planned t q x defaults (k + 1) (member_type_at t (row + 1 + j)) is → Planned t q x defaults k (sequence (members_after t row)) (name nm ∷ is)
  alternative : {k row j : ℕ} {nm : List ℕ} {is : List Id} → sort_at q k ≡ sort.alternative → ByName t q k row j nm
      → alternatives_differ (members_after t row) ≡ true
      → Planned t q x defaults (k + 1) (member_type_at t (row + 1 + j)) is → Planned t q x defaults k (choice (members_after t row)) (name nm ∷ is)
  to-position : {k n kd : ℕ} {ty : Ty} {is : List Id} → sort_at q k ≡ sort.position → Within k → first_at q k ≡ cap n
      → Planned t q x defaults (k + 1) ty is → Planned t q x defaults k (list_of kd ty) (index (position n) ∷ is)
  to-from_end : {k n kd : ℕ} {ty : Ty} {is : List Id} → sort_at q k ≡ sort.from_end → Within k → first_at q k ≡ cap n
      → Planned t q x defaults (k + 1) ty is → Planned t q x defaults k (list_of kd ty) (index (from_end n) ∷ is)
  to-count : {k kd : ℕ} {ty : Ty} → sort_at q k ≡ sort.count → Within k → Planned t q x defaults k (list_of kd ty) (index count ∷ [])
  to-all : {k kd : ℕ} {ty : Ty} {is : List Id} → sort_at q k ≡ sort.all → Within k
      → Planned t q x defaults (k + 1) ty is → Planned t q x defaults k (list_of kd ty) (index all ∷ is)

-- the numbers of the steps of a plan q are those of a plan p
pub record SameSteps (q p : List ℕ) : Type 0 where
  pub kept : (i : ℕ) → 3 < i → get_or p i 0 ≡ get_or q i 0

-- what a plan q for a count stands for, the plan p stands for too, for a listing
unfoldable pub Relisted : List ℕ → List ℕ → Type 0
Relisted q p =
    (t x : List ℕ) (defaults : Bool) (k limit : ℕ) (ty : Ty) (is : List Id) → task_of q ≡ counting limit → 0 < k → Planned t q x defaults k ty is
    → Planned t p x defaults k ty is
