-- A reference resolved into a plan's numbers, identifier after identifier.
use Rattle.std.specs.Prelude.{◌≡◌, Bool, true, List, [], ◌∷◌, ℕ, suc, ◌≤◌, ◌<◌, ◌+◌, ◌-◌, ◌*◌, length, get_or, set, leb, eqb}
use Rattle.std.specs.Prelude.{Option, None, Some}
use Rattle.octets.specs.Pick.{pick, both}
use Rattle.der.specs.Kind as kind
use Rattle.rows.specs.Row.{kind_at, named_at, members_at, is_list}
use Rattle.clauses.specs.Clauses.{chain_fits}
use Rattle.types.specs.Begins.{alternatives_differ}
use Rattle.table.specs.Inner.Rows.{table_rows, place_at, type_at, members_after, member_at, member_type_at}
use Rattle.reference.specs.Reference.{position, from_end, count, all, Id, name, index, given_ids}
use Rattle.reference.specs.Allowed.{of_type, of_count}
use Rattle.reference.specs.Inner.Work.{cap, ids_at, first_named, along}
use Rattle.reference.specs.declared.Target.{Target}
use Rattle.plan.specs.Inner.Sort as sort
use Rattle.plan.specs.Inner.Task.{Task}
use Rattle.plan.specs.Inner.Plan.{absent_of, Names, Planned}
use Rattle.plan.specs.declared.Planning.{Planning}
use Rattle.plan.specs.declared.Resolved.{Resolved}

-- ---- one identifier on the type of a row: what the code says
-- member j of a row
unfoldable pub member_plan : List ℕ → ℕ → ℕ → ℕ → Planning
member_plan t row j next =
    let to = named_at t (place_at t (row + 1 + j)) in
    pick (eqb (kind_at t (place_at t row)) kind.sequence) (Planning.To sort.member row j to next)
    (pick (eqb (kind_at t (place_at t row)) kind.choice) (Planning.To sort.alternative row j to next)
    Planning.No)

-- the member or alternative with the name x
unfoldable pub name_plan : List ℕ → ℕ → List ℕ → ℕ → Planning
name_plan t row x next =
    let found = member_plan t row (first_named t (table_rows t) row x) next in
    pick (leb (members_at t (place_at t row)) (first_named t (table_rows t) row x)) Planning.No found

-- elements of a list
unfoldable pub list_plan : List ℕ → ℕ → ℕ → ℕ → ℕ → Planning
list_plan t row s n next = pick (is_list (kind_at t (place_at t row))) (Planning.To s n 0 (named_at t (place_at t row)) next) Planning.No

-- the count of a list, behind which nothing is allowed
unfoldable pub count_plan : List ℕ → ℕ → Bool → Planning
count_plan t row last = pick (both (is_list (kind_at t (place_at t row))) last) Planning.Count Planning.No

-- ---- and what it means
-- the numbers of an identifier, and the row of the type that it leads to
pub data Fits (t : List ℕ) (row : ℕ) : ℕ → ℕ → ℕ → Id → ℕ → Type 0 where
  as_member : {j : ℕ} {x : List ℕ} → kind_at t (place_at t row) ≡ kind.sequence → j < members_at t (place_at t row)
      → Names x (members_after t row) j (member_at t (row + 1 + j)) (member_type_at t (row + 1 + j))
      → Fits t row sort.member row j (name x) (named_at t (place_at t (row + 1 + j)))
  as_alternative : {j : ℕ} {x : List ℕ} → kind_at t (place_at t row) ≡ kind.choice → j < members_at t (place_at t row)
      → Names x (members_after t row) j (member_at t (row + 1 + j)) (member_type_at t (row + 1 + j)) → alternatives_differ (members_after t row) ≡ true
      → Fits t row sort.alternative row j (name x) (named_at t (place_at t (row + 1 + j)))
  as_position : {n : ℕ} → is_list (kind_at t (place_at t row)) ≡ true → Fits t row sort.position (cap n) 0 (index (position n)) (named_at t (place_at t row))
  as_last : {n : ℕ} → is_list (kind_at t (place_at t row)) ≡ true → Fits t row sort.from_end (cap n) 0 (index (from_end n)) (named_at t (place_at t row))
  as_all : is_list (kind_at t (place_at t row)) ≡ true → Fits t row sort.all 0 0 (index all) (named_at t (place_at t row))

-- the identifiers from place k of the reference r on are one of these numbers, and js
pub record Begins (t r : List ℕ) (k row s a b to : ℕ) (js : List Id) : Type 0 where
  pub i : Id
  pub whole : ids_at r k ≡ Some (i ∷ js)
  pub fits : Fits t row s a b i to

-- numbers of a member name one of a row
unfoldable pub NamesMember : List ℕ → ℕ → ℕ → ℕ → Type 0
NamesMember t s a b = s ≡ sort.member → (a < length (table_rows t)) × (b < members_at t (place_at t a))

-- an identifier at place k of the reference r, on the type of a row, leads to another row
pub record Onward (t r : List ℕ) (k row s a b to next : ℕ) : Type 0 where
  pub here : to < length (table_rows t)
  pub member : NamesMember t s a b
  pub rises : k < next
  pub ends : next ≤ length r + 1
  pub chain : (c : ℕ) → chain_fits (suc c) t (table_rows t) row ≡ true → chain_fits c t (table_rows t) to ≡ true
  pub leads : along (ids_at r k) (Some (of_type (type_at t row))) ≡ along (ids_at r next) (Some (of_type (type_at t to)))
  pub begins : (js : List Id) → ids_at r next ≡ Some js → Begins t r k row s a b to js

-- it is the count, and the last
pub record Counted (t r : List ℕ) (k row : ℕ) : Type 0 where
  pub list : is_list (kind_at t (place_at t row)) ≡ true
  pub only : ids_at r k ≡ Some (index count ∷ [])
  pub leads : along (ids_at r k) (Some (of_type (type_at t row))) ≡ Some of_count

abbrev pub PlannedAs : List ℕ → List ℕ → ℕ → ℕ → Planning → Type 0
PlannedAs t r k row (Planning.To s a b to next) = Onward t r k row s a b to next
PlannedAs t r k row Planning.Count = Counted t r k row
PlannedAs t r k row Planning.No = along (ids_at r k) (Some (of_type (type_at t row))) ≡ None

unfoldable pub Plans : List ℕ → List ℕ → ℕ → ℕ → Planning → Type 0
Plans t r k row p = PlannedAs t r k row p

-- ---- the numbers of a step, as they are written
unfoldable pub written : ℕ → ℕ → ℕ → ℕ → ℕ → List ℕ → List ℕ
written j s a b absent q = set (set (set (set q (4 * j) s) (4 * j + 1) a) (4 * j + 2) b) (4 * j + 3) absent

-- what the absent member of a row comes to, where it is the last that is named, and defaults are on
abbrev pub last_absent : List ℕ → Task → List ℕ → ℕ → ℕ
last_absent t task x row = absent_of true task x [] (member_at t row).presence

unfoldable pub absent_for : List ℕ → Task → List ℕ → Bool → ℕ → ℕ → ℕ → ℕ
absent_for t task x on s a b = pick on (pick (eqb s sort.member) (last_absent t task x (a + 1 + b)) 0) 0

-- ---- the identifiers so far
-- p has the numbers of q below n
abbrev pub Agrees : List ℕ → List ℕ → ℕ → Type 0
Agrees p q n = (i : ℕ) → i < n → get_or p i 0 ≡ get_or q i 0

-- where the identifiers from place k on are planned from step j on, on the type of a row, the whole reference is planned, on the type of row 0
abbrev pub Extends : List ℕ → List ℕ → List ℕ → Bool → List ℕ → ℕ → ℕ → ℕ → Type 0
Extends t r x defaults q row k j =
    (p : List ℕ) → Agrees p q (4 * j) → (is : List Id) → ids_at r k ≡ Some is → Planned t p x defaults j (type_at t row) is
    → (All-ids : List Id) → ids_at r 0 ≡ Some All-ids → Planned t p x defaults 1 (type_at t 0) All-ids

pub record Resolving (t r x : List ℕ) (defaults : Bool) (q : List ℕ) (row k j : ℕ) : Type 0 where
  pub here : row < length (table_rows t)
  pub from : 0 < j
  pub chain : chain_fits (17 - j) t (table_rows t) row ≡ true
  pub place : k ≤ length r + 1
  pub leads : along (ids_at r k) (Some (of_type (type_at t row))) ≡ along (ids_at r 0) (Some (of_type (type_at t 0)))
  pub extends : Extends t r x defaults q row k j

-- ---- the whole
-- the identifiers of the reference are planned
abbrev pub AllPlanned : List ℕ → List ℕ → List ℕ → Bool → List ℕ → Type 0
AllPlanned t r x defaults q = (is : List Id) → ids_at r 0 ≡ Some is → Planned t q x defaults 1 (type_at t 0) is

abbrev pub NextIs : List ℕ → List ℕ → List ℕ → Bool → List ℕ → ℕ → ℕ → Resolved → Type 0
NextIs t r x defaults q k j (Resolved.On to next) = (Resolving t r x defaults q to next (j + 1)) × (k < next)
NextIs t r x defaults q k j Resolved.Count = (along (ids_at r 0) (Some (of_type (type_at t 0))) ≡ Some of_count) × AllPlanned t r x defaults q
NextIs t r x defaults q k j Resolved.No = along (ids_at r 0) (Some (of_type (type_at t 0))) ≡ None

unfoldable pub Nexts : List ℕ → List ℕ → List ℕ → Bool → List ℕ → ℕ → ℕ → Resolved → Type 0
Nexts t r x defaults q k j n = NextIs t r x defaults q k j n

abbrev pub Lands : Option Target → Type 0
Lands None = ⊥
Lands (Some (Target.Row i)) = Unit {0}
Lands (Some Target.Count) = Unit {0}

unfoldable pub Follows : List ℕ → List ℕ → List ℕ → Bool → List ℕ → Option Target → Type 0
Follows t r x defaults q g = Lands g → AllPlanned t r x defaults q

-- the identifiers of a reference, where one is given, that leads anywhere
unfoldable pub Resolves : List ℕ → Bool → List ℕ → List ℕ → Bool → List ℕ → Option Target → Type 0
Resolves t given r x defaults q g = (is : List Id) → given_ids given r ≡ Some is → Lands g → Planned t q x defaults 1 (type_at t 0) is
