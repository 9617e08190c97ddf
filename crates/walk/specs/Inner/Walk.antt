-- The walk along a plan: for whatever value stands at a place, of the type that the plan is for, the answer is the run over what the plan names there.
use Rattle.std.specs.Prelude.{◌≡◌, Bool, List, [], ◌∷◌, ℕ, ◌+◌, ◌≤◌, ◌<◌, length}
use Rattle.std.specs.Prelude.{Some}
use Rattle.types.specs.Types.{Ty}
use Rattle.table.specs.Inner.Rows.{type_at}
use Rattle.value.specs.Value.{Value, Values}
use Rattle.value.specs.Inner.Decodes.{Elements}
use Rattle.value.specs.Decode.{stored_value}
use Rattle.reference.specs.Reference.{Id}
use Rattle.reference.specs.Named.{Held, value, each, held, named}
use Rattle.plan.specs.Inner.Sort as sort
use Rattle.plan.specs.Inner.Task.{counting, listing, task_of}
use Rattle.plan.specs.Inner.Plan.{sort_at, first_at, second_at, Low, Planned}
use Rattle.walk.specs.Inner.Stands.{Stands}
use Rattle.walk.specs.Inner.Run.{Seen, seen, run, ran_to, counted_to, absent_run}
use Rattle.walk.specs.declared.Move.{Move}
use Rattle.walk.specs.declared.Reached.{Reached}
use Rattle.walk.specs.declared.State.{State}

-- what a function of the walk is told: a plan from step k on, with the operand x, and a value of its type at a place
pub record Goes (t q x v : List ℕ) (k at : ℕ) : Type 0 where
  pub defaults : Bool
  pub ty : Ty
  pub ids : List Id
  pub val : Value
  pub low : Low k
  pub planned : Planned t q x defaults k ty ids
  pub stands : Stands ty v at val

-- the same, whatever the operand
pub record Steps (t q v : List ℕ) (k at : ℕ) : Type 0 where
  pub operand : List ℕ
  pub goes : Goes t q operand v k at

-- what the plan names there
abbrev pub names : (t q x v : List ℕ) (k at : ℕ) → Goes t q x v k at → List Held
names t q x v k at g = held g.defaults g.ids (value g.val ∷ [])

-- a walk from there, after n components, with lent memory m, comes to w
unfoldable pub Walks : List ℕ → List ℕ → List ℕ → List ℕ → ℕ → ℕ → ℕ → List ℕ → Seen → Type 0
Walks t q x v k at n m w = (g : Goes t q x v k at) → w ≡ run (task_of q) x (seen (State.Going n) m) (names t q x v k at g)

-- one step leads to a place from where the plan goes on, to an absent member, or to nothing
abbrev pub Moved : (t q x v : List ℕ) (k at : ℕ) → List Held → Move → Type 0
Moved t q x v k at hs (Move.To p) = (h : Goes t q x v (k + 1) p) × (hs ≡ names t q x v (k + 1) p h)
Moved t q x v k at hs Move.Absent =
    (first_at q k + 1 + second_at q k < 18446744073709551616) × ((n : ℕ) (m : List ℕ) → absent_run q k at n m ≡ run (task_of q) x (seen (State.Going n) m) hs)
Moved t q x v k at hs Move.Nothing = hs ≡ []

unfoldable pub Moves : List ℕ → List ℕ → List ℕ → ℕ → ℕ → Move → Type 0
Moves t q v k at r = (x : List ℕ) (g : Goes t q x v k at) → Moved t q x v k at (names t q x v k at g) r

-- a step that leads to more than one value, or to none: the end, a count, all elements
abbrev pub Stops : List ℕ → ℕ → Type 0
Stops q k = (sort_at q k ≡ sort.end → ⊥) → (sort_at q k ≡ sort.count → ⊥) → sort_at q k ≡ sort.all

-- steps from step k on end at such a step, at an absent member, or lead to nothing
abbrev pub Reaching : (t q x v : List ℕ) (k : ℕ) → List Held → Reached → Type 0
Reaching t q x v k hs (Reached.At j p) = (h : Goes t q x v j p) × ((hs ≡ names t q x v j p h) × ((k ≤ j) × Stops q j))
Reaching t q x v k hs (Reached.Absent j p) =
    Low j × ((first_at q j + 1 + second_at q j < 18446744073709551616) × ((n : ℕ) (m : List ℕ) → absent_run q j p n m ≡ run (task_of q) x (seen (State.Going n) m) hs))
Reaching t q x v k hs Reached.Nothing = hs ≡ []

unfoldable pub Reaches : List ℕ → List ℕ → List ℕ → ℕ → ℕ → Reached → Type 0
Reaches t q v k at r = (x : List ℕ) (g : Goes t q x v k at) → Reaching t q x v k (names t q x v k at g) r

-- ---- values one after another, and a plan for their type from step k on
pub record GoesEach (t q x v : List ℕ) (k start stop : ℕ) : Type 0 where
  pub defaults : Bool
  pub ty : Ty
  pub ids : List Id
  pub xs : Values
  pub most : ℕ
  pub low : Low k
  pub planned : Planned t q x defaults k ty ids
  pub turn : Elements v ty stop most start xs
  pub inside : stop ≤ length v

abbrev pub names_each : (t q x v : List ℕ) (k start stop : ℕ) → GoesEach t q x v k start stop → List Held
names_each t q x v k start stop g = held g.defaults g.ids (each g.xs)

unfoldable pub WalksEach : List ℕ → List ℕ → List ℕ → List ℕ → ℕ → ℕ → ℕ → ℕ → List ℕ → Seen → Type 0
WalksEach t q x v k start stop n m w = (g : GoesEach t q x v k start stop) → w ≡ run (task_of q) x (seen (State.Going n) m) (names_each t q x v k start stop g)

-- the sort of a step that leads to one value at most
abbrev pub IsMove : ℕ → Type 0
IsMove n = (n ≡ sort.end → ⊥) × (n ≡ sort.count → ⊥) × (n ≡ sort.all → ⊥)

-- ---- the whole: a plan for the type of row 0, and a stored value of it
pub record Asks (t q x v : List ℕ) : Type 0 where
  pub defaults : Bool
  pub ids : List Id
  pub val : Value
  pub planned : Planned t q x defaults 1 (type_at t 0) ids
  pub stored : stored_value (type_at t 0) v ≡ Some val

unfoldable pub Answers : List ℕ → List ℕ → List ℕ → List ℕ → ℕ → List ℕ → Seen → Type 0
Answers t q x v n m w = (g : Asks t q x v) → w ≡ run (task_of q) x (seen (State.Going n) m) (named g.defaults g.ids g.val)

-- the same of a test, and of a count, which want no memory
unfoldable pub Tests : List ℕ → List ℕ → List ℕ → List ℕ → ℕ → State → Type 0
Tests t q x v n r = (g : Asks t q x v) → (task_of q ≡ listing → ⊥) → r ≡ ran_to (task_of q) x n (named g.defaults g.ids g.val)

unfoldable pub Tallies : List ℕ → List ℕ → List ℕ → ℕ → ℕ → Type 0
Tallies t q v n r = (g : Asks t q [] v) (limit : ℕ) → task_of q ≡ counting limit → r ≡ counted_to limit n (named g.defaults g.ids g.val)
