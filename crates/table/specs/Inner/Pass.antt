-- The second pass over the rows of a table, from the last to the first: what it reads of the words of later rows, and what it writes.
use Rattle.std.specs.Prelude.{ℕ, ◌+◌, ◌*◌, ◌%◌, ◌^◌, ◌<◌, ◌≤◌, ◌≡◌, Bool, true, false, List, Option, Some, length, get_or, ltb, leb, eqb}
use Rattle.octets.specs.Pick.{pick, both, no, is_some}
use Rattle.octets.specs.Octets.{base_from}
use Rattle.der.specs.Kind as kind
use Rattle.rows.specs.Paper.{table_limits}
use Rattle.rows.specs.Row.{is_member, is_list, named_at, mode_at, presence_at, default_length_at, default_at}
use Rattle.clauses.specs.Clauses.{default_allowed, chain_fits}
use Rattle.clauses.specs.Inner.Work.{first_pass}
use Rattle.types.specs.Types.{type_from}
use Rattle.types.specs.Begins.{begins}
use Rattle.types.specs.Inner.Work.{bit_of, context_bit, row_fits}
use Rattle.table.specs.Inner.Rows.{table_rows, place_at, MemberRow, TypeRow}
use Rattle.table.specs.Inner.Fields.{first_of, target_of, chain_of, presence_of}
use Rattle.table.specs.Inner.Words.{Shaped, Worded}

-- the two words of row j
abbrev pub first_at : List ℕ → ℕ → ℕ
first_at w j = get_or w (2 * j) 0

abbrev pub second_at : List ℕ → ℕ → ℕ
second_at w j = get_or w (2 * j + 1) 0

-- ---- by the words of member row j
-- its set of tags: its context tag, or that of its type; tag octets from 128 on are context tags
unfoldable pub set_at : List ℕ → ℕ → ℕ
set_at w j = pick (ltb (first_of (first_at w j)) 128) (second_at w (target_of (first_at w j))) (context_bit (first_of (first_at w j) % 32))

-- the longest chain from its type on
unfoldable pub type_chain : List ℕ → ℕ → ℕ
type_chain w j = chain_of (first_at w (target_of (first_at w j)))

unfoldable pub mandatory_in : List ℕ → ℕ → Bool
mandatory_in w j = eqb (presence_of (first_at w j)) 0

-- the same of member j of those from a row on
unfoldable pub chain_after : List ℕ → ℕ → ℕ → ℕ
chain_after w first j = type_chain w (first + j)

unfoldable pub mandatory_after : List ℕ → ℕ → ℕ → Bool
mandatory_after w first j = mandatory_in w (first + j)

-- ---- the member row at p, whose type is of kind k
unfoldable pub implicit_choice : List ℕ → ℕ → ℕ → Bool
implicit_choice t p k = both (eqb (mode_at t p) 2) (eqb k kind.choice)

-- "no implicit tag on a CHOICE", and its default
unfoldable pub member_allowed : List ℕ → ℕ → ℕ → Bool
member_allowed t p k =
    both (no (implicit_choice t p k))
    (pick (eqb (presence_at t p) 2) (default_allowed k (default_at t p)) (eqb (default_length_at t p) 0))

-- its second word, where the second word of its type's row is y
unfoldable pub member_second : List ℕ → ℕ → ℕ → ℕ
member_second t p y = pick (eqb (presence_at t p) 2) (base_from 0 (default_at t p)) y

-- the kind of a row that names none and is no member
pub record Basic (k : ℕ) : Type 0 where
  pub member : is_member k ≡ true → ⊥
  pub sequence : k ≡ kind.sequence → ⊥
  pub choice : k ≡ kind.choice → ⊥
  pub list : is_list k ≡ false

-- ---- what the pass writes
-- x and y are the words of row i, by the table and by the words w of the rows that it names
pub record RowWords (t w : List ℕ) (i x y : ℕ) : Type 0 where
  pub shape : Shaped t (table_rows t) i x
  pub chain : TypeRow t i → (k : ℕ) → chain_fits k t (table_rows t) i ≡ leb (chain_of x) k
  pub small : TypeRow t i → y < 2 ^ 64
  pub tags : TypeRow t i → (k : ℕ) → chain_fits k t (table_rows t) i ≡ true → (g : ℕ) → g < 64 → bit_of y g ≡ begins (type_from k t (table_rows t) i) g
  pub stored : MemberRow t i → y ≡ member_second t (place_at t i) (second_at w (named_at t (place_at t i)))

-- the rows from i on are done: their clauses hold, and w has their words; of each row before them w has the place
pub record Going (t w : List ℕ) (i : ℕ) : Type 0 where
  pub size : length w ≡ 256
  pub first : first_pass table_limits t (table_rows t) ≡ true
  pub places : (j : ℕ) → j < i → first_at w j ≡ place_at t j
  pub fits : (j : ℕ) → i ≤ j → j < length (table_rows t) → row_fits table_limits.chain t (table_rows t) j ≡ true
  pub words : (j : ℕ) → i ≤ j → j < length (table_rows t) → RowWords t w j (first_at w j) (second_at w j)

-- row i of n, at p, is the next
pub record Next (t w : List ℕ) (n i p : ℕ) : Type 0 where
  pub going : Going t w (i + 1)
  pub here : i < length (table_rows t)
  pub count : n ≡ length (table_rows t)
  pub placed : p ≡ place_at t i

-- the answer for row i: its words, where its clauses hold
pub record Says (t w : List ℕ) (i : ℕ) (r : Option (ℕ × ℕ)) : Type 0 where
  pub fits : is_some r ≡ row_fits table_limits.chain t (table_rows t) i
  pub words : (x y : ℕ) → r ≡ Some (x, y) → RowWords t w i x y

-- what admission leaves where a table has n rows
pub record Leaves (t w : List ℕ) (n : ℕ) : Type 0 where
  pub worded : 0 < n → Worded t w
