-- The type that a row describes.
use Rattle.std.specs.Prelude.{ℕ, zero, suc, ◌+◌, List, [], ◌∷◌, eqb}
use Rattle.octets.specs.Pick.{pick}
use Rattle.der.specs.Kind as kind
use Rattle.rows.specs.Limits.{Limits}
use Rattle.rows.specs.Row.{kind_at, name_at, unfilled, mode_at, number_at, presence_at, default_at, bit_number_at, is_list, named_at, rows, row_at, members_at, bit_names_at}

-- tag mode: none, explicit, implicit, with the context tag number
pub data Tagging : Type 0 where
  untagged : Tagging
  explicit : ℕ → Tagging
  implicit : ℕ → Tagging

-- presence: mandatory, optional, default with its contents
pub data Presence : Type 0 where
  mandatory : Presence
  optional : Presence
  default : List ℕ → Presence

pub record Member : Type 0 where
  pub row : ℕ
  pub name : List ℕ
  pub tagging : Tagging
  pub presence : Presence

-- a named bit: its name and its number (document 02, Q-2)
pub record NamedBit : Type 0 where
  pub name : List ℕ
  pub number : ℕ

mutual
  pub data Ty : Type 0 where
    -- kinds 1..11, 17, 19 and 20, by kind, and the named bits, which only kind 17 has
    basic : ℕ → List NamedBit → Ty
    sequence : Members → Ty
    choice : Members → Ty
    -- SEQUENCE OF or SET OF, by its kind
    list_of : ℕ → Ty → Ty

  pub data Members : Type 0 where
    no_more : Members
    more : Member → Ty → Members → Members

unfoldable pub tagging_of : ℕ → ℕ → Tagging
tagging_of mode n = pick (eqb mode 0) untagged (pick (eqb mode 1) (explicit n) (implicit n))

unfoldable pub presence_of : ℕ → List ℕ → Presence
presence_of presence c = pick (eqb presence 0) mandatory (pick (eqb presence 1) optional (default c))

-- the member of row i, which is the row at p
unfoldable pub member_of : List ℕ → ℕ → ℕ → Member
member_of t i p = record { row = i; name = unfilled (name_at t p); tagging = tagging_of (mode_at t p) (number_at t p); presence = presence_of (presence_at t p) (default_at t p) }

-- n members from row i on; f gives a row's type
unfoldable pub members_from : (ℕ → Ty) → List ℕ → List ℕ → ℕ → ℕ → Members
members_from f t s i zero = no_more
members_from f t s i (suc n) = more (member_of t i (row_at s i)) (f (named_at t (row_at s i))) (members_from f t s (i + 1) n)

-- the names of n bits from row i on
unfoldable pub bits_from : List ℕ → List ℕ → ℕ → ℕ → List NamedBit
bits_from t s i zero = []
bits_from t s i (suc n) = record { name = unfilled (name_at t (row_at s i)); number = bit_number_at t (row_at s i) } ∷ bits_from t s (i + 1) n

-- those that stand after row i
abbrev pub bits_after : List ℕ → List ℕ → ℕ → List NamedBit
bits_after t s i = bits_from t s (i + 1) (bit_names_at t (row_at s i))

-- the type of row i of the rows s, with the type of the row that it names and its members
unfoldable pub typed : List ℕ → List ℕ → ℕ → Ty → Members → Ty
typed t s i e ms =
    pick (eqb (kind_at t (row_at s i)) kind.sequence) (sequence ms)
    (pick (eqb (kind_at t (row_at s i)) kind.choice) (choice ms)
    (pick (is_list (kind_at t (row_at s i))) (list_of (kind_at t (row_at s i)) e)
    (basic (kind_at t (row_at s i)) (bits_after t s i))))

-- the same, at most n rows deep; `basic 0`, which no value has, is not reached in an admitted table
unfoldable pub type_from : ℕ → List ℕ → List ℕ → ℕ → Ty
type_from zero t s i = basic 0 []
type_from (suc n) t s i =
    let e = type_from n t s (named_at t (row_at s i)) in
    let ms = members_from (type_from n t s) t s (i + 1) (members_at t (row_at s i)) in
    typed t s i e ms

-- the type that row i of a table describes; an admitted table's chains are within their limit, so it is described in full
unfoldable pub type_at : Limits → List ℕ → ℕ → Ty
type_at l t i = type_from l.chain t (rows l.rows t) i
