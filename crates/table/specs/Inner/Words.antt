-- Row words: two numbers for each row of a table. The first has fields; the second is a set of tags, or a default's contents as a number.
use Rattle.std.specs.Prelude.{ℕ, ◌+◌, ◌*◌, ◌<◌, ◌≤◌, ◌≡◌, Bool, true, List, length, get_or, leb, eqb}
use Rattle.octets.specs.Pick.{pick, either}
use Rattle.octets.specs.Octets.{base_from}
use Rattle.octets.specs.Text.{within}
use Rattle.der.specs.Kind as kind
use Rattle.der.specs.Tag.{own_octet, implicit_octet, wrapper_octet}
use Rattle.rows.specs.Paper.{table_limits}
use Rattle.rows.specs.Row.{row_at, kind_at, is_member, names_row, named_at, members_at, mode_at, number_at, presence_at, default_length_at, default_at, bit_number_at}
use Rattle.rows.specs.Row.{bit_names_at}
use Rattle.clauses.specs.Clauses.{member_place, type_kind}
use Rattle.types.specs.Types.{Tagging, untagged, explicit, implicit, tagging_of}
use Rattle.types.specs.Inner.Work.{Sound}
use Rattle.table.specs.Inner.Rows.{table_rows}
use Rattle.table.specs.Inner.Fields.{chain_of, Packed}

-- the first tag octet of a value of kind k; 0 of an untagged CHOICE, which has none of its own
unfoldable pub first_octet : Tagging → ℕ → ℕ
first_octet untagged k = pick (eqb k kind.choice) 0 (own_octet k)
first_octet (explicit n) k = wrapper_octet n
first_octet (implicit n) k = implicit_octet n k

-- a basic kind: BOOLEAN to GeneralizedTime, BIT STRING with names, RDNSequence and RDN
unfoldable pub is_basic : ℕ → Bool
is_basic k = either (leb k kind.generalized_time) (either (eqb k kind.named_bit_string) (within kind.rdn_sequence kind.rdn k))

-- how a member of a kind is tagged: 1 in a wrapper; 0 plain: of a basic kind, in no wrapper; 2 any other
unfoldable pub how : ℕ → ℕ → ℕ
how k mode = pick (eqb mode 1) 1 (pick (is_basic k) 0 2)

-- x is the first word of the type row at p, with any chain; of the member row at p, whose type is of kind k
abbrev pub TypeWord : List ℕ → ℕ → ℕ → Type 0
TypeWord t p x = Packed x (kind_at t p) (first_octet untagged (kind_at t p)) (members_at t p) (named_at t p) (chain_of x) 0 0 0 p

abbrev pub MemberWord : List ℕ → ℕ → ℕ → ℕ → Type 0
MemberWord t p k x =
    Packed x (kind_at t p) (first_octet (tagging_of (mode_at t p) (number_at t p)) k) 0 (named_at t p) k (how k (mode_at t p)) (presence_at t p)
    (length (default_at t p)) p

-- x is the first word of row i
pub record Shaped (t s : List ℕ) (i x : ℕ) : Type 0 where
  pub of-type : (is_member (kind_at t (row_at s i)) ≡ true → ⊥) → TypeWord t (row_at s i) x
  pub of-member : is_member (kind_at t (row_at s i)) ≡ true → MemberWord t (row_at s i) (type_kind t s i) x

-- the second word of row i; m has the sets of tags of type rows
unfoldable pub second_of : List ℕ → List ℕ → List ℕ → ℕ → ℕ
second_of t s m i =
    pick (is_member (kind_at t (row_at s i)))
    (pick (eqb (presence_at t (row_at s i)) 2) (base_from 0 (default_at t (row_at s i))) (row_at m (named_at t (row_at s i))))
    (row_at m i)

-- w has the words of the first n rows
pub record Filled (t s m w : List ℕ) (n : ℕ) : Type 0 where
  pub shape : (i : ℕ) → i < n → Shaped t s i (get_or w (2 * i) 0)
  pub second : (i : ℕ) → i < n → get_or w (2 * i + 1) 0 ≡ second_of t s m i

-- what the words want of the rows s of a table and their sets m: fields that hold them, and types where rows name types
pub record Ready (chain : ℕ) (t s m : List ℕ) : Type 0 where
  pub sound : Sound chain t s m
  pub rooted : 0 < length s
  pub root : is_member (kind_at t (row_at s 0)) ≡ true → ⊥
  pub few : length s ≤ table_limits.rows
  pub place : (i : ℕ) → i < length s → row_at s i < 65536
  pub number : (i : ℕ) → i < length s → is_member (kind_at t (row_at s i)) ≡ true → number_at t (row_at s i) ≤ 30
  pub size : (i : ℕ) → i < length s → is_member (kind_at t (row_at s i)) ≡ true → default_length_at t (row_at s i) ≤ 8
  pub target : (i : ℕ) → i < length s → names_row t (row_at s i) ≡ true → named_at t (row_at s i) < length s
  pub typed : (i : ℕ) → i < length s → names_row t (row_at s i) ≡ true → is_member (type_kind t s i) ≡ true → ⊥
  pub bits : (i : ℕ) → i < length s → (j : ℕ) → j < bit_names_at t (row_at s i) → (i + 1 + j < length s) × (bit_number_at t (member_place s i j) ≤ 63)

-- w has the words of an admitted table's rows
pub record Worded (t w : List ℕ) : Type 0 where
  pub m : List ℕ
  pub ready : Ready table_limits.chain t (table_rows t) m
  pub filled : Filled t (table_rows t) m w (length (table_rows t))
