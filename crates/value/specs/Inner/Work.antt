-- What the functions of the check answer, by the definitions: the place after a value that is as its row says, or none.
use Rattle.std.specs.Prelude.{ℕ, zero, suc, ◌<◌, ◌+◌, ◌-◌, ◌≡◌, Bool, true, false, List, length, eqb}
use Rattle.std.specs.Prelude.{Option, None, Some}
use Rattle.octets.specs.Pick.{pick, both, either, no, bind, is_some}
use Rattle.octets.specs.Octets.{part, same}
use Rattle.der.specs.Kind as kind
use Rattle.der.specs.Tag.{class, number, tag_of, wrapper_octet}
use Rattle.der.specs.Header.{inside_at}
use Rattle.der.specs.Legal.{legal}
use Rattle.der.specs.Order.{not_above}
use Rattle.rows.specs.Paper.{table_limits}
use Rattle.rows.specs.Row.{row_at, kind_at, named_at, members_at, mode_at, number_at, presence_at, default_at}
use Rattle.types.specs.Types.{Tagging, untagged, explicit, implicit, tagging_of, Member, member_of, Ty, type_from, Members, no_more, more, members_from}
use Rattle.types.specs.Begins.{is_mandatory}
use Rattle.types.specs.Inner.Work.{bit_of}
use Rattle.table.specs.Inner.Rows.{table_rows, place_at, MemberRow, members_after, tagging_at, member_type_at}
use Rattle.value.specs.Value.{Values, end_values, next, encoding}
use Rattle.value.specs.Order.{rising}
use Rattle.value.specs.Decode.{Decoded, tag_octet, starts_here, unless_default, many, unwrapped, fields_from, alternative_from, decode}

-- the place after a value, where there is one
abbrev pub checked : Option Decoded → Option ℕ
checked None = None
checked (Some d) = Some d.after

-- up to a place, where a test holds
abbrev pub up_to : ℕ → Bool → Option ℕ
up_to stop ok = pick ok (Some stop) None

-- ---- the first number, of k from a on, for which a test holds; a + k where there is none
unfoldable pub first : (ℕ → Bool) → ℕ → ℕ → ℕ
first f zero a = a
first f (suc k) a = let r = first f k (a + 1) in pick (f a) a r

-- ---- octets that can begin a value
-- tag octets of one class and number
unfoldable pub same_tag : ℕ → ℕ → Bool
same_tag a b = both (eqb (number a) (number b)) (eqb (class a) (class b))

-- by a first tag octet; where that is 0, by a set of tags
unfoldable pub opens_by : ℕ → ℕ → ℕ → Bool
opens_by u set o = pick (eqb u 0) (bit_of set (tag_of o)) (same_tag u o)

-- member j of a row can begin at a place
unfoldable pub starts_of : ℕ → List ℕ → List ℕ → ℕ → List ℕ → ℕ → ℕ → ℕ → Bool
starts_of chain t s row v stop at j =
    starts_here (member_of t (row + 1 + j) (row_at s (row + 1 + j))) (type_from chain t s (named_at t (row_at s (row + 1 + j)))) v stop at

-- ---- a default that is stored: the contents of a basic value under a tag mode
abbrev pub within : (ℕ → ℕ → Option (ℕ × ℕ)) → Option (ℕ × ℕ) → Option (ℕ × ℕ)
within f None = None
within f (Some (start, n)) = f start (start + n)

unfoldable pub contents_at : Tagging → ℕ → List ℕ → ℕ → ℕ → Option (ℕ × ℕ)
contents_at untagged k v at end = inside_at (tag_octet untagged k) v at end
contents_at (implicit n) k v at end = inside_at (tag_octet (implicit n) k) v at end
contents_at (explicit n) k v at end = within (inside_at (tag_octet (explicit n) k) v) (inside_at (wrapper_octet n) v at end)

abbrev pub holds : List ℕ → List ℕ → Option (ℕ × ℕ) → Bool
holds v c None = false
holds v c (Some (start, n)) = same (part v start n) c

-- the member row at p has a default, and its contents stand at a place
unfoldable pub stored_default : List ℕ → List ℕ → ℕ → List ℕ → ℕ → ℕ → Bool
stored_default t s p v at end = both (eqb (presence_at t p) 2) (holds v (default_at t p) (contents_at (tagging_of (mode_at t p) (number_at t p)) (kind_at t (row_at s (named_at t p))) v at end))

-- ---- plain members: of a basic type, under no tag or an implicit one
-- the n octets from start on are the contents of the default of the member row at p
unfoldable pub is_default_at : List ℕ → ℕ → List ℕ → ℕ → ℕ → Bool
is_default_at t p v start n = both (eqb (presence_at t p) 2) (same (part v start n) (default_at t p))

abbrev pub plain_of : List ℕ → ℕ → ℕ → List ℕ → Option (ℕ × ℕ) → Option ℕ
plain_of t p k v None = None
plain_of t p k v (Some (start, n)) = pick (is_default_at t p v start n) None (up_to (start + n) (legal k (part v start n)))

-- the plain member of the row at p, of kind k, where it is there
unfoldable pub plain_checked : List ℕ → ℕ → ℕ → Tagging → List ℕ → ℕ → ℕ → Option ℕ
plain_checked t p k g v at end = plain_of t p k v (inside_at (tag_octet g k) v at end)

-- ---- members and elements
-- the member row at p, where it is not there
unfoldable pub absent_checked : List ℕ → ℕ → ℕ → Option ℕ
absent_checked t p i = pick (eqb (presence_at t p) 0) None (Some i)

-- the members that stand after a row, from number j on
abbrev pub members_on : List ℕ → ℕ → ℕ → Members
members_on t row j = members_from (type_from table_limits.chain t (table_rows t)) t (table_rows t) (row + 1 + j) (members_at t (place_at t row) - j)

-- none of the members has to be there
unfoldable pub none_mandatory : Members → Bool
none_mandatory no_more = true
none_mandatory (more m ty ms) = let r = none_mandatory ms in both (no (is_mandatory m.presence)) r

-- members from a place on, none of which is there
unfoldable pub rest_absent : Members → ℕ → ℕ → Option ℕ
rest_absent ms stop i = up_to stop (both (none_mandatory ms) (eqb i stop))

-- one member: the place after it, or its own where it is not there and may be absent
unfoldable pub member_checked : Member → Ty → List ℕ → ℕ → ℕ → Option ℕ
member_checked m ty v stop i =
    let there = checked (bind (decode ty m.tagging v i stop) (unless_default m)) in
    pick (starts_here m ty v stop i) there (pick (is_mandatory m.presence) None (Some i))

unfoldable pub fields_checked : Members → List ℕ → ℕ → ℕ → Option ℕ
fields_checked ms v stop i = up_to stop (is_some (fields_from ms v stop i))

abbrev pub in_order : ℕ → List ℕ → Option Values → Bool
in_order k v None = false
in_order k v (Some xs) = either (eqb k kind.sequence_of) (rising v xs)

unfoldable pub elements_checked : ℕ → Ty → List ℕ → ℕ → ℕ → Option ℕ
elements_checked k ty v stop i = up_to stop (in_order k v (many (λ i stop. unwrapped ty untagged v i stop) (stop - i) stop i))

-- elements after one whose encoding is p
unfoldable pub rising_after : List ℕ → List ℕ → Values → Bool
rising_after v p end_values = true
rising_after v p (next x xs) = let r = rising_after v (encoding v x) xs in both (not_above p (encoding v x)) r

abbrev pub order_after : ℕ → List ℕ → List ℕ → Option Values → Bool
order_after k v p None = false
order_after k v p (Some xs) = either (eqb k kind.sequence_of) (rising_after v p xs)

-- the octets from before to i, and from i to after, as neighbours in a list of kind k
unfoldable pub neighbours : ℕ → List ℕ → ℕ → ℕ → ℕ → Bool
neighbours k v before i after = either (eqb k kind.sequence_of) (not_above (part v before (i - before)) (part v i (after - i)))

-- ---- alternatives
-- a member of a type of kind k in no wrapper is a CHOICE
unfoldable pub is_nested : ℕ → ℕ → Bool
is_nested k mode = both (eqb k kind.choice) (no (eqb mode 1))

-- the value of the CHOICE of a row, at a place, is that of member row r under its tag mode, whose type has a later row
pub record ChosenRow (t v : List ℕ) (row at end r : ℕ) : Type 0 where
  pub here : r < length (table_rows t)
  pub member : MemberRow t r
  pub later : row < named_at t (place_at t r)
  pub same : checked (decode (member_type_at t r) (tagging_at t r) v at end) ≡ checked (alternative_from (members_after t row) v at end)

unfoldable pub Chooses : List ℕ → List ℕ → ℕ → ℕ → ℕ → Option ℕ → Type 0
Chooses t v row at end (Some r) = ChosenRow t v row at end r
Chooses t v row at end None = None ≡ checked (alternative_from (members_after t row) v at end)

-- ---- answers by a tag octet
-- of a value of a type of kind k, whichever tag mode asks for this tag octet; a CHOICE has none of its own
pub record Answers (ty : Ty) (k tag : ℕ) (v : List ℕ) (at end : ℕ) (r : Option ℕ) : Type 0 where
  pub says : (mode n : ℕ) → ((k ≡ kind.choice → ⊥) → tag ≡ tag_octet (tagging_of mode n) k) → r ≡ checked (unwrapped ty (tagging_of mode n) v at end)

-- of a value in a wrapper
pub record Wraps (ty : Ty) (tag : ℕ) (v : List ℕ) (at end : ℕ) (r : Option ℕ) : Type 0 where
  pub says : (n : ℕ) → tag ≡ wrapper_octet n → r ≡ checked (decode ty (tagging_of 1 n) v at end)
