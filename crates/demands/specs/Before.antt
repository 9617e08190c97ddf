-- Document 02, Q-4: "A table admitted before this reads as it did; an engine from before refuses a table with the new kind, by size with 1, else with 2."
-- Tables before it: 1 to 4,992 octets, no row of kind 21, and a member's fields at the places that a name's field of 24 octets gives them.
use Rattle.std.specs.Prelude.{ℕ, zero, suc, ◌+◌, ◌-◌, Bool, List, [], ◌∷◌, length, ltb, leb, eqb}
use Rattle.std.specs.Prelude.{Option, None, Some}
use Rattle.octets.specs.Pick.{pick, both, is_some, consed}
use Rattle.octets.specs.Octets.{octet, two, part}
use Rattle.octets.specs.Text.{within}
use Rattle.der.specs.Kind as kind
use Rattle.rows.specs.Paper.{table_limits}
use Rattle.rows.specs.Row.{kind_at, element_at, bit_number_at, unfilled, is_list, row_size, or_none, row_at, members_at, bit_names_at}
use Rattle.clauses.specs.Clauses.{whole_rows}
use Rattle.types.specs.Types.{Member, tagging_of, presence_of, NamedBit, Ty, basic, sequence, choice, list_of, Members, no_more, more}
use Rattle.types.specs.Admitted.{admitted}
use Rattle.types.specs.Check as table
use Rattle.value.specs.Decode.{stored_value}
use Rattle.value.specs.Check as value
use Rattle.value.specs.Check.{value_fits}
use Rattle.reference.specs.Reference.{given_ids}
use Rattle.rules.specs.Rule.{known_rules}
use Rattle.filter.specs.Parse.{filter_fits, parse}
use Rattle.engine.specs.Paper.{limits}
use Rattle.engine.specs.Answer.{Report, refused, with_filter}
use Rattle.engine.specs.Listing.{Listing, refused_list, reference_fits, with_ids}

-- ---- the rows
-- the octets of a row of kind k; there was no kind 21
unfoldable pub size_before : ℕ → ℕ
size_before k = pick (eqb k kind.long_member) 0 (row_size k)

unfoldable pub rows_from_before : ℕ → List ℕ → ℕ → Option (List ℕ)
rows_from_before zero t at = pick (ltb at (length t)) None (Some [])
rows_from_before (suc n) t at =
    let rest = rows_from_before n t (at + size_before (kind_at t at)) in
    pick (ltb at (length t))
    (pick (eqb (size_before (kind_at t at)) 0) None
    (pick (ltb (length t - at) (size_before (kind_at t at))) None
    (consed at rest)))
    (Some [])

unfoldable pub rows_before : List ℕ → List ℕ
rows_before t = or_none (rows_from_before table_limits.rows t 0)

-- ---- the type of a row
-- of a member: "name (24, filled with zeros)", then type row, tag mode, context tag number, presence, default length, default contents (8)
unfoldable pub member_before : List ℕ → ℕ → ℕ → Member
member_before t i p = record {
  row = i;
  name = unfilled (part t (p + 1) 24);
  tagging = tagging_of (octet t (p + 27)) (octet t (p + 28));
  presence = presence_of (octet t (p + 29)) (part t (p + 31) (octet t (p + 30)));
}

-- the row that a row names: a list's element's, a member's type's
unfoldable pub named_before : List ℕ → ℕ → ℕ
named_before t p = pick (is_list (kind_at t p)) (element_at t p) (pick (eqb (kind_at t p) kind.member) (two t (p + 25)) 0)

unfoldable pub members_before : (ℕ → Ty) → List ℕ → List ℕ → ℕ → ℕ → Members
members_before f t s i zero = no_more
members_before f t s i (suc n) = more (member_before t i (row_at s i)) (f (named_before t (row_at s i))) (members_before f t s (i + 1) n)

unfoldable pub bits_before : List ℕ → List ℕ → ℕ → ℕ → List NamedBit
bits_before t s i zero = []
bits_before t s i (suc n) = record { name = unfilled (part t (row_at s i + 1) 24); number = bit_number_at t (row_at s i) } ∷ bits_before t s (i + 1) n

unfoldable pub type_from_before : ℕ → List ℕ → List ℕ → ℕ → Ty
type_from_before zero t s i = basic 0 []
type_from_before (suc n) t s i =
    let e = type_from_before n t s (named_before t (row_at s i)) in
    let ms = members_before (type_from_before n t s) t s (i + 1) (members_at t (row_at s i)) in
    pick (eqb (kind_at t (row_at s i)) kind.sequence) (sequence ms)
    (pick (eqb (kind_at t (row_at s i)) kind.choice) (choice ms)
    (pick (is_list (kind_at t (row_at s i))) (list_of (kind_at t (row_at s i)) e)
    (basic (kind_at t (row_at s i)) (bits_before t s (i + 1) (bit_names_at t (row_at s i))))))

unfoldable pub type_before : List ℕ → ℕ → Ty
type_before t i = type_from_before table_limits.chain t (rows_before t) i

-- ---- the answers
-- "1 to 128 whole rows" of these kinds, and the other clauses of "Admitted"
unfoldable pub admitted_before : List ℕ → Bool
admitted_before t = both (whole_rows table_limits.rows (rows_before t)) (admitted table_limits t)

-- refusal 1: the table's size
unfoldable pub fits_before : List ℕ → Bool
fits_before t = within 1 4992 (length t)

unfoldable pub table_before : List ℕ → table.TableReport
table_before t = pick (fits_before t) (pick (admitted_before t) (table.admits (length (rows_before t))) (table.refused 2)) (table.refused 1)

unfoldable pub value_before : List ℕ → List ℕ → value.ValueReport
value_before t v =
    pick (both (fits_before t) (value_fits limits.value v))
    (pick (admitted_before t) (pick (is_some (stored_value (type_before t 0) v)) value.good (value.refused 4)) (value.refused 2))
    (value.refused 1)

unfoldable pub ask_before : List ℕ → List ℕ → List ℕ → ℕ → Report
ask_before t v s budget =
    pick (both (fits_before t) (both (value_fits limits.value v) (both (filter_fits limits.filter s) (leb budget limits.budget))))
    (pick (admitted_before t) (with_filter known_rules (type_before t 0) v budget (parse limits.filter s)) (refused 2))
    (refused 1)

-- with the lent memory afterwards
unfoldable pub list_before : List ℕ → List ℕ → Bool → List ℕ → Bool → List ℕ → Listing
list_before t v given r defaults room =
    pick (both (fits_before t) (both (value_fits limits.value v) (reference_fits limits given r)))
    (pick (admitted_before t) (with_ids (type_before t 0) v defaults room (given_ids given r)) (refused_list 2 room))
    (refused_list 1 room)
