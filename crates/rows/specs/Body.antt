-- Type table: what the bodies of rows are like, apart from other rows.
use Rattle.std.specs.Prelude.{ℕ, ◌+◌, ◌-◌, Bool, true, List, length, leb, eqb}
use Rattle.octets.specs.Pick.{pick, both, either, no, all}
use Rattle.octets.specs.Octets.{part, every}
use Rattle.octets.specs.Text.{within, is_lower, may_follow, may_be_last}
use Rattle.der.specs.Kind as kind
use Rattle.rows.specs.Row.{kind_at, count_at, short_width, long_width, name_width, name_at, name_octet_at, unfilled, behind_name, mode_at, number_at, presence_at}
use Rattle.rows.specs.Row.{default_length_at, bit_number_at, is_member}

-- members from 0, alternatives and names of bits from 1, up to the limit
unfoldable pub count_formed : ℕ → List ℕ → ℕ → Bool
count_formed most t p =
    pick (eqb (kind_at t p) kind.sequence) (leb (count_at t p) most)
    (pick (eqb (kind_at t p) kind.choice) (within 1 most (count_at t p))
    (pick (eqb (kind_at t p) kind.named_bit_string) (within 1 most (count_at t p))
    true))

-- ---- "A name is a lowercase letter, then letters, digits and single hyphens, no hyphen last"; filled with zeros
-- what may follow an octet of a name's field: after the fill only fill, the fill after the last octet of a name, or an octet of the name
unfoldable pub follows : ℕ → ℕ → Bool
follows a b =
    pick (eqb a 0) (eqb b 0)
    (pick (eqb b 0) (may_be_last a)
    (may_follow a b))

unfoldable pub followed : List ℕ → ℕ → ℕ → Bool
followed t p j = follows (name_octet_at t p j) (name_octet_at t p (j + 1))

-- the name of the row at p, a member's or a bit's, in its field
unfoldable pub name_formed : List ℕ → ℕ → Bool
name_formed t p =
    both (is_lower (name_octet_at t p 0))
    (both (may_be_last (name_octet_at t p (name_width (kind_at t p) - 1)))
    (all (followed t p) (name_width (kind_at t p) - 1)))

-- document 02, Q-4, of kind 21: "admitted only for names of 25 to 48 characters, so that each member still has one form"
unfoldable pub length_formed : List ℕ → ℕ → Bool
length_formed t p = either (no (eqb (kind_at t p) kind.long_member)) (within (short_width + 1) long_width (length (unfilled (name_at t p))))

-- tag mode 0 none, 1 explicit, 2 implicit; context tag number 0..30, and 0 in mode 0
unfoldable pub tagging_formed : ℕ → ℕ → Bool
tagging_formed mode number = both (leb mode 2) (both (leb number 30) (either (no (eqb mode 0)) (eqb number 0)))

unfoldable pub tag_formed : List ℕ → ℕ → Bool
tag_formed t p = tagging_formed (mode_at t p) (number_at t p)

-- presence 0 mandatory, 1 optional, 2 default
unfoldable pub presence_formed : List ℕ → ℕ → Bool
presence_formed t p = leb (presence_at t p) 2

-- default contents: 8, zero after the length
abbrev pub is_zero : ℕ → Bool
is_zero b = eqb b 0

unfoldable pub default_filled : List ℕ → ℕ → Bool
default_filled t p = both (leb (default_length_at t p) 8) (every is_zero (part t (behind_name t p + (6 + default_length_at t p)) (8 - default_length_at t p)))

-- a member's body
unfoldable pub member_formed : List ℕ → ℕ → Bool
member_formed t p = both (name_formed t p) (both (length_formed t p) (both (tag_formed t p) (both (presence_formed t p) (default_filled t p))))

-- a named bit's body (document 02, Q-2): "name as in a member, then bit number 0..63"
unfoldable pub bit_formed : List ℕ → ℕ → Bool
bit_formed t p = both (name_formed t p) (leb (bit_number_at t p) 63)

-- at most so many members or names
unfoldable pub row_formed : ℕ → List ℕ → ℕ → Bool
row_formed most t p =
    pick (is_member (kind_at t p)) (member_formed t p)
    (pick (eqb (kind_at t p) kind.named_bit) (bit_formed t p)
    (count_formed most t p))
