-- Type table: rows, with those of document 02. "Rows stand one after another and are numbered from 0. A row is one byte of kind, then a body whose length
-- the kind fixes."
-- A row is known by the place of its first octet; the rows of a table are the list of these places.
use Rattle.std.specs.Prelude.{ℕ, zero, suc, ◌+◌, ◌-◌, Bool, List, [], ◌∷◌, get_or, length, ltb, eqb}
use Rattle.std.specs.Prelude.{Option, None, Some}
use Rattle.octets.specs.Pick.{pick, either, consed, is_some}
use Rattle.octets.specs.Octets.{octet, two, part}
use Rattle.octets.specs.Text.{within}
use Rattle.der.specs.Kind as kind

-- ---- the parts of the row at p
abbrev pub kind_at : List ℕ → ℕ → ℕ
kind_at t p = octet t p

-- of a SEQUENCE or CHOICE: members, alternatives; of a BIT STRING with names: "names, 1..16"
abbrev pub count_at : List ℕ → ℕ → ℕ
count_at t p = octet t (p + 1)

-- of a SEQUENCE OF or SET OF: its element's row. "Numbers are big-endian."
abbrev pub element_at : List ℕ → ℕ → ℕ
element_at t p = two t (p + 1)

-- the octets of a name's field, by the kind of its row: "name (24, filled with zeros)"; document 02, Q-4: "a member whose name field is 48 bytes"
abbrev pub short_width : ℕ
short_width = 24

abbrev pub long_width : ℕ
long_width = 48

unfoldable pub name_width : ℕ → ℕ
name_width k = pick (eqb k kind.long_member) long_width short_width

-- the name's field, its octets, and the name, which is the field without its fill
abbrev pub name_at : List ℕ → ℕ → List ℕ
name_at t p = part t (p + 1) (name_width (kind_at t p))

abbrev pub name_octet_at : List ℕ → ℕ → ℕ → ℕ
name_octet_at t p j = octet t (p + (1 + j))

unfoldable pub unfilled : List ℕ → List ℕ
unfilled [] = []
unfilled (b ∷ bs) = let r = b ∷ unfilled bs in pick (eqb b 0) [] r

-- of a member, behind its name: type row, tag mode, context tag number, presence, default length, default contents (8)
unfoldable pub behind_name : List ℕ → ℕ → ℕ
behind_name t p = p + (1 + name_width (kind_at t p))

abbrev pub type_row_at : List ℕ → ℕ → ℕ
type_row_at t p = two t (behind_name t p)

abbrev pub mode_at : List ℕ → ℕ → ℕ
mode_at t p = octet t (behind_name t p + 2)

abbrev pub number_at : List ℕ → ℕ → ℕ
number_at t p = octet t (behind_name t p + 3)

abbrev pub presence_at : List ℕ → ℕ → ℕ
presence_at t p = octet t (behind_name t p + 4)

abbrev pub default_length_at : List ℕ → ℕ → ℕ
default_length_at t p = octet t (behind_name t p + 5)

abbrev pub default_at : List ℕ → ℕ → List ℕ
default_at t p = part t (behind_name t p + 6) (default_length_at t p)

-- the octets of a member row of kind k: bodies of 38, and of 62 with a long name
abbrev pub member_size : ℕ → ℕ
member_size k = name_width k + 15

-- of a named bit (document 02, Q-2): "name as in a member, then bit number 0..63"
abbrev pub bit_number_at : List ℕ → ℕ → ℕ
bit_number_at t p = octet t (p + (short_width + 1))

-- the octets of a row of a named bit
abbrev pub bit_size : ℕ
bit_size = short_width + 2

-- ---- the rows
-- kinds of types: BOOLEAN to SET OF, BIT STRING with names, RDNSequence and RDN
unfoldable pub is_type_kind : ℕ → Bool
is_type_kind k = either (within kind.boolean kind.set_of k) (either (eqb k kind.named_bit_string) (within kind.rdn_sequence kind.rdn k))

-- kinds of members: kind 21 is a member in everything but its name's field (document 02, Q-4)
unfoldable pub is_member : ℕ → Bool
is_member k = either (eqb k kind.member) (eqb k kind.long_member)

-- kinds with members, and kinds with an element
unfoldable pub is_group : ℕ → Bool
is_group k = either (eqb k kind.sequence) (eqb k kind.choice)

unfoldable pub is_list : ℕ → Bool
is_list k = either (eqb k kind.sequence_of) (eqb k kind.set_of)

-- the row that the row at p names: of a list its element's, of a member its type's; rows of other kinds name none
unfoldable pub row_named : List ℕ → ℕ → Option ℕ
row_named t p =
    pick (is_list (kind_at t p)) (Some (element_at t p))
    (pick (is_member (kind_at t p)) (Some (type_row_at t p))
    None)

-- whether it names one; the number of that row, 0 where there is none
unfoldable pub names_row : List ℕ → ℕ → Bool
names_row t p = is_some (row_named t p)

abbrev pub or_zero : Option ℕ → ℕ
or_zero None = 0
or_zero (Some j) = j

unfoldable pub named_at : List ℕ → ℕ → ℕ
named_at t p = or_zero (row_named t p)

-- the octets of a row of kind k: one and its body; 0 where there is no such kind
unfoldable pub row_size : ℕ → ℕ
row_size k =
    pick (within kind.boolean kind.generalized_time k) 1
    (pick (is_group k) 2
    (pick (is_list k) 3
    (pick (is_member k) (member_size k)
    (pick (eqb k kind.named_bit_string) 2
    (pick (eqb k kind.named_bit) bit_size
    (pick (within kind.rdn_sequence kind.rdn k) 1
    0))))))

-- the rows from a place on: whole ones, at most n of them
unfoldable pub rows_from : ℕ → List ℕ → ℕ → Option (List ℕ)
rows_from zero t at = pick (ltb at (length t)) None (Some [])
rows_from (suc n) t at =
    let rest = rows_from n t (at + row_size (kind_at t at)) in
    pick (ltb at (length t))
    (pick (eqb (row_size (kind_at t at)) 0) None
    (pick (ltb (length t - at) (row_size (kind_at t at))) None
    (consed at rest)))
    (Some [])

abbrev pub or_none : Option (List ℕ) → List ℕ
or_none None = []
or_none (Some ps) = ps

-- the rows of a table of at most `most` whole rows; of any other, none
unfoldable pub rows : ℕ → List ℕ → List ℕ
rows most t = or_none (rows_from most t 0)

-- the place of row i; of a row past the end, place 0
abbrev pub row_at : List ℕ → ℕ → ℕ
row_at s i = get_or s i 0

-- members after a SEQUENCE or CHOICE, names after a BIT STRING with names: how many follow the row at p
unfoldable pub members_at : List ℕ → ℕ → ℕ
members_at t p = pick (is_group (kind_at t p)) (count_at t p) 0

unfoldable pub bit_names_at : List ℕ → ℕ → ℕ
bit_names_at t p = pick (eqb (kind_at t p) kind.named_bit_string) (count_at t p) 0

-- rows that follow a row of a kind: their kind (0 where none follow), and how many follow the row at p. A member with a long name stands where a member does
unfoldable pub follower_kind : ℕ → ℕ
follower_kind k =
    pick (is_group k) kind.member
    (pick (eqb k kind.named_bit_string) kind.named_bit
    0)

unfoldable pub followers_at : List ℕ → ℕ → ℕ
followers_at t p = pick (eqb (follower_kind (kind_at t p)) 0) 0 (count_at t p)

unfoldable pub stands_as : ℕ → ℕ
stands_as k = pick (eqb k kind.long_member) kind.member k

-- the kinds of rows that only follow another
unfoldable pub is_follower : ℕ → Bool
is_follower k = either (is_member k) (eqb k kind.named_bit)
