-- Type table: "Admitted", a test for each of its clauses but the one on tags. t is the table, s its rows.
use Rattle.std.specs.Prelude.{ℕ, zero, suc, ◌+◌, ◌-◌, Bool, false, List, [], ◌∷◌, length, ltb, eqb}
use Rattle.octets.specs.Pick.{pick, both, either, no, all}
use Rattle.octets.specs.Octets.{same}
use Rattle.octets.specs.Text.{within}
use Rattle.der.specs.Kind as kind
use Rattle.der.specs.Legal.{legal}
use Rattle.rows.specs.Row.{name_at, kind_at, mode_at, presence_at, default_length_at, default_at, bit_number_at, is_type_kind, is_member, names_row, named_at, row_at}
use Rattle.rows.specs.Row.{members_at, bit_names_at, follower_kind, followers_at, stands_as}
use Rattle.rows.specs.Body.{row_formed}

-- a test of every row, by its number
abbrev pub every_row : (ℕ → Bool) → List ℕ → Bool
every_row f s = all f (length s)

-- "1 to 128 whole rows"
unfoldable pub whole_rows : ℕ → List ℕ → Bool
whole_rows most s = within 1 most (length s)

-- the bodies are as the type table has them
unfoldable pub body_formed : ℕ → List ℕ → List ℕ → ℕ → Bool
body_formed most t s i = row_formed most t (row_at s i)

-- "row 0 is a type"
unfoldable pub is_type : List ℕ → List ℕ → ℕ → Bool
is_type t s i = both (ltb i (length s)) (is_type_kind (kind_at t (row_at s i)))

unfoldable pub first_is_type : List ℕ → List ℕ → Bool
first_is_type t s = is_type t s 0

-- "row numbers point to later rows of types": row j is a type's, and later than row i
unfoldable pub later_type : List ℕ → List ℕ → ℕ → ℕ → Bool
later_type t s i j = both (ltb i j) (is_type t s j)

unfoldable pub points_later : List ℕ → List ℕ → ℕ → Bool
points_later t s i = either (no (names_row t (row_at s i))) (later_type t s i (named_at t (row_at s i)))

-- "member rows stand directly after their SEQUENCE or CHOICE and nowhere else"; document 02, Q-2: "Rows that only follow another, here and later, stand
-- nowhere else". So many rows of kind k, or rows that stand as such, are still due before these rows; where none is due, a row is a type's, and the rows that
-- follow it are due
unfoldable pub standing : List ℕ → ℕ → ℕ → List ℕ → Bool
standing t k due [] = eqb due 0
standing t k due (p ∷ ps) =
    let type = standing t (follower_kind (kind_at t p)) (followers_at t p) ps in
    let follower = standing t k (due - 1) ps in
    pick (eqb due 0) (both (is_type_kind (kind_at t p)) type) (both (eqb (stands_as (kind_at t p)) k) follower)

unfoldable pub followers_stand : List ℕ → List ℕ → Bool
followers_stand t s = standing t 0 0 s

-- "names in one type differ"; of bits, "names and numbers in one list differ" (document 02, Q-2): the rows a and b of those that follow row i
abbrev pub member_place : List ℕ → ℕ → ℕ → ℕ
member_place s i j = row_at s (i + 1 + j)

unfoldable pub same_name : List ℕ → ℕ → ℕ → Bool
same_name t p q = same (name_at t p) (name_at t q)

unfoldable pub differs_from : List ℕ → List ℕ → ℕ → ℕ → ℕ → Bool
differs_from t s i b a = no (same_name t (member_place s i a) (member_place s i b))

unfoldable pub new_name : List ℕ → List ℕ → ℕ → ℕ → Bool
new_name t s i b = all (differs_from t s i b) b

unfoldable pub names_differ : List ℕ → List ℕ → ℕ → Bool
names_differ t s i = all (new_name t s i) (followers_at t (row_at s i))

unfoldable pub same_number : List ℕ → ℕ → ℕ → Bool
same_number t p q = eqb (bit_number_at t p) (bit_number_at t q)

unfoldable pub number_differs_from : List ℕ → List ℕ → ℕ → ℕ → ℕ → Bool
number_differs_from t s i b a = no (same_number t (member_place s i a) (member_place s i b))

unfoldable pub new_number : List ℕ → List ℕ → ℕ → ℕ → Bool
new_number t s i b = all (number_differs_from t s i b) b

unfoldable pub numbers_differ : List ℕ → List ℕ → ℕ → Bool
numbers_differ t s i = all (new_number t s i) (bit_names_at t (row_at s i))

-- "alternatives are mandatory"
unfoldable pub mandatory_at : List ℕ → List ℕ → ℕ → ℕ → Bool
mandatory_at t s i j = eqb (presence_at t (member_place s i j)) 0

unfoldable pub alternatives_mandatory : List ℕ → List ℕ → ℕ → Bool
alternatives_mandatory t s i = either (no (eqb (kind_at t (row_at s i)) kind.choice)) (all (mandatory_at t s i) (members_at t (row_at s i)))

-- "no implicit tag on a CHOICE": `type_kind` is the kind of member row i's type
abbrev pub type_kind : List ℕ → List ℕ → ℕ → ℕ
type_kind t s i = kind_at t (row_at s (named_at t (row_at s i)))

unfoldable pub no_implicit_choice : List ℕ → List ℕ → ℕ → Bool
no_implicit_choice t s i =
    either (no (is_member (kind_at t (row_at s i))))
    (either (no (eqb (mode_at t (row_at s i)) 2)) (no (eqb (type_kind t s i) kind.choice)))

-- "defaults only on BOOLEAN, INTEGER, ENUMERATED, with legal DER contents of 1 to 8 octets (length 0 without presence 2)"
unfoldable pub default_allowed : ℕ → List ℕ → Bool
default_allowed k c = both (within kind.boolean kind.enumerated k) (legal k c)

unfoldable pub default_legal : List ℕ → List ℕ → ℕ → Bool
default_legal t s i =
    either (no (is_member (kind_at t (row_at s i))))
    (pick (eqb (presence_at t (row_at s i)) 2) (default_allowed (type_kind t s i) (default_at t (row_at s i))) (eqb (default_length_at t (row_at s i)) 0))

-- "A chain of rows, each naming the next as its element or as its member's type, has at most 16 type rows (member rows not counted)."
-- Each chain from row i on has at most n type rows: from the row that it names on, and from those that its members name; a row that is no type's begins none
unfoldable pub of_member : (ℕ → Bool) → List ℕ → List ℕ → ℕ → ℕ → Bool
of_member f t s i j = f (named_at t (member_place s i j))

unfoldable pub chain_fits : ℕ → List ℕ → List ℕ → ℕ → Bool
chain_fits zero t s i = false
chain_fits (suc n) t s i =
    let own = chain_fits n t s (named_at t (row_at s i)) in
    let members = all (of_member (chain_fits n t s) t s i) (members_at t (row_at s i)) in
    either (no (is_type_kind (kind_at t (row_at s i)))) (both (either (no (names_row t (row_at s i))) own) members)
