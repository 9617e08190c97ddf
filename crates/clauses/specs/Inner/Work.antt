-- What the passes over the rows compute.
use Rattle.std.specs.Prelude.{ℕ, zero, suc, ◌≤◌, ◌<◌, ◌+◌, ◌-◌, ◌*◌, ◌≡◌, Bool, true, eqb, length, get_or, List}
use Rattle.octets.specs.Pick.{both, either, no, all}
use Rattle.der.specs.Kind as kind
use Rattle.octets.specs.Octets.{larger}
use Rattle.rows.specs.Limits.{Limits}
use Rattle.rows.specs.Paper.{table_limits}
use Rattle.rows.specs.Row.{kind_at, names_row, named_at, rows, row_at, members_at}
use Rattle.rows.specs.Body.{row_formed}
use Rattle.rows.specs.Inner.Sizes.{size_if, WholeFollower}
use Rattle.clauses.specs.Clauses.{every_row, whole_rows, body_formed, first_is_type, followers_stand, member_place}
use Rattle.clauses.specs.Clauses.{same_name, names_differ, same_number, numbers_differ}

-- ---- the first pass: the clauses on bodies, on where rows stand, on names and on numbers
unfoldable pub first_pass : Limits → List ℕ → List ℕ → Bool
first_pass l t s =
    both (whole_rows l.rows s)
    (both (every_row (body_formed l.members t s) s)
    (both (first_is_type t s)
    (both (followers_stand t s)
    (both (every_row (names_differ t s) s)
    (every_row (numbers_differ t s) s)))))

-- the places of the first n rows stand in an array of two numbers for each row
pub record Placed (t w : List ℕ) (n : ℕ) : Type 0 where
  pub at : (i : ℕ) → i < n → get_or w (2 * i) 0 ≡ row_at (rows table_limits.rows t) i

-- where row i stands, by such an array
abbrev pub place_in : List ℕ → ℕ → ℕ
place_in w i = get_or w (2 * i) 0

-- the rows from `first` on and before row n are whole and follow another
pub record FollowersIn (t w : List ℕ) (first n : ℕ) : Type 0 where
  pub fewer : first ≤ n
  pub whole : (i : ℕ) → first ≤ i → i < n → WholeFollower t (place_in w i)

-- ---- the row at p, which follows another as those from `first` on and before row n do
-- its name is not that of row i, nor that of any of them
unfoldable pub differs_at : List ℕ → List ℕ → ℕ → ℕ → ℕ → Bool
differs_at t w first p i = no (same_name t (place_in w (first + i)) p)

unfoldable pub new_name_at : List ℕ → List ℕ → ℕ → ℕ → ℕ → Bool
new_name_at t w first n p = all (differs_at t w first p) (n - first)

-- the same of the number of a bit
unfoldable pub number_differs_at : List ℕ → List ℕ → ℕ → ℕ → ℕ → Bool
number_differs_at t w first p i = no (same_number t (place_in w (first + i)) p)

unfoldable pub new_number_at : List ℕ → List ℕ → ℕ → ℕ → ℕ → Bool
new_number_at t w first n p = all (number_differs_at t w first p) (n - first)

-- its name is new; a bit's number is too
unfoldable pub new_at : List ℕ → List ℕ → ℕ → ℕ → ℕ → Bool
new_at t w first n p = both (new_name_at t w first n p) (either (no (eqb (kind_at t p) kind.named_bit)) (new_number_at t w first n p))

-- its octets; 0 where it isn't whole, its body isn't formed, or it isn't new
unfoldable pub follower_size : List ℕ → List ℕ → ℕ → ℕ → ℕ → ℕ
follower_size t w first n p = size_if t p (both (row_formed table_limits.members t p) (new_at t w first n p))

-- ---- the second pass, from the last row to the first
-- the row of member j's type
abbrev pub member_type : List ℕ → List ℕ → ℕ → ℕ → ℕ
member_type t s i j = named_at t (member_place s i j)

-- the largest of the first n numbers that f gives: of the chains of a row's members, the longest
unfoldable pub tallest : (ℕ → ℕ) → ℕ → ℕ
tallest f zero = 0
tallest f (suc n) = larger (f n) (tallest f n)

-- rows name later rows
pub record Later (t s : List ℕ) : Type 0 where
  pub of_row : (i : ℕ) → i < length s → names_row t (row_at s i) ≡ true → (i < named_at t (row_at s i)) × (named_at t (row_at s i) < length s)
  pub of-member : (i : ℕ) → i < length s → (j : ℕ) → j < members_at t (row_at s i) → (i < member_type t s i j) × (member_type t s i j < length s)
