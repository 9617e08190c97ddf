-- Sets of tags, as the bits of a number: those that the type of a row can begin with.
use Rattle.std.specs.Prelude.{ℕ, zero, suc, ◌+◌, ◌/◌, ◌%◌, ◌^◌, ◌<◌, ◌≤◌, ◌≡◌, length, Bool, true, false, List, ltb, eqb}
use Rattle.std.specs.Int.Bits.{bit_and, bit_or}
use Rattle.octets.specs.Pick.{pick, both}
use Rattle.rows.specs.Row.{kind_at, named_at, presence_at, mode_at, number_at, is_member, rows, row_at, members_at}
use Rattle.clauses.specs.Clauses.{every_row, points_later, member_place, alternatives_mandatory, no_implicit_choice, default_legal, chain_fits}
use Rattle.clauses.specs.Inner.Work.{Later}
use Rattle.types.specs.Types.{members_from, typed, type_from}
use Rattle.types.specs.Begins.{begins}
use Rattle.types.specs.Admitted.{tags_differ, admitted}
use Rattle.rows.specs.Limits.{Limits}

-- bit g of n is set
unfoldable pub bit_of : ℕ → ℕ → Bool
bit_of n zero = eqb (n % 2) 1
bit_of n (suc g) = bit_of (n / 2) g

unfoldable pub context_bit : ℕ → ℕ
context_bit n = pick (ltb n 32) (2 ^ (32 + n)) 0

-- the tags of the member row at p, where m gives the sets of type rows
unfoldable pub member_set : (ℕ → ℕ) → List ℕ → ℕ → ℕ
member_set m t p = pick (eqb (mode_at t p) 0) (m (named_at t p)) (context_bit (number_at t p))

-- ---- the sets of k rows from j on, gathered from the first on; f gives a row's set
-- none has a tag in common with those gathered before it, x among them; behind a row where `ends` holds they are gathered anew
unfoldable pub apart_from : (ℕ → ℕ) → (ℕ → Bool) → ℕ → ℕ → ℕ → Bool
apart_from f ends zero j x = true
apart_from f ends (suc k) j x =
    let r = apart_from f ends k (j + 1) (pick (ends j) 0 (bit_or x (f j))) in
    both (eqb (bit_and x (f j)) 0) r

-- all of them, and x
unfoldable pub union_from : (ℕ → ℕ) → ℕ → ℕ → ℕ → ℕ
union_from f zero j x = x
union_from f (suc k) j x = union_from f k (j + 1) (bit_or x (f j))

-- where no row ends a run: the alternatives of a CHOICE
abbrev pub never : ℕ → Bool
never j = false

-- ---- the second pass: the clauses of "Admitted" that it decides, of one row and of all
unfoldable pub row_fits : ℕ → List ℕ → List ℕ → ℕ → Bool
row_fits chain t s i =
    both (points_later t s i)
    (both (alternatives_mandatory t s i)
    (both (no_implicit_choice t s i)
    (both (default_legal t s i)
    (both (chain_fits chain t s i)
    (tags_differ chain t s i)))))

unfoldable pub second_pass : ℕ → List ℕ → List ℕ → Bool
second_pass chain t s = every_row (row_fits chain t s) s

-- the array m has the set of tags of each row
pub record Masked (chain : ℕ) (t s m : List ℕ) : Type 0 where
  pub says : (j : ℕ) → j < length s → (g : ℕ) → g < 64 → bit_of (row_at m j) g ≡ begins (type_from chain t s j) g

-- what the layers above use of an admitted table, its rows s and the sets m: the rows that rows name, the types of rows by the types of those,
-- members after their rows, defaults, and the sets of tags
pub record Sound (chain : ℕ) (t s m : List ℕ) : Type 0 where
  pub later : Later t s
  pub step : (i : ℕ) → i < length s → type_from chain t s i ≡ typed t s i (type_from chain t s (named_at t (row_at s i))) (members_from (type_from chain t s) t s (i + 1) (members_at t (row_at s i)))
  pub stands : (i : ℕ) → i < length s → (j : ℕ) → j < members_at t (row_at s i) → i + 1 + j < length s
  pub members : (i : ℕ) → i < length s → (j : ℕ) → j < members_at t (row_at s i) → is_member (kind_at t (member_place s i j)) ≡ true
  pub presence : (i : ℕ) → i < length s → is_member (kind_at t (row_at s i)) ≡ true → presence_at t (row_at s i) ≤ 2
  pub defaults : (i : ℕ) → i < length s → default_legal t s i ≡ true
  pub masked : Masked chain t s m

-- how many rows an admitted table has; 0 where it is not admitted
unfoldable pub row_count : Limits → List ℕ → ℕ
row_count l t = pick (admitted l t) (length (rows l.rows t)) 0
