-- The fields of a row's first word, from its lowest bits on: 8 kind, 8 first tag octet, 8 members, 8 target row; of a type row 8 the longest chain from it on;
-- of a member row 8 its type's kind, 2 how it is tagged, 2 presence, 4 default length; 16 the row's place.
use Rattle.std.specs.Prelude.{ℕ, ◌/◌, ◌%◌, ◌≡◌}

abbrev pub kind_of : ℕ → ℕ
kind_of x = x % 256

abbrev pub first_of : ℕ → ℕ
first_of x = x / 256 % 256

abbrev pub count_of : ℕ → ℕ
count_of x = x / 65536 % 256

abbrev pub target_of : ℕ → ℕ
target_of x = x / 16777216 % 256

abbrev pub type_of : ℕ → ℕ
type_of x = x / 4294967296 % 256

abbrev pub chain_of : ℕ → ℕ
chain_of x = type_of x

abbrev pub how_of : ℕ → ℕ
how_of x = x / 1099511627776 % 4

abbrev pub presence_of : ℕ → ℕ
presence_of x = x / 4398046511104 % 4

abbrev pub length_of : ℕ → ℕ
length_of x = x / 17592186044416 % 16

abbrev pub place_of : ℕ → ℕ
place_of x = x / 281474976710656

-- the word x has these fields
pub record Packed (x k first count target type how presence size place : ℕ) : Type 0 where
  pub kind : kind_of x ≡ k
  pub opens : first_of x ≡ first
  pub members : count_of x ≡ count
  pub leads : target_of x ≡ target
  pub typed : type_of x ≡ type
  pub tagged : how_of x ≡ how
  pub needed : presence_of x ≡ presence
  pub sized : length_of x ≡ size
  pub placed : place_of x ≡ place
