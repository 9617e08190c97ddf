-- Document 02, Q-2: "The assertion may also be a GSER list of the names in braces; an unknown name doesn't conform, a repeated one counts once."
use Rattle.std.specs.Prelude.{ℕ, zero, suc, ◌+◌, Bool, false, List, [], ◌∷◌, eqb}
use Rattle.std.specs.Prelude.{Option, None, Some}
use Rattle.octets.specs.Pick.{pick, either, ◌>>=◌}
use Rattle.octets.specs.Octets.{same}
use Rattle.gser.specs.Listed.{listed}
use Rattle.types.specs.Types.{NamedBit}

-- ---- names
-- the number of the bit that has the name x; names count case
unfoldable pub number_of : List NamedBit → List ℕ → Option ℕ
number_of [] x = None
number_of (b ∷ bs) x = let r = number_of bs x in pick (same b.name x) (Some b.number) r

-- the numbers of names; none where one is unknown
unfoldable pub numbers_of : List NamedBit → List (List ℕ) → Option (List ℕ)
numbers_of names [] = Some []
numbers_of names (x ∷ xs) = do
  n ← number_of names x
  ns ← numbers_of names xs
  Some (n ∷ ns)

-- ---- bits
unfoldable pub is_in : ℕ → List ℕ → Bool
is_in n [] = false
is_in n (m ∷ ms) = let r = is_in n ms in either (eqb n m) r

-- k bits from bit n on: 1 where the bit's number is one of these
unfoldable pub bits_listed : ℕ → ℕ → List ℕ → List ℕ
bits_listed zero n ns = []
bits_listed (suc k) n ns = pick (is_in n ns) 1 0 ∷ bits_listed k (n + 1) ns

-- the bits of a list of names; names have "bit number 0..63"
unfoldable pub listed_bits : List NamedBit → List ℕ → Option (List ℕ)
listed_bits names t = do
  xs ← listed t
  ns ← numbers_of names xs
  Some (bits_listed 64 0 ns)
