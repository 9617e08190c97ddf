-- What the code's answers say.
use Rattle.std.specs.Prelude.{ℕ, ◌+◌, ◌-◌, ◌*◌, List, [], ◌∷◌, ltb}
use Rattle.std.specs.Prelude.{Option, None, Some}
use Rattle.octets.specs.Pick.{pick}
use Rattle.octets.specs.Octets.{part, larger}

-- a number as the code holds it: beyond its numbers where it isn't below 2^64
abbrev pub clip : ℕ → Option ℕ
clip n = pick (ltb n 18446744073709551616) (Some n) None

-- one digit more
abbrev pub grow_of : Option ℕ → ℕ → Option ℕ
grow_of None d = None
grow_of (Some n) d = clip (n * 10 + d)

-- the largest octet, or n where none is larger
unfoldable pub highest_from : ℕ → List ℕ → ℕ
highest_from n [] = n
highest_from n (b ∷ bs) = highest_from (larger n b) bs

-- the largest octet, 0 where there is none
abbrev pub highest : List ℕ → ℕ
highest s = highest_from 0 s

-- from place a up to place b
abbrev pub between : List ℕ → ℕ → ℕ → List ℕ
between s a b = part s a (b - a)
