-- The digits of a text that count where trailing zero bits don't.
use Rattle.std.specs.Prelude.{ℕ, zero, suc, ◌/◌, Bool, List, length, ltb, eqb}
use Rattle.octets.specs.Pick.{pick}
use Rattle.octets.specs.Octets.{octet}

-- of the first n digits, how many stand up to the last that isn't 0
unfoldable pub significant : ℕ → List ℕ → ℕ
significant zero h = 0
significant (suc n) h = pick (eqb (octet h n) 48) (significant n h) (suc n)

-- the bits of digits end before bit n, counted in whole digits
abbrev pub ends_before : Bool → List ℕ → ℕ → Bool
ends_before hexed h n = pick hexed (ltb (length h) (n / 4)) (ltb (length h) n)
