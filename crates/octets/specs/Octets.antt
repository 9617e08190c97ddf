-- Octets: lists of numbers below 256, read by place.
use Rattle.std.specs.Prelude.{ℕ, ◌+◌, ◌-◌, ◌*◌, Bool, true, false, List, [], ◌∷◌, get_or, take, drop, ltb, eqb}
use Prim.Native.Char.{code}
use Prim.Native.String as string
use Prim.Native.String.{String}
use Rattle.octets.specs.Pick.{pick, both}

-- the octet at a place, 0 past the end
abbrev pub octet : List ℕ → ℕ → ℕ
octet s i = get_or s i 0

-- two octets, big-endian
abbrev pub two : List ℕ → ℕ → ℕ
two s i = octet s i * 256 + octet s (i + 1)

-- n octets from a place on
abbrev pub part : List ℕ → ℕ → ℕ → List ℕ
part s i n = take n (drop i s)

-- the number that octets stand for, base 256, after octets that stand for n
unfoldable pub base_from : ℕ → List ℕ → ℕ
base_from n [] = n
base_from n (b ∷ bs) = base_from (n * 256 + b) bs

-- two lists of octets are the same
unfoldable pub same : List ℕ → List ℕ → Bool
same [] [] = true
same [] (b ∷ bs) = false
same (a ∷ l) [] = false
same (a ∷ l) (b ∷ bs) = let r = same l bs in both (eqb a b) r

-- the test f holds of each octet
unfoldable pub every : (ℕ → Bool) → List ℕ → Bool
every f [] = true
every f (b ∷ bs) = let r = every f bs in both (f b) r

-- the larger of two numbers
unfoldable pub larger : ℕ → ℕ → ℕ
larger a b = pick (ltb a b) b a

-- a is less than b: from the first octet on; a proper prefix is less
unfoldable pub below : List ℕ → List ℕ → Bool
below [] [] = false
below [] (b ∷ bs) = true
below (a ∷ l) [] = false
below (a ∷ l) (b ∷ bs) = let r = below l bs in pick (ltb a b) true (pick (ltb b a) false r)

-- the octets of an ASCII text
abbrev pub bytes : String → List ℕ
bytes string.[] = []
bytes (string.◌∷◌ c t) = code c ∷ bytes t

-- the value of a hexadecimal digit, 0 to 9 and A to F
abbrev pub nibble : ℕ → ℕ
nibble b = pick (ltb b 65) (b - 48) (b - 55)

-- the octets that pairs of hexadecimal digits stand for
unfoldable pub paired : List ℕ → List ℕ
paired [] = []
paired (a ∷ []) = []
paired (a ∷ b ∷ r) = (nibble a * 16 + nibble b) ∷ paired r

-- octets written in hexadecimal digits
abbrev pub hex : String → List ℕ
hex s = paired (bytes s)
