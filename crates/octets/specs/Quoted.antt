-- Quoted strings: between double quotes, "" for a quote.
use Rattle.std.specs.Prelude.{ℕ, ◌+◌, ◌-◌, List, [], ◌∷◌, length, drop, eqb}
use Rattle.std.specs.Prelude.{Option, None, Some}
use Rattle.octets.specs.Pick.{pick, both, bind}
use Rattle.octets.specs.Octets.{octet, part}

-- the place of the closing quote in a text that stands at a place: the first quote that is not one of a doubled pair
unfoldable pub closing : List ℕ → ℕ → Option ℕ
closing [] at = None
closing (b ∷ []) at = pick (eqb b 34) (Some at) None
closing (b ∷ c ∷ r) at =
    let one = closing (c ∷ r) (at + 1) in
    let double = closing r (at + 2) in
    pick (eqb b 34) (pick (eqb c 34) double (Some at)) one

-- the closing quote of the quoted string that opens at a place
unfoldable pub closing_at : List ℕ → ℕ → Option ℕ
closing_at s at = pick (eqb (octet s at) 34) (closing (drop (at + 1) s) (at + 1)) None

-- what stands between the quotes, with one quote for two
unfoldable pub undoubled : List ℕ → List ℕ
undoubled [] = []
undoubled (b ∷ []) = b ∷ []
undoubled (b ∷ c ∷ r) =
    let one = undoubled (c ∷ r) in
    let double = undoubled r in
    pick (both (eqb b 34) (eqb c 34)) (34 ∷ double) (b ∷ one)

-- the characters of a quoted string that opens at a place and closes at another
unfoldable pub characters : List ℕ → ℕ → ℕ → List ℕ
characters s at close = undoubled (part s (at + 1) (close - (at + 1)))

-- the characters of a text that is one quoted string
abbrev pub if_whole : List ℕ → ℕ → Option (List ℕ)
if_whole s close = pick (eqb (close + 1) (length s)) (Some (characters s 0 close)) None

unfoldable pub unquoted : List ℕ → Option (List ℕ)
unquoted s = bind (closing_at s 0) (if_whole s)
