-- Marks of the attributes that are used up: bit j of a number marks attribute j of a list.
use Rattle.std.specs.Prelude.{ℕ, ◌≤◌, ◌+◌, ◌*◌, ◌/◌, ◌%◌, Bool, List, [], ◌∷◌, eqb}
use Rattle.std.specs.Prelude.{Option, None, Some}
use Rattle.octets.specs.Pick.{pick, both}
use Rattle.names.specs.Compared.{Compared, same_pair}

-- the attributes that aren't marked
unfoldable pub unused : List Compared → ℕ → List Compared
unused [] m = []
unused (b ∷ l) m = let r = unused l (m / 2) in pick (eqb (m % 2) 0) (b ∷ r) r

-- an attribute is the same as a and isn't marked, by the last bit of m
abbrev pub same_unused : Compared → Compared → ℕ → Bool
same_unused a b m = both (eqb (m % 2) 0) (same_pair a b)

-- marks of all places but the first, behind its mark
abbrev pub behind : ℕ → Option ℕ → Option ℕ
behind d None = None
behind d (Some m) = Some (d + 2 * m)

-- the marks with that of the first unmarked attribute that is the same as a; none where none is
unfoldable pub marked : Compared → List Compared → ℕ → Option ℕ
marked a [] m = None
marked a (b ∷ l) m = let r = marked a l (m / 2) in pick (same_unused a b m) (Some (m + 1)) (behind (m % 2) r)

-- ---- what the code's answers say
-- one mark more
abbrev pub Near : ℕ → Option ℕ → Type 0
Near used None = Unit {0}
Near used (Some m) = m ≤ used + 8
