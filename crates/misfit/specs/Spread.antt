-- "no two at one place, the lower place first": components whose places rise, each at least two octets after the one before it, from lo up to hi.
use Rattle.std.specs.Prelude.{ℕ, ◌+◌, ◌≤◌, List, [], ◌∷◌}
use Rattle.reference.specs.Numbers.{Component, numbers_of}

unfoldable pub Spread : ℕ → ℕ → List Component → Type 0
Spread lo hi [] = lo ≤ hi
Spread lo hi (c ∷ cs) = (lo ≤ (numbers_of c).place) × Spread ((numbers_of c).place + 2) hi cs
