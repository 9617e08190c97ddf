-- Octets as one number, as the code compares eight at a time.
use Rattle.std.specs.Prelude.{ℕ, ◌+◌, ◌*◌, List, [], ◌∷◌}

-- the number that octets stand for, base 256, the least first
unfoldable pub least_first : List ℕ → ℕ
least_first [] = 0
least_first (b ∷ bs) = b + least_first bs * 256
