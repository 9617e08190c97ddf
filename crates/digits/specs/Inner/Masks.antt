-- A set of bits as a number: bit n of a BIT STRING is bit n of the number, from the lowest on.
use Rattle.std.specs.Prelude.{ℕ, zero, suc, ◌/◌, ◌%◌, List, [], ◌∷◌}

-- the n lowest bits of a number, the lowest first
unfoldable pub low_bits : ℕ → ℕ → List ℕ
low_bits zero m = []
low_bits (suc n) m = (m % 2) ∷ low_bits n (m / 2)

-- the bits of a set: 64
abbrev pub mask_bits : ℕ → List ℕ
mask_bits m = low_bits 64 m
