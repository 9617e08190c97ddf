-- The arcs of a dotted text that can be stored ones. Legal contents have 1 to 32 subidentifiers up to 4294967295, the first of them for two arcs.
use Rattle.std.specs.Prelude.{Option, Some, None}
use Rattle.std.specs.Prelude.{ℕ, zero, suc, Bool, true, false, List, [], ◌∷◌, ltb}
use Rattle.octets.specs.Pick.{both}

-- below 2^32
abbrev pub is_small : ℕ → Bool
is_small n = ltb n 4294967296

abbrev pub is_small_size : Option ℕ → Bool
is_small_size None = false
is_small_size (Some n) = is_small n

-- up to k arcs, each below 2^32. Stored arcs are so for k = 33; of those that are, 2.n with n from 4294967216 on can't be stored
unfoldable pub fitting : ℕ → List ℕ → Bool
fitting k [] = true
fitting zero (n ∷ arcs) = false
fitting (suc k) (n ∷ arcs) = let r = fitting k arcs in both (is_small n) r
