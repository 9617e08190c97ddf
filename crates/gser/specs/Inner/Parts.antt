-- The texts of a list as the code goes over them.
use Rattle.std.specs.Prelude.{ℕ, ◌+◌, List, [], length, drop, ltb}
use Rattle.octets.specs.Pick.{pick}
use Rattle.gser.specs.Listed.{parted}

-- the texts behind the comma at place e; none where e is the end
unfoldable pub parted_behind : List ℕ → ℕ → List (List ℕ)
parted_behind s e = pick (ltb e (length s)) (parted (drop (e + 1) s)) []
