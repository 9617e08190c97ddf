-- A header that is not doubted: where the contents of the value at a place start, and the place after it.
use Rattle.std.specs.Prelude.{ℕ, ◌+◌, List, ltb, eqb}
use Rattle.octets.specs.Pick.{pick}
use Rattle.octets.specs.Octets.{octet, two}

unfoldable pub start_of : List ℕ → ℕ → ℕ
start_of v at = pick (ltb (octet v (at + 1)) 128) (at + 2) (pick (eqb (octet v (at + 1)) 129) (at + 3) (at + 4))

unfoldable pub next_after : List ℕ → ℕ → ℕ
next_after v at =
    pick (ltb (octet v (at + 1)) 128) (at + 2 + octet v (at + 1))
    (pick (eqb (octet v (at + 1)) 129) (at + 3 + octet v (at + 2))
    (at + 4 + two v (at + 2)))
