-- What inner contracts speak of.
use Rattle.std.specs.Prelude.{ℕ, ◌+◌, Bool, List, length, eqb}
use Rattle.octets.specs.Pick.{pick}
use Rattle.octets.specs.Octets.{octet}
use Rattle.escape.specs.Escape.{always_escaped, edge_escaped}

-- the octets that an octet of a text takes in the escaped text
unfoldable pub width : Bool → Bool → ℕ → ℕ
width first last b = pick (eqb b 0) 3 (pick (always_escaped b) 2 (pick (edge_escaped first last b) 2 1))

-- the same of the octet at a place
abbrev pub width_at : List ℕ → ℕ → ℕ
width_at text i = width (eqb i 0) (eqb (i + 1) (length text)) (octet text i)
