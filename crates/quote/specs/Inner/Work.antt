-- What inner contracts speak of.
use Rattle.std.specs.Prelude.{ℕ, eqb}
use Rattle.octets.specs.Pick.{pick}

-- the octets that an octet of a text takes in its quoted form
abbrev pub width : ℕ → ℕ
width b = pick (eqb b 34) 2 1
