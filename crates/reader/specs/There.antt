-- What stands at a place of a stored value's octets; the value there lies before the octets' end.
use Rattle.std.specs.Prelude.{Option, Some, None}
use Rattle.std.specs.Prelude.{ℕ, List, [], length}
use Rattle.octets.specs.Octets.{part}
use Rattle.der.specs.Header.{header_at}

-- the header of the value at a place
unfoldable pub header_there : List ℕ → ℕ → Option (ℕ × ℕ × ℕ)
header_there s place = header_at s place (length s)

-- the contents behind a header
abbrev pub contents_of : List ℕ → Option (ℕ × ℕ × ℕ) → List ℕ
contents_of s None = []
contents_of s (Some (o, start, n)) = part s start n

-- the octets of its contents; none where no header fits
unfoldable pub contents_there : List ℕ → ℕ → List ℕ
contents_there s place = contents_of s (header_there s place)
