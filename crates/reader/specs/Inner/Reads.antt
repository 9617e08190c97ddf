-- What a reader sees: "a reader that holds the stored bytes and a place".
use Rattle.std.specs.Prelude.{Option, Some, None}
use Rattle.std.specs.Prelude.{ℕ, ◌+◌, ◌-◌, List}
use Rattle.std.specs.Borrow.{Bor}
use Rattle.octets.specs.Octets.{part}
use Rattle.reader.specs.There.{header_there}
use Rattle.reader.specs.declared.Reader.{Reader}

-- the reader that holds these octets and this place
abbrev pub reader_at : Bor (List ℕ) → ℕ → Reader
reader_at octets place = record { octets = octets; place = place }

-- the length of header and contents, from the value's place
abbrev pub size_from : ℕ → Option (ℕ × ℕ × ℕ) → ℕ
size_from place None = 0
size_from place (Some (o, start, n)) = start + n - place

-- "its whole length", header and contents; 0 where no header fits
unfoldable pub size_there : List ℕ → ℕ → ℕ
size_there s place = size_from place (header_there s place)

-- the place after the value
unfoldable pub next_there : List ℕ → ℕ → ℕ
next_there s place = place + size_there s place

-- the value's octets, header and contents; none where no header fits
unfoldable pub value_there : List ℕ → ℕ → List ℕ
value_there s place = part s place (size_there s place)
