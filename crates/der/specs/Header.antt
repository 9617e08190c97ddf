-- Lengths and headers. "tag 31 is not used. Lengths are definite and shortest: one octet below 128, else 81 or 82 (hex) with one or two octets."
use Rattle.std.specs.Prelude.{Some}
use Rattle.std.specs.Prelude.{ℕ, ◌+◌, ◌-◌, List, ltb, leb, eqb}
use Rattle.std.specs.Prelude.{Option, None}
use Rattle.octets.specs.Pick.{pick}
use Rattle.octets.specs.Octets.{octet, two}
use Rattle.der.specs.Tag.{number}

-- a length above one octet: n, whose octets end at next, has to be at least `least`
unfoldable pub long_length : ℕ → ℕ → ℕ → ℕ → Option (ℕ × ℕ)
long_length n least next end = pick (ltb end next) None (pick (ltb n least) None (Some (n, next)))

-- the length at a place, whose octets lie before end; "Where a length octet isn't usable the check ends there."
unfoldable pub length_at : List ℕ → ℕ → ℕ → Option (ℕ × ℕ)
length_at s at end =
    pick (leb end at) None
    (pick (ltb (octet s at) 128) (Some (octet s at, at + 1))
    (pick (eqb (octet s at) 129) (long_length (octet s (at + 1)) 128 (at + 2) end)
    (pick (eqb (octet s at) 130) (long_length (two s (at + 1)) 256 (at + 3) end)
    None)))

-- a tag octet o and a length, where the contents lie before end
abbrev pub sized : ℕ → ℕ → Option (ℕ × ℕ) → Option (ℕ × ℕ × ℕ)
sized o end None = None
sized o end (Some (n, next)) = pick (ltb (end - next) n) None (Some (o, next, n))

-- the header at a place of a value that lies before end
unfoldable pub header_at : List ℕ → ℕ → ℕ → Option (ℕ × ℕ × ℕ)
header_at s at end =
    pick (leb end at) None
    (pick (eqb (number (octet s at)) 31) None
    (sized (octet s at) end (length_at s (at + 1) end)))

-- a header that is to have the tag octet o
abbrev pub tagged : ℕ → Option (ℕ × ℕ × ℕ) → Option (ℕ × ℕ)
tagged o None = None
tagged o (Some (u, start, len)) = pick (eqb u o) (Some (start, len)) None

-- the contents at a place behind the tag octet o, before end
unfoldable pub inside_at : ℕ → List ℕ → ℕ → ℕ → Option (ℕ × ℕ)
inside_at o s at end = tagged o (header_at s at end)

-- any header's contents
abbrev pub any_tag : Option (ℕ × ℕ × ℕ) → Option (ℕ × ℕ)
any_tag None = None
any_tag (Some (u, start, len)) = Some (start, len)

-- what f makes of contents, where there are some
abbrev pub opened : {A : Type 0} → Option (ℕ × ℕ) → (ℕ → ℕ → Option A) → Option A
opened None f = None
opened (Some (start, len)) f = f start len
