-- The image of a character as the code has it: octets in a number, the first in its lowest bits.
use Rattle.std.specs.Prelude.{ℕ, zero, suc, ◌+◌, ◌*◌, ◌/◌, ◌%◌, Bool, List, [], ◌∷◌, map, ltb, eqb}
use Rattle.octets.specs.Pick.{pick}
use Rattle.octets.specs.Text.{within, lower}
use Rattle.strings.specs.Images.{Mark, blank, shown}
use Rattle.strings.specs.declared.Shape.{Shape}

-- the n octets of a number
unfoldable pub unpacked : ℕ → ℕ → List ℕ
unpacked w zero = []
unpacked w (suc n) = w % 256 ∷ unpacked (w / 256) n

abbrev pub shape_marks : Shape → List Mark
shape_marks Shape.Blank = blank ∷ []
shape_marks (Shape.Shown o) = map shown (unpacked o.word o.count)

-- so many octets; none; one; the two of a character below U+0800
abbrev pub several : ℕ → ℕ → Shape
several w n = Shape.Shown (record { word = w; count = n })

abbrev pub empty : Shape
empty = several 0 0

abbrev pub single : ℕ → Shape
single b = several b 1

abbrev pub double : ℕ → Shape
double c = several (c / 64 + 192 + (c % 64 + 128) * 256) 2

-- ---- up to U+007F
abbrev pub control_shape : ℕ → Shape
control_shape c = pick (within 9 13 c) Shape.Blank empty

abbrev pub fold_octet : Bool → ℕ → ℕ
fold_octet fold b = pick fold (lower b) b

unfoldable pub low_shape : Bool → ℕ → Shape
low_shape fold c =
    pick (ltb c 32) (control_shape c)
    (pick (eqb c 32) Shape.Blank
    (pick (eqb c 127) empty
    (single (fold_octet fold c))))

-- ---- U+0080 to U+00BF
unfoldable pub mark_shape : ℕ → Shape
mark_shape c =
    pick (eqb c 0xA8) (several 0x88CC20 3)
    (pick (eqb c 0xAF) (several 0x84CC20 3)
    (pick (eqb c 0xB4) (several 0x81CC20 3)
    (pick (eqb c 0xB8) (several 0xA7CC20 3)
    (pick (eqb c 0xBC) (several 0x348481E231 5)
    (pick (eqb c 0xBD) (several 0x328481E231 5)
    (pick (eqb c 0xBE) (several 0x348481E233 5)
    (double c)))))))

unfoldable pub sign_shape : ℕ → Shape
sign_shape c =
    pick (eqb c 0xAA) (single 0x61)
    (pick (eqb c 0xAD) empty
    (pick (eqb c 0xB2) (single 0x32)
    (pick (eqb c 0xB3) (single 0x33)
    (pick (eqb c 0xB5) (several 0xBCCE 2)
    (pick (eqb c 0xB9) (single 0x31)
    (pick (eqb c 0xBA) (single 0x6F)
    (mark_shape c)))))))

unfoldable pub middle_shape : ℕ → Shape
middle_shape c =
    pick (eqb c 0x85) Shape.Blank
    (pick (ltb c 0xA0) empty
    (pick (eqb c 0xA0) Shape.Blank
    (sign_shape c)))

-- ---- from U+00C0 on: without folding, and with it
unfoldable pub exact_shape : ℕ → Shape
exact_shape c =
    pick (eqb c 0x0132) (several 0x4A49 2)
    (pick (eqb c 0x0133) (several 0x6A69 2)
    (pick (eqb c 0x013F) (several 0xB7C24C 3)
    (pick (eqb c 0x0140) (several 0xB7C26C 3)
    (pick (eqb c 0x0149) (several 0x6EBCCA 3)
    (pick (eqb c 0x017F) (single 0x73)
    (double c))))))

-- a capital letter whose small one comes next: every second from U+0100 to U+0136, from U+0139 to U+0147, from U+014A to U+0176 and from U+0179 on
unfoldable pub is_capital : ℕ → Bool
is_capital c =
    pick (ltb c 0x0138) (eqb (c % 2) 0)
    (pick (ltb c 0x0149) (eqb (c % 2) 1)
    (pick (ltb c 0x0178) (eqb (c % 2) 0)
    (eqb (c % 2) 1)))

abbrev pub paired_shape : ℕ → Shape
paired_shape c = pick (is_capital c) (double (c + 1)) (exact_shape c)

unfoldable pub extended_shape : ℕ → Shape
extended_shape c =
    pick (eqb c 0x0130) (several 0x87CC69 3)
    (pick (eqb c 0x0132) (several 0x6A69 2)
    (pick (eqb c 0x013F) (several 0xB7C26C 3)
    (pick (eqb c 0x0178) (several 0xBFC3 2)
    (pick (eqb c 0x017F) (single 0x73)
    (paired_shape c)))))

unfoldable pub latin_shape : ℕ → Shape
latin_shape c =
    pick (eqb c 0xD7) (double c)
    (pick (ltb c 0xDF) (double (c + 32))
    (pick (eqb c 0xDF) (several 0x7373 2)
    (double c)))

unfoldable pub folded_shape : ℕ → Shape
folded_shape c = pick (ltb c 0x0100) (latin_shape c) (extended_shape c)

-- ---- from U+0080 to U+017F; up to U+017F
unfoldable pub high_shape : Bool → ℕ → Shape
high_shape fold c = pick (ltb c 0xC0) (middle_shape c) (pick fold (folded_shape c) (exact_shape c))

unfoldable pub shape_of : Bool → ℕ → Shape
shape_of fold c = pick (ltb c 0x80) (low_shape fold c) (high_shape fold c)
