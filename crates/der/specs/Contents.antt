-- Legal contents of the basic kinds (Stored value).
use Rattle.std.specs.Prelude.{ℕ, ◌+◌, ◌-◌, ◌*◌, ◌/◌, ◌%◌, ◌^◌, Bool, true, false, List, [], ◌∷◌, length, ltb, leb, eqb}
use Rattle.std.specs.Prelude.{Option, None, Some}
use Rattle.octets.specs.Pick.{pick, both, either, no, consed}
use Rattle.octets.specs.Octets.{octet, same, every}
use Rattle.octets.specs.Text.{within, is_alnum}
use Rattle.octets.specs.Utf8.{utf8}
use Rattle.der.specs.Kind.{utf8_string, printable_string, ia5_string, generalized_time}
use Rattle.der.specs.Time.{legal_time}

-- BOOLEAN 00 or FF
unfoldable pub legal_boolean : List ℕ → Bool
legal_boolean c = either (same c (0 ∷ [])) (same c (255 ∷ []))

-- the shortest form of an INTEGER: the first nine bits are not all alike (X.690 8.3.2); a and b are its first octets
unfoldable pub shortest : ℕ → ℕ → Bool
shortest a b = pick (eqb a 0) (leb 128 b) (pick (eqb a 255) (ltb b 128) true)

-- INTEGER and ENUMERATED: 1..8 octets, shortest
unfoldable pub legal_integer : List ℕ → Bool
legal_integer c = both (within 1 8 (length c)) (either (eqb (length c) 1) (shortest (octet c 0) (octet c 1)))

-- NULL empty
unfoldable pub legal_null : List ℕ → Bool
legal_null c = eqb (length c) 0

-- ---- OBJECT IDENTIFIER: subidentifiers, base 128; each octet but a subidentifier's last has its top bit set
-- the subidentifiers from here on, after octets of one that stand for n (inside), or at the start of one; up to 4294967295; shortest, so that
-- none starts with 80
unfoldable pub subs_from : Bool → ℕ → List ℕ → Option (List ℕ)
subs_from inside n [] = pick inside None (Some [])
subs_from inside n (b ∷ bs) =
    let longer = subs_from true (n * 128 + b % 128) bs in
    let next = subs_from false 0 bs in
    pick (both (no inside) (eqb b 128)) None
    (pick (ltb 4294967295 (n * 128 + b % 128)) None
    (pick (leb 128 b) longer
    (consed (n * 128 + b % 128) next)))

unfoldable pub subidentifiers : List ℕ → Option (List ℕ)
subidentifiers c = subs_from false 0 c

-- 1..32 of them
abbrev pub legal_subs : Option (List ℕ) → Bool
legal_subs None = false
legal_subs (Some l) = within 1 32 (length l)

unfoldable pub legal_oid : List ℕ → Bool
legal_oid c = legal_subs (subidentifiers c)

-- BIT STRING: unused count 0..7, unused bits zero, 0 if no bits
unfoldable pub legal_bits : List ℕ → Bool
legal_bits c =
    both (leb 1 (length c))
    (both (leb (octet c 0) 7)
    (pick (eqb (length c) 1) (eqb (octet c 0) 0) (eqb (octet c (length c - 1) % 2 ^ octet c 0) 0)))

-- BIT STRING with names (document 02, Q-2): "Stored values carry no trailing zero bit, as X.690 asks": no bits, or the last bit that is used is 1
unfoldable pub legal_named_bits : List ℕ → Bool
legal_named_bits c = both (legal_bits c) (either (eqb (length c) 1) (eqb (octet c (length c - 1) / 2 ^ octet c 0 % 2) 1))

-- PrintableString by X.680: letters, digits, space and ' ( ) + , - . / : = and the question mark
unfoldable pub is_sign : ℕ → Bool
is_sign b = either (eqb b 58) (either (eqb b 61) (eqb b 63))

unfoldable pub is_mark : ℕ → Bool
is_mark b = either (eqb b 32) (either (within 39 41 b) (either (within 43 47 b) (is_sign b)))

unfoldable pub is_printable : ℕ → Bool
is_printable b = either (is_alnum b) (is_mark b)

unfoldable pub legal_printable : List ℕ → Bool
legal_printable c = every is_printable c

-- IA5String by X.680: 00 to 7F
abbrev pub is_ia5 : ℕ → Bool
is_ia5 b = leb b 127

unfoldable pub legal_ia5 : List ℕ → Bool
legal_ia5 c = every is_ia5 c

-- strings and times, by kind
unfoldable pub legal_text : ℕ → List ℕ → Bool
legal_text k c =
    pick (eqb k utf8_string) (utf8 c)
    (pick (eqb k printable_string) (legal_printable c)
    (pick (eqb k ia5_string) (legal_ia5 c)
    (pick (eqb k generalized_time) (legal_time c)
    false)))
