-- Computed examples: boundary cases.
use Rattle.std.specs.Prelude.{Option, Some, None}
use Rattle.std.specs.Prelude.{◌≡◌, refl, Bool, true, false, List, [], ◌∷◌, ◌++◌, map, ℕ, zero, suc, length, replicate}
use Prim.Native.String.{String}
use Rattle.octets.specs.Octets.{bytes, hex}
use Rattle.der.specs.Kind as kind
use Rattle.der.specs.Tag.{class, constructed, number, tag_of, own_octet, implicit_octet}
use Rattle.der.specs.Header.{header_at, inside_at}
use Rattle.der.specs.Names.{pair_of, name_of}
use Rattle.der.specs.Legal.{legal}
use Rattle.der.specs.Time.{time_of, same_time, earlier}
use Rattle.der.specs.Meaning.{plus, integer_of, arcs_of, bits_of}
use Rattle.der.specs.Dotted.{is_dotted, dotted_arcs}
use Rattle.der.specs.Computing.{der_computes}

-- 30 and A0 and 9E, by class, constructed and number
tags : map class (hex "30A09E") ++ map constructed (hex "30A09E") ++ map number (hex "30A09E") ++ map tag_of (hex "30A09E41C1")
    ≡ 0 ∷ 2 ∷ 2 ∷ 1 ∷ 1 ∷ 0 ∷ 16 ∷ 0 ∷ 30 ∷ 16 ∷ 32 ∷ 62 ∷ 31 ∷ 31 ∷ []
unfolding der_computes
tags = refl

-- the tag octets of the kinds 1..12, 14, 15, 17, 19, 20; a CHOICE, a member, a named bit and what is no kind have none
octets_of_kinds : map own_octet (1 ∷ 2 ∷ 3 ∷ 4 ∷ 5 ∷ 6 ∷ 7 ∷ 8 ∷ 9 ∷ 10 ∷ 11 ∷ 12 ∷ 14 ∷ 15 ∷ 17 ∷ 19 ∷ 20 ∷ 13 ∷ 16 ∷ 18 ∷ 0 ∷ 21 ∷ [])
    ≡ hex "01020A050604030C1316183030310330310000000000"
unfolding der_computes
octets_of_kinds = refl

-- with an implicit tag 1 a BOOLEAN, a SEQUENCE OF, an RDNSequence and an RDN
implicit-octets : map (implicit_octet 1) (kind.boolean ∷ kind.sequence_of ∷ kind.rdn_sequence ∷ kind.rdn ∷ []) ≡ hex "81A1A1A1"
unfolding der_computes
implicit-octets = refl

-- the header of octets that n more follow
header_of : String → ℕ → Option (ℕ × ℕ × ℕ)
header_of s n = header_at (hex s ++ replicate n 0) 0 (length (hex s ++ replicate n 0))

-- lengths 127, 128, 255, 256 in their shortest form; 127 and 255 in a longer one; indefinite; three octets; one octet too few; tag 31
headers : header_of "047F" 127 ∷ header_of "048180" 128 ∷ header_of "0481FF" 255 ∷ header_of "04820100" 256
    ∷ header_of "04817F" 127 ∷ header_of "048200FF" 255 ∷ header_of "0480" 0 ∷ header_of "0483000100" 256 ∷ header_of "047F" 126
    ∷ header_of "1F00" 0 ∷ header_of "BF00" 0 ∷ header_of "1E00" 0 ∷ header_of "04" 0 ∷ header_of "0481" 0 ∷ header_of "" 0 ∷ []
    ≡ Some (4, 2, 127) ∷ Some (4, 3, 128) ∷ Some (4, 3, 255) ∷ Some (4, 4, 256)
    ∷ None ∷ None ∷ None ∷ None ∷ None
    ∷ None ∷ None ∷ Some (30, 2, 0) ∷ None ∷ None ∷ None ∷ []
unfolding der_computes header_of
headers = refl

-- a header inside an end that it passes, and one with another tag
bodies : inside_at 2 (hex "020101") 0 3 ∷ inside_at 2 (hex "020101") 0 2 ∷ inside_at 10 (hex "020101") 0 3 ∷ []
    ≡ Some (2, 1) ∷ None ∷ None ∷ []
unfolding der_computes
bodies = refl

booleans : map (legal kind.boolean) (hex "00" ∷ hex "FF" ∷ hex "01" ∷ [] ∷ hex "0000" ∷ []) ≡ true ∷ true ∷ false ∷ false ∷ false ∷ []
unfolding der_computes
booleans = refl

-- 00 7F is not shortest, 00 80 is; FF 80 is not, FF 7F is; eight octets, nine and none
integers : map (legal kind.integer) (hex "007F" ∷ hex "0080" ∷ hex "FF80" ∷ hex "FF7F" ∷ hex "00" ∷ hex "7FFFFFFFFFFFFFFF" ∷ hex "7FFFFFFFFFFFFFFFFF" ∷ [] ∷ [])
    ≡ false ∷ true ∷ false ∷ true ∷ true ∷ true ∷ false ∷ false ∷ []
unfolding der_computes
integers = refl

nulls : map (legal kind.null) ([] ∷ hex "00" ∷ []) ≡ true ∷ false ∷ []
unfolding der_computes
nulls = refl

-- 80 at the start of a subidentifier, first or later; 4294967295 and 4294967296; an end inside one; none; 32 and 33 of them
oids : map (legal kind.object_identifier) (hex "550D0E" ∷ hex "8055" ∷ hex "558001" ∷ hex "2A8FFFFFFF7F" ∷ hex "2A9080808000" ∷ hex "2A86"
    ∷ [] ∷ replicate 32 1 ∷ replicate 33 1 ∷ [])
    ≡ true ∷ false ∷ false ∷ true ∷ false ∷ false ∷ false ∷ true ∷ false ∷ []
unfolding der_computes
oids = refl

-- unused bits: eight; set; of no bits; the count alone; none
bit_strings_lem : map (legal kind.bit_string) (hex "08FF" ∷ hex "04FF" ∷ hex "04F0" ∷ hex "01" ∷ hex "00" ∷ [] ∷ hex "0780" ∷ hex "07C0" ∷ [])
    ≡ false ∷ false ∷ true ∷ false ∷ true ∷ false ∷ true ∷ false ∷ []
unfolding der_computes
bit_strings_lem = refl

-- with names: no bits, the count alone; the last bit used 1, and 0 with any number of unused bits; set unused bits; the count of no bits
named-bit_strings : map (legal kind.named_bit_string) (hex "00" ∷ [] ∷ hex "06C0" ∷ hex "00FF" ∷ hex "000001" ∷ hex "05C0" ∷ hex "00FE" ∷ hex "0780" ∷ hex "0700"
    ∷ hex "0600" ∷ hex "06E0" ∷ hex "01" ∷ hex "0800" ∷ [])
    ≡ true ∷ false ∷ true ∷ true ∷ true ∷ false ∷ false ∷ true ∷ false ∷ false ∷ false ∷ false ∷ false ∷ []
unfolding der_computes
named-bit_strings = refl

-- a surrogate; * and @ are not printable; 80 is not of IA5String
strings : map (legal kind.utf8_string) (hex "EDA080" ∷ hex "ED9FBF" ∷ [] ∷ [])
    ++ map (legal kind.printable_string) (bytes "Aa0 '()+,-./:=?" ∷ bytes "a*" ∷ bytes "a@" ∷ bytes "a;" ∷ [])
    ++ map (legal kind.ia5_string) (hex "007F" ∷ hex "80" ∷ [])
    ≡ false ∷ true ∷ true ∷ true ∷ false ∷ false ∷ false ∷ true ∷ false ∷ []
unfolding der_computes
strings = refl

is_time : String → Bool
is_time s = legal kind.generalized_time (bytes s)

-- 29 February of 1900, 2000, 2023, 2024; 31 April; month 13 and 00; day 00; hour 24; minute 60; second 60 and 61
dates : map is_time ("19000229000000Z" ∷ "20000229000000Z" ∷ "20230229000000Z" ∷ "20240229000000Z" ∷ "20240431000000Z"
    ∷ "20241301000000Z" ∷ "20240001000000Z" ∷ "20240100000000Z"
    ∷ "20240101240000Z" ∷ "20240101006000Z" ∷ "20161231235960Z" ∷ "20161231235961Z" ∷ "00000101000000Z" ∷ [])
    ≡ false ∷ true ∷ false ∷ true ∷ false ∷ false ∷ false ∷ false ∷ false ∷ false ∷ true ∷ false ∷ true ∷ []
unfolding der_computes is_time
dates = refl

-- fractions: one digit, nine, ten, ending in 0, none, with second 60; no Z; an offset; a comma
fractions : map is_time ("20240101000000.5Z" ∷ "20240101000000.123456789Z" ∷ "20240101000000.1234567891Z" ∷ "20240101000000.50Z"
    ∷ "20240101000000.Z" ∷ "20161231235960.5Z"
    ∷ "20240101000000" ∷ "20240101000000+0000" ∷ "20240101000000,5Z" ∷ "202401010000Z" ∷ [])
    ≡ true ∷ true ∷ false ∷ false ∷ false ∷ true ∷ false ∷ false ∷ false ∷ false ∷ []
unfolding der_computes is_time
fractions = refl

-- .05 is earlier than .5, and a time without a fraction than both
times : earlier (time_of (bytes "20240101000000.05Z")) (time_of (bytes "20240101000000.5Z"))
    ∷ earlier (time_of (bytes "20240101000000Z")) (time_of (bytes "20240101000000.05Z"))
    ∷ earlier (time_of (bytes "20240101000001Z")) (time_of (bytes "20240101000000.9Z"))
    ∷ same_time (time_of (bytes "20240101000000Z")) (time_of (bytes "20240101000000Z")) ∷ []
    ≡ true ∷ true ∷ false ∷ true ∷ []
unfolding der_computes
times = refl

-- 128, -128, -1, the least and the greatest of eight octets
wholes : map integer_of (hex "0080" ∷ hex "80" ∷ hex "FF" ∷ hex "8000000000000000" ∷ hex "7FFFFFFFFFFFFFFF" ∷ [])
    ≡ plus 128 ∷ record { minus = true; size = 128 } ∷ record { minus = true; size = 1 }
    ∷ record { minus = true; size = 9223372036854775808 } ∷ plus 9223372036854775807 ∷ []
unfolding der_computes
wholes = refl

-- 2.5.13.14, 2.999, 0.39, 1.0
arcs : map arcs_of (hex "550D0E" ∷ hex "8837" ∷ hex "27" ∷ hex "28" ∷ []) ≡ map dotted_arcs (bytes "2.5.13.14" ∷ bytes "2.999" ∷ bytes "0.39" ∷ bytes "1.0" ∷ [])
unfolding der_computes
arcs = refl

dotted : map is_dotted (bytes "2.5.13.14" ∷ bytes "0.39" ∷ bytes "1.40" ∷ bytes "2.40" ∷ bytes "3.1" ∷ bytes "2"
    ∷ bytes "2.05" ∷ bytes "2..5" ∷ bytes "2.5." ∷ bytes "1.2.18446744073709551616" ∷ bytes "cn" ∷ [])
    ≡ true ∷ true ∷ false ∷ true ∷ false ∷ false ∷ false ∷ false ∷ false ∷ true ∷ false ∷ []
unfolding der_computes
dotted = refl

bits : bits_of (hex "04A0") ∷ bits_of (hex "00") ∷ bits_of (hex "0780") ∷ [] ≡ (1 ∷ 0 ∷ 1 ∷ 0 ∷ []) ∷ [] ∷ (1 ∷ []) ∷ []
unfolding der_computes
bits = refl

-- ---- stored names
-- an element of fewer than 128 octets
element : ℕ → List ℕ → List ℕ
element o c = o ∷ length c ∷ c

repeated : ℕ → List ℕ → List ℕ
repeated zero c = []
repeated (suc n) c = c ++ repeated n c

-- the contents of an RDN with one pair
one_pair : String → List ℕ
one_pair s = element 48 (hex s)

-- a pair is legal where the RDN with it alone is
legal_pair_in : String → Bool
legal_pair_in s = legal kind.rdn (one_pair s)

-- values that are a UTF8String, a PrintableString, an IA5String; a BMPString, a TeletexString, a constructed UTF8String, context tags 0 and 12
values : map legal_pair_in ("06012A0C00" ∷ "06012A130141" ∷ "06012A16017F" ∷ "06012A1E020041" ∷ "06012A1400" ∷ "06012A2C00" ∷ "06012A8000" ∷ "06012A8C00" ∷ [])
    ≡ true ∷ true ∷ true ∷ false ∷ false ∷ false ∷ false ∷ false ∷ []
unfolding der_computes element one_pair legal_pair_in
values = refl

-- contents of values: UTF-8 of two octets, and cut; a star in a PrintableString; 80 in an IA5String
value-contents : map legal_pair_in ("06012A0C02C3A9" ∷ "06012A0C01C3" ∷ "06012A13012A" ∷ "06012A160180" ∷ []) ≡ true ∷ false ∷ false ∷ false ∷ []
unfolding der_computes element one_pair legal_pair_in
value-contents = refl

-- attribute types: 2.5.4.3; a subidentifier that starts with 80, none, another tag, one that is constructed
attribute_types : map legal_pair_in ("06035504030C00" ∷ "060280010C00" ∷ "06000C00" ∷ "0D012A0C00" ∷ "26012A0C00" ∷ [])
    ≡ true ∷ false ∷ false ∷ false ∷ false ∷ []
unfolding der_computes element one_pair legal_pair_in
attribute_types = refl

-- a pair of nothing, of a type alone, of three elements, with an octet after it; lengths that are not shortest
pairs : map legal_pair_in ("" ∷ "06012A" ∷ "06012A0C000C00" ∷ "06012A0C0000" ∷ "06012A0C8100" ∷ "0681012A0C00" ∷ [])
    ≡ false ∷ false ∷ false ∷ false ∷ false ∷ false ∷ []
unfolding der_computes element one_pair legal_pair_in
pairs = refl

-- an RDN of no pair, of 1, 4 and 5 equal ones; of two in order, out of order; with an octet after it; its pair a SET, or with a length that is not shortest
rdns : map (legal kind.rdn) ([] ∷ one_pair "06012A0C00" ∷ repeated 4 (one_pair "06012A0C00") ∷ repeated 5 (one_pair "06012A0C00")
    ∷ (one_pair "06012A0C0141" ++ one_pair "06012A0C0142") ∷ (one_pair "06012A0C0142" ++ one_pair "06012A0C0141") ∷ (one_pair "06012A0C00" ++ hex "00")
    ∷ element 49 (hex "06012A0C00") ∷ hex "30810506012A0C00" ∷ [])
    ≡ false ∷ true ∷ true ∷ false ∷ true ∷ false ∷ false ∷ false ∷ false ∷ []
unfolding der_computes element repeated one_pair
rdns = refl

-- an RDN of one pair
one_rdn : List ℕ
one_rdn = element 49 (one_pair "06012A0C00")

-- a name of 0, 1, 16 and 17 RDNs; of an RDN without pairs; with an octet after it; its RDN a SEQUENCE, or with a length that is not shortest; the second RDN
-- out of order
names : map (legal kind.rdn_sequence) ([] ∷ one_rdn ∷ repeated 16 one_rdn ∷ repeated 17 one_rdn ∷ hex "3100" ∷ (one_rdn ++ hex "00")
    ∷ element 48 (one_pair "06012A0C00") ∷ hex "318107300506012A0C00" ∷ (one_rdn ++ element 49 (one_pair "06012A0C0142" ++ one_pair "06012A0C0141")) ∷ [])
    ≡ true ∷ true ∷ true ∷ false ∷ false ∷ false ∷ false ∷ false ∷ false ∷ []
unfolding der_computes element repeated one_pair one_rdn
names = refl

-- c=AU, then o=A and o=B; a pair without a value, and one that is no pair
name_meaning : name_of (element 49 (one_pair "060355040613024155") ++ element 49 (one_pair "060355040A0C0141" ++ one_pair "060355040A130142"))
    ≡ (record { type = hex "550406"; value = bytes "AU" } ∷ [])
    ∷ (record { type = hex "55040A"; value = bytes "A" } ∷ record { type = hex "55040A"; value = bytes "B" } ∷ []) ∷ []
unfolding der_computes element one_pair
name_meaning = refl

pair_meaning : map pair_of (hex "06012A" ∷ hex "0C00" ∷ []) ≡ record { type = hex "2A"; value = [] } ∷ record { type = []; value = [] } ∷ []
unfolding der_computes
pair_meaning = refl
