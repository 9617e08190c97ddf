-- Computed examples.
use Rattle.std.specs.Prelude.{◌≡◌, refl, Bool, true, false, List, [], ◌∷◌, ◌++◌, map, ℕ, replicate}
use Rattle.std.specs.Prelude.{Some}
use Prim.Native.String.{String}
use Rattle.octets.specs.Pick.{is_some}
use Rattle.octets.specs.Octets.{bytes, hex}
use Rattle.rows.specs.Paper.{table_limits}
use Rattle.types.specs.Paper.{member_row, licence}
use Rattle.types.specs.Types.{Tagging, untagged, explicit, implicit, Presence, mandatory, optional, default, Member, Ty, basic, sequence, choice, list_of, no_more, more}
use Rattle.value.specs.Paper.{value_limits, licence_record}
use Rattle.value.specs.Value.{leaf, fields, chosen, end_fields, present, absent}
use Rattle.value.specs.Decode.{stored_value}
use Rattle.value.specs.Check.{ValueReport, refused, good, value_report}
use Rattle.value.specs.Part.{refused_part, part_report}
use Rattle.value.specs.Computing.{value_computes}

abbrev report : List ℕ → ValueReport
report v = value_report table_limits value_limits licence v

licence_record_lem : report licence_record ≡ good
unfolding value_computes
licence_record_lem = refl

-- sizes 0 and 1; a table not admitted, of no octets; an octet more; one less; another tag
checks : report [] ∷ report (hex "30") ∷ value_report table_limits value_limits (0 ∷ []) licence_record ∷ value_report table_limits value_limits [] licence_record
    ∷ report (licence_record ++ 0 ∷ []) ∷ report (hex "3000") ∷ report (hex "0200") ∷ []
    ≡ refused 1 ∷ refused 1 ∷ refused 2 ∷ refused 1 ∷ refused 4 ∷ refused 4 ∷ refused 4 ∷ []
unfolding value_computes
checks = refl

-- ---- one type at a time
holds : Ty → String → Bool
holds ty s = is_some (stored_value ty (hex s))

abbrev plain : String → Tagging → Presence → Member
plain x g p = record { row = 1; name = bytes x; tagging = g; presence = p }

-- a member of a SEQUENCE of one
abbrev only : Tagging → Presence → Ty → Ty
only g p ty = sequence (more (plain "a" g p) ty no_more)

-- a BIT STRING with names: no bits; '11'B; a trailing zero bit, with unused bits and without; constructed; a bit beyond the names
named_bits : map (holds (basic 17 (record { name = bytes "print"; number = 0 } ∷ [])))
    ("030100" ∷ "030206C0" ∷ "030205C0" ∷ "030200FE" ∷ "230206C0" ∷ "03030700FF80" ∷ "0303070180" ∷ [])
    ≡ true ∷ true ∷ false ∷ false ∷ false ∷ false ∷ true ∷ []
unfolding value_computes holds
named_bits = refl

-- an RDNSequence of one RDN, of none; with the tag of a SET, primitive; with an octet more; of an RDN without pairs, of one whose value is a BMPString
names : map (holds (basic 19 [])) ("30093107300506012A0C00" ∷ "3000" ∷ "31093107300506012A0C00" ∷ "10093107300506012A0C00" ∷ "300A3107300506012A0C0000"
    ∷ "30023100" ∷ "30093107300506012A1E00" ∷ [])
    ≡ true ∷ true ∷ false ∷ false ∷ false ∷ false ∷ false ∷ []
unfolding value_computes holds
names = refl

-- an RDN of one pair, of none; with the tag of a SEQUENCE; as an element; an RDNSequence with an implicit tag, that primitive, and without it
rdns : map (holds (basic 20 [])) ("3107300506012A0C00" ∷ "3100" ∷ "3007300506012A0C00" ∷ [])
    ++ map (holds (list_of 14 (basic 20 []))) ("30093107300506012A0C00" ∷ "30023100" ∷ [])
    ++ map (holds (only (implicit 1) mandatory (basic 19 []))) ("300BA1093107300506012A0C00" ∷ "300B81093107300506012A0C00" ∷ "300B30093107300506012A0C00" ∷ [])
    ≡ true ∷ false ∷ false ∷ true ∷ false ∷ true ∷ false ∷ false ∷ []
unfolding value_computes holds
rdns = refl

-- a record of a holder and an INTEGER: one RDN of two pairs; the same pairs falling; the holder an octet too short
abbrev holding : List ℕ
holding = 12 ∷ 2 ∷ member_row "holder" 3 0 0 0 [] ++ member_row "id" 4 0 0 0 [] ++ 19 ∷ 2 ∷ []

holders : map (value_report table_limits value_limits holding) (hex "301730123110300606012A0C0141300606012A0C0142020105"
    ∷ hex "301730123110300606012A0C0142300606012A0C0141020105" ∷ hex "301730113110300606012A0C0141300606012A0C0142020105" ∷ [])
    ≡ good ∷ refused 4 ∷ refused 4 ∷ []
unfolding value_computes
holders = refl

-- a holder is a leaf, with its RDNs as contents
holder_place : stored_value (only untagged mandatory (basic 19 [])) (hex "300B30093107300506012A0C00")
    ≡ Some (fields (record { place = 0; size = 13; contents = hex "30093107300506012A0C00" })
    (present (plain "a" untagged mandatory) (leaf 19 (record { place = 2; size = 11; contents = hex "3107300506012A0C00" })) end_fields))
unfolding value_computes
holder_place = refl

-- `[0]` explicit: the wrapper exactly filled; not filled; passed; left out; another number; the constructed bit missing
wrappers : map (holds (only (explicit 0) mandatory (basic 2 []))) ("3005A003020105" ∷ "3006A00402010500" ∷ "3005A002020105" ∷ "3003020105" ∷ "3005A103020105" ∷ "30058003020105" ∷ [])
    ≡ true ∷ false ∷ false ∷ false ∷ false ∷ false ∷ []
unfolding value_computes holds
wrappers = refl

-- what the next member could be does not stand in the wrapper of the one before it
wrapped_together : map (holds (sequence (more (plain "a" (explicit 0) mandatory) (basic 2 []) (more (plain "b" untagged optional) (basic 1 []) no_more))))
    ("3008A0030201050101FF" ∷ "3008A0060201050101FF" ∷ []) ≡ true ∷ false ∷ []
unfolding value_computes holds
wrapped_together = refl

-- `[0]` implicit: an INTEGER is not constructed, a SEQUENCE is
implicits : map (holds (only (implicit 0) mandatory (basic 2 []))) ("3003800105" ∷ "3003A00105" ∷ "3003020105" ∷ []) ++ map
    (holds (only (implicit 0) mandatory (sequence no_more))) ("3002A000" ∷ "30028000" ∷ [])
    ≡ true ∷ false ∷ false ∷ true ∷ false ∷ []
unfolding value_computes holds
implicits = refl

-- an optional member, there and absent; of a tag that no member has; a mandatory one absent; twice
optionals : map (holds (only untagged optional (basic 2 []))) ("3003020105" ∷ "3000" ∷ "3003010100" ∷ "3006020105020105" ∷ []) ++ map
    (holds (only untagged mandatory (basic 2 []))) ("3000" ∷ [])
    ≡ true ∷ true ∷ false ∷ false ∷ false ∷ []
unfolding value_computes holds
optionals = refl

-- a default stored explicitly, under each tag mode; another value there
defaults : holds (only untagged (default (1 ∷ [])) (basic 2 [])) "3003020101" ∷ holds (only (implicit 0) (default (1 ∷ [])) (basic 2 [])) "3003800101"
    ∷ holds (only (explicit 0) (default (1 ∷ [])) (basic 2 [])) "3005A003020101" ∷ holds (only untagged (default (1 ∷ [])) (basic 2 [])) "3003020102" ∷ holds
    (only untagged (default (1 ∷ [])) (basic 2 [])) "3000" ∷ []
    ≡ false ∷ false ∷ false ∷ true ∷ true ∷ []
unfolding value_computes holds
defaults = refl

-- SET OF INTEGER: rising, equal, falling; a longer encoding after a shorter one, and before it; SEQUENCE OF in any order
orders : map (holds (list_of 15 (basic 2 []))) ("3106020101020102" ∷ "3106020101020101" ∷ "3106020102020101" ∷ "31070201010202007F" ∷ "310702010102020080" ∷ "310702020080020101" ∷ "3100" ∷ [])
    ++ map (holds (list_of 14 (basic 2 []))) ("3006020102020101" ∷ "3106020102020101" ∷ [])
    ≡ true ∷ true ∷ false ∷ false ∷ true ∷ false ∷ true ∷ true ∷ false ∷ []
unfolding value_computes holds
orders = refl

-- an untagged CHOICE in a CHOICE, with a tagged alternative; a tag of no alternative
abbrev nested : Ty
nested = choice (more (plain "a" untagged mandatory) (choice (more (plain "b" untagged mandatory) (basic 2 [])
    (more (plain "c" (explicit 3) mandatory) (basic 1 []) no_more))) no_more)

choices : map (holds nested) ("020105" ∷ "A3030101FF" ∷ "0101FF" ∷ "A3040101FF00" ∷ []) ≡ true ∷ true ∷ false ∷ false ∷ []
unfolding value_computes holds
choices = refl

-- places: a CHOICE starts at its alternative's first octet, the alternative inside its wrapper
places : stored_value nested (hex "A3030101FF")
    ≡ Some (chosen (record { place = 0; size = 5; contents = hex "0101FF" }) (plain "a" untagged mandatory)
    (chosen (record { place = 0; size = 5; contents = hex "0101FF" }) (plain "c" (explicit 3) mandatory) (leaf 1 (record { place = 2; size = 3; contents = hex "FF" }))))
unfolding value_computes
places = refl

-- a member inside its explicit wrapper, then an absent one
member-places : stored_value (sequence (more (plain "a" (explicit 0) mandatory) (basic 2 []) (more (plain "b" untagged optional) (basic 1 []) no_more)))
    (hex "3005A003020105")
    ≡ Some (fields (record { place = 0; size = 7; contents = hex "A003020105" }) (present (plain "a" (explicit 0) mandatory) (leaf 2 (record { place = 4; size = 3; contents = hex "05" }))
    (absent (plain "b" untagged optional) end_fields)))
unfolding value_computes
member-places = refl

-- ---- the fifth entry: a part; an empty one at the end; one octet too many; a place beyond; sizes 1 and 4,097
parts : map (λ n. part_report value_limits licence_record n 3) (20 ∷ 21 ∷ 100 ∷ []) ++ part_report value_limits licence_record 23 0 ∷ part_report value_limits licence_record 24 0
    ∷ part_report value_limits (0 ∷ []) 0 1 ∷ part_report value_limits (replicate 4097 0) 0 1 ∷ part_report value_limits licence_record 18446744073709551615 18446744073709551615 ∷ []
    ≡ record { refusal = 0; octets = hex "800103" } ∷ refused_part 4 ∷ refused_part 4 ∷ record { refusal = 0; octets = [] } ∷ refused_part 4 ∷ refused_part 1 ∷ refused_part 1 ∷ refused_part 4 ∷ []
unfolding value_computes
parts = refl
