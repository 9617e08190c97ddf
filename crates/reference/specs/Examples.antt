-- Computed examples.
use Rattle.std.specs.Prelude.{◌≡◌, refl, Bool, true, false, List, [], ◌∷◌, ◌++◌, map, ℕ}
use Rattle.std.specs.Prelude.{Option, None, Some}
use Prim.Native.String.{String}
use Rattle.octets.specs.Pick.{bind}
use Rattle.octets.specs.Octets.{bytes, hex}
use Rattle.types.specs.Types.{Ty, type_at, basic}
use Rattle.rows.specs.Paper.{table_limits}
use Rattle.types.specs.Paper.{member_row, licence}
use Rattle.value.specs.Decode.{stored_value}
use Rattle.value.specs.Value.{Value}
use Rattle.value.specs.Paper.{licence_record}
use Rattle.reference.specs.Reference.{position, from_end, count, all, Id, name, index, read_reference}
use Rattle.reference.specs.Allowed.{Target, of_type, of_count, allowed}
use Rattle.reference.specs.Named.{named}
use Rattle.reference.specs.Numbers.{component, threes}
use Rattle.reference.specs.Computing.{reference_computes}

-- ---- reading
read : String → Option (List Id)
read s = read_reference (bytes s)

good : map read ("parts.*.copies" ∷ "parts.-1" ∷ "parts.0" ∷ "a-b9" ∷ "12" ∷ "content" ∷ [])
    ≡ Some (name (bytes "parts") ∷ index all ∷ name (bytes "copies") ∷ []) ∷ Some (name (bytes "parts") ∷ index (from_end 1) ∷ []) ∷ Some (name (bytes "parts")
    ∷ index count ∷ [])
    ∷ Some (name (bytes "a-b9") ∷ []) ∷ Some (index (position 12) ∷ []) ∷ Some (name (bytes "content") ∷ []) ∷ []
unfolding reference_computes read
good = refl

-- a position of any size; nothing; a dot too many; leading zeros; minus zero; a capital; hyphens; a space; a selection; two stars
large : read "18446744073709551617" ≡ Some (index (position 18446744073709551617) ∷ [])
unfolding reference_computes read
large = refl

malformed : map read ("" ∷ "." ∷ "a." ∷ ".a" ∷ "a..b" ∷ "01" ∷ "00" ∷ "-0" ∷ "-01" ∷ "-" ∷ "A" ∷ "a-" ∷ "a--b" ∷ "a b" ∷ " a" ∷ "(1)" ∷ "**" ∷ "1a" ∷ [])
    ≡ None ∷ None ∷ None ∷ None ∷ None ∷ None ∷ None ∷ None ∷ None ∷ None ∷ None ∷ None ∷ None ∷ None ∷ None ∷ None ∷ None ∷ None ∷ []
unfolding reference_computes read
malformed = refl

-- ---- what the licence type allows
abbrev licence_type : Ty
licence_type = type_at table_limits licence 0

abbrev leads_to : Ty → Option (List Id) → Option Target
leads_to ty is = bind is (λ l. allowed l ty)

allows : String → Option Target
allows s = leads_to licence_type (read s)

-- the count is an INTEGER of its own; nothing is below a count or a basic type; no position on a SEQUENCE, no name on a list, no unknown name
allowances : map allows ("event" ∷ "parts.0" ∷ "parts.*.copies" ∷ "parts.-7.name" ∷ [])
    ≡ Some (of_type (basic 8 [])) ∷ Some of_count ∷ Some (of_type (basic 2 [])) ∷ Some (of_type (basic 9 [])) ∷ []
unfolding reference_computes read allows
allowances = refl

refusals : map allows ("parts.0.1" ∷ "event.1" ∷ "1" ∷ "0" ∷ "parts.copies" ∷ "other" ∷ "Event" ∷ "event.content" ∷ "parts.*.copies.0" ∷ [])
    ≡ None ∷ None ∷ None ∷ None ∷ None ∷ None ∷ None ∷ None ∷ None ∷ []
unfolding reference_computes read allows
refusals = refl

-- document 02, Q-3: no reference goes inside an RDNSequence or an RDN; a SEQUENCE OF RDN is a list
abbrev holding : Ty
holding = type_at table_limits (12 ∷ 2 ∷ member_row "holder" 3 0 0 0 [] ++ member_row "rdns" 4 0 0 0 [] ++ 19 ∷ 14 ∷ 0 ∷ 5 ∷ 20 ∷ []) 0

holding_allows : String → Option Target
holding_allows s = leads_to holding (read s)

in_names : map holding_allows ("holder" ∷ "rdns.-1" ∷ "rdns.0" ∷ "holder.-1" ∷ "holder.0" ∷ "holder.*" ∷ "holder.content" ∷ "rdns.1.1" ∷ "rdns.*.0" ∷ [])
    ≡ Some (of_type (basic 19 [])) ∷ Some (of_type (basic 20 [])) ∷ Some of_count ∷ None ∷ None ∷ None ∷ None ∷ None ∷ None ∷ []
unfolding reference_computes read holding_allows
in_names = refl

-- ---- the three numbers of what a reference names in a record
abbrev listed : Bool → Option (List Id) → Option Value → List ℕ
listed d None x = []
listed d (Some is) None = []
listed d (Some is) (Some x) = threes (map component (named d is x))

names : Bool → List ℕ → String → List ℕ
names d v s = listed d (read s) (stored_value licence_type v)

-- P11, P12, and the other forms; a position beyond the end names nothing
in_the_licence : map (names true licence_record) ("parts.*.copies" ∷ "parts.0" ∷ "event" ∷ "seats" ∷ "parts" ∷ "parts.2" ∷ "parts.-2" ∷ "parts.3" ∷ "parts.-3"
    ∷ "parts.18446744073709551617" ∷ [])
    ≡ (1 ∷ 8 ∷ 9 ∷ 0 ∷ 20 ∷ 3 ∷ []) ∷ (2 ∷ 6 ∷ 2 ∷ []) ∷ (0 ∷ 2 ∷ 4 ∷ []) ∷ (1 ∷ 0 ∷ 2 ∷ []) ∷ (0 ∷ 6 ∷ 17 ∷ []) ∷ (0 ∷ 14 ∷ 9 ∷ []) ∷ (0 ∷ 8 ∷ 6 ∷ []) ∷ []
    ∷ [] ∷ [] ∷ []
unfolding reference_computes read names
in_the_licence = refl

-- with defaults off an absent default names nothing
without-defaults : map (names false licence_record) ("parts.*.copies" ∷ "seats" ∷ []) ≡ (0 ∷ 20 ∷ 3 ∷ []) ∷ [] ∷ []
unfolding reference_computes read names
without-defaults = refl

-- a default for each enclosing SEQUENCE that lacks it: two parts without copies
two-defaults : names true (hex "30120C026531300C300413025661300413025662") "parts.*.copies" ≡ 1 ∷ 8 ∷ 9 ∷ 1 ∷ 14 ∷ 9 ∷ []
unfolding reference_computes read names
two-defaults = refl
