-- Computed examples: rights with the names print (0), perform (1) and record (5).
use Rattle.std.specs.Prelude.{ℕ, ◌≡◌, refl, List, [], ◌∷◌, map, take}
use Prim.Native.String.{String}
use Rattle.std.specs.Prelude.{Option, None, Some}
use Rattle.octets.specs.Octets.{bytes}
use Rattle.octets.specs.Pick.{bind}
use Rattle.octets.specs.Computing.{octets_compute}
use Rattle.gser.specs.Listed.{after_spaces, before_spaces, in_braces, inside, parted, listed}
use Rattle.types.specs.Types.{NamedBit}
use Rattle.bitnames.specs.Names.{number_of, numbers_of, is_in, bits_listed, listed_bits}

abbrev named : String → ℕ → NamedBit
named name number = record { name = bytes name; number = number }

rights : List NamedBit
rights = named "print" 0 ∷ named "perform" 1 ∷ named "record" 5 ∷ []

-- bits 0 to 5 that a text lists
lists : String → Option (List ℕ)
lists t = bind (listed_bits rights (bytes t)) (λ l. Some (take 6 l))

-- by number, not by place; in any order; a repeated name counts once; none
known : map lists ("{print,perform}" ∷ "{ record,   print }" ∷ "{ print, print, perform, print }" ∷ "{}" ∷ "{ }" ∷ [])
    ≡ Some (1 ∷ 1 ∷ 0 ∷ 0 ∷ 0 ∷ 0 ∷ []) ∷ Some (1 ∷ 0 ∷ 0 ∷ 0 ∷ 0 ∷ 1 ∷ []) ∷ Some (1 ∷ 1 ∷ 0 ∷ 0 ∷ 0 ∷ 0 ∷ [])
    ∷ Some (0 ∷ 0 ∷ 0 ∷ 0 ∷ 0 ∷ 0 ∷ []) ∷ Some (0 ∷ 0 ∷ 0 ∷ 0 ∷ 0 ∷ 0 ∷ []) ∷ []
unfolding octets_compute after_spaces before_spaces in_braces inside parted listed number_of numbers_of is_in bits_listed listed_bits rights lists
known = refl

-- an unknown name, one of another case, a part of one; a space before a comma; a comma too many; no braces
unknown : map lists ("{stage}" ∷ "{print,PERFORM}" ∷ "{prin}" ∷ "{print ,perform}" ∷ "{print,}" ∷ "{,}" ∷ "print" ∷ "{{print}}" ∷ [])
    ≡ None ∷ None ∷ None ∷ None ∷ None ∷ None ∷ None ∷ None ∷ []
unfolding octets_compute after_spaces before_spaces in_braces inside parted listed number_of numbers_of is_in bits_listed listed_bits rights lists
unknown = refl
