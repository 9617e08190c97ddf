-- Document 01's licence table, and the rows of document 02's rights, for computed examples.
use Rattle.std.specs.Prelude.{ℕ, ◌/◌, ◌%◌, List, [], ◌∷◌, ◌++◌, length, take, replicate}
use Prim.Native.String.{String}
use Rattle.octets.specs.Octets.{bytes}

-- n octets, filled with zeros
abbrev pub fill : ℕ → List ℕ → List ℕ
fill n l = take n (l ++ replicate n 0)

-- a member's body behind its name: type row, tag mode, context tag number, presence, default contents
abbrev pub behind_name : ℕ → ℕ → ℕ → ℕ → List ℕ → List ℕ
behind_name type mode number presence c = (type / 256) ∷ (type % 256) ∷ mode ∷ number ∷ presence ∷ length c ∷ fill 8 c

-- a member row; with a long name (document 02, Q-4)
abbrev pub member_row : String → ℕ → ℕ → ℕ → ℕ → List ℕ → List ℕ
member_row name type mode number presence c = 16 ∷ fill 24 (bytes name) ++ behind_name type mode number presence c

abbrev pub long_row : String → ℕ → ℕ → ℕ → ℕ → List ℕ → List ℕ
long_row name type mode number presence c = 21 ∷ fill 48 (bytes name) ++ behind_name type mode number presence c

-- the row of a named bit, with the bit's number
abbrev pub bit_row : String → ℕ → List ℕ
bit_row name number = 18 ∷ fill 24 (bytes name) ++ number ∷ []

-- "A licence's rights are a BIT STRING with names: print, perform, record."
abbrev pub rights : List ℕ
rights = 17 ∷ 3 ∷ bit_row "print" 0 ++ bit_row "perform" 1 ++ bit_row "record" 2

-- "One licence record"
abbrev pub licence : List ℕ
licence =
    12 ∷ 3 ∷ member_row "event" 4 0 0 0 [] ++ member_row "seats" 5 0 0 2 (1 ∷ []) ++ member_row "parts" 6 0 0 0 []
    ++ 8 ∷ 2 ∷ 14 ∷ 0 ∷ 7 ∷ 12 ∷ 2 ∷ member_row "name" 10 0 0 0 [] ++ member_row "copies" 11 2 0 2 (1 ∷ []) ++ 9 ∷ 2 ∷ []
