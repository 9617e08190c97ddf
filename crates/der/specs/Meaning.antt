-- What contents mean: an exact integer, a truth, arcs, bits. Octets mean themselves; times are in Time.
use Rattle.std.specs.Prelude.{ℕ, ◌-◌, ◌*◌, ◌/◌, ◌%◌, ◌^◌, Bool, true, false, List, [], ◌∷◌, ◌++◌, length, take, ltb, leb, eqb}
use Rattle.std.specs.Prelude.{Option, None, Some}
use Rattle.octets.specs.Pick.{pick, both, no}
use Rattle.octets.specs.Octets.{octet, base_from}
use Rattle.der.specs.Contents.{subidentifiers}

-- an integer of any size: its sign and size; zero has no sign
pub record Whole : Type 0 where
  pub minus : Bool
  pub size : ℕ

abbrev pub plus : ℕ → Whole
plus n = record { minus = false; size = n }

unfoldable pub same_whole : Whole → Whole → Bool
same_whole a b = both (pick a.minus b.minus (no b.minus)) (eqb a.size b.size)

unfoldable pub less_whole : Whole → Whole → Bool
less_whole a b = pick a.minus (pick b.minus (ltb b.size a.size) true) (pick b.minus false (ltb a.size b.size))

-- INTEGER: two's complement (X.690 8.3.3)
unfoldable pub integer_of : List ℕ → Whole
integer_of c = pick (leb 128 (octet c 0)) (record { minus = true; size = 256 ^ length c - base_from 0 c }) (plus (base_from 0 c))

-- BOOLEAN
unfoldable pub boolean_of : List ℕ → Bool
boolean_of c = no (eqb (octet c 0) 0)

-- OBJECT IDENTIFIER: the first subidentifier gives two arcs (X.690 8.19.4)
abbrev pub first_arcs : ℕ → List ℕ → List ℕ
first_arcs n l = pick (ltb n 40) (0 ∷ n ∷ l) (pick (ltb n 80) (1 ∷ (n - 40) ∷ l) (2 ∷ (n - 80) ∷ l))

abbrev pub arcs_from : Option (List ℕ) → List ℕ
arcs_from None = []
arcs_from (Some []) = []
arcs_from (Some (n ∷ l)) = first_arcs n l

unfoldable pub arcs_of : List ℕ → List ℕ
arcs_of c = arcs_from (subidentifiers c)

-- BIT STRING: the bits of its octets, from the top bit of the first on, without the unused ones
unfoldable pub octet_bits : ℕ → List ℕ
octet_bits o = (o / 128 % 2) ∷ (o / 64 % 2) ∷ (o / 32 % 2) ∷ (o / 16 % 2) ∷ (o / 8 % 2) ∷ (o / 4 % 2) ∷ (o / 2 % 2) ∷ (o % 2) ∷ []

unfoldable pub all_bits : List ℕ → List ℕ
all_bits [] = []
all_bits (o ∷ os) = octet_bits o ++ all_bits os

unfoldable pub bits_of : List ℕ → List ℕ
bits_of [] = []
bits_of (u ∷ os) = take (8 * length os - u) (all_bits os)
