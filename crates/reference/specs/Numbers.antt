-- "A listed value is three numbers: source, place, number."
use Rattle.std.specs.Prelude.{ℕ, List, [], ◌∷◌}
use Rattle.types.specs.Types.{Presence, mandatory, optional, default, Member}
use Rattle.value.specs.Value.{Spot, spot_of}
use Rattle.reference.specs.Named.{Held, value, default_value, count_value}

-- a component value, as the octets have it: a stored one by its spot; a default by the place of the enclosing SEQUENCE's own tag octet and its
-- member; a count by the list's place and the elements
pub data Component : Type 0 where
  stored : Spot → Component
  by_default : ℕ → Member → Component
  by_count : ℕ → ℕ → Component

abbrev pub component : Held → Component
component (value x) = stored (spot_of x)
component (default_value place m) = by_default place m
component (count_value place n) = by_count place n

pub record Numbers : Type 0 where
  pub source : ℕ
  pub place : ℕ
  pub number : ℕ

-- Stored: 0, start of its own tag octet, its whole length. Default: 1, start of the enclosing SEQUENCE's own tag octet, the member's row.
-- Count: 2, the list's place, the elements.
unfoldable pub numbers_of : Component → Numbers
numbers_of (stored s) = record { source = 0; place = s.place; number = s.size }
numbers_of (by_default place m) = record { source = 1; place = place; number = m.row }
numbers_of (by_count place n) = record { source = 2; place = place; number = n }

-- the contents that a default stands for
abbrev pub contents_of : Presence → List ℕ
contents_of mandatory = []
contents_of optional = []
contents_of (default c) = c

-- three numbers for each
unfoldable pub threes : List Component → List ℕ
threes [] = []
threes (c ∷ cs) = (numbers_of c).source ∷ (numbers_of c).place ∷ (numbers_of c).number ∷ threes cs
