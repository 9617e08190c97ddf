-- Decoded values, with their places. "A place is an octet's number in the stored value, from 0."
use Rattle.std.specs.Prelude.{ℕ, ◌+◌, ◌-◌, List}
use Rattle.octets.specs.Octets.{part}
use Rattle.types.specs.Types.{Member}

-- where a value stands: the place of its own tag octet (inside its member's explicit wrapper; a CHOICE starts at its alternative's first
-- octet), its whole length, and the contents behind its header
pub record Spot : Type 0 where
  pub place : ℕ
  pub size : ℕ
  pub contents : List ℕ

mutual
  pub data Value : Type 0 where
    -- a value of a basic kind
    leaf : ℕ → Spot → Value
    -- a SEQUENCE
    fields : Spot → Fields → Value
    -- a CHOICE, with the alternative chosen
    chosen : Spot → Member → Value → Value
    -- a SEQUENCE OF or SET OF
    elements : Spot → Values → Value

  pub data Fields : Type 0 where
    end_fields : Fields
    present : Member → Value → Fields → Fields
    absent : Member → Fields → Fields

  pub data Values : Type 0 where
    end_values : Values
    next : Value → Values → Values

abbrev pub spot_of : Value → Spot
spot_of (leaf k s) = s
spot_of (fields s fs) = s
spot_of (chosen s m x) = s
spot_of (elements s xs) = s

-- the spot of a value at a place whose contents are n octets from start on
unfoldable pub spot_at : List ℕ → ℕ → ℕ → ℕ → Spot
spot_at v at start n = record { place = at; size = start + n - at; contents = part v start n }

-- a value's whole encoding
unfoldable pub encoding : List ℕ → Value → List ℕ
encoding v x = part v (spot_of x).place (spot_of x).size
