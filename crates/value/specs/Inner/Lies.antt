-- Where the parts of a decoded value lie: each takes at least two octets, what is inside a header comes after it, and places rise in order.
use Rattle.std.specs.Prelude.{ℕ, ◌+◌, ◌≤◌}
use Rattle.value.specs.Value.{Spot, spot_of, Value, leaf, fields, chosen, elements, Fields, end_fields, present, absent, Values, end_values, next}

-- a spot from lo on, up to hi
pub record InSpot (lo hi : ℕ) (s : Spot) : Type 0 where
  pub from : lo ≤ s.place
  pub long : 2 ≤ s.size
  pub to : s.place + s.size ≤ hi

abbrev pub end_of : Value → ℕ
end_of x = (spot_of x).place + (spot_of x).size

unfoldable mutual
  pub Lies : ℕ → ℕ → Value → Type 0
  Lies lo hi (leaf k s) = InSpot lo hi s
  Lies lo hi (fields s fs) = InSpot lo hi s × LieInFields (s.place + 2) (s.place + s.size) fs
  Lies lo hi (chosen s m x) = InSpot lo hi s × Lies s.place (s.place + s.size) x
  Lies lo hi (elements s xs) = InSpot lo hi s × LieInTurn (s.place + 2) (s.place + s.size) xs

  -- members, each after the one before it
  pub LieInFields : ℕ → ℕ → Fields → Type 0
  LieInFields lo hi end_fields = lo ≤ hi
  LieInFields lo hi (present m x fs) = Lies lo hi x × LieInFields (end_of x) hi fs
  LieInFields lo hi (absent m fs) = LieInFields lo hi fs

  -- elements, each after the one before it
  pub LieInTurn : ℕ → ℕ → Values → Type 0
  LieInTurn lo hi end_values = lo ≤ hi
  LieInTurn lo hi (next x xs) = Lies lo hi x × LieInTurn (end_of x) hi xs
