-- What a reader sees of a decoded value: at the place of each value in it, that value's whole length, its octets and its contents.
use Rattle.std.specs.Prelude.{◌≡◌, List, ℕ, ◌+◌}
use Rattle.octets.specs.Octets.{part}
use Rattle.value.specs.Value.{Spot, Value, leaf, fields, chosen, elements, Fields, end_fields, present, absent, Values, end_values, next}
use Rattle.reader.specs.There.{contents_there}
use Rattle.reader.specs.Inner.Reads.{size_there, next_there, value_there}

-- at a spot
pub record Sees (v : List ℕ) (s : Spot) : Type 0 where
  pub size : size_there v s.place ≡ s.size
  pub after : next_there v s.place ≡ s.place + s.size
  pub octets : value_there v s.place ≡ part v s.place s.size
  pub contents : contents_there v s.place ≡ s.contents

-- at the place of each value
unfoldable mutual
  pub SeesAll : List ℕ → Value → Type 0
  SeesAll v (leaf k s) = Sees v s
  SeesAll v (fields s fs) = Sees v s × SeesFields v fs
  SeesAll v (chosen s m x) = Sees v s × SeesAll v x
  SeesAll v (elements s xs) = Sees v s × SeesElements v xs

  pub SeesFields : List ℕ → Fields → Type 0
  SeesFields v end_fields = Unit {0}
  SeesFields v (present m x fs) = SeesAll v x × SeesFields v fs
  SeesFields v (absent m fs) = SeesFields v fs

  pub SeesElements : List ℕ → Values → Type 0
  SeesElements v end_values = Unit {0}
  SeesElements v (next x xs) = SeesAll v x × SeesElements v xs
