-- What a reference names in a decoded value. "A reference is read from the left: at first the whole value is held; each component identifier
-- in it then replaces each held value by those it names there, none, one or more. The reference names what is held at its end."
use Rattle.std.specs.Prelude.{ℕ, suc, ◌+◌, ◌-◌, Bool, List, [], ◌∷◌, ◌++◌, leb, eqb}
use Rattle.octets.specs.Pick.{pick}
use Rattle.octets.specs.Octets.{same}
use Rattle.types.specs.Types.{Presence, mandatory, optional, default, Member}
use Rattle.value.specs.Value.{Value, leaf, fields, chosen, elements, Fields, end_fields, present, absent, Values, end_values, next}
use Rattle.reference.specs.Reference.{Index, position, from_end, count, all, Id, name, index}

-- a held value: a stored one; the default of a member that is absent from the SEQUENCE at a place; the count of the list at a place
pub data Held : Type 0 where
  value : Value → Held
  default_value : ℕ → Member → Held
  count_value : ℕ → ℕ → Held

-- "An alternative not chosen or an optional member absent names nothing. An absent default member names its default, or nothing if defaults are off."
abbrev pub absent_names : Bool → ℕ → Member → Presence → List Held
absent_names defaults place m mandatory = []
absent_names defaults place m optional = []
absent_names defaults place m (default c) = pick defaults (default_value place m ∷ []) []

unfoldable pub member_named : Bool → ℕ → List ℕ → Fields → List Held
member_named defaults place x end_fields = []
member_named defaults place x (present m y fs) = let r = member_named defaults place x fs in pick (same m.name x) (value y ∷ []) r
member_named defaults place x (absent m fs) = let r = member_named defaults place x fs in pick (same m.name x) (absent_names defaults place m m.presence) r

-- how many elements a list has
unfoldable pub size : Values → ℕ
size end_values = 0
size (next x xs) = suc (size xs)

-- all of them
unfoldable pub each : Values → List Held
each end_values = []
each (next x xs) = value x ∷ each xs

-- the element at a position from 1; "one beyond the end names nothing"; "SET OF positions are in stored order"
unfoldable pub element_at : ℕ → Values → List Held
element_at n end_values = []
element_at n (next x xs) = let r = element_at (n - 1) xs in pick (eqb n 1) (value x ∷ []) r

-- the element at a position from the end
abbrev pub element_from_end : ℕ → Values → List Held
element_from_end n xs = pick (leb n (size xs)) (element_at (size xs + 1 - n) xs) []

-- what one identifier names in a SEQUENCE, a CHOICE, a list
abbrev pub in_fields : Bool → Id → ℕ → Fields → List Held
in_fields defaults (name x) place fs = member_named defaults place x fs
in_fields defaults (index i) place fs = []

abbrev pub in_chosen : Id → Member → Value → List Held
in_chosen (name x) m y = pick (same m.name x) (value y ∷ []) []
in_chosen (index i) m y = []

abbrev pub indexed_by : Index → ℕ → Values → List Held
indexed_by (position n) place xs = element_at n xs
indexed_by (from_end n) place xs = element_from_end n xs
indexed_by count place xs = count_value place (size xs) ∷ []
indexed_by all place xs = each xs

abbrev pub in_elements : Id → ℕ → Values → List Held
in_elements (name x) place xs = []
in_elements (index i) place xs = indexed_by i place xs

-- what one identifier names in one held value
unfoldable pub step : Bool → Id → Held → List Held
step defaults i (value (leaf k s)) = []
step defaults i (value (fields s fs)) = in_fields defaults i s.place fs
step defaults i (value (chosen s m y)) = in_chosen i m y
step defaults i (value (elements s xs)) = in_elements i s.place xs
step defaults i (default_value place m) = []
step defaults i (count_value place n) = []

-- each held value is replaced by those that the identifier names there
unfoldable pub replaced : Bool → Id → List Held → List Held
replaced defaults i [] = []
replaced defaults i (h ∷ hs) = step defaults i h ++ replaced defaults i hs

-- what is held at the end of the identifiers
unfoldable pub held : Bool → List Id → List Held → List Held
held defaults [] hs = hs
held defaults (i ∷ is) hs = held defaults is (replaced defaults i hs)

-- "A missing reference names the whole value": it has no identifiers
unfoldable pub named : Bool → List Id → Value → List Held
named defaults is x = held defaults is (value x ∷ [])
