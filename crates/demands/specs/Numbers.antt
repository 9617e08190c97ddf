-- "A listed value is three numbers: source, place, number": the component that three numbers stand for, in a table and a stored value; and what
-- it is for listed numbers to determine the components that they are of.
use Rattle.std.specs.Prelude.{ℕ, ◌≡◌, List, [], ◌∷◌, map, eqb}
use Rattle.octets.specs.Pick.{pick}
use Rattle.rows.specs.Limits.{Limits}
use Rattle.rows.specs.Row.{rows, row_at}
use Rattle.types.specs.Types.{member_of}
use Rattle.reader.specs.There.{contents_there}
use Rattle.reference.specs.Named.{Held}
use Rattle.reference.specs.Numbers.{Component, stored, by_default, by_count, component, Numbers, numbers_of, threes}
use Rattle.rules.specs.Rule.{Rule}
use Rattle.rules.specs.Asserted.{Asserted}
use Rattle.rules.specs.Accepts.{accepts, accepts_component}
use Rattle.demands.specs.Named.{accepts_one}

-- "Stored: 0, start of its own tag octet .., its whole length": with the contents behind the header there
abbrev pub stored_by : List ℕ → ℕ → ℕ → Component
stored_by v place size = stored (record { place = place; size = size; contents = contents_there v place })

-- "Default: 1, start of the enclosing SEQUENCE's own tag octet, the member's row": with the member that the table has in that row
abbrev pub default_by : Limits → List ℕ → ℕ → ℕ → Component
default_by l t place row = by_default place (member_of t row (row_at (rows l.rows t) row))

-- "Count: 2, the list's place, the elements."
unfoldable pub component_by : Limits → List ℕ → List ℕ → Numbers → Component
component_by l t v n =
    pick (eqb n.source 0) (stored_by v n.place n.number)
    (pick (eqb n.source 1) (default_by l t n.place n.number)
    (by_count n.place n.number))

-- the components that the numbers of a list stand for, three for each
unfoldable pub components_by : Limits → List ℕ → List ℕ → List ℕ → List Component
components_by l t v [] = []
components_by l t v (source ∷ []) = []
components_by l t v (source ∷ place ∷ []) = []
components_by l t v (source ∷ place ∷ number ∷ ns) = component_by l t v (record { source = source; place = place; number = number }) ∷ components_by l t v ns

-- the component that a component's own numbers stand for
abbrev pub read_back : Limits → List ℕ → List ℕ → Component → Component
read_back l t v c = component_by l t v (numbers_of c)

-- each of these components has a property
unfoldable pub Each : (Component → Type 0) → List Component → Type 0
Each P [] = Unit {0}
Each P (c ∷ cs) = P c × Each P cs

-- table t, stored value v and the listed numbers give the component of each of the named values hs back; so whether a rule accepts "at least one
-- value on that list" can be read off the list
pub record Determined (l : Limits) (t v : List ℕ) (hs : List Held) : Type 0 where
  pub each : Each (λ c. read_back l t v c ≡ c) (map component hs)
  pub all : map (read_back l t v) (map component hs) ≡ map component hs
  pub listed : components_by l t v (threes (map component hs)) ≡ map component hs
  pub acceptance : (u : Rule) (a : Asserted) → accepts_one (accepts u a) hs ≡ accepts_one (λ c. accepts_component u a (read_back l t v c)) (map component hs)
