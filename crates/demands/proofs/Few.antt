-- "The count is at most items times half the value's length, rounded down."
use mathlib.Core.Path.{◌≡◌, refl, ap}
use mathlib.Core.Bool.{Bool, true, false}
use Rattle.std.specs.Prelude.{Option, None, Some}
use mathlib.Core.List.{List, [], ◌∷◌, map}
use Prim.Native.Nat.{ℕ, ◌≤◌, ◌+◌, ◌*◌, ◌/◌}
use native.Mathlib.Omega.{arith}
use native.Mathlib.Nat.{add-mul}
use lib.ListN.{length, length-append}
use Rattle.octets.specs.Pick.{pick}
use Rattle.types.specs.Types.{Ty}
use Rattle.value.specs.Value.{Value}
use Rattle.value.specs.Decode.{stored_value}
use Rattle.reference.specs.Reference.{Id}
use Rattle.reference.specs.Named.{Held, named}
use Rattle.reference.specs.Numbers.{component}
use Rattle.misfit.proofs.Spreading.{named_spread, spread_few}
use Rattle.rules.specs.Rule.{known_rules}
use Rattle.rules.specs.Accepts.{accepts}
use Rattle.filter.specs.Filter.{Item, Join, Filter, Filters, item, list, inverse, end_filters, next, items, items_in}
use Rattle.evaluation.specs.Truth.{Truth, TRUE}
use Rattle.evaluation.specs.Reading.{Outcome, settled, stops, added, and_then, inverted, reading, reading_in}
use Rattle.evaluation.specs.Assertion.{Asked, asked, testing, outcome_of, outcome}

-- the tests made
abbrev pub tests_of : Outcome → ℕ
tests_of (settled t n) = n

-- ---- one assertion: one test a named value at most
testing-few : (f : Held → Bool) (n : ℕ) (hs : List Held) → tests_of (testing f n hs) ≤ n + length (map component hs)
unfolding testing
testing-few f n [] = let e : length (map component []) ≡ 0 = refl in omega arith
testing-few f n (h ∷ hs) = go (f h) (testing-few f (n + 1) hs)
  where
    longer : length (map component (h ∷ hs)) ≡ length (map component hs) + 1
    longer = omega arith

    go : (b : Bool) → tests_of (testing f (n + 1) hs) ≤ n + 1 + length (map component hs) → tests_of (pick b (settled TRUE (n + 1)) (testing f (n + 1) hs)) ≤ n + length (map component (h ∷ hs))
    go true e = let l = longer in omega arith
    go false e = let l = longer in omega arith

module _ (ty : Ty) (v : List ℕ) (x : Value) (stored : stored_value ty v ≡ Some x) where
  named-few : (f : Held → Bool) (defaults : Bool) (is : List Id) → tests_of (testing f 0 (named defaults is x)) ≤ length v / 2
  named-few f defaults is =
      let a = testing-few f 0 (named defaults is x) in
      let b : 0 + 2 * length (map component (named defaults is x)) ≤ length v = spread_few 0 (length v) (map component (named defaults is x)) (named_spread defaults is ty v x stored) in
      omega arith

  outcome-few : (i : Item) → tests_of (outcome known_rules ty x i) ≤ length v / 2
  unfolding outcome
  outcome-few i = go (asked known_rules ty i)
    where
      go : (o : Option Asked) → tests_of (outcome_of x i o) ≤ length v / 2
      go None = omega arith
      go (Some a) = named-few (accepts a.rule a.asserted) i.defaults a.ids

-- ---- a filter: so many for each of its items
added-tests : (j : Join) (t : Truth) (n : ℕ) (r : Outcome) → tests_of (added j t n r) ≡ n + tests_of r
added-tests j t n (settled u m) = refl

then-few : (j : Join) (o r : Outcome) → tests_of (and_then j o r) ≤ tests_of o + tests_of r
then-few j (settled t n) r = go (stops j t)
  where
    go : (b : Bool) → tests_of (pick b (settled t n) (added j t n r)) ≤ n + tests_of r
    go true = omega arith
    go false = let e = added-tests j t n r in omega arith

inverted-tests : (o : Outcome) → tests_of (inverted o) ≡ tests_of o
inverted-tests (settled t n) = refl

mutual
  unfolding reading items

  reading_few : {A : Type 0} (f : Filter A) (says : A → Outcome) (most : ℕ) → ((i : A) → tests_of (says i) ≤ most) → tests_of (reading says f) ≤ length (items f) * most
  reading_few (item i) says most few = let a = few i in omega arith
  reading_few (list j fs) says most few = reading_in_few fs j says most few
  reading_few (inverse f) says most few = let a = reading_few f says most few in let b = inverted-tests (reading says f) in omega arith

  reading_in_few : {A : Type 0} (fs : Filters A) (j : Join) (says : A → Outcome) (most : ℕ) → ((i : A) → tests_of (says i) ≤ most) → tests_of (reading_in says j fs) ≤ length (items_in fs) * most
  reading_in_few end_filters j says most few = omega arith
  reading_in_few (next f fs) j says most few =
      let a = reading_few f says most few in
      let b = reading_in_few fs j says most few in
      let c = then-few j (reading says f) (reading_in says j fs) in
      let d = add-mul (length (items f)) (length (items_in fs)) most in
      let e = ap (λ (n : ℕ). n * most) (length-append (items f) (items_in fs)) in
      omega arith

-- the tests that a filter needs over a stored value
pub tests-few : (ty : Ty) (v : List ℕ) (x : Value) (f : Filter Item) → stored_value ty v ≡ Some x → tests_of (reading (outcome known_rules ty x) f) ≤ length (items f) * (length v / 2)
tests-few ty v x f stored = reading_few f (outcome known_rules ty x) (length v / 2) (outcome-few ty v x stored)
