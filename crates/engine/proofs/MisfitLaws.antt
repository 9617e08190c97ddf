-- Refusal 7 doesn't come: along the octets of a stored value each header fits, and what is met there is what the decoded value says.
use mathlib.Core.Path.{◌≡◌, refl, ap, ap₂, ◌∙◌}
use mathlib.Core.Bool.{Bool, true, false}
use Rattle.std.specs.Prelude.{Option, None, Some}
use mathlib.Core.List.{List, [], ◌∷◌}
use Prim.Native.Nat.{ℕ, ◌+◌}
use Rattle.octets.specs.Pick.{pick}
use Rattle.types.specs.Types.{Ty}
use Rattle.value.specs.Value.{Value}
use Rattle.value.specs.Decode.{stored_value}
use Rattle.reference.specs.Reference.{Id}
use Rattle.reference.specs.Named.{Held, value, default_value, count_value, named}
use Rattle.reference.specs.Numbers.{component}
use Rattle.misfit.specs.Trail.{trail, has_misfit}
use Rattle.misfit.proofs.Agreeing.{laid, laid-sound, trail-named}
use Rattle.rules.specs.Rule.{Rule, Known}
use Rattle.rules.specs.Asserted.{Asserted}
use Rattle.rules.specs.Accepts.{accepts, accepts_component}
use Rattle.filter.specs.Filter.{Item, Join, Filter, Filters, item, list, inverse, end_filters, next}
use Rattle.evaluation.specs.Truth.{TRUE}
use Rattle.evaluation.specs.Reading.{Outcome, settled, reading, reading_in}
use Rattle.evaluation.specs.Assertion.{Asked, asked, testing, outcome_of, outcome}
use Rattle.engine.specs.Misfit.{Met, ends, testing_trail, along_trail_of, along_trail, and_then_met, inverted_met, reading_met, reading_met_in, misfit_within, meets_misfit}

-- ---- what a rule accepts of a held value and of its component
pub accepts-component : (r : Rule) (a : Asserted) (h : Held) → accepts_component r a (component h) ≡ accepts r a h
unfolding accepts_component accepts
accepts-component r a (value x) = refl
accepts-component r a (default_value place m) = refl
accepts-component r a (count_value place n) = refl

-- ---- an assertion
trail-tested : (r : Rule) (a : Asserted) (n : ℕ) (hs : List Held) → testing_trail (accepts_component r a) n (laid hs) ≡ ends (testing (accepts r a) n hs)
unfolding testing_trail laid testing
trail-tested r a n [] = refl
trail-tested r a n (h ∷ hs) =
    ap₂ (λ (b : Bool) (m : Met). pick b (ends (settled TRUE (n + 1))) m) (accepts-component r a h) (trail-tested r a (n + 1) hs) ∙ go (accepts r a h)
  where
    go : (b : Bool) → pick b (ends (settled TRUE (n + 1))) (ends (testing (accepts r a) (n + 1) hs)) ≡ ends (pick b (settled TRUE (n + 1)) (testing (accepts r a) (n + 1) hs))
    go true = refl
    go false = refl

module _ (ks : List Known) (ty : Ty) (v : List ℕ) (x : Value) (stored : stored_value ty v ≡ Some x) where
  along-outcome : (i : Item) → along_trail ks ty v i ≡ ends (outcome ks ty x i)
  unfolding along_trail outcome
  along-outcome i = go (asked ks ty i)
    where
      go : (o : Option Asked) → along_trail_of ty v i o ≡ ends (outcome_of x i o)
      go None = refl
      go (Some a) =
          ap (testing_trail (accepts_component a.rule a.asserted) 0) (trail-named i.defaults a.ids ty v x stored) ∙ trail-tested a.rule a.asserted 0 (named i.defaults a.ids x)

-- ---- a filter
module _ {A : Type 0} (meets : A → Met) (says : A → Outcome) (each : (i : A) → meets i ≡ ends (says i)) where
  mutual
    unfolding reading_met reading

    reading_ends : (f : Filter A) → reading_met meets f ≡ ends (reading says f)
    reading_ends (item i) = each i
    reading_ends (list j fs) = reading_in_ends j fs
    reading_ends (inverse f) = ap inverted_met (reading_ends f)

    reading_in_ends : (j : Join) (fs : Filters A) → reading_met_in meets j fs ≡ ends (reading_in says j fs)
    reading_in_ends j end_filters = refl
    reading_in_ends j (next f fs) = ap₂ (and_then_met j) (reading_ends f) (reading_in_ends j fs)

-- ---- over a stored value: a filter; a listing
pub no-misfit : (ks : List Known) (ty : Ty) (v : List ℕ) (x : Value) → stored_value ty v ≡ Some x → (budget : ℕ) (f : Filter Item) → meets_misfit ks ty v budget f ≡ false
unfolding meets_misfit
no-misfit ks ty v x stored budget f = ap (misfit_within budget) (reading_ends (along_trail ks ty v) (outcome ks ty x) (along-outcome ks ty v x stored) f)

pub trail-fits : (ty : Ty) (v : List ℕ) (x : Value) → stored_value ty v ≡ Some x → (defaults : Bool) (is : List Id) → has_misfit (trail defaults is ty v) ≡ false
trail-fits ty v x stored defaults is = ap has_misfit (trail-named defaults is ty v x stored) ∙ laid-sound (named defaults is x)
