-- Demand 1: "Each refusal is given exactly where document 01 says and nowhere else; it brings back no truth and a count of 0, and lent memory is not
-- written." For each entry one number: that of the first cause "in order of checking", 0 where there is none.
use Rattle.std.specs.Prelude.{ℕ, ◌+◌, ◌*◌, ◌≡◌, Bool, false, List, [], length, leb, ltb, eqb}
use Rattle.std.specs.Prelude.{Option, None, Some}
use Rattle.octets.specs.Pick.{pick, both, no, is_some, bind}
use Rattle.rows.specs.Limits.{table_fits}
use Rattle.types.specs.Types.{type_at}
use Rattle.types.specs.Admitted.{admitted}
use Rattle.types.specs.Check.{TableReport}
use Rattle.value.specs.Decode.{stored_value}
use Rattle.value.specs.Check.{ValueReport, value_fits, is_stored}
use Rattle.reference.specs.Reference.{given_ids}
use Rattle.reference.specs.Allowed.{allowed}
use Rattle.reference.specs.Numbers.{Component}
use Rattle.filter.specs.Filter.{Item, Filter}
use Rattle.filter.specs.Parse.{parse}
use Rattle.misfit.specs.Trail.{trail, has_misfit}
use Rattle.rules.specs.Rule.{known_rules}
use Rattle.evaluation.specs.Reading.{Outcome, settled}
use Rattle.engine.specs.Paper.{limits}
use Rattle.engine.specs.Misfit.{meets_misfit}
use Rattle.engine.specs.Answer.{Report, question_fits, evaluated}
use Rattle.engine.specs.Listing.{Listing, listing_fits}
use Rattle.demands.specs.Named.{components}

-- ---- the table check
pub record TableRefusals (one two : Bool) (r : TableReport) : Type 0 where
  pub number : r.refusal ≡ pick one 1 (pick two 2 0)
  pub done : r.done ≡ eqb r.refusal 0
  pub count : eqb r.refusal 0 ≡ false → r.rows ≡ 0

abbrev pub RefusesTable : List ℕ → TableReport → Type 0
RefusesTable t r = TableRefusals (no (table_fits limits.table t)) (no (admitted limits.table t)) r

-- ---- the value check
pub record ValueRefusals (one two four : Bool) (r : ValueReport) : Type 0 where
  pub number : r.refusal ≡ pick one 1 (pick two 2 (pick four 4 0))
  pub done : r.done ≡ eqb r.refusal 0

-- 1: the table's size or the value's
abbrev pub sizes : List ℕ → List ℕ → Bool
sizes t v = both (table_fits limits.table t) (value_fits limits.value v)

abbrev pub RefusesValue : List ℕ → List ℕ → ValueReport → Type 0
RefusesValue t v r = ValueRefusals (no (sizes t v)) (no (admitted limits.table t)) (no (is_stored limits.table t v)) r

-- ---- the fifth entry: "refused 1 for the value's size, then 4 if place plus length passes that size, each with an empty part"
abbrev pub part_refusal : List ℕ → ℕ → ℕ → ℕ
part_refusal v place size = pick (no (value_fits limits.value v)) 1 (pick (ltb (length v) (place + size)) 4 0)

pub record PartRefused (refusal : ℕ) (octets : List ℕ) : Type 0 where
  pub empty : eqb refusal 0 ≡ false → octets ≡ []

-- ---- the listing; "in a listing 7 goes before 6"
pub record ListRefusals (room : List ℕ) (one two three four seven six : Bool) (r : Listing) : Type 0 where
  pub number : r.report.refusal ≡ pick one 1 (pick two 2 (pick three 3 (pick four 4 (pick seven 7 (pick six 6 0)))))
  pub done : r.report.done ≡ eqb r.report.refusal 0
  pub count : eqb r.report.refusal 0 ≡ false → r.report.count ≡ 0
  pub unwritten : eqb r.report.refusal 0 ≡ false → r.memory ≡ room

-- a test of what an option holds; it fails where there is nothing
abbrev pub of_some : {A : Type 0} → (A → Bool) → Option A → Bool
of_some f None = false
of_some f (Some x) = f x

module _ (t v : List ℕ) (given : Bool) (r : List ℕ) (defaults : Bool) (room : List ℕ) where
  -- 3: whether the reference is well formed and allowed
  abbrev pub leads : Bool
  leads = is_some (bind (given_ids given r) (λ is. allowed is (type_at limits.table t 0)))

  -- 7: whether the walk along the reference reaches a header that doesn't fit
  abbrev pub walk_misfits : Bool
  walk_misfits = of_some (λ is. has_misfit (trail defaults is (type_at limits.table t 0) v)) (given_ids given r)

  -- what the reference names in the decoded value
  abbrev pub named_there : Option (List Component)
  named_there = bind (given_ids given r) (λ is. bind (stored_value (type_at limits.table t 0) v) (λ x. Some (components defaults is x)))

  -- 6: "room under three numbers per named value"
  abbrev pub room_short : Bool
  room_short = of_some (λ cs. ltb (length room) (length cs * 3)) named_there

  abbrev pub RefusesListing : Listing → Type 0
  RefusesListing l =
      ListRefusals room (no (listing_fits limits t v given r)) (no (admitted limits.table t)) (no leads) (no (is_stored limits.table t v)) walk_misfits room_short l

-- ---- a filter; "Of 5 and 7 the first met is given": 7 where a header that doesn't fit is met after at most the budget's tests
pub record AskRefusals (one two three four seven five : Bool) (r : Report) : Type 0 where
  pub number : r.refusal ≡ pick one 1 (pick two 2 (pick three 3 (pick four 4 (pick seven 7 (pick five 5 0)))))
  pub truth : is_some r.truth ≡ eqb r.refusal 0
  pub count : eqb r.refusal 0 ≡ false → r.tests ≡ 0

-- the tests of an outcome are within the budget
abbrev pub enough : ℕ → Outcome → Bool
enough budget (settled u n) = leb n budget

module _ (t v : List ℕ) (budget : ℕ) where
  -- 7: such a header is met, on the octets
  abbrev pub misfits : Filter Item → Bool
  misfits f = meets_misfit known_rules (type_at limits.table t 0) v budget f

  -- 5: "tests needed exceed the budget", for the decoded value
  abbrev pub over : Filter Item → Bool
  over f = of_some (λ x. no (enough budget (evaluated known_rules (type_at limits.table t 0) x f))) (stored_value (type_at limits.table t 0) v)

abbrev pub RefusesFilter : List ℕ → List ℕ → List ℕ → ℕ → Report → Type 0
RefusesFilter t v s budget r =
    AskRefusals (no (question_fits limits t v s budget)) (no (admitted limits.table t)) (no (is_some (parse limits.filter s))) (no (is_stored limits.table t v))
    (of_some (misfits t v budget) (parse limits.filter s)) (of_some (over t v budget) (parse limits.filter s)) r
