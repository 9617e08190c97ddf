-- Demand 1 of each entry's report.
use Prim.Native.Nat.{ℕ, ◌+◌, ◌*◌}
use mathlib.Core.Path.{◌≡◌, refl, sym, ap, ◌∙◌, subst}
use mathlib.Core.Bool.{Bool, true, false, true≢false}
use Rattle.std.specs.Prelude.{Option, None, Some}
use mathlib.Core.List.{List, []}
use borrow.Author.Tests.{leb-true, leb-false, lt-ltb, le-ltb}
use lib.ListN.{length}
use lib.Dec.{leb, ltb, eqb}
use Rattle.octets.specs.Pick.{pick, both, no, is_some, bind}
use Rattle.octets.specs.Octets.{part}
use Rattle.rows.specs.Limits.{table_fits}
use Rattle.rows.specs.Row.{rows}
use Rattle.types.specs.Types.{Ty, type_at}
use Rattle.types.specs.Admitted.{admitted}
use Rattle.types.specs.Check as table
use Rattle.value.specs.Value.{Value}
use Rattle.value.specs.Decode.{stored_value}
use Rattle.value.specs.Check as value
use Rattle.value.specs.Check.{value_fits, is_stored}
use Rattle.value.specs.Part.{PartReport, refused_part, part_report}
use Rattle.reference.specs.Reference.{Id, given_ids}
use Rattle.reference.specs.Allowed.{allowed}
use Rattle.reference.specs.Numbers.{Component}
use Rattle.filter.specs.Filter.{Item, Filter}
use Rattle.filter.specs.Parse.{parse}
use Rattle.misfit.specs.Trail.{trail, has_misfit}
use Rattle.rules.specs.Rule.{known_rules}
use Rattle.evaluation.specs.Reading.{Outcome, settled}
use Rattle.engine.specs.Paper.{limits}
use Rattle.engine.specs.Answer.{Report, refused, answers, budgeted, question_fits, evaluated, with_value, with_filter, question_of, ask_report}
use Rattle.engine.specs.Listing.{Listing, refused_list, lists, written, listed, listing_fits, with_stored, with_ids, listing_of, list_report}
use Rattle.demands.specs.Named.{components}
use Rattle.demands.specs.Refusals.{TableRefusals, RefusesTable, ValueRefusals, RefusesValue, part_refusal, PartRefused, ListRefusals, of_some, RefusesListing, AskRefusals, enough, misfits, RefusesFilter}

-- ---- the table check
pub refuses_table : (t : List ℕ) (r : table.TableReport) → r ≡ table.table_report limits.table t → RefusesTable t r
unfolding table.table_report
refuses_table t r e = subst (λ (y : table.TableReport). RefusesTable t y) (sym e) (go (table_fits limits.table t) (admitted limits.table t) (length (rows limits.table.rows t)))
  where
    go : (a b : Bool) (n : ℕ) → TableRefusals (no a) (no b) (pick a (pick b (table.admits n) (table.refused 2)) (table.refused 1))
    go true true n = record { number = refl; done = refl; count = λ z. absurd (true≢false z) }
    go true false n = record { number = refl; done = refl; count = λ z. refl }
    go false b n = record { number = refl; done = refl; count = λ z. refl }

-- ---- the value check
pub refuses_value : (t v : List ℕ) (r : value.ValueReport) → r ≡ value.value_report limits.table limits.value t v → RefusesValue t v r
unfolding value.value_report value.storage
refuses_value t v r e =
    subst (λ (y : value.ValueReport). RefusesValue t v y) (sym e)
    (go (both (table_fits limits.table t) (value_fits limits.value v)) (admitted limits.table t) (is_stored limits.table t v))
  where
    go : (a b c : Bool) → ValueRefusals (no a) (no b) (no c) (pick a (pick b (pick c value.good (value.refused 4)) (value.refused 2)) (value.refused 1))
    go true true true = record { number = refl; done = refl }
    go true true false = record { number = refl; done = refl }
    go true false c = record { number = refl; done = refl }
    go false b c = record { number = refl; done = refl }

-- ---- the fifth entry
beyond : (a b : ℕ) → ltb a b ≡ no (leb b a)
beyond a b = go (leb b a) refl
  where
    go : (x : Bool) → leb b a ≡ x → ltb a b ≡ no x
    go true q = le-ltb a b (leb-true b a q)
    go false q = lt-ltb a b (leb-false b a q)

module _ (v : List ℕ) (place size : ℕ) where
  abbrev there : PartReport
  there = record { refusal = 0; octets = part v place size }

  abbrev by : Bool → Bool → PartReport
  by a b = pick a (pick b there (refused_part 4)) (refused_part 1)

  number_by : (a b : Bool) → (by a b).refusal ≡ pick (no a) 1 (pick (no b) 4 0)
  number_by true true = refl
  number_by true false = refl
  number_by false b = refl

  pub refuses_part : (n : ℕ) → n ≡ (part_report limits.value v place size).refusal → n ≡ part_refusal v place size
  unfolding part_report
  refuses_part n e =
      e ∙ number_by (value_fits limits.value v) (leb (place + size) (length v))
      ∙ ap (λ (y : Bool). pick (no (value_fits limits.value v)) 1 (pick y 4 0)) (sym (beyond (length v) (place + size)))

  pub empties_part : (o : List ℕ) → o ≡ (part_report limits.value v place size).octets → PartRefused (part_refusal v place size) o
  unfolding part_report
  empties_part o e =
      record { empty = λ z. e ∙ empty-by (value_fits limits.value v) (leb (place + size) (length v)) (ap (λ (k : ℕ). eqb k 0) (refuses_part (part_report limits.value v place size).refusal refl) ∙ z) }
    where
      empty-by : (a b : Bool) → eqb (by a b).refusal 0 ≡ false → (by a b).octets ≡ []
      empty-by true true z = absurd (true≢false z)
      empty-by true false z = refl
      empty-by false b z = refl

-- ---- the listing
module _ (room : List ℕ) where
  -- components that are listed, unless the walk reaches a header that doesn't fit
  walk_by : (misfit : Bool) (cs : List Component) → ListRefusals room false false false false misfit (ltb (length room) (length cs * 3)) (pick misfit (refused_list 7 room) (listed cs room))
  unfolding listed
  walk_by misfit cs = go misfit (ltb (length room) (length cs * 3))
    where
      go : (x y : Bool) → ListRefusals room false false false false x y (pick x (refused_list 7 room) (pick y (refused_list 6 room) (record { report = lists (length cs); memory = written cs room })))
      go true y = record { number = refl; done = refl; count = λ z. refl; unwritten = λ z. refl }
      go false true = record { number = refl; done = refl; count = λ z. refl; unwritten = λ z. refl }
      go false false = record { number = refl; done = refl; count = λ z. absurd (true≢false z); unwritten = λ z. absurd (true≢false z) }

  module _ (ty : Ty) (v : List ℕ) (d : Bool) where
    abbrev By : Bool → Bool → Bool → Option Value → Option (List Id) → Listing → Type 0
    By fits ok leading stored ids l =
        ListRefusals room (no fits) (no ok) (no leading) (no (is_some stored)) (of_some (λ is. has_misfit (trail d is ty v)) ids)
        (of_some (λ cs. ltb (length room) (length cs * 3)) (bind ids (λ is. bind stored (λ x. Some (components d is x))))) l

    ids-by : (o : Option (List Id)) → By true true (is_some (bind o (λ is. allowed is ty))) (stored_value ty v) o (with_ids ty v d room o)
    unfolding with_ids with_stored
    ids-by None = record { number = refl; done = refl; count = λ z. refl; unwritten = λ z. refl }
    ids-by (Some is) = go (is_some (allowed is ty)) (stored_value ty v)
      where
        go : (b : Bool) (s : Option Value) → By true true b s (Some is) (pick b (with_stored ty v d room is s) (refused_list 3 room))
        go false s = record { number = refl; done = refl; count = λ z. refl; unwritten = λ z. refl }
        go true None = record { number = refl; done = refl; count = λ z. refl; unwritten = λ z. refl }
        go true (Some x) = walk_by (has_misfit (trail d is ty v)) (components d is x)

    list-by : (fits ok : Bool) (o : Option (List Id))
        → By fits ok (is_some (bind o (λ is. allowed is ty))) (stored_value ty v) o (pick fits (pick ok (with_ids ty v d room o) (refused_list 2 room)) (refused_list 1 room))
    list-by false ok o = record { number = refl; done = refl; count = λ z. refl; unwritten = λ z. refl }
    list-by true false o = record { number = refl; done = refl; count = λ z. refl; unwritten = λ z. refl }
    list-by true true o = ids-by o

pub refuses_listing : (t v : List ℕ) (given : Bool) (r : List ℕ) (defaults : Bool) (room : List ℕ) (l : Listing) → l ≡ list_report limits t v given r defaults room → RefusesListing t v given r defaults room l
unfolding list_report listing_of is_stored
refuses_listing t v given r defaults room l e =
    subst (λ (y : Listing). RefusesListing t v given r defaults room y) (sym e)
    (list-by room (type_at limits.table t 0) v defaults (listing_fits limits t v given r) (admitted limits.table t) (given_ids given r))

-- ---- a filter
module _ (t v : List ℕ) (budget : ℕ) where
  abbrev ty : Ty
  ty = type_at limits.table t 0

  -- the octets decode to a value, or to none
  abbrev ByFilter : Bool → Bool → Option Value → Option (Filter Item) → Report → Type 0
  ByFilter fits ok stored p r =
      AskRefusals (no fits) (no ok) (no (is_some p)) (no (is_some stored)) (of_some (misfits t v budget) p) (of_some (λ f. of_some (λ x. no (enough budget (evaluated known_rules ty x f))) stored) p) r

  outcome-by : (misfit : Bool) (o : Outcome) → AskRefusals false false false false misfit (no (enough budget o)) (pick misfit (refused 7) (budgeted budget o))
  unfolding budgeted
  outcome-by misfit (settled u n) = go misfit (leb n budget)
    where
      go : (x b : Bool) → AskRefusals false false false false x (no b) (pick x (refused 7) (pick b (answers u n) (refused 5)))
      go true b = record { number = refl; truth = refl; count = λ z. refl }
      go false true = record { number = refl; truth = refl; count = λ z. absurd (true≢false z) }
      go false false = record { number = refl; truth = refl; count = λ z. refl }

  filter-by : (p : Option (Filter Item)) → ByFilter true true (stored_value ty v) p (with_filter known_rules ty v budget p)
  unfolding with_filter with_value
  filter-by None = record { number = refl; truth = refl; count = λ z. refl }
  filter-by (Some f) = go (stored_value ty v)
    where
      go : (o : Option Value) → ByFilter true true o (Some f) (with_value known_rules ty v budget f o)
      go None = record { number = refl; truth = refl; count = λ z. refl }
      go (Some x) = outcome-by (misfits t v budget f) (evaluated known_rules ty x f)

  ask-by : (fits ok : Bool) (p : Option (Filter Item)) → ByFilter fits ok (stored_value ty v) p (pick fits (pick ok (with_filter known_rules ty v budget p) (refused 2)) (refused 1))
  ask-by false ok p = record { number = refl; truth = refl; count = λ z. refl }
  ask-by true false p = record { number = refl; truth = refl; count = λ z. refl }
  ask-by true true p = filter-by p

pub refuses_filter : (t v s : List ℕ) (budget : ℕ) (r : Report) → r ≡ ask_report limits known_rules t v s budget → RefusesFilter t v s budget r
unfolding ask_report question_of is_stored
refuses_filter t v s budget r e =
    subst (λ (y : Report). RefusesFilter t v s budget y) (sym e) (ask-by t v budget (question_fits limits t v s budget) (admitted limits.table t) (parse limits.filter s))
