-- Demand 3 in one piece: the listing and the answer to a filter go by what the reference names.
use Prim.Native.Nat.{ℕ, ◌*◌}
use mathlib.Core.Path.{◌≡◌, refl, ap, ◌∙◌}
use mathlib.Core.Bool.{Bool, true, false}
use Rattle.std.specs.Prelude.{None, Some}
use mathlib.Core.List.{List}
use native.Mathlib.Omega.{arith}
use borrow.Author.Tests.{lt-ltb, le-ltb, le-leb}
use lib.ListN.{length}
use Rattle.octets.specs.Pick.{pick, both, bind}
use Rattle.octets.proofs.Laws.{both_true}
use Rattle.rows.specs.Limits.{table_fits}
use Rattle.types.specs.Types.{Ty, type_at}
use Rattle.value.specs.Value.{Value}
use Rattle.value.specs.Check.{value_fits}
use Rattle.reference.specs.Reference.{Id, identifiers, given_ids}
use Rattle.reference.specs.Allowed as reference
use Rattle.reference.specs.Named.{named}
use Rattle.rules.specs.Rule.{known_rules}
use Rattle.rules.specs.RuleFor.{Comparison}
use Rattle.rules.specs.Accepts.{accepts}
use Rattle.filter.specs.Filter.{Item, item}
use Rattle.misfit.proofs.Spreading.{named_spread}
use Rattle.evaluation.specs.Reading.{reading}
use Rattle.evaluation.specs.Assertion.{asked, outcome_of, outcome}
use Rattle.engine.specs.Paper.{limits}
use Rattle.engine.specs.Answer.{Report, budgeted, question_fits, evaluated, with_value, with_filter, question_of, ask_report}
use Rattle.engine.specs.Listing.{Listing, written, listed, reference_fits, listing_fits, with_stored, list_report, with_ids, listing_of}
use Rattle.engine.proofs.MisfitLaws.{no-misfit, trail-fits}
use Rattle.demands.specs.Named.{components, needed}
use Rattle.demands.specs.Demand.{Taken, Listed, Put, rule_for, Asserted, Demanded}
use Rattle.demands.proofs.Determined.{named-determined}
use Rattle.demands.proofs.Demand2.{tested-named, answered_truly}

-- ---- the listing
module _ (t v : List ℕ) (given : Bool) (r : List ℕ) (x : Value) (is : List Id) (target : reference.Target) (w : Taken t v given r x is target) (defaults : Bool) where
  abbrev ty : Ty
  ty = type_at limits.table t 0

  lists-by : (room : List ℕ) → list_report limits t v given r defaults room ≡ listed (components defaults is x) room
  unfolding list_report listing_of with_ids with_stored
  lists-by room = rw (w.sizes, w.admitted, w.reads, w.allowed, w.decodes, trail-fits ty v x w.decodes defaults is)

  lists_demanded : (room : List ℕ) (l : Listing) → l ≡ list_report limits t v given r defaults room → Listed v room (components defaults is x) l
  unfolding listed written
  lists_demanded room l e = record {
    enough = λ h. e ∙ lists-by room ∙ rw (le-ltb (length room) (length (components defaults is x) * 3) h);
    short = λ h. e ∙ lists-by room ∙ rw (lt-ltb (length room) (length (components defaults is x) * 3) h);
    rising = named_spread defaults is ty v x w.decodes;
  }

  -- ---- an assertion alone
  module _ (s : List ℕ) (i : Item) (budget : ℕ) (p : Put given r defaults s i budget) where
    fits : question_fits limits t v s budget ≡ true
    unfolding question_fits listing_fits
    fits =
        let a = both_true (table_fits limits.table t) (both (value_fits limits.value v) (reference_fits limits given r)) w.sizes in
        let b = both_true (value_fits limits.value v) (reference_fits limits given r) a.1 in
        rw (a.0, b.0, p.fits, p.within)

    the-ids : identifiers i.component ≡ Some is
    the-ids = ap identifiers p.same-reference ∙ go given ∙ w.reads
      where
        go : (g : Bool) → identifiers (pick g (Some r) None) ≡ given_ids g r
        go true = refl
        go false = refl

    asks-by : asked known_rules ty i ≡ bind (rule_for target i) (λ u. Some (record { ids = is; rule = u.rule; asserted = u.asserted }))
    unfolding asked
    asks-by = rw (the-ids, w.allowed)

    asks_none : rule_for target i ≡ None → asked known_rules ty i ≡ None
    asks_none e = asks-by ∙ rw e

    asks_some : (u : Comparison) → rule_for target i ≡ Some u → asked known_rules ty i ≡ Some (record { ids = is; rule = u.rule; asserted = u.asserted })
    asks_some u e = asks-by ∙ rw e

    report-by : ask_report limits known_rules t v s budget ≡ budgeted budget (outcome_of x i (asked known_rules ty i))
    unfolding ask_report question_of with_filter with_value evaluated reading outcome
    report-by = rw (fits, w.admitted, p.parses, w.decodes, no-misfit known_rules ty v x w.decodes budget (item i))

    asserts_demanded : (b : Report) → b ≡ ask_report limits known_rules t v s budget → Asserted i budget target (named defaults is x) b
    unfolding budgeted
    asserts_demanded b q = record {
      undefined = λ e. q ∙ report-by ∙ rw (asks_none e, le-leb 0 budget (omega arith));
      defined = λ u e h. q ∙ report-by ∙ rw (asks_some u e, p.same-choice, tested-named (accepts u.rule u.asserted) (named defaults is x), le-leb (needed (accepts u.rule u.asserted) (named defaults is x)) budget h);
    }

pub demanded : (t v : List ℕ) (given : Bool) (r : List ℕ) (defaults : Bool) (room s : List ℕ) (budget : ℕ) (l : Listing) (b : Report)
    → l ≡ list_report limits t v given r defaults room → b ≡ ask_report limits known_rules t v s budget → Demanded t v given r defaults room s budget l b
demanded t v given r defaults room s budget l b lists asks = record {
  listed = λ x is target w. lists_demanded t v given r x is target w defaults room l lists;
  determined = λ x is target w. named-determined limits.table t v x w.decodes defaults is;
  asserted = λ x is target w i p. asserts_demanded t v given r x is target w defaults s i budget p b asks;
  answered = answered_truly t v s budget b asks;
}
