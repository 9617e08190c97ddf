-- One assertion: one lemma for each return; its premises are the facts as the code has them.
use mathlib.Core.Path.{◌≡◌, refl, sym, ap, ◌∙◌, subst}
use mathlib.Core.Bool.{Bool, true, false, not, false≢true}
use Rattle.std.specs.Prelude.{Option, None, Some, Result, Ok}
use mathlib.Core.List.{List}
use Prim.Native.Nat.{ℕ, ◌<◌, ◌≤◌, ◌+◌, ◌-◌}
use native.Mathlib.Omega.{arith}
use borrow.Author.Tests.{not-true, not-false, le-leb}
use Rattle.octets.specs.Inner.Answers.{between}
use Rattle.octets.specs.Pick.{pick, both, bind, is_some}
use Rattle.octets.specs.Octets.{part as part_of}
use Rattle.octets.specs.Quoted.{characters}
use Rattle.octets.proofs.Laws.{never, rest-length}
use lib.ListN.{length, length-take, drop}
use Rattle.types.specs.Types.{Ty}
use Rattle.table.specs.Inner.Rows.{type_at}
use Rattle.value.specs.Value.{Value}
use Rattle.value.specs.Decode.{stored_value}
use Rattle.reference.specs.Reference.{Id, identifiers}
use Rattle.reference.specs.Allowed as allowed
use Rattle.reference.specs.Allowed.{of_type, of_count}
use Rattle.reference.specs.Named.{named}
use Rattle.reference.specs.Numbers.{component}
use Rattle.reference.specs.Inner.Work.{leads_to, row_within}
use Rattle.reference.specs.declared.Target.{Target}
use Rattle.reference.proofs.Laws.{undoubled-reference, row_here}
use Rattle.rules.specs.Rule as rule
use Rattle.rules.specs.Rule.{rule_of, known_rules}
use Rattle.rules.specs.Suits.{suits}
use Rattle.rules.specs.RuleFor.{comparison, if_for, rule_for}
use Rattle.rules.specs.Inner.Answers.{meant, read_by_target, report_rule, conforms, said}
use Rattle.rules.specs.declared.Rule.{Rule}
use Rattle.rules.proofs.Laws.{rule_for-none, rule_for-known, rule_for-is}
use Rattle.plan.specs.Inner.Test.{test_for}
use Rattle.plan.specs.Inner.Operand.{operand_of, Part, stands}
use Rattle.plan.proofs.Accepting.{operand-stands}
use Rattle.plan.specs.Inner.Task as task
use Rattle.plan.specs.Inner.Task.{Task, task_of, passes}
use Rattle.plan.specs.Inner.Resolve.{Lands, Resolves}
use Rattle.walk.specs.Inner.Run.{ran_to}
use Rattle.walk.specs.Inner.Walk.{Asks, Tests}
use Rattle.walk.specs.declared.State.{State}
use Rattle.assertion.specs.Inner.Places.{within_quotes, component_of, item_of}
use Rattle.assertion.specs.declared.Quotes.{Quotes}
use Rattle.assertion.specs.declared.Parts.{Parts}
use Rattle.filter.specs.Filter.{Item}
use Rattle.evaluation.specs.Assertion.{Asked, asked, testing, outcome_of, outcome}
use Rattle.evaluation.specs.Inner.Work.{Ready, outcome_for, stored_outcome, judged, target_of, leads_by, suits_any, PlannedFor, ended, charged}
use Rattle.evaluation.specs.declared.Judged.{Judged}
use Rattle.evaluation.specs.declared.Fault.{Fault}
use Rattle.evaluation.specs.declared.Verdict.{Verdict}
use Rattle.evaluation.proofs.Typed.{fine_first}
use Rattle.evaluation.proofs.Fits.{named-tests}
use Rattle.evaluation.proofs.Testing.{tested-ends}

-- ---- a rule for what a reference leads to
pub row-led : (s : List ℕ) (g : Option Target) (x : Target) (i : ℕ) → row_within s g ≡ true → g ≡ Some x → x ≡ Target.Row i → i < length s
row-led s g x i within e q = row_here s g i within (e ∙ ap Some q)

module _ (t : List ℕ) (r : Rule) (g : Option Target) (b : Bool) where
  pub suits_row_told : (x : Target) (i : ℕ) → g ≡ Some x → x ≡ Target.Row i → b ≡ suits (meant r) (of_type (type_at t i)) → b ≡ suits_any (meant r) (target_of t g)
  suits_row_told x i h q e = e ∙ ap (λ (y : Option Target). suits_any (meant r) (target_of t y)) (sym (h ∙ ap Some q))

  pub suits_count_told : (x : Target) → g ≡ Some x → x ≡ Target.Count → b ≡ suits (meant r) of_count → b ≡ suits_any (meant r) (target_of t g)
  suits_count_told x h q e = e ∙ ap (λ (y : Option Target). suits_any (meant r) (target_of t y)) (sym (h ∙ ap Some q))

  pub suits_nothing_told : g ≡ None → false ≡ suits_any (meant r) (target_of t g)
  suits_nothing_told q = ap (λ (y : Option Target). suits_any (meant r) (target_of t y)) (sym q)

-- ---- the reference in the text
quoted-ids : (f : List ℕ) (k : Quotes) (r : List ℕ) → r ≡ within_quotes f k.open k.close → identifiers (Some r) ≡ identifiers (component_of f (Some k))
unfolding characters
quoted-ids f k r h = ap (λ (y : List ℕ). identifiers (Some y)) h ∙ sym (undoubled-reference (within_quotes f k.open k.close))

module _ (t f : List ℕ) (c : Option Quotes) (g : Option Target) where
  pub missing_leads : c ≡ None → target_of t g ≡ leads_to false f (type_at t 0) → target_of t g ≡ leads_by (component_of f c) (type_at t 0)
  missing_leads e h = h ∙ ap (λ (y : Option Quotes). leads_by (component_of f y) (type_at t 0)) (sym e)

  pub quoted-leads : (k : Quotes) (r : List ℕ) → c ≡ Some k → r ≡ within_quotes f k.open k.close → target_of t g ≡ leads_to true r (type_at t 0)
      → target_of t g ≡ leads_by (component_of f c) (type_at t 0)
  quoted-leads k r e q h =
      h ∙ ap (λ (o : Option (List Id)). bind o (λ is. allowed.allowed is (type_at t 0))) (quoted-ids f k r q) ∙ ap (λ (y : Option Quotes). leads_by (component_of f y) (type_at t 0)) (sym e)

  module _ (q x : List ℕ) (d : Bool) where
    pub missing_planned : c ≡ None → Resolves t false f x d q g → PlannedFor t q x d (component_of f c) g
    unfolding Resolves PlannedFor
    missing_planned e h = subst (λ (y : Option Quotes). PlannedFor t q x d (component_of f y) g) (sym e) h

    pub quoted-planned : (k : Quotes) (r : List ℕ) → c ≡ Some k → r ≡ within_quotes f k.open k.close → Resolves t true r x d q g → PlannedFor t q x d (component_of f c) g
    unfolding Resolves PlannedFor
    quoted-planned k r e p h = subst (λ (y : Option Quotes). PlannedFor t q x d (component_of f y) g) (sym e) (λ is ids lands. h is (quoted-ids f k r p ∙ ids) lands)

-- ---- what an assertion asks
module _ (ty : Ty) (i : Item) where
  abbrev pub by_target : List Id → allowed.Target → Option Asked
  by_target is g = bind (rule_for known_rules g i.rule i.value) (λ x. Some (record { ids = is; rule = x.rule; asserted = x.asserted }))

  pub asked_by : asked known_rules ty i ≡ bind (identifiers i.component) (λ is. bind (allowed.allowed is ty) (by_target is))
  unfolding asked
  asked_by = refl

  -- nothing, where the rule is not for what the reference leads to, or the text doesn't conform
  pub asked-none : ((is : List Id) → identifiers i.component ≡ Some is → (g : allowed.Target) → allowed.allowed is ty ≡ Some g
      → rule_for known_rules g i.rule i.value ≡ None)
      → asked known_rules ty i ≡ None
  asked-none h = asked_by ∙ go (identifiers i.component) refl
    where
      at : (is : List Id) → identifiers i.component ≡ Some is → (o : Option allowed.Target) → allowed.allowed is ty ≡ o → bind o (by_target is) ≡ None
      at is e None q = refl
      at is e (Some g) q = rw (h is e g q)

      go : (o : Option (List Id)) → identifiers i.component ≡ o → bind o (λ is. bind (allowed.allowed is ty) (by_target is)) ≡ None
      go None e = refl
      go (Some is) e = at is e (allowed.allowed is ty) refl

  module _ (v : List ℕ) (budget n : ℕ) (within : n ≤ budget) where
    -- "an Undefined assertion makes no test"
    pub undefined-then : asked known_rules ty i ≡ None → Ok (judged Verdict.Undefined n) ≡ charged budget n (stored_outcome ty v i)
    unfolding stored_outcome outcome charged
    undefined-then q = go (stored_value ty v)
      where
        go : (o : Option Value) → Ok (judged Verdict.Undefined n) ≡ charged budget n (outcome_for ty o i)
        go None = let z : n + 0 ≡ n = omega arith in rw (z, le-leb n budget within)
        go (Some x) = let z : n + 0 ≡ n = omega arith in rw (q, z, le-leb n budget within)

    unruled_then : rule_of known_rules i.rule ≡ None → Ok (judged Verdict.Undefined n) ≡ charged budget n (stored_outcome ty v i)
    unruled_then e = undefined-then (asked-none (λ is p g q. rule_for-none known_rules g i.rule i.value e))

  module _ (r : rule.Rule) (known : rule_of known_rules i.rule ≡ Some r) where
    by-rule : read_by_target r ≡ false → (g : allowed.Target) (a b : Bool) → suits r g ≡ a → conforms r i.value ≡ b
        → rule_for known_rules g i.rule i.value ≡ pick (both a b) (Some (comparison r (said r i.value))) None
    by-rule plain g a b e h = rule_for-is known_rules g i.rule i.value r plain known ∙ rw (e, h)

    unconforming : read_by_target r ≡ false → conforms r i.value ≡ false → asked known_rules ty i ≡ None
    unconforming plain e = asked-none (λ is p g q. by-rule plain g (suits r g) false refl e ∙ rw (never (suits r g)))

    unsuited : suits_any r (leads_by i.component ty) ≡ false → asked known_rules ty i ≡ None
    unsuited e = asked-none (λ is p g q. rule_for-known known_rules g i.rule i.value r known ∙ not_for g (rw (p, q) at e))
      where
        not_for : (g : allowed.Target) → suits r g ≡ false → if_for g i.value r ≡ None
        not_for g h = rw h

-- where a rule is for what a reference leads to, the reference leads somewhere
abbrev pub Led : rule.Rule → Option (List ℕ) → Ty → Type 0
Led r component ty = (is : List Id) × (identifiers component ≡ Some is) × (g : allowed.Target) × (allowed.allowed is ty ≡ Some g) × (suits r g ≡ true)

unfoldable led : (r : rule.Rule) (component : Option (List ℕ)) (ty : Ty) → suits_any r (leads_by component ty) ≡ true → Led r component ty
led r component ty e = go (identifiers component) refl e
  where
    at : (is : List Id) → identifiers component ≡ Some is → (o : Option allowed.Target) → allowed.allowed is ty ≡ o → suits_any r o ≡ true → Led r component ty
    at is p None q h = absurd (false≢true h)
    at is p (Some g) q h = (is, p, g, q, h)

    go : (o : Option (List Id)) → identifiers component ≡ o → suits_any r (bind o (λ is. allowed.allowed is ty)) ≡ true → Led r component ty
    go None p h = absurd (false≢true h)
    go (Some is) p h = at is p (allowed.allowed is ty) refl h

pub lands-there : (t : List ℕ) (r : rule.Rule) (g : Option Target) → suits_any r (target_of t g) ≡ true → Lands g
lands-there t r (Some (Target.Row i)) e = tt
lands-there t r (Some Target.Count) e = tt
lands-there t r None e = absurd (false≢true e)

-- something that is there
pub some_there : {A : Type 0} (o : Option A) → is_some o ≡ true → (a : A) × (o ≡ Some a)
some_there None e = absurd (false≢true e)
some_there (Some a) e = (a, refl)

-- ---- the returns
module _ (ty : Ty) (v f : List ℕ) (p : Parts) (budget n : ℕ) (within : n ≤ budget) where
  pub parts_unknown : (name : List ℕ) (x : Option Rule) → name ≡ (item_of f p).rule → report_rule x ≡ rule_of known_rules name → x ≡ None
      → Ok (judged Verdict.Undefined n) ≡ charged budget n (stored_outcome ty v (item_of f p))
  parts_unknown name x h e q = unruled_then ty (item_of f p) v budget n within (ap (rule_of known_rules) (sym h) ∙ sym e ∙ ap report_rule q)

  module _ (r : Rule) (known : rule_of known_rules (item_of f p).rule ≡ Some (meant r)) where
    pub ruled_undefined : (text : List ℕ) (a b : Bool) → a ≡ read_by_target (meant r) → a ≡ false → text ≡ (item_of f p).value → b ≡ conforms (meant r) text
        → not b ≡ true
        → Ok (judged Verdict.Undefined n) ≡ charged budget n (stored_outcome ty v (item_of f p))
    ruled_undefined text a b reads plain h e q =
        undefined-then ty (item_of f p) v budget n within (unconforming ty (item_of f p) (meant r) known (sym reads ∙ plain) (ap (conforms (meant r)) (sym h)
        ∙ sym e ∙ not-true b q))

pub parts-known : (f : List ℕ) (p : Parts) (name : List ℕ) (x : Option Rule) (r : Rule) → name ≡ (item_of f p).rule → report_rule x ≡ rule_of known_rules name → x ≡ Some r
    → rule_of known_rules (item_of f p).rule ≡ Some (meant r)
parts-known f p name x r h e q = ap (rule_of known_rules) (sym h) ∙ sym e ∙ ap report_rule q

module _ (t f : List ℕ) (p : Parts) (r : Rule) (g : Option Target) (leads : target_of t g ≡ leads_by (component_of f p.component) (type_at t 0)) (a : Bool) (suited : a ≡ suits_any (meant r) (target_of t g)) where
  suited_by : (b : Bool) → a ≡ b → suits_any (meant r) (leads_by (component_of f p.component) (type_at t 0)) ≡ b
  suited_by b e = ap (suits_any (meant r)) (sym leads) ∙ sym suited ∙ e

  pub conforming_unsuited : (v : List ℕ) (budget n : ℕ) → n ≤ budget → rule_of known_rules (item_of f p).rule ≡ Some (meant r) → not a ≡ true
      → Ok (judged Verdict.Undefined n) ≡ charged budget n (stored_outcome (type_at t 0) v (item_of f p))
  conforming_unsuited v budget n within known q =
      undefined-then (type_at t 0) (item_of f p) v budget n within (unsuited (type_at t 0) (item_of f p) (meant r) known (suited_by false (not-true a q)))

  module _ (w v : List ℕ) (ready : Ready t w v f) (q x : List ℕ) (planned : PlannedFor t q x p.defaults (component_of f p.component) g) (on : not a ≡ false) where
    pub there : Led (meant r) (component_of f p.component) (type_at t 0)
    there = led (meant r) (component_of f p.component) (type_at t 0) (suited_by true (not-false a on))

    pub value : (y : Value) × (stored_value (type_at t 0) v ≡ Some y)
    value = some_there (stored_value (type_at t 0) v) ready.stored

    unfoldable pub conforming_asks : Asks t q x v
    unfolding PlannedFor
    conforming_asks =
        record {
          defaults = p.defaults;
          ids = there.0;
          val = value.0;
          planned = planned there.0 there.1 (lands-there t (meant r) g (sym suited ∙ not-false a on));
          stored = value.1;
        }

    module _ (budget n : ℕ) (within : n ≤ budget) (known : rule_of known_rules (item_of f p).rule ≡ Some (meant r)) (plain : read_by_target (meant r) ≡ false)
        (conforming : conforms (meant r) (item_of f p).value ≡ true) (operand : x ≡ operand_of (meant r) (item_of f p).value) where
      asked-there : asked known_rules (type_at t 0) (item_of f p) ≡ Some (record { ids = there.0; rule = meant r; asserted = said (meant r) (item_of f p).value })
      asked-there =
          asked_by (type_at t 0) (item_of f p)
          ∙ rw (there.1, there.3, by-rule (type_at t 0) (item_of f p) (meant r) known plain there.2 true true there.4 conforming)

      test : Task
      test = task.testing (test_for (meant r) x) budget

      outcome-there : testing (λ h. passes test x (component h)) 0 (named p.defaults there.0 value.0) ≡ stored_outcome (type_at t 0) v (item_of f p)
      unfolding stored_outcome outcome test
      outcome-there =
          ap (λ (y : List ℕ). testing (λ h. passes (task.testing (test_for (meant r) y) budget) y (component h)) 0 (named p.defaults there.0 value.0)) operand
          ∙ named-tests (item_of f p).value (meant r) budget v ready.short conforming p.defaults there.0 (type_at t 0) there.2 value.0 0 (fine_first t w ready.worded ready.admits) value.1 there.3 there.4
          ∙ ap (outcome_of value.0 (item_of f p)) (sym asked-there)
          ∙ ap (λ (o : Option Value). outcome_for (type_at t 0) o (item_of f p)) (sym value.1)

      pub conforming_tested : (first : List ℕ) (s : State) (j : Result Judged Fault) → task_of first ≡ task.testing (test_for (meant r) x) budget → task_of q ≡ task_of first → Tests t q x v n s → j ≡ ended s
          → j ≡ charged budget n (stored_outcome (type_at t 0) v (item_of f p))
      unfolding Tests conforming_asks ran_to test
      conforming_tested first s j a b told e =
          let task-is : task_of q ≡ test = b ∙ a in
          let z : s ≡ ran_to (task_of q) x n (named p.defaults there.0 value.0) = told conforming_asks (λ l. not_listing (sym task-is ∙ l)) in
          e
          ∙ ap ended (z ∙ ap (λ (y : Task). ran_to y x n (named p.defaults there.0 value.0)) task-is)
          ∙ tested-ends budget n (passes test x) (named p.defaults there.0 value.0) within
          ∙ ap (charged budget n) outcome-there
        where
          not_listing : test ≡ task.listing → ⊥
          not_listing l = absurd (let y : ◌≡◌ {A = ℕ} 0 1 = cc in omega arith)

-- ---- the operand
module _ (f : List ℕ) (p : Parts) (r : Rule) (text part : List ℕ) (value : text ≡ (item_of f p).value) where
  pub value-conforms : conforms (meant r) text ≡ true → conforms (meant r) (item_of f p).value ≡ true
  value-conforms e = ap (conforms (meant r)) (sym value) ∙ e

  pub part-stands : (b : Bool) → conforms (meant r) text ≡ true → Part (meant r) text part → b ≡ stands (meant r) part → b ≡ true → part ≡ operand_of (meant r) (item_of f p).value
  part-stands b c w e h = operand-stands text part (meant r) c w (sym e ∙ h) ∙ ap (operand_of (meant r)) value

  pub part-value : Part (meant r) text part → Part (meant r) (item_of f p).value part
  part-value w = subst (λ (y : List ℕ). Part (meant r) y part) value w

  pub part-brief : (t w v : List ℕ) → Ready t w v f → length part ≤ length text → length part ≤ 2048
  part-brief t w v ready l = omega (arith, ready.brief, l, ap length value, length-take (p.value_end - p.value) (drop p.value f), rest-length f p.value)

  pub part-other : (b : Bool) → b ≡ stands (meant r) part → b ≡ false → stands (meant r) part ≡ false
  part-other b e h = sym e ∙ h

-- the value text read again, of an operand that is written
module _ (f : List ℕ) (p : Parts) (r : Rule) (text : List ℕ) (read : text ≡ between f p.value p.value_end) where
  own_value : text ≡ (item_of f p).value
  own_value = read

  pub own_conforms : conforms (meant r) (item_of f p).value ≡ true → conforms (meant r) text ≡ true
  own_conforms e = ap (conforms (meant r)) own_value ∙ e

  pub own_part : (part : List ℕ) → Part (meant r) (item_of f p).value part → Part (meant r) text part
  own_part part w = subst (λ (y : List ℕ). Part (meant r) y part) (sym own_value) w

  pub own_written : (m x : List ℕ) (n : ℕ) → part_of m 0 n ≡ operand_of (meant r) text → x ≡ part_of m 0 n → x ≡ operand_of (meant r) (item_of f p).value
  own_written m x n q u = u ∙ q ∙ ap (operand_of (meant r)) own_value

pub ruled_conforms : (r : Rule) (text : List ℕ) (b : Bool) → b ≡ conforms (meant r) text → not b ≡ false → conforms (meant r) text ≡ true
ruled_conforms r text b e q = sym e ∙ not-false b q

pub ruled_plain : (r : Rule) (a : Bool) → a ≡ read_by_target (meant r) → a ≡ false → read_by_target (meant r) ≡ false
ruled_plain r a e q = sym e ∙ q

pub ruled_bits : (r : Rule) (a : Bool) → a ≡ read_by_target (meant r) → a ≡ true → read_by_target (meant r) ≡ true
ruled_bits r a e q = sym e ∙ q

-- ---- answers
module _ (s : State) (k : ℕ) where
  pub ended-going : s ≡ State.Going k → Ok (judged Verdict.False k) ≡ ended s
  ended-going e = ap ended (sym e)

  pub ended-accepted : s ≡ State.Accepted k → Ok (judged Verdict.True k) ≡ ended s
  ended-accepted e = ap ended (sym e)
