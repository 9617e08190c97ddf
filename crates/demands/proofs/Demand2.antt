-- Demand 2 of every report with a truth.
use Prim.Native.Nat.{ℕ, ◌≤◌, ◌*◌, ◌/◌}
use mathlib.Core.Path.{◌≡◌, refl, sym, ap, ap₂, ◌∙◌, subst}
use mathlib.Core.Bool.{Bool, true, false}
use Rattle.std.specs.Prelude.{Option, None, Some}
use mathlib.Core.List.{List, [], ◌∷◌}
use native.Mathlib.Omega.{arith}
use lib.ListN.{length}
use lib.Dec.{leb}
use Prim.Native.Nat.{suc, ◌+◌}
use Rattle.octets.specs.Pick.{pick, both, either}
use Rattle.types.specs.Types.{Ty, type_at}
use Rattle.types.specs.Admitted.{admitted}
use Rattle.value.specs.Value.{Value}
use Rattle.value.specs.Decode.{stored_value}
use Rattle.value.proofs.Views.{some_same}
use Rattle.reference.specs.Named.{Held, named}
use Rattle.rules.specs.Rule.{known_rules}
use Rattle.rules.specs.Accepts.{accepts}
use Rattle.filter.specs.Filter.{Item, Join, and, or, Filter, Filters, item, list, items}
use Rattle.filter.specs.Parse.{parse}
use Rattle.evaluation.specs.Truth.{Truth, TRUE, FALSE, UNDEFINED, every_truth, any_truth, conjunction, disjunction, truth, truths, is_true, is_false}
use Rattle.evaluation.specs.Reading.{Outcome, settled, reading}
use Rattle.evaluation.specs.Assertion.{Asked, asked, testing, outcome_of, outcome}
use Rattle.evaluation.proofs.Laws.{truth_of, reading_truth}
use Rattle.evaluation.proofs.Same.{reading_alike, truth-alike, each_so, each_of_all}
use Rattle.engine.specs.Paper.{limits}
use Rattle.engine.specs.Misfit.{meets_misfit}
use Rattle.engine.specs.Answer.{Report, refused, answers, budgeted, question_fits, evaluated, with_value, with_filter, question_of, ask_report}
use Rattle.demands.specs.Named.{accepts_one, needed, truth_by, item_truth, item_tests, truth_for, tests_for}
use Rattle.demands.specs.Truths.{Alone, Answers, Answered, AnswersTruly}
use Rattle.demands.specs.Order.{Reordered, none, keeps, swaps, then}
use Rattle.demands.proofs.Few.{tests_of, tests-few}

-- ---- an assertion, by what its reference names
testing-named : (f : Held → Bool) (n : ℕ) (hs : List Held) → testing f n hs ≡ settled (truth_by f hs) (n + needed f hs)
unfolding testing accepts_one needed
testing-named f n [] = let e : n ≡ n + 0 = omega arith in ap (settled FALSE) e
testing-named f n (h ∷ hs) = go (f h) (testing-named f (n + 1) hs)
  where
    go : (b : Bool) → testing f (n + 1) hs ≡ settled (truth_by f hs) (n + 1 + needed f hs)
        → pick b (settled TRUE (n + 1)) (testing f (n + 1) hs) ≡ settled (pick (either b (accepts_one f hs)) TRUE FALSE) (n + pick b 1 (suc (needed f hs)))
    go true e = refl
    go false e = let q : n + 1 + needed f hs ≡ n + suc (needed f hs) = omega arith in e ∙ ap (settled (truth_by f hs)) q

pub tested-named : (f : Held → Bool) (hs : List Held) → testing f 0 hs ≡ settled (truth_by f hs) (needed f hs)
tested-named f hs = let e : 0 + needed f hs ≡ needed f hs = omega arith in testing-named f 0 hs ∙ ap (settled (truth_by f hs)) e

module _ (ty : Ty) (x : Value) where
  abbrev says : Item → Outcome
  says i = settled (item_truth known_rules ty x i) (item_tests known_rules ty x i)

  outcome-named : (i : Item) → outcome known_rules ty x i ≡ says i
  unfolding outcome
  outcome-named i = go (asked known_rules ty i)
    where
      go : (o : Option Asked) → outcome_of x i o ≡ settled (truth_for x i o) (tests_for x i o)
      go None = refl
      go (Some a) = tested-named (accepts a.rule a.asserted) (named i.defaults a.ids x)

-- ---- a report with a truth: what was read, and what it comes to
settles : (budget : ℕ) (o : Outcome) (u : Truth) (n : ℕ) → budgeted budget o ≡ answers u n → o ≡ settled u n
unfolding budgeted
settles budget (settled w k) u n e = go (leb k budget) e
  where
    go : (b : Bool) → pick b (answers w k) (refused 5) ≡ answers u n → settled w k ≡ settled u n
    go true q = let m : ◌≡◌ {A = Option Truth} (Some w) (Some u) = ap (λ (r : Report). r.truth) q in let a : w ≡ u = cc in ap₂ settled a (ap (λ (r : Report). r.tests) q)
    go false q = absurd (let z : ◌≡◌ {A = ℕ} 5 0 = ap (λ (r : Report). r.refusal) q in omega arith)

module _ (ty : Ty) (v : List ℕ) (budget : ℕ) (u : Truth) (n : ℕ) where
  abbrev Read : Option (Filter Item) → Type 0
  Read p = (f : Filter Item) × (p ≡ Some f) × (x : Value) × (stored_value ty v ≡ Some x) × (reading (outcome known_rules ty x) f ≡ settled u n)

  value_view : (misfit : Bool) (o : Outcome) → pick misfit (refused 7) (budgeted budget o) ≡ answers u n → o ≡ settled u n
  value_view true o e = absurd (let z : ◌≡◌ {A = ℕ} 7 0 = ap (λ (r : Report). r.refusal) e in omega arith)
  value_view false o e = settles budget o u n e

  filter_view : (p : Option (Filter Item)) → with_filter known_rules ty v budget p ≡ answers u n → Read p
  unfolding with_filter with_value evaluated
  filter_view None e = absurd (let z : ◌≡◌ {A = ℕ} 3 0 = ap (λ (r : Report). r.refusal) e in omega arith)
  filter_view (Some f) e = go (stored_value ty v) refl e
    where
      go : (o : Option Value) → stored_value ty v ≡ o → with_value known_rules ty v budget f o ≡ answers u n → Read (Some f)
      go None q w = absurd (let z : ◌≡◌ {A = ℕ} 4 0 = ap (λ (r : Report). r.refusal) w in omega arith)
      go (Some x) q w = (f, refl, x, q, value_view (meets_misfit known_rules ty v budget f) (reading (outcome known_rules ty x) f) w)

  view : (fits ok : Bool) (p : Option (Filter Item)) → pick fits (pick ok (with_filter known_rules ty v budget p) (refused 2)) (refused 1) ≡ answers u n → Read p
  view true true p e = filter_view p e
  view true false p e = absurd (let z : ◌≡◌ {A = ℕ} 2 0 = ap (λ (r : Report). r.refusal) e in omega arith)
  view false ok p e = absurd (let z : ◌≡◌ {A = ℕ} 1 0 = ap (λ (r : Report). r.refusal) e in omega arith)

module _ (t v : List ℕ) where
  abbrev ty : Ty
  ty = type_at limits.table t 0

  answer_view : (s : List ℕ) (budget : ℕ) (u : Truth) (n : ℕ) → ask_report limits known_rules t v s budget ≡ answers u n → Read ty v budget u n (parse limits.filter s)
  unfolding ask_report question_of
  answer_view s budget u n e = view ty v budget u n (question_fits limits t v s budget) (admitted limits.table t) (parse limits.filter s) e

  module _ (x : Value) (decodes : stored_value ty v ≡ Some x) where
    -- the engine's truth for a filter of one item is the item's own
    alone-is : (u : Truth) (i : Item) → Alone t v u i → u ≡ item_truth known_rules ty x i
    unfolding reading
    alone-is u i a =
        let w = answer_view a.text a.budget u a.tests a.answered in
        let is : item i ≡ w.0 = some_same (item i) w.0 (sym a.parses ∙ w.1) in
        let value-is : x ≡ w.2 = some_same x w.2 (sym decodes ∙ w.3) in
        let read : outcome known_rules ty x i ≡ settled u a.tests = ap₂ (λ (y : Value) (f : Filter Item). reading (outcome known_rules ty y) f) value-is is ∙ w.4 in
        ap truth_of (sym read ∙ outcome-named ty x i)

    module _ (s : List ℕ) (f : Filter Item) (u : Truth) (n : ℕ) (read : reading (outcome known_rules ty x) f ≡ settled u n) where
      read_named : reading (says ty x) f ≡ settled u n
      read_named = sym (reading_alike (outcome known_rules ty x) (says ty x) f (each_of_all (outcome-named ty x) f)) ∙ read

      is-truth : u ≡ truth (item_truth known_rules ty x) f
      is-truth = ap truth_of (sym read_named) ∙ reading_truth f (says ty x)

      pub answers_truly : Answers t v s f x u n
      answers_truly = record {
        truth = is-truth;
        tests = read_named;
        few = subst (λ (o : Outcome). tests_of o ≤ length (items f) * (length v / 2)) read (tests-few ty v x f decodes);
        larger = λ alone w. is-truth ∙ sym (truth-alike alone (item_truth known_rules ty x) f (each_so (λ i. alone-is (alone i) i) f w));
      }

pub answered_truly : (t v s : List ℕ) (budget : ℕ) (r : Report) → r ≡ ask_report limits known_rules t v s budget → AnswersTruly t v s r
answered_truly t v s budget r e = record { answered = go }
  where
    go : (u : Truth) (n : ℕ) → r ≡ answers u n → Answered t v s u n
    go u n q =
        let w = answer_view t v s budget u n (sym e ∙ q) in
        record { filter = w.0; value = w.2; parses = w.1; decodes = w.3; answers = answers_truly t v w.2 w.3 s w.0 u n w.4 }

-- ---- the order of a list's filters doesn't affect its truth
swap_both : (a b c : Bool) → both a (both b c) ≡ both b (both a c)
swap_both true true c = refl
swap_both true false c = refl
swap_both false true c = refl
swap_both false false c = refl

swap_either : (a b c : Bool) → either a (either b c) ≡ either b (either a c)
swap_either true true c = refl
swap_either true false c = refl
swap_either false true c = refl
swap_either false false c = refl

module _ {A : Type 0} (says : A → Truth) (test : Truth → Bool) where
  every_order : {fs gs : Filters A} → Reordered fs gs → every_truth test (truths says fs) ≡ every_truth test (truths says gs)
  unfolding truths every_truth
  every_order none = refl
  every_order (keeps {f = f} w) = ap (both (test (truth says f))) (every_order w)
  every_order (swaps {f = f} {g = g} {fs = fs}) = swap_both (test (truth says f)) (test (truth says g)) (every_truth test (truths says fs))
  every_order (then w u) = every_order w ∙ every_order u

  any_order : {fs gs : Filters A} → Reordered fs gs → any_truth test (truths says fs) ≡ any_truth test (truths says gs)
  unfolding truths any_truth
  any_order none = refl
  any_order (keeps {f = f} w) = ap (either (test (truth says f))) (any_order w)
  any_order (swaps {f = f} {g = g} {fs = fs}) = swap_either (test (truth says f)) (test (truth says g)) (any_truth test (truths says fs))
  any_order (then w u) = any_order w ∙ any_order u

pub order_free : {A : Type 0} (says : A → Truth) (j : Join) {fs gs : Filters A} → Reordered fs gs → truth says (list j fs) ≡ truth says (list j gs)
unfolding truth conjunction disjunction
order_free says and w = ap₂ (λ (a b : Bool). pick a TRUE (pick b FALSE UNDEFINED)) (every_order says is_true w) (any_order says is_false w)
order_free says or w = ap₂ (λ (a b : Bool). pick a FALSE (pick b TRUE UNDEFINED)) (every_order says is_false w) (any_order says is_true w)
