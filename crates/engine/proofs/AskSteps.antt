-- The answer to a filter: one lemma for each return; its premises are the facts as the code has them.
use mathlib.Core.Path.{◌≡◌, refl, sym, ap, ◌∙◌, subst}
use mathlib.Core.Bool.{Bool, true, false, not, true≢false}
use Rattle.std.specs.Prelude.{Option, None, Some, Result, Ok, Err}
use Rattle.table.specs.declared.Refusal.{Refusal}
use mathlib.Core.List.{List}
use Prim.Native.Nat.{ℕ, ◌≤◌, ◌+◌}
use native.Mathlib.Omega.{arith}
use borrow.Author.Tests.{not-true, not-false, leb-true}
use lib.ListN.{length}
use lib.Dec.{leb}
use Rattle.octets.specs.Pick.{pick, both, is_some}
use Rattle.octets.proofs.Laws.{both_true}
use Rattle.rows.specs.Limits.{table_fits}
use Rattle.rows.specs.Paper.{table_limits}
use Rattle.types.specs.Types.{Ty, type_at}
use Rattle.types.specs.Admitted.{admitted}
use Rattle.table.specs.Inner.Rows as words
use Rattle.table.specs.Inner.Words.{Worded}
use Rattle.value.specs.Paper.{value_limits}
use Rattle.value.specs.Value.{Value}
use Rattle.value.specs.Decode.{stored_value}
use Rattle.value.specs.Check.{value_fits}
use Rattle.rules.specs.Rule.{known_rules}
use Rattle.filter.specs.Filter.{Item, Filter}
use Rattle.filter.specs.Parse.{filter_fits, parse}
use Rattle.filter.specs.Paper.{filter_limits}
use Rattle.filter.specs.Inner.Answers as filter
use Rattle.filter.specs.declared.Filter as declared
use Rattle.filter.proofs.Laws.{counted_some, counted_none}
use Rattle.evaluation.specs.Truth.{TRUE, FALSE, UNDEFINED}
use Rattle.evaluation.specs.Reading.{Outcome, settled, reading}
use Rattle.evaluation.specs.Inner.Work.{Ready, outcome_for, stored_outcome, judged, charged, EvaluatedAs, Evaluates}
use Rattle.evaluation.proofs.ItemSteps.{some_there}
use Rattle.evaluation.specs.declared.Verdict.{Verdict}
use Rattle.evaluation.specs.declared.Judged.{Judged}
use Rattle.evaluation.specs.declared.Fault.{Fault}
use Rattle.engine.specs.Answer.{refused, budgeted, question_fits, evaluated, with_value, with_filter, question_of, ask_report, report}
use Rattle.engine.specs.Inner.Judged.{refused_behind, settled_as, judged_report}
use Rattle.engine.specs.Paper.{limits}
use Rattle.engine.specs.declared.Answer.{Answer}
use Rattle.engine.proofs.MisfitLaws.{no-misfit}

-- ---- what the evaluation comes to
module _ (u : Verdict) (n : ℕ) where
  pub settled_true : u ≡ Verdict.True → Answer.True n ≡ settled_as u n
  settled_true e = rw e

  pub settled_false : u ≡ Verdict.False → Answer.False n ≡ settled_as u n
  settled_false e = rw e

  pub settled-undefined : u ≡ Verdict.Undefined → Answer.Undefined n ≡ settled_as u n
  settled-undefined e = rw e

judged_pick : (b : Bool) (j : Judged) → judged_report (pick b (Ok j) (Err Fault.Over)) ≡ pick b (report (Ok (settled_as j.verdict j.tests))) (refused 5)
judged_pick true j = refl
judged_pick false j = refl

-- without tests before it
budget_told : (budget : ℕ) (o : Outcome) → judged_report (charged budget 0 o) ≡ budgeted budget o
unfolding charged budgeted
budget_told budget (settled TRUE k) = let e : 0 + k ≡ k = omega arith in judged_pick (leb (0 + k) budget) (judged Verdict.True (0 + k)) ∙ rw e
budget_told budget (settled FALSE k) = let e : 0 + k ≡ k = omega arith in judged_pick (leb (0 + k) budget) (judged Verdict.False (0 + k)) ∙ rw e
budget_told budget (settled UNDEFINED k) = let e : 0 + k ≡ k = omega arith in judged_pick (leb (0 + k) budget) (judged Verdict.Undefined (0 + k)) ∙ rw e

-- ---- 3, then another
module _ (s : List ℕ) (k : Refusal) (r : Option declared.Filter) (told : filter.report r ≡ filter.items_of (parse filter_limits s)) where
  pub refuse_malformed : r ≡ None → Err Refusal.Form ≡ refused_behind k (parse filter_limits s)
  refuse_malformed e = ap (refused_behind k) (sym (counted_none (parse filter_limits s) (sym (ap filter.report e) ∙ told)))

  pub refuse_good : (f : declared.Filter) → r ≡ Some f → Err k ≡ refused_behind k (parse filter_limits s)
  refuse_good f e = ap (refused_behind k) (sym (counted_some (parse filter_limits s) f.items (sym (ap filter.report e) ∙ told)).1.0)

-- what the octets decode to, if anything
module _ (ty : Ty) (v : List ℕ) (budget : ℕ) (f : Filter Item) where
  not_stored : is_some (stored_value ty v) ≡ false → refused 4 ≡ with_value known_rules ty v budget f (stored_value ty v)
  unfolding with_value
  not_stored e = go (stored_value ty v) e
    where
      go : (o : Option Value) → is_some o ≡ false → refused 4 ≡ with_value known_rules ty v budget f o
      go None q = refl
      go (Some x) q = absurd (true≢false q)

  -- no header is met that doesn't fit
  stored_told : (x : Value) → stored_value ty v ≡ Some x → judged_report (charged budget 0 (reading (stored_outcome ty v) f)) ≡ with_value known_rules ty v budget f (stored_value ty v)
  unfolding stored_outcome with_value evaluated
  stored_told x e =
      budget_told budget (reading (stored_outcome ty v) f)
      ∙ ap (λ (o : Option Value). budgeted budget (reading (λ i. outcome_for ty o i) f)) e
      ∙ sym (ap (λ (b : Bool). pick b (refused 7) (budgeted budget (evaluated known_rules ty x f))) (no-misfit known_rules ty v x e budget f))
      ∙ ap (with_value known_rules ty v budget f) (sym e)

-- 3, then 4
typed-bad : (ty : Ty) (v s : List ℕ) (budget : ℕ) (x : Bool) (a : Result Answer Refusal) → x ≡ is_some (stored_value ty v) → not x ≡ true → a ≡ refused_behind Refusal.Value (parse filter_limits s)
    → report a ≡ with_filter known_rules ty v budget (parse filter_limits s)
unfolding with_filter
typed-bad ty v s budget x a stored e q = ap report q ∙ go (parse filter_limits s)
  where
    go : (o : Option (Filter Item)) → report (refused_behind Refusal.Value o) ≡ with_filter known_rules ty v budget o
    go None = refl
    go (Some f) = not_stored ty v budget f (sym stored ∙ not-true x e)

-- 3, then 5, or a truth
module _ (t w v s : List ℕ) (budget : ℕ) (ready : Ready t w v s) (r : Result Judged Fault) (told : Evaluates (stored_outcome (words.type_at t 0) v) budget (parse filter_limits s) r) where
  abbrev ty : Ty
  ty = words.type_at t 0

  the_value : (x : Value) × (stored_value ty v ≡ Some x)
  the_value = some_there (stored_value ty v) ready.stored

  judged_by : (f : Filter Item) → judged_report (charged budget 0 (reading (stored_outcome ty v) f)) ≡ with_filter known_rules ty v budget (Some f)
  unfolding with_filter
  judged_by f = stored_told ty v budget f the_value.0 the_value.1

  known : (y : Result Judged Fault) → r ≡ y → EvaluatedAs (stored_outcome ty v) budget (parse filter_limits s) y
  unfolding Evaluates
  known y e = subst (EvaluatedAs (stored_outcome ty v) budget (parse filter_limits s)) e told

  pub stored_of : (j : Judged) (a : Answer) → r ≡ Ok j → a ≡ settled_as j.verdict j.tests → report (Ok a) ≡ with_filter known_rules ty v budget (parse filter_limits s)
  stored_of j a e q =
      let k = known (Ok j) e in
      ap (λ (y : Answer). report (Ok y)) q ∙ ap judged_report k.1.1 ∙ judged_by k.0 ∙ ap (with_filter known_rules ty v budget) (sym k.1.0)

  pub stored-over : (c : Fault) (a : Result Answer Refusal) → r ≡ Err c → c ≡ Fault.Over → a ≡ refused_behind Refusal.Tests (parse filter_limits s) → report a ≡ with_filter known_rules ty v budget (parse filter_limits s)
  unfolding with_filter
  stored-over c a e w q = ap report q ∙ go (parse filter_limits s) refl
    where
      go : (o : Option (Filter Item)) → parse filter_limits s ≡ o → report (refused_behind Refusal.Tests o) ≡ with_filter known_rules ty v budget o
      go None z = refl
      go (Some f) z = ap judged_report (known (Err Fault.Over) (e ∙ ap Err w) f z) ∙ judged_by f

  pub stored_malformed : (c : Fault) → r ≡ Err c → c ≡ Fault.Malformed → refused 3 ≡ with_filter known_rules ty v budget (parse filter_limits s)
  unfolding with_filter
  stored_malformed c e w = ap (with_filter known_rules ty v budget) (sym (known (Err Fault.Malformed) (e ∙ ap Err w)))

-- ---- the answer
module _ (t v s : List ℕ) (budget : ℕ) (b : Bool) (fits : b ≡ question_fits limits t v s budget) where
  pub ask-sizes : (e : Refusal) → (b ≡ false) × (e ≡ Refusal.Size) → report (Err e) ≡ ask_report limits known_rules t v s budget
  unfolding ask_report
  ask-sizes e w = rw (w.1, sym fits ∙ w.0)

  module _ (sized : b ≡ true) where
    -- a value of an admitted size is short
    short-here : length v ≤ 65536
    unfolding question_fits value_fits
    short-here =
        let w = both_true (table_fits table_limits t) (both (value_fits value_limits v) (both (filter_fits filter_limits s) (leb budget limits.budget))) (sym fits ∙ sized) in
        let u = both_true (value_fits value_limits v) (both (filter_fits filter_limits s) (leb budget limits.budget)) w.1 in
        let z = leb-true (length v) value_limits.most (both_true (leb value_limits.least (length v)) (leb (length v) value_limits.most) u.0).1 in
        omega arith

    -- and so is a filter
    brief-here : length s ≤ 2048
    unfolding question_fits filter_fits
    brief-here =
        let w = both_true (table_fits table_limits t) (both (value_fits value_limits v) (both (filter_fits filter_limits s) (leb budget limits.budget))) (sym fits ∙ sized) in
        let u = both_true (value_fits value_limits v) (both (filter_fits filter_limits s) (leb budget limits.budget)) w.1 in
        let y = both_true (filter_fits filter_limits s) (leb budget limits.budget) u.1 in
        leb-true (length s) 2048 (both_true (leb 1 (length s)) (leb (length s) 2048) y.0).1

    pub ask-table : (e : Refusal) → (admitted table_limits t ≡ false) × (e ≡ Refusal.Table) → report (Err e) ≡ ask_report limits known_rules t v s budget
    unfolding ask_report question_of
    ask-table e w = rw (w.1, sym fits ∙ sized, w.0)

    module _ (admits : admitted table_limits t ≡ true) where
      pub ask-whole : (a : Result Answer Refusal) → report a ≡ with_filter known_rules (words.type_at t 0) v budget (parse filter_limits s) → report a ≡ ask_report limits known_rules t v s budget
      unfolding ask_report question_of type_at
      ask-whole a told = told ∙ rw (sym fits ∙ sized, admits)

      module _ (x : Bool) (stored : x ≡ is_some (stored_value (words.type_at t 0) v)) where
        pub ask-stored : not x ≡ true → (a : Result Answer Refusal) → a ≡ refused_behind Refusal.Value (parse filter_limits s) → report a ≡ ask_report limits known_rules t v s budget
        ask-stored h a q = ask-whole a (typed-bad (words.type_at t 0) v s budget x a stored h q)

        pub ask-ready : not x ≡ false → (w : List ℕ) → Worded t w → Ready t w v s
        ask-ready h w worded = record { worded = worded; admits = admits; short = short-here; stored = sym stored ∙ not-false x h; brief = brief-here }
