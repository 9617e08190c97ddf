-- An assertion with a rule of bits: one lemma for each return, its premises as the code has them.
use mathlib.Core.Path.{◌≡◌, refl, sym, ap, ◌∙◌, subst}
use mathlib.Core.Logic.{◌⊎◌, inl, inr}
use mathlib.Core.Bool.{Bool, true, false, false≢true}
use Rattle.std.specs.Prelude.{Option, None, Some, Result, Ok}
use mathlib.Core.List.{List, [], ◌∷◌}
use Prim.Native.Nat.{ℕ, ◌≤◌, ◌<◌, ◌+◌}
use native.Mathlib.Omega.{arith}
use lib.ListN.{length}
use Rattle.octets.specs.Pick.{pick, bind}
use Rattle.rows.specs.Paper.{table_limits}
use Rattle.rows.specs.Row.{members_at}
use Rattle.types.specs.Types.{Presence, mandatory, optional, default, Ty}
use Rattle.table.specs.Inner.Rows.{table_rows, place_at, type_at, member_at, member_type_at}
use Rattle.table.specs.Inner.Words.{Worded}
use Rattle.value.specs.Value.{Value}
use Rattle.value.specs.Decode.{stored_value}
use Rattle.value.proofs.Views.{none-some, some_same}
use Rattle.reference.specs.Reference.{Id, identifiers}
use Rattle.reference.specs.Allowed as allowed
use Rattle.reference.specs.Named.{named}
use Rattle.reference.specs.Numbers.{component}
use Rattle.reference.specs.declared.Target.{Target}
use Rattle.rules.specs.Rule as rule
use Rattle.rules.specs.Rule.{rule_of, known_rules}
use Rattle.rules.specs.Suits.{suits}
use Rattle.rules.specs.Asserted.{Asserted, names_at, asserted_bits_by, asserted_of}
use Rattle.rules.specs.RuleFor.{comparison, if_for}
use Rattle.rules.specs.declared.Rule.{Rule}
use Rattle.rules.specs.Inner.Answers.{meant, read_by_target}
use Rattle.rules.proofs.Laws.{asserted_by_names, rule_for-known}
use Rattle.plan.specs.Inner.Test.{Test, bits_test_by, bits_test, report_test, report_bits}
use Rattle.plan.specs.declared.TestNumbers.{TestNumbers}
use Rattle.plan.specs.Inner.Task as task
use Rattle.plan.specs.Inner.Task.{Task, task_of, passes}
use Rattle.plan.specs.Inner.Plan.{absent_of, SameSteps}
use Rattle.plan.specs.Inner.Resolve.{Lands}
use Rattle.plan.proofs.TaskLaws.{replanned}
use Rattle.plan.proofs.BitsAccepting.{Accepting, Agree, bits-agree, bits_no_count, bits-no_default}
use Rattle.walk.specs.Inner.Run.{ran_to}
use Rattle.walk.specs.Inner.Walk.{Asks, Tests}
use Rattle.walk.specs.declared.State.{State}
use Rattle.assertion.specs.declared.Parts.{Parts}
use Rattle.assertion.specs.Inner.Places.{component_of, item_of}
use Rattle.evaluation.specs.Assertion.{asked, testing, outcome_of, outcome}
use Rattle.evaluation.specs.Inner.Work.{Ready, judged, outcome_for, stored_outcome, target_of, leads_by, bits_any, PlannedFor, ended, charged}
use Rattle.evaluation.specs.declared.Verdict.{Verdict}
use Rattle.evaluation.specs.declared.Judged.{Judged}
use Rattle.evaluation.specs.declared.Fault.{Fault}
use Rattle.evaluation.proofs.Typed.{DefaultFine, default_fine, fine_first}
use Rattle.evaluation.proofs.Fits.{bits-tests}
use Rattle.evaluation.proofs.Testing.{tested-ends}
use Rattle.evaluation.proofs.ItemSteps.{asked_by, asked-none, undefined-then, some_there}

-- ---- the test on what a reference leads to
module _ (t : List ℕ) (r : Rule) (g : Option Target) (x : List ℕ) where
  pub test-row : (h : Target) (i : ℕ) (b : Option TestNumbers) → g ≡ Some h → h ≡ Target.Row i → report_bits b ≡ bits_test (meant r) (allowed.of_type (type_at t i)) x
      → report_bits b ≡ bits_any (meant r) (target_of t g) x
  test-row h i b w q e = e ∙ ap (λ (y : Option Target). bits_any (meant r) (target_of t y) x) (sym (w ∙ ap Some q))

  pub test-count : read_by_target (meant r) ≡ true → (h : Target) → g ≡ Some h → h ≡ Target.Count → None ≡ bits_any (meant r) (target_of t g) x
  unfolding bits_test
  test-count bits h w q = sym (ap (λ (y : Option Target). bits_any (meant r) (target_of t y) x) (w ∙ ap Some q) ∙ rw (bits_no_count (meant r) bits))

  pub test-nothing : g ≡ None → None ≡ bits_any (meant r) (target_of t g) x
  test-nothing q = ap (λ (y : Option Target). bits_any (meant r) (target_of t y) x) (sym q)

-- ---- what is asserted there
agree-none : (r : rule.Rule) (x : List ℕ) (o : Option Asserted) → Agree r x None o → o ≡ None
agree-none r x None w = refl
agree-none r x (Some a) w = absurd w

agree_some : (r : rule.Rule) (x : List ℕ) (test : Test) (o : Option Asserted) → Agree r x (Some test) o → (a : Asserted) × (o ≡ Some a) × Accepting r x test a
agree_some r x test None w = absurd w
agree_some r x test (Some a) w = (a, refl, w)

module _ (r : rule.Rule) (bits : read_by_target r ≡ true) (g : allowed.Target) (x : List ℕ) where
  pub asserts-none : bits_test r g x ≡ None → if_for g x r ≡ None
  unfolding bits_test
  asserts-none e = go (suits r g) refl e
    where
      go : (u : Bool) → suits r g ≡ u → pick u (bits_test_by r (names_at g) x) None ≡ None
          → pick u (bind (asserted_of r g x) (λ a. Some (comparison r a))) None ≡ None
      go false q h = refl
      go true q h =
          let o = agree-none r x (asserted_bits_by (names_at g) x) (subst (λ (y : Option Test). Agree r x y (asserted_bits_by (names_at g) x)) h
          (bits-agree x r bits (names_at g))) in
          ap (λ (y : Option Asserted). bind y (λ a. Some (comparison r a))) (asserted_by_names r g x bits ∙ o)

  pub asserts_some : (test : Test) → bits_test r g x ≡ Some test → (suits r g ≡ true)
      × ((a : Asserted) × (if_for g x r ≡ Some (comparison r a)) × Accepting r x test a)
  unfolding bits_test
  asserts_some test e = go (suits r g) refl e
    where
      go : (u : Bool) → suits r g ≡ u → pick u (bits_test_by r (names_at g) x) None ≡ Some test
          → (u ≡ true) × ((a : Asserted) × (pick u (bind (asserted_of r g x) (λ y. Some (comparison r y))) None ≡ Some (comparison r a)) × Accepting r x test a)
      go false q h = none-some test h
      go true q h =
          let w = agree_some r x test (asserted_bits_by (names_at g) x) (subst (λ (y : Option Test). Agree r x y (asserted_bits_by (names_at g) x)) h
          (bits-agree x r bits (names_at g))) in
          (refl, (w.0, ap (λ (y : Option Asserted). bind y (λ a. Some (comparison r a))) (asserted_by_names r g x bits ∙ w.1), w.2))

-- ---- no default is of bits
pub nothing_left : (g : allowed.Target) → allowed.allowed_from [] g ≡ Some g
unfolding allowed.allowed_from
nothing_left g = refl

unfoldable pub no_default : (t w : List ℕ) → Worded t w → (r : rule.Rule) → read_by_target r ≡ true
    → (d : Bool) (a b : Task) (x : List ℕ) (is : List Id) (row j : ℕ)
    → row < length (table_rows t) → j < members_at t (place_at t row)
    → ((g : allowed.Target) → allowed.allowed_from is (allowed.of_type (member_type_at t (row + 1 + j))) ≡ Some g → suits r g ≡ true)
    → absent_of d a x is (member_at t (row + 1 + j)).presence ≡ absent_of d b x is (member_at t (row + 1 + j)).presence
no_default t w ok r bits d a b x (i ∷ is) row j here one led = refl
no_default t w ok r bits d a b x [] row j here one led =
    go (member_at t (row + 1 + j)).presence
    (default_fine table_limits.chain t (table_rows t) ok.m ok.ready.sound (row + 1 + j) (ok.ready.sound.stands row here j one)
    (ok.ready.sound.members row here j one)
    (ok.ready.sound.later.of-member row here j one).1)
    (led (allowed.of_type (member_type_at t (row + 1 + j))) (nothing_left (allowed.of_type (member_type_at t (row + 1 + j)))))
  where
    go : (p : Presence) → DefaultFine (member_type_at t (row + 1 + j)) p → suits r (allowed.of_type (member_type_at t (row + 1 + j))) ≡ true
        → absent_of d a x [] p ≡ absent_of d b x [] p
    go mandatory f s = refl
    go optional f s = refl
    go (default c) f s = absurd (false≢true (sym (bits-no_default r bits f.kind f.names f.low)
        ∙ subst (λ (y : Ty). suits r (allowed.of_type y) ≡ true) f.is_basic_type s))

-- where a reference leads somewhere, its identifiers are planned
pub lands_some : (t : List ℕ) (g : Option Target) (h : allowed.Target) → target_of t g ≡ Some h → Lands g
lands_some t (Some (Target.Row i)) h e = tt
lands_some t (Some Target.Count) h e = tt
lands_some t None h e = none-some h e

-- the target where the test is
abbrev pub Tested : rule.Rule → Option (List ℕ) → Ty → List ℕ → Test → Type 0
Tested r component ty x test = (is : List Id) × (identifiers component ≡ Some is) × (g : allowed.Target) × (allowed.allowed is ty ≡ Some g)
    × (bits_test r g x ≡ Some test)

unfoldable pub tested-there : (r : rule.Rule) (component : Option (List ℕ)) (ty : Ty) (x : List ℕ) (test : Test)
    → bits_any r (leads_by component ty) x ≡ Some test → Tested r component ty x test
tested-there r component ty x test e = go (identifiers component) refl e
  where
    at : (is : List Id) → identifiers component ≡ Some is → (o : Option allowed.Target) → allowed.allowed is ty ≡ o → bits_any r o x ≡ Some test
        → Tested r component ty x test
    at is p None q h = none-some test h
    at is p (Some g) q h = (is, p, g, q, h)

    go : (o : Option (List Id)) → identifiers component ≡ o → bits_any r (bind o (λ is. allowed.allowed is ty)) x ≡ Some test → Tested r component ty x test
    go None p h = none-some test h
    go (Some is) p h = at is p (allowed.allowed is ty) refl h

-- ---- the returns
module _ (t w v f : List ℕ) (p : Parts) (r : Rule) (x : List ℕ) (known : rule_of known_rules (item_of f p).rule ≡ Some (meant r))
    (bits : read_by_target (meant r) ≡ true)
    (value : x ≡ (item_of f p).value) (g : Option Target) (leads : target_of t g ≡ leads_by (component_of f p.component) (type_at t 0))
    (b : Option TestNumbers) (told : report_bits b ≡ bits_any (meant r) (target_of t g) x) where
  pub there : report_bits b ≡ bits_any (meant r) (leads_by (component_of f p.component) (type_at t 0)) x
  there = told ∙ ap (λ (o : Option allowed.Target). bits_any (meant r) o x) leads

  pub bits-undefined : (budget n : ℕ) → n ≤ budget → b ≡ None
      → Ok (judged Verdict.Undefined n) ≡ charged budget n (stored_outcome (type_at t 0) v (item_of f p))
  bits-undefined budget n within q =
      undefined-then (type_at t 0) (item_of f p) v budget n within (asked-none (type_at t 0) (item_of f p) (λ is e h a.
      rule_for-known known_rules h (item_of f p).rule (item_of f p).value (meant r) known
      ∙ ap (λ (y : List ℕ). if_for h y (meant r)) (sym value)
      ∙ asserts-none (meant r) bits h x (sym (rw (e, a) at there) ∙ ap report_bits q)))

  module _ (test : TestNumbers) (is : b ≡ Some test) where
    pub led-there : Tested (meant r) (component_of f p.component) (type_at t 0) x (report_test test)
    led-there = tested-there (meant r) (component_of f p.component) (type_at t 0) x (report_test test) (sym there ∙ ap report_bits is)

    pub asserted-there : (suits (meant r) led-there.2 ≡ true)
        × ((a : Asserted) × (if_for led-there.2 x (meant r) ≡ Some (comparison (meant r) a)) × Accepting (meant r) x (report_test test) a)
    asserted-there = asserts_some (meant r) bits led-there.2 x (report_test test) led-there.4

    module _ (ready : Ready t w v f) (first q : List ℕ) (planned : PlannedFor t first x p.defaults (component_of f p.component) g)
        (steps : SameSteps first q) where
      pub stored : (y : Value) × (stored_value (type_at t 0) v ≡ Some y)
      stored = some_there (stored_value (type_at t 0) v) ready.stored

      pub led : (h : allowed.Target) → allowed.allowed_from led-there.0 (allowed.of_type (type_at t 0)) ≡ Some h → suits (meant r) h ≡ true
      unfolding allowed.allowed
      led h e = subst (λ (y : allowed.Target). suits (meant r) y ≡ true) (some_same led-there.2 h (sym led-there.3 ∙ e)) asserted-there.0

      pub landed : target_of t g ≡ Some led-there.2
      landed = leads ∙ rw led-there.1 led-there.3

      unfoldable pub bits-asks : Asks t q x v
      unfolding PlannedFor
      bits-asks =
          record {
            defaults = p.defaults;
            ids = led-there.0;
            val = stored.0;
            planned = replanned t first q x p.defaults steps (λ h. suits (meant r) h ≡ true)
                (λ js row j here one on. no_default t w ready.worded (meant r) bits p.defaults (task_of first) (task_of q) x js row j here one on)
                1 (type_at t 0) led-there.0 (omega arith) led (planned led-there.0 led-there.1 (lands_some t g led-there.2 landed));
            stored = stored.1;
          }

      module _ (budget n : ℕ) (within : n ≤ budget) where
        asked-there : asked known_rules (type_at t 0) (item_of f p) ≡ Some (record { ids = led-there.0; rule = meant r; asserted = asserted-there.1.0 })
        asked-there =
            asked_by (type_at t 0) (item_of f p)
            ∙ rw (
              led-there.1,
              led-there.3,
              rule_for-known known_rules led-there.2 (item_of f p).rule (item_of f p).value
                  (meant r) known,
              ← value,
              asserted-there.1.1,
            )

        outcome-there : testing (λ h. passes (task.testing (report_test test) budget) x (component h)) 0
            (named p.defaults led-there.0 stored.0) ≡ stored_outcome (type_at t 0) v (item_of f p)
        unfolding stored_outcome outcome
        outcome-there =
            bits-tests (meant r) bits x (report_test test) asserted-there.1.0 asserted-there.1.2 budget v ready.short p.defaults led-there.0
            (type_at t 0) led-there.2 stored.0 0
            (fine_first t w ready.worded ready.admits) stored.1 led-there.3 asserted-there.0
            ∙ ap (outcome_of stored.0 (item_of f p)) (sym asked-there)
            ∙ ap (λ (o : Option Value). outcome_for (type_at t 0) o (item_of f p)) (sym stored.1)

        pub bits-tested : (s : State) (j : Result Judged Fault) → task_of q ≡ task.testing (report_test test) budget → Tests t q x v n s → j ≡ ended s
            → j ≡ charged budget n (stored_outcome (type_at t 0) v (item_of f p))
        unfolding Tests bits-asks ran_to
        bits-tested s j task-is told e =
            let z : s ≡ ran_to (task_of q) x n (named p.defaults led-there.0 stored.0) = told bits-asks (λ l. not_listing (sym task-is ∙ l)) in
            e
            ∙ ap ended (z ∙ ap (λ (y : Task). ran_to y x n (named p.defaults led-there.0 stored.0)) task-is)
            ∙ tested-ends budget n (passes (task.testing (report_test test) budget) x) (named p.defaults led-there.0 stored.0) within
            ∙ ap (charged budget n) outcome-there
          where
            not_listing : task.testing (report_test test) budget ≡ task.listing → ⊥
            not_listing l = absurd (let y : ◌≡◌ {A = ℕ} 0 1 = cc in omega arith)
