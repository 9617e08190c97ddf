-- A list judged filter by filter, from left to right, within a budget.
use Rattle.std.specs.Prelude.{Ok, Err}
use mathlib.Core.Path.{◌≡◌, refl, sym, ap, ◌∙◌}
use mathlib.Core.Bool.{Bool, true, false, false≢true}
use Prim.Native.Nat.{ℕ, ◌≤◌, ◌<◌, ◌+◌}
use native.Mathlib.Omega.{arith}
use borrow.Author.Tests.{le-leb, lt-leb, leb-true, leb-false}
use lib.Dec.{leb}
use Rattle.octets.specs.Pick.{pick}
use Rattle.filter.specs.Filter.{Join, and, or}
use Rattle.evaluation.specs.Truth.{Truth, TRUE, FALSE, UNDEFINED, opposite}
use Rattle.evaluation.specs.Reading.{Outcome, settled, of_none, stops, with_rest, added, and_then, inverted}
use Rattle.evaluation.specs.Inner.Work.{verdict_of, judged, opposed, charged, Ended, ends, over, placed, judged_if, inverse, unsure, judged_rest, goes_on, behind, is_undefined, stops_at, joined_by, none_of, at_end}
use Rattle.evaluation.specs.declared.Verdict.{Verdict}
use Rattle.evaluation.specs.declared.Fault.{Fault}
use Rattle.evaluation.specs.declared.Progress.{Progress}

-- ---- tests made before are added
abbrev shifted : ℕ → Outcome → Outcome
shifted n (settled t k) = settled t (n + k)

charged-shifted : (budget k n : ℕ) (o : Outcome) → charged budget k (shifted n o) ≡ charged budget (k + n) o
unfolding charged
charged-shifted budget k n (settled t i) = let e : k + (n + i) ≡ k + n + i = omega arith in rw e

charged-over : (budget n : ℕ) (o : Outcome) → budget < n → charged budget n o ≡ Err Fault.Over
unfolding charged
charged-over budget n (settled t i) h = let l : budget < n + i = omega arith in rw (lt-leb (n + i) budget l)

-- the rest behind a filter of truth t
abbrev onward : Join → Truth → Outcome → Outcome
onward j t (settled u m) = settled (with_rest j t u) m

added-onward : (j : Join) (t : Truth) (n : ℕ) (r : Outcome) → added j t n r ≡ shifted n (onward j t r)
added-onward j t n (settled u m) = refl

onward_true : (j : Join) (r : Outcome) → onward j TRUE r ≡ r
onward_true j (settled u m) = refl

onward_false : (j : Join) (r : Outcome) → onward j FALSE r ≡ r
onward_false j (settled u m) = refl

onward-undefined : (j : Join) (r : Outcome) → onward j UNDEFINED r ≡ unsure j r
onward-undefined j (settled u m) = refl

unsure-shifted : (j : Join) (n : ℕ) (r : Outcome) → unsure j (shifted n r) ≡ shifted n (unsure j r)
unsure-shifted j n (settled u m) = refl

twice : (j : Join) (u : Truth) → with_rest j UNDEFINED (with_rest j UNDEFINED u) ≡ with_rest j UNDEFINED u
twice and TRUE = refl
twice and FALSE = refl
twice and UNDEFINED = refl
twice or TRUE = refl
twice or FALSE = refl
twice or UNDEFINED = refl

unsure_twice : (j : Join) (r : Outcome) → unsure j (unsure j r) ≡ unsure j r
unsure_twice j (settled u m) = ap (λ (y : Truth). settled y m) (twice j u)

unsure-onward : (j : Join) (t : Truth) (r : Outcome) → unsure j (onward j t r) ≡ unsure j r
unsure-onward j TRUE r = ap (unsure j) (onward_true j r)
unsure-onward j FALSE r = ap (unsure j) (onward_false j r)
unsure-onward j UNDEFINED r = ap (unsure j) (onward-undefined j r) ∙ unsure_twice j r

-- ---- a filter that stops its list
stops_same : (j : Join) (t : Truth) → stops_at j (verdict_of t) ≡ stops j t
stops_same and TRUE = refl
stops_same and FALSE = refl
stops_same and UNDEFINED = refl
stops_same or TRUE = refl
stops_same or FALSE = refl
stops_same or UNDEFINED = refl

stop_truth : (j : Join) (t : Truth) → stops j t ≡ true → t ≡ opposite (of_none j)
stop_truth and TRUE e = absurd (false≢true e)
stop_truth and FALSE e = refl
stop_truth and UNDEFINED e = absurd (false≢true e)
stop_truth or TRUE e = refl
stop_truth or FALSE e = absurd (false≢true e)
stop_truth or UNDEFINED e = absurd (false≢true e)

stop_unsure : (j : Join) (t : Truth) (n : ℕ) → stops j t ≡ true → unsure j (settled t n) ≡ settled t n
stop_unsure and TRUE n e = absurd (false≢true e)
stop_unsure and FALSE n e = refl
stop_unsure and UNDEFINED n e = absurd (false≢true e)
stop_unsure or TRUE n e = refl
stop_unsure or FALSE n e = absurd (false≢true e)
stop_unsure or UNDEFINED n e = absurd (false≢true e)

-- ---- one filter, and the rest of its list; k tests were made before, and the list ends before z
module _ (j : Join) (budget k z : ℕ) where
  -- what a rest gives behind a filter that did not stop the list
  plain-on : (t : Truth) (n : ℕ) (r : Outcome) → placed z (charged budget k (added j t n r)) ≡ judged_rest j (behind Progress.Plain (is_undefined (verdict_of t))) budget (k + n) r z
  plain-on t n r = ap (λ (o : Outcome). placed z (charged budget k o)) (added-onward j t n r) ∙ ap (placed z) (charged-shifted budget k n (onward j t r)) ∙ go t
    where
      go : (t : Truth) → placed z (charged budget (k + n) (onward j t r)) ≡ judged_rest j (behind Progress.Plain (is_undefined (verdict_of t))) budget (k + n) r z
      go TRUE = ap (λ (o : Outcome). placed z (charged budget (k + n) o)) (onward_true j r)
      go FALSE = ap (λ (o : Outcome). placed z (charged budget (k + n) o)) (onward_false j r)
      go UNDEFINED = ap (λ (o : Outcome). placed z (charged budget (k + n) o)) (onward-undefined j r)

  unsure-on : (t : Truth) (n : ℕ) (r : Outcome) → placed z (charged budget k (unsure j (added j t n r))) ≡ judged_rest j (behind Progress.Unsure (is_undefined (verdict_of t))) budget (k + n) r z
  unsure-on t n r =
      ap (λ (o : Outcome). placed z (charged budget k o)) (ap (unsure j) (added-onward j t n r) ∙ unsure-shifted j n (onward j t r) ∙ ap (shifted n) (unsure-onward j t r))
      ∙ ap (placed z) (charged-shifted budget k n (unsure j r))
      ∙ go t
    where
      go : (t : Truth) → placed z (charged budget (k + n) (unsure j r)) ≡ judged_rest j (behind Progress.Unsure (is_undefined (verdict_of t))) budget (k + n) r z
      go TRUE = refl
      go FALSE = refl
      go UNDEFINED = refl

  stopped : (t : Truth) (n : ℕ) → k + n ≤ budget → stops j t ≡ true → placed z (charged budget k (settled t n)) ≡ ends (verdict_of (opposite (of_none j))) (k + n) z
  unfolding charged
  stopped t n h e = rw (le-leb (k + n) budget h) (ap (λ (y : Truth). ends (verdict_of y) (k + n) z) (stop_truth j t e))

  -- within the budget
  plain-first : (t : Truth) (n : ℕ) (r : Outcome) → k + n ≤ budget → judged_rest j Progress.Plain budget k (and_then j (settled t n) r) z ≡ judged_rest j (joined_by j Progress.Plain (verdict_of t)) budget (k + n) r z
  plain-first t n r h = go (stops j t) refl (stops_at j (verdict_of t)) (stops_same j t)
    where
      go : (b : Bool) → stops j t ≡ b → (c : Bool) → c ≡ stops j t → placed z (charged budget k (pick b (settled t n) (added j t n r))) ≡ judged_rest j (pick c Progress.Stopped (behind Progress.Plain (is_undefined (verdict_of t)))) budget (k + n) r z
      go true q true e = stopped t n h q
      go true q false e = absurd (false≢true (e ∙ q))
      go false q true e = absurd (false≢true (sym (e ∙ q)))
      go false q false e = plain-on t n r

  unsure-first : (t : Truth) (n : ℕ) (r : Outcome) → k + n ≤ budget → judged_rest j Progress.Unsure budget k (and_then j (settled t n) r) z ≡ judged_rest j (joined_by j Progress.Unsure (verdict_of t)) budget (k + n) r z
  unsure-first t n r h = go (stops j t) refl (stops_at j (verdict_of t)) (stops_same j t)
    where
      go : (b : Bool) → stops j t ≡ b → (c : Bool) → c ≡ stops j t → placed z (charged budget k (unsure j (pick b (settled t n) (added j t n r)))) ≡ judged_rest j (pick c Progress.Stopped (behind Progress.Unsure (is_undefined (verdict_of t)))) budget (k + n) r z
      go true q true e = ap (λ (o : Outcome). placed z (charged budget k o)) (stop_unsure j t n q) ∙ stopped t n h q
      go true q false e = absurd (false≢true (e ∙ q))
      go false q true e = absurd (false≢true (sym (e ∙ q)))
      go false q false e = unsure-on t n r

  -- over the budget
  over-one : (t : Truth) (n : ℕ) → budget < k + n → charged budget k (settled t n) ≡ Err Fault.Over
  unfolding charged
  over-one t n h = rw (lt-leb (k + n) budget h)

  over-rest : (t : Truth) (n : ℕ) (r : Outcome) → budget < k + n → charged budget k (added j t n r) ≡ Err Fault.Over
  over-rest t n r h = ap (charged budget k) (added-onward j t n r) ∙ charged-shifted budget k n (onward j t r) ∙ charged-over budget (k + n) (onward j t r) h

  over-unsure : (t : Truth) (n : ℕ) (r : Outcome) → budget < k + n → charged budget k (unsure j (added j t n r)) ≡ Err Fault.Over
  over-unsure t n r h = ap (charged budget k) (ap (unsure j) (added-onward j t n r) ∙ unsure-shifted j n (onward j t r)) ∙ charged-shifted budget k n (unsure j (onward j t r)) ∙ charged-over budget (k + n) (unsure j (onward j t r)) h

  plain_over : (t : Truth) (n : ℕ) (r : Outcome) → budget < k + n → placed z (charged budget k (and_then j (settled t n) r)) ≡ over
  plain_over t n r h = go (stops j t)
    where
      go : (b : Bool) → placed z (charged budget k (pick b (settled t n) (added j t n r))) ≡ over
      go true = ap (placed z) (over-one t n h)
      go false = ap (placed z) (over-rest t n r h)

  unsure-over : (t : Truth) (n : ℕ) (r : Outcome) → budget < k + n → placed z (charged budget k (unsure j (and_then j (settled t n) r))) ≡ over
  unsure-over t n r h = go (stops j t)
    where
      unsure-one : (u : Truth) → charged budget k (unsure j (settled u n)) ≡ Err Fault.Over
      unsure-one u = over-one (with_rest j UNDEFINED u) n h

      go : (b : Bool) → placed z (charged budget k (unsure j (pick b (settled t n) (added j t n r)))) ≡ over
      go true = ap (placed z) (unsure-one t)
      go false = ap (placed z) (over-unsure t n r h)

-- what the judging w of a first filter with the outcome o, which ends before q, says of the list
abbrev pub FirstSays : Join → Progress → ℕ → ℕ → Outcome → ℕ → Ended → Type 0
FirstSays j p budget k o q (ends u c a) = (a ≡ q) × (c ≤ budget) × ((r : Outcome) (z : ℕ) → judged_rest j p budget k (and_then j o r) z ≡ judged_rest j (joined_by j p u) budget c r z)
FirstSays j p budget k o q over = (r : Outcome) (z : ℕ) → judged_rest j p budget k (and_then j o r) z ≡ over

first_plain : (j : Join) (budget k : ℕ) (o : Outcome) (q : ℕ) → FirstSays j Progress.Plain budget k o q (placed q (charged budget k o))
unfolding charged
first_plain j budget k (settled t n) q = go (leb (k + n) budget) refl
  where
    go : (b : Bool) → leb (k + n) budget ≡ b → FirstSays j Progress.Plain budget k (settled t n) q (placed q (pick b (Ok (judged (verdict_of t) (k + n))) (Err Fault.Over)))
    go true e = (refl, leb-true (k + n) budget e, λ r z. plain-first j budget k z t n r (leb-true (k + n) budget e))
    go false e = λ r z. plain_over j budget k z t n r (leb-false (k + n) budget e)

first-unsure : (j : Join) (budget k : ℕ) (o : Outcome) (q : ℕ) → FirstSays j Progress.Unsure budget k o q (placed q (charged budget k o))
unfolding charged
first-unsure j budget k (settled t n) q = go (leb (k + n) budget) refl
  where
    go : (b : Bool) → leb (k + n) budget ≡ b → FirstSays j Progress.Unsure budget k (settled t n) q (placed q (pick b (Ok (judged (verdict_of t) (k + n))) (Err Fault.Over)))
    go true e = (refl, leb-true (k + n) budget e, λ r z. unsure-first j budget k z t n r (leb-true (k + n) budget e))
    go false e = λ r z. unsure-over j budget k z t n r (leb-false (k + n) budget e)

pub first_says : (j : Join) (p : Progress) (budget k : ℕ) (o : Outcome) (q : ℕ) → k ≤ budget → FirstSays j p budget k o q (judged_if (goes_on p) budget k o q)
first_says j Progress.Plain budget k o q h = first_plain j budget k o q
first_says j Progress.Unsure budget k o q h = first-unsure j budget k o q
first_says j Progress.Stopped budget k o q h = (refl, h, λ r z. refl)
first_says j Progress.Passed budget k o q h = (refl, h, λ r z. refl)

-- ---- the end of a list
none-same : (j : Join) → verdict_of (of_none j) ≡ none_of j
none-same and = refl
none-same or = refl

none-opposite : (j : Join) → verdict_of (opposite (of_none j)) ≡ opposed (none_of j)
none-opposite and = refl
none-opposite or = refl

none-unsure : (j : Join) → verdict_of (with_rest j UNDEFINED (of_none j)) ≡ Verdict.Undefined
none-unsure and = refl
none-unsure or = refl

within-at : (budget c z : ℕ) (t : Truth) → c ≤ budget → placed z (charged budget c (settled t 0)) ≡ ends (verdict_of t) c z
unfolding charged
within-at budget c z t h = let e : c + 0 ≡ c = omega arith in rw (e, le-leb c budget h)

pub at-end : (j : Join) (p : Progress) (budget c z : ℕ) → c ≤ budget → judged_rest j p budget c (settled (of_none j) 0) z ≡ ends (at_end j p) c z
at-end j Progress.Plain budget c z h = within-at budget c z (of_none j) h ∙ ap (λ (u : Verdict). ends u c z) (none-same j)
at-end j Progress.Unsure budget c z h = within-at budget c z (with_rest j UNDEFINED (of_none j)) h ∙ ap (λ (u : Verdict). ends u c z) (none-unsure j)
at-end j Progress.Stopped budget c z h = ap (λ (u : Verdict). ends u c z) (none-opposite j)
at-end j Progress.Passed budget c z h = refl

-- ---- under `not`
opposed-same : (t : Truth) → opposed (verdict_of t) ≡ verdict_of (opposite t)
opposed-same TRUE = refl
opposed-same FALSE = refl
opposed-same UNDEFINED = refl

pub inverse_judged : (live : Bool) (budget n : ℕ) (o : Outcome) (after : ℕ) → inverse (judged_if live budget n o after) ≡ judged_if live budget n (inverted o) after
unfolding charged
inverse_judged false budget n o after = refl
inverse_judged true budget n (settled t k) after = go (leb (n + k) budget)
  where
    go : (b : Bool) → inverse (placed after (pick b (Ok (judged (verdict_of t) (n + k))) (Err Fault.Over))) ≡ placed after (pick b (Ok (judged (verdict_of (opposite t)) (n + k))) (Err Fault.Over))
    go true = ap (λ (u : Verdict). ends u (n + k) after) (opposed-same t)
    go false = refl
