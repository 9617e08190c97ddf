-- Filters and lists: one lemma for each return and each turn of a loop; its premises are the facts as the code has them.
use mathlib.Core.Path.{◌≡◌, refl, sym, ap, ◌∙◌, subst}
use mathlib.Core.Bool.{Bool, true, false, not}
use Rattle.std.specs.Prelude.{Option, None, Some, Result, Ok, Err}
use mathlib.Core.List.{List}
use Prim.Native.Nat.{ℕ, ◌≤◌, ◌<◌, ◌+◌, ◌-◌, ◌*◌}
use native.Mathlib.Omega.{arith}
use borrow.Author.Tests.{not-true, not-false, leb-true}
use lib.ListN.{length}
use lib.Dec.{leb}
use Rattle.octets.specs.Pick.{pick, is_some}
use Rattle.octets.specs.Utf8.{utf8}
use Rattle.types.specs.Types.{Ty}
use Rattle.assertion.specs.Assertion.{Read, assertion_at}
use Rattle.assertion.specs.Inner.Places.{item_of, report_assertion}
use Rattle.assertion.specs.declared.Parts.{Parts}
use Rattle.filter.specs.Filter as filter
use Rattle.filter.specs.Filter.{Item, item, list, inverse as invert, Filter, Filters, end_filters, next, depth, items}
use Rattle.filter.specs.Paper.{filter_limits}
use Rattle.filter.specs.Parse.{made, filter_at, head_at, tail_at, parse, Tail, another, closed, no_tail, open_list, negation, by_tail}
use Rattle.filter.specs.Inner.Answers.{filters_at, bounded, bounded_in, rest_of}
use Rattle.filter.specs.Inner.Answers.{report_join, report_head, report_tail}
use Rattle.filter.specs.declared.Join.{Join}
use Rattle.filter.specs.declared.Head.{Head}
use Rattle.filter.specs.declared.Tail as tail
use Rattle.filter.proofs.Laws.{filter-by, filters_step, filters_by, read_first, filter-further, parse-read, counted_some, counted_none}
use Rattle.filter.proofs.Bounds.{bounded_item, bounded-empty, bounded-list, bounded-negation, bounded_of, bad-first, bounded-more, bounded-last}
use Rattle.filter.proofs.Steps as reading
use Rattle.filter.proofs.Progress.{HeadOn, head_on, TailOn, tail_on}
use Rattle.evaluation.specs.Reading.{Outcome, settled, of_none, and_then, reading, reading_in}
use Rattle.evaluation.specs.Inner.Work.{stored_outcome, verdict_of, charged, Ended, ends, over, placed, inverse, judged_if, judged_filter, judged_rest, judged_filters}
use Rattle.evaluation.specs.Inner.Work.{JudgedAs, Judges, JudgedInAs, JudgesIn, judged, judging, inverse_of, begun, goes_on, behind, stops_at, is_undefined, joined_by, at_end, Evaluates}
use Rattle.evaluation.specs.declared.Verdict.{Verdict}
use Rattle.evaluation.specs.declared.Judging.{Judging}
use Rattle.evaluation.specs.declared.Judged.{Judged}
use Rattle.evaluation.specs.declared.Fault.{Fault}
use Rattle.evaluation.specs.declared.Progress.{Progress}
use Rattle.evaluation.proofs.ItemSteps.{some_there}
use Rattle.evaluation.proofs.ListLaws.{FirstSays, first_says, at-end, inverse_judged}

-- ---- one filter more
module _ (j : filter.Join) (p : Progress) (u : Verdict) (a : Bool) (going : a ≡ goes_on p) where
  pub joined-over : not a ≡ true → p ≡ joined_by j p u
  joined-over h = rw (sym going ∙ not-true a h)

  module _ (h : not a ≡ false) (b : Bool) (stop : b ≡ stops_at j u) where
    pub joined-stops : b ≡ true → Progress.Stopped ≡ joined_by j p u
    joined-stops q = rw (sym going ∙ not-false a h, sym stop ∙ q)

    pub joined-on : (c : Bool) (r : Progress) → b ≡ false → c ≡ is_undefined u → r ≡ behind p c → r ≡ joined_by j p u
    joined-on c r q e f = rw (sym going ∙ not-false a h, sym stop ∙ q, sym e) f

-- ---- the assertion of an item
made_some : (says : Item → Outcome) (live : Bool) (budget n : ℕ) (x : Option (Read Item)) (i : Item) (after : ℕ) → x ≡ Some (record { is = i; after = after })
    → judged_if live budget n (says i) after ≡ judged_filter says live budget n (made item x)
unfolding judged_filter reading
made_some says live budget n x i after e = rw e

-- the tests of an outcome within the budget
charged-within : (budget n : ℕ) (o : Outcome) (j : Judged) → Ok j ≡ charged budget n o → j.tests ≤ budget
unfolding charged
charged-within budget n (settled t m) j e = go (leb (n + m) budget) refl e
  where
    go : (b : Bool) → leb (n + m) budget ≡ b → Ok j ≡ pick {A = Result Judged Fault} b (Ok (judged (verdict_of t) (n + m))) (Err Fault.Over) → j.tests ≤ budget
    go true q f =
        let h : n + m ≤ budget = leb-true (n + m) budget q in
        let z : j ≡ judged (verdict_of t) (n + m) = cc in
        let y : j.tests ≡ n + m = ap (λ (x : Judged). x.tests) z in
        omega arith
    go false q f = absurd (let z : ◌≡◌ {A = ℕ} 0 1 = cc in omega arith)

-- no assertion is malformed: it is judged, or over the budget
charged-over : (budget n : ℕ) (o : Outcome) (e : Fault) → Err e ≡ charged budget n o → e ≡ Fault.Over
unfolding charged
charged-over budget n (settled t m) e q = go (leb (n + m) budget) q
  where
    go : (b : Bool) → Err e ≡ pick {A = Result Judged Fault} b (Ok (judged (verdict_of t) (n + m))) (Err Fault.Over) → e ≡ Fault.Over
    go true f = absurd (let z : ◌≡◌ {A = ℕ} 0 1 = cc in omega arith)
    go false f = cc

pub assertion_full : (says : Item → Outcome) (f : List ℕ) (at room : ℕ) (live : Bool) (budget n : ℕ) → room ≡ 0
    → Judges says 1 room live budget n (made item (assertion_at f at)) (Err Fault.Malformed)
unfolding Judges
assertion_full says f at room live budget n e = reading.item_full f at room e

module _ (ty : Ty) (v f : List ℕ) (at room : ℕ) (live : Bool) (budget n : ℕ) (many : room ≡ 0 → ⊥) (a : Option Parts) (e : report_assertion f a ≡ assertion_at f at) where
  pub assertion-bad : a ≡ None → Judges (stored_outcome ty v) 1 room live budget n (made item (assertion_at f at)) (Err Fault.Malformed)
  unfolding Judges
  assertion-bad q = reading.item_bad f at room many a e q

  module _ (p : Parts) (q : a ≡ Some p) (after left : ℕ) (k : after ≡ p.after) (l : left ≡ room - 1) where
    good : judged_if live budget n (stored_outcome ty v (item_of f p)) after ≡ judged_filter (stored_outcome ty v) live budget n (made item (assertion_at f at))
    good =
        ap (judged_if live budget n (stored_outcome ty v (item_of f p))) k
        ∙ made_some (stored_outcome ty v) live budget n (assertion_at f at) (item_of f p) p.after (sym e ∙ ap (report_assertion f) q)

    span : Some (rest_of after left) ≡ bounded 1 room (made item (assertion_at f at))
    span = ap (λ (x : ℕ). Some (rest_of x left)) k ∙ ap (λ (x : ℕ). Some (rest_of p.after x)) l ∙ reading.item_is f at room many a e p q

    pub assertion-passed : n ≤ budget → not live ≡ true
        → Judges (stored_outcome ty v) 1 room live budget n (made item (assertion_at f at)) (Ok (judging Verdict.Undefined n after left))
    unfolding Judges
    assertion-passed within h = (span, (within, sym (ap (λ (b : Bool). judged_if b budget n (stored_outcome ty v (item_of f p)) after) (not-true live h)) ∙ good))

    module _ (h : not live ≡ false) where
      charged_good : (w : Result Judged Fault) → w ≡ charged budget n (stored_outcome ty v (item_of f p))
          → placed after w ≡ judged_filter (stored_outcome ty v) live budget n (made item (assertion_at f at))
      charged_good w c = ap (placed after) c ∙ sym (ap (λ (b : Bool). judged_if b budget n (stored_outcome ty v (item_of f p)) after) (not-false live h)) ∙ good

      module _ (w : Result Judged Fault) (told : w ≡ charged budget n (stored_outcome ty v (item_of f p))) where
        pub assertion_judged : (j : Judged) → w ≡ Ok j
            → Judges (stored_outcome ty v) 1 room live budget n (made item (assertion_at f at)) (Ok (record { judged = j; after = after; items = left }))
        unfolding Judges
        assertion_judged j c = (span, (charged-within budget n (stored_outcome ty v (item_of f p)) j (sym c ∙ told), charged_good (Ok j) (sym c ∙ told)))

        assertion_stays : (e : Fault) → w ≡ Err e → Judges (stored_outcome ty v) 1 room live budget n (made item (assertion_at f at)) (Err e)
        unfolding Judges
        assertion_stays e c =
            subst (λ (x : Fault). JudgedAs (stored_outcome ty v) 1 room live budget n (made item (assertion_at f at)) (Err x))
            (sym (charged-over budget n (stored_outcome ty v (item_of f p)) e (sym c ∙ told))) (λ there. charged_good (Err e) (sym c ∙ told))

  pub assertion_over : (p : Parts) → a ≡ Some p → not live ≡ false → (w : Result Judged Fault) → w ≡ charged budget n (stored_outcome ty v (item_of f p)) → (e : Fault) → w ≡ Err e
      → Judges (stored_outcome ty v) 1 room live budget n (made item (assertion_at f at)) (Err e)
  assertion_over p q h w told e c = assertion_stays p q p.after (room - 1) refl refl h w told e c

-- ---- a filter, by its head
made-is : {A B : Type 0} (f : A → B) (x : Option (Read A)) → is_some (made f x) ≡ true → is_some x ≡ true
made-is f None e = e
made-is f (Some r) e = refl

list_judged : (says : Item → Outcome) (j : filter.Join) (live : Bool) (budget n : ℕ) (x : Option (Read (Filters Item)))
    → judged_filters says j (begun live) budget n x ≡ judged_filter says live budget n (made (list j) x)
unfolding judged_filter judged_filters reading
list_judged says j live budget n None = refl
list_judged says j true budget n (Some r) = refl
list_judged says j false budget n (Some r) = refl

not_judged : (says : Item → Outcome) (live : Bool) (budget n : ℕ) (x : Option (Read (Filter Item)))
    → inverse (judged_filter says live budget n x) ≡ judged_filter says live budget n (made invert x)
unfolding judged_filter reading
not_judged says live budget n None = refl
not_judged says live budget n (Some r) = inverse_judged live budget n (reading says r.is) r.after

empty_judged : (says : Item → Outcome) (j : filter.Join) (live : Bool) (budget n after : ℕ) → n ≤ budget
    → ends (at_end j (begun live)) n after ≡ judged_filter says live budget n (Some (record { is = list j end_filters; after = after }))
unfolding judged_filter reading
empty_judged says j true budget n after h = sym (at-end j Progress.Plain budget n after h)
empty_judged says j false budget n after h = refl

module _ (says : Item → Outcome) (d room : ℕ) (live : Bool) (budget n : ℕ) (deep : d ≡ 0 → ⊥) where
  positive : 0 < d
  positive = omega arith

  item_as : (x : Option (Read Item)) (w : Result Judging Fault) → JudgedAs says 1 room live budget n (made item x) w → JudgedAs says d room live budget n (made item x) w
  item_as x (Ok g) s = (s.0 ∙ bounded_item d room positive x, s.1)
  item_as x (Err Fault.Over) s = s
  item_as x (Err Fault.Malformed) s = s ∙ bounded_item d room positive x

  list_as : (j : filter.Join) (x : Option (Read (Filters Item))) (w : Result Judging Fault) → JudgedInAs says j (begun live) (d - 1) room budget n x w
      → JudgedAs says d room live budget n (made (list j) x) w
  list_as j x (Ok g) s = (s.0 ∙ bounded-list d room positive j x, (s.1.0, s.1.1 ∙ list_judged says j live budget n x))
  list_as j x (Err Fault.Over) s = λ h. s (made-is (list j) x h) ∙ list_judged says j live budget n x
  list_as j x (Err Fault.Malformed) s = s ∙ bounded-list d room positive j x

  not_as : (x : Option (Read (Filter Item))) (g : Judging) → JudgedAs says (d - 1) room live budget n x (Ok g) → JudgedAs says d room live budget n (made invert x) (Ok (inverse_of g))
  not_as x g s = (s.0 ∙ bounded-negation d room positive x, (s.1.0, ap inverse s.1.1 ∙ not_judged says live budget n x))

  not_fault : (x : Option (Read (Filter Item))) (e : Fault) → JudgedAs says (d - 1) room live budget n x (Err e) → JudgedAs says d room live budget n (made invert x) (Err e)
  not_fault x Fault.Over s = λ h. ap inverse (s (made-is invert x h)) ∙ not_judged says live budget n x
  not_fault x Fault.Malformed s = s ∙ bounded-negation d room positive x

pub filter_shallow : (says : Item → Outcome) (f : List ℕ) (at d room : ℕ) (live : Bool) (budget n : ℕ) → d ≡ 0 → Judges says d room live budget n (filter_at f at) (Err Fault.Malformed)
unfolding Judges
filter_shallow says f at d room live budget n e = reading.filter_shallow f at d room e

module _ (says : Item → Outcome) (f : List ℕ) (at d room : ℕ) (live : Bool) (budget n : ℕ) (deep : d ≡ 0 → ⊥) (h : Option Head) (e : report_head h ≡ head_at f at) where
  pub filter_item : (p : ℕ) (w : Result Judging Fault) (y : Head) → h ≡ Some y → y ≡ Head.Assertion p → Judges says 1 room live budget n (made item (assertion_at f p)) w → Judges says d room live budget n (filter_at f at) w
  unfolding Judges
  filter_item p w y q i s =
      subst (λ (x : Option (Read (Filter Item))). JudgedAs says d room live budget n x w) (sym (filter-by f at (sym e ∙ ap report_head (q ∙ ap Some i))))
      (item_as says d room live budget n deep (assertion_at f p) w s)

  pub filter-empty : (j : Join) (p : ℕ) (q : Progress) (g : Judging) (y : Head) → n ≤ budget → h ≡ Some y → y ≡ Head.EmptyList j p → q ≡ begun live → g ≡ judging (at_end (report_join j) q) n p room
      → Judges says d room live budget n (filter_at f at) (Ok g)
  unfolding Judges
  filter-empty j p q g y l z i b c =
      subst (λ (y : Judging). JudgedAs says d room live budget n (filter_at f at) (Ok y)) (ap (λ (y : Progress). judging (at_end (report_join j) y) n p room) (sym b) ∙ sym c)
      (subst (λ (x : Option (Read (Filter Item))). JudgedAs says d room live budget n x (Ok (judging (at_end (report_join j) (begun live)) n p room)))
      (sym (filter-by f at (sym e ∙ ap report_head (z ∙ ap Some i))))
      (bounded-empty d room (positive says d room live budget n deep) (report_join j) p, (l, empty_judged says (report_join j) live budget n p l)))

  pub filter-list : (j : Join) (p : ℕ) (w : Result Judging Fault) (y : Head) → h ≡ Some y → y ≡ Head.OpenList j p → JudgesIn says (report_join j) (begun live) (d - 1) room budget n (filters_at f p) w
      → Judges says d room live budget n (filter_at f at) w
  unfolding Judges JudgesIn
  filter-list j p w y q i s =
      subst (λ (x : Option (Read (Filter Item))). JudgedAs says d room live budget n x w) (sym (filter-by f at (sym e ∙ ap report_head (q ∙ ap Some i))))
      (list_as says d room live budget n deep (report_join j) (filters_at f p) w s)

  module _ (p : ℕ) (head : Head) (q : h ≡ Some head) (i : head ≡ Head.Negation p) where
    is-not : filter_at f at ≡ made invert (filter_at f p)
    is-not = filter-by f at (sym e ∙ ap report_head (q ∙ ap Some i))

    module _ (w : Result Judging Fault) (s : Judges says (d - 1) room live budget n (filter_at f p) w) where
      under : (x : Result Judging Fault) → w ≡ x → JudgedAs says (d - 1) room live budget n (filter_at f p) x
      unfolding Judges
      under x z = subst (JudgedAs says (d - 1) room live budget n (filter_at f p)) z s

      pub filter_not : (g k : Judging) → w ≡ Ok g → k ≡ inverse_of g → Judges says d room live budget n (filter_at f at) (Ok k)
      unfolding Judges
      filter_not g k z c =
          subst (λ (y : Judging). JudgedAs says d room live budget n (filter_at f at) (Ok y)) (sym c)
          (subst (λ (y : Option (Read (Filter Item))). JudgedAs says d room live budget n y (Ok (inverse_of g))) (sym is-not)
          (not_as says d room live budget n deep (filter_at f p) g (under (Ok g) z)))

      pub not_read : (c : Fault) → w ≡ Err c → Judges says d room live budget n (filter_at f at) (Err c)
      unfolding Judges
      not_read c z =
          subst (λ (y : Option (Read (Filter Item))). JudgedAs says d room live budget n y (Err c)) (sym is-not)
          (not_fault says d room live budget n deep (filter_at f p) c (under (Err c) z))

  pub filter_none : h ≡ None → Judges says d room live budget n (filter_at f at) (Err Fault.Malformed)
  unfolding Judges
  filter_none q = reading.filter_none f at d room deep h e q

module _ (f : List ℕ) (at : ℕ) (h : Option Head) (e : report_head h ≡ head_at f at) where
  -- the text that is left falls
  pub list-less : (t : ℕ) (j : Join) (p : ℕ) (y : Head) → 2 * (length f - at) ≡ t → h ≡ Some y → y ≡ Head.OpenList j p → 2 * (length f - p) + 1 < t
  list-less t j p y m q i = let l : HeadOn (length f) at (open_list (report_join j) p) = subst (HeadOn (length f) at) (sym e ∙ ap report_head (q ∙ ap Some i)) (head_on f at) in let a = l.0 in let b = l.1 in omega arith

  pub not-less : (t p : ℕ) (y : Head) → 2 * (length f - at) ≡ t → h ≡ Some y → y ≡ Head.Negation p → 2 * (length f - p) < t
  not-less t p y m q i = let l : HeadOn (length f) at (negation p) = subst (HeadOn (length f) at) (sym e ∙ ap report_head (q ∙ ap Some i)) (head_on f at) in let a = l.0 in let b = l.1 in omega arith

-- ---- the filters of a list from place i on: what they are by what follows the first of them, with which the list so far is q after c tests
abbrev TailSays : (Item → Outcome) → List ℕ → filter.Join → Progress → ℕ → ℕ → ℕ → ℕ → ℕ → Progress → ℕ → ℕ → Tail → Type 0
TailSays says f j p d room budget k i q c l (another a) =
    (c ≤ budget) × ((length f - a < length f - i)
    × ((w : Result Judging Fault) → JudgedInAs says j q d l budget c (filters_at f a) w → JudgedInAs says j p d room budget k (filters_at f i) w))
TailSays says f j p d room budget k i q c l (closed a) = JudgedInAs says j p d room budget k (filters_at f i) (Ok (judging (at_end j q) c a l))
TailSays says f j p d room budget k i q c l no_tail = JudgedInAs says j p d room budget k (filters_at f i) (Err Fault.Malformed)

module _ (says : Item → Outcome) (f : List ℕ) (j : filter.Join) (p : Progress) (d room budget k i : ℕ) (h : k ≤ budget) where
  -- the first filter was read
  module _ (x : Read (Filter Item)) (first : filter_at f i ≡ Some x) where
    abbrev o : Outcome
    o = reading says x.is

    -- what its judging says of the list
    said_of : (w : Ended) → w ≡ judged_filter says (goes_on p) budget k (filter_at f i) → FirstSays j p budget k o x.after w
    unfolding judged_filter
    said_of w e = subst (FirstSays j p budget k o x.after) (sym (e ∙ ap (judged_filter says (goes_on p) budget k) first)) (first_says j p budget k o x.after h)

    -- more tests than the budget, whatever the rest
    over_in : FirstSays j p budget k o x.after over → over ≡ judged_filters says j p budget k (filters_at f i)
    unfolding judged_filters reading
    over_in s = go (tail_at f x.after) (filters_by f i x first refl)
      where
        behind_it : (y : Option (Read (Filters Item))) → over ≡ judged_filters says j p budget k (made (next x.is) y)
        behind_it None = refl
        behind_it (Some r) = sym (s (reading_in says j r.is) r.after)

        go : (t : Tail) → filters_at f i ≡ by_tail (filters_at f) x.is t → over ≡ judged_filters says j p budget k (filters_at f i)
        go (another a) e = behind_it (filters_at f a) ∙ ap (judged_filters says j p budget k) (sym e)
        go (closed a) e = sym (s (settled (of_none j) 0) a) ∙ ap (judged_filters says j p budget k) (sym e)
        go no_tail e = ap (judged_filters says j p budget k) (sym e)

    -- within the budget, up to place q, with so many items left
    module _ (u : Verdict) (c q l : ℕ) (within : c ≤ budget) (ends-here : q ≡ x.after) (deep : depth x.is ≤ d) (few : length (items x.is) ≤ room) (left : l ≡ room - length (items x.is))
        (law : (r : Outcome) (z : ℕ) → judged_rest j p budget k (and_then j o r) z ≡ judged_rest j (joined_by j p u) budget c r z) where
      bounds : (y : Option (Read (Filters Item))) → bounded_in d l y ≡ bounded_in d room (made (next x.is) y)
      bounds y = ap (λ (m : ℕ). bounded_in d m y) left ∙ bounded-more d room x.is deep few y

      rests : (y : Option (Read (Filters Item))) → judged_filters says j (joined_by j p u) budget c y ≡ judged_filters says j p budget k (made (next x.is) y)
      unfolding judged_filters reading
      rests None = refl
      rests (Some r) = sym (law (reading_in says j r.is) r.after)

      more : (y : Option (Read (Filters Item))) (w : Result Judging Fault) → JudgedInAs says j (joined_by j p u) d l budget c y w → JudgedInAs says j p d room budget k (made (next x.is) y) w
      more y (Ok g) s = (s.0 ∙ bounds y, (s.1.0, s.1.1 ∙ rests y))
      more y (Err Fault.Over) s = λ Some. s (made-is (next x.is) y Some) ∙ rests y
      more y (Err Fault.Malformed) s = s ∙ bounds y

      last : (a : ℕ) → JudgedInAs says j p d room budget k (by_tail (filters_at f) x.is (closed a)) (Ok (judging (at_end j (joined_by j p u)) c a l))
      unfolding judged_filters reading
      last a = (ap (λ (x : ℕ). Some (rest_of a x)) left ∙ bounded-last d room x.is deep few a, (within, sym (at-end j (joined_by j p u) budget c a within) ∙ sym (law (settled (of_none j) 0) a)))

      on_tail : (t : Tail) → tail_at f q ≡ t → TailSays says f j p d room budget k i (joined_by j p u) c l t
      unfolding bounded_in
      on_tail t e = go t e (filters_by f i x first (sym (ap (tail_at f) ends-here) ∙ e))
        where
          go : (t : Tail) → tail_at f q ≡ t → filters_at f i ≡ by_tail (filters_at f) x.is t → TailSays says f j p d room budget k i (joined_by j p u) c l t
          go (another a) e r =
              let b = filter-further f i x first in
              let n : TailOn (length f) q (another a) = subst (TailOn (length f) q) e (tail_on f q) in
              let b0 = b.0 in
              let n0 = n.0 in
              let n1 = n.1 in
              (within, (omega arith, λ w s. subst (λ (y : Option (Read (Filters Item))). JudgedInAs says j p d room budget k y w) (sym r) (more (filters_at f a) w s)))
          go (closed a) e r = subst (λ (y : Option (Read (Filters Item))). JudgedInAs says j p d room budget k y (Ok (judging (at_end j (joined_by j p u)) c a l))) (sym r) (last a)
          go no_tail e r = ap (bounded_in d room) (sym r)

  says-tail : (g : Judging) → JudgedAs says d room (goes_on p) budget k (filter_at f i) (Ok g)
      → TailSays says f j p d room budget k i (joined_by j p g.judged.verdict) g.judged.tests g.items (tail_at f g.after)
  says-tail g s =
      let b = bounded_of d room (filter_at f i) (rest_of g.after g.items) s.0 in
      let z = said_of b.0 b.1.0 (ends g.judged.verdict g.judged.tests g.after) s.1.1 in
      on_tail b.0 b.1.0 g.judged.verdict g.judged.tests g.after g.items s.1.0 b.1.1.1.0 b.1.1.0.0 b.1.1.0.1 b.1.1.1.1 z.2 (tail_at f g.after) refl

  says-fault : (e : Fault) → JudgedAs says d room (goes_on p) budget k (filter_at f i) (Err e) → JudgedInAs says j p d room budget k (filters_at f i) (Err e)
  says-fault Fault.Over s = λ h.
      let r = some_there (filters_at f i) h in
      let x = read_first f i r.0 r.1 in
      over_in x.0 x.1.0 (said_of x.0 x.1.0 over (s (ap is_some x.1.0)))
  says-fault Fault.Malformed s = bad-first d room f (filters_at f) (filter_at f i) s ∙ ap (bounded_in d room) (sym (filters_step f i))

-- ---- the filters of a list: k tests were made before place i, the list so far is p, and so many items are left
pub record Listing (says : Item → Outcome) (f : List ℕ) (j : filter.Join) (begin : Progress) (d room budget n at : ℕ) (p : Progress) (k i left : ℕ) : Type 0 where
  pub within : k ≤ budget
  pub on : length f - i ≤ length f - at
  pub carries : (w : Result Judging Fault) → JudgedInAs says j p d left budget k (filters_at f i) w → JudgedInAs says j begin d room budget n (filters_at f at) w

module _ (says : Item → Outcome) (f : List ℕ) (j : filter.Join) (begin : Progress) (d room budget n at : ℕ) where
  pub list-begins : n ≤ budget → Listing says f j begin d room budget n at begin n at room
  list-begins h = record { within = h; on = omega arith; carries = λ w s. s }

  module _ (p : Progress) (k i left : ℕ) (inv : Listing says f j begin d room budget n at p k i left) where
    pub list-lower : (t : ℕ) → 2 * (length f - at) + 1 ≡ t → 2 * (length f - i) < t
    list-lower t m = let a = inv.on in omega arith

    pub list-within : k ≤ budget
    list-within = inv.within

    module _ (b : Bool) (w : Result Judging Fault) (going : b ≡ goes_on p) (judged : Judges says d left b budget k (filter_at f i) w) where
      first : JudgedAs says d left (goes_on p) budget k (filter_at f i) w
      unfolding Judges
      first = subst (λ (y : Bool). JudgedAs says d left y budget k (filter_at f i) w) going judged

      pub list-fault : (live : Bool) (e : Fault) → begin ≡ begun live → w ≡ Err e → JudgesIn says j (begun live) d room budget n (filters_at f at) (Err e)
      unfolding JudgesIn
      list-fault live e z q =
          subst (λ (y : Progress). JudgedInAs says j y d room budget n (filters_at f at) (Err e)) z
          (inv.carries (Err e) (says-fault says f j p d left budget k i inv.within e (subst (JudgedAs says d left (goes_on p) budget k (filter_at f i)) q first)))

      module _ (g : Judging) (is : w ≡ Ok g) (next : Progress) (onward : next ≡ joined_by j p g.judged.verdict) (t : Option tail.Tail) (told : report_tail t ≡ tail_at f g.after) where
        said : (x : Option tail.Tail) → t ≡ x → TailSays says f j p d left budget k i next g.judged.tests g.items (report_tail x)
        said x q =
            subst (TailSays says f j p d left budget k i next g.judged.tests g.items) (sym told ∙ ap report_tail q)
            (subst (λ (y : Progress). TailSays says f j p d left budget k i y g.judged.tests g.items (tail_at f g.after)) (sym onward)
            (says-tail says f j p d left budget k i inv.within g (subst (JudgedAs says d left (goes_on p) budget k (filter_at f i)) is first)))

        pub list-ends : (live : Bool) (a : ℕ) (y : Judging) (x : tail.Tail) → begin ≡ begun live → t ≡ Some x → x ≡ tail.Tail.Closed a → y ≡ judging (at_end j next) g.judged.tests a g.items
            → JudgesIn says j (begun live) d room budget n (filters_at f at) (Ok y)
        unfolding JudgesIn
        list-ends live a y x z q r c =
            subst (λ (o : Judging). JudgedInAs says j (begun live) d room budget n (filters_at f at) (Ok o)) (sym c)
            (subst (λ (o : Progress). JudgedInAs says j o d room budget n (filters_at f at) (Ok (judging (at_end j next) g.judged.tests a g.items))) z
            (inv.carries (Ok (judging (at_end j next) g.judged.tests a g.items)) (said (Some (tail.Tail.Closed a)) (q ∙ ap Some r))))

        pub list-lost : (live : Bool) → begin ≡ begun live → t ≡ None → JudgesIn says j (begun live) d room budget n (filters_at f at) (Err Fault.Malformed)
        unfolding JudgesIn
        list-lost live z q =
            subst (λ (o : Progress). JudgedInAs says j o d room budget n (filters_at f at) (Err Fault.Malformed)) z (inv.carries (Err Fault.Malformed) (said None q))

        module _ (a : ℕ) (x : tail.Tail) (q : t ≡ Some x) (r : x ≡ tail.Tail.Another a) where
          goes : TailSays says f j p d left budget k i next g.judged.tests g.items (another a)
          goes = said (Some (tail.Tail.Another a)) (q ∙ ap Some r)

          pub list_falls : length f - a < length f - i
          list_falls = goes.1.0

          pub list_again : Listing says f j begin d room budget n at next g.judged.tests a g.items
          list_again = record { within = goes.0; on = let e = goes.1.0 in let g = inv.on in omega arith; carries = λ w s. inv.carries w (goes.1.1 w s) }

-- ---- the whole text
placed_same : (after : ℕ) (a : Result Judged Fault) (budget n : ℕ) (w : Outcome) → ((e : Fault) → a ≡ Err e → e ≡ Fault.Over) → placed after a ≡ placed after (charged budget n w)
    → a ≡ charged budget n w
placed_same after a budget n w only q = go a only (charged budget n w) refl q
  where
    go : (a : Result Judged Fault) → ((e : Fault) → a ≡ Err e → e ≡ Fault.Over) → (b : Result Judged Fault) → charged budget n w ≡ b → placed after a ≡ placed after b → a ≡ b
    go (Ok i) only (Ok j) z q =
        let v : i.verdict ≡ j.verdict = cc in
        let k : i.tests ≡ j.tests = cc in
        ap (λ (y : Verdict). Ok (judged y i.tests)) v ∙ ap (λ (y : ℕ). Ok (judged j.verdict y)) k
    go (Ok i) only (Err e) z q = absurd (let z : ◌≡◌ {A = ℕ} 0 1 = cc in omega arith)
    go (Err e) only (Ok j) z q = absurd (let z : ◌≡◌ {A = ℕ} 0 1 = cc in omega arith)
    go (Err e) only (Err c) z q = ap Err (only e refl ∙ sym (charged-over budget n w c (sym z)))

module _ (says : Item → Outcome) (f : List ℕ) (budget : ℕ) where
  -- the judging of a text that is a filter g
  text_of : (g : Filter Item) → parse filter_limits f ≡ Some g → (j : Result Judged Fault) → ((e : Fault) → j ≡ Err e → e ≡ Fault.Over)
      → placed (length f) j ≡ judged_filter says true budget 0 (filter_at f 0) → j ≡ charged budget 0 (reading says g)
  unfolding judged_filter
  text_of g e j only q =
      placed_same (length f) j budget 0 (reading says g) only (q ∙ ap (judged_filter says true budget 0) (parse-read filter_limits f g e).0.1)

  module _ (b : Bool) (valid : b ≡ utf8 f) where
    pub text-other : not b ≡ true → Evaluates says budget (parse filter_limits f) (Err Fault.Malformed)
    unfolding Evaluates
    text-other h = counted_none (parse filter_limits f) (reading.read-other f b valid h)

    module _ (h : not b ≡ false) (w : Result Judging Fault) (judged : Judges says filter_limits.depth filter_limits.items true budget 0 (filter_at f 0) w) where
      known : (y : Result Judging Fault) → w ≡ y → JudgedAs says filter_limits.depth filter_limits.items true budget 0 (filter_at f 0) y
      unfolding Judges
      known y q = subst (JudgedAs says filter_limits.depth filter_limits.items true budget 0 (filter_at f 0)) q judged

      module _ (g : Judging) (q : w ≡ Ok g) where
        pub text_trailing : (g.after ≡ length f → ⊥) → Evaluates says budget (parse filter_limits f) (Err Fault.Malformed)
        unfolding Evaluates
        text_trailing n = counted_none (parse filter_limits f) (reading.read_trailing f b valid h (Some (rest_of g.after g.items)) (known (Ok g) q).0 (rest_of g.after g.items) refl n)

        pub text_at : g.after ≡ length f → Evaluates says budget (parse filter_limits f) (Ok g.judged)
        unfolding Evaluates
        text_at e =
            let s = known (Ok g) q in
            let c = counted_some (parse filter_limits f) (filter_limits.items - g.items)
            (reading.read_whole f b valid h (Some (rest_of g.after g.items)) s.0 (rest_of g.after g.items) refl (filter_limits.items - g.items) e refl) in
            (c.0, (c.1.0, text_of c.0 c.1.0 (Ok g.judged) (λ x z. absurd (let y : ◌≡◌ {A = ℕ} 0 1 = cc in omega arith)) (ap (ends g.judged.verdict g.judged.tests) (sym e) ∙ s.1.1)))

      fault_as : (e : Fault) → JudgedAs says filter_limits.depth filter_limits.items true budget 0 (filter_at f 0) (Err e) → Evaluates says budget (parse filter_limits f) (Err e)
      unfolding Evaluates
      fault_as Fault.Over s = λ g e. text_of g e (Err Fault.Over) (λ x z. cc) (s (ap is_some (parse-read filter_limits f g e).0.1))
      fault_as Fault.Malformed s = counted_none (parse filter_limits f) (reading.read-bad f b valid h None s refl)

      pub text-fault : (e : Fault) → w ≡ Err e → Evaluates says budget (parse filter_limits f) (Err e)
      text-fault e q = fault_as e (known (Err e) q)
