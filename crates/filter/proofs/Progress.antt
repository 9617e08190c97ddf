-- What is read ends further on, within the text; so the number that bounds the calls does not matter where it is large enough.
use mathlib.Core.Path.{◌≡◌, refl, ap, ◌∙◌, subst}
use mathlib.Core.Bool.{true}
use mathlib.Core.List.{List}
use Rattle.std.specs.Prelude.{Option, None, Some}
use Prim.Native.Nat.{ℕ, zero, suc, ◌+◌, ◌-◌, ◌<◌, ◌≤◌}
use native.Mathlib.Omega.{arith}
use borrow.Author.Tests.{eqb-true}
use lib.Dec.{eqb}
use lib.ListN.{length, drop}
use Rattle.octets.specs.Pick.{bind}
use Rattle.octets.specs.Octets.{octet, bytes}
use Rattle.octets.specs.Text.{starts, skip}
use Rattle.octets.proofs.Laws.{pick_cases, octet-inside}
use Rattle.assertion.specs.Item.{Item}
use Rattle.assertion.specs.Spaces.{mark_at, comma, open_brace, close_brace}
use Rattle.assertion.specs.Assertion.{Read, assertion_at}
use Rattle.assertion.proofs.Laws.{some_is, none_not, starts-fits}
use Rattle.assertion.proofs.Progress.{Further, skip-from, mark-further, assertion-further}
use Rattle.filter.specs.Filter.{Item, Join, and, or, Filter, Filters, item, list, inverse, next}
use Rattle.filter.specs.Parse.{Head, assertion, empty_list, open_list, negation, no_head, in_braces, head_at, Tail, another, closed, no_tail, or_closed, tail_at, made, by_head, by_tail, after_first, filter_from, filters_from}

-- ---- heads and tails
abbrev pub HeadOn : ℕ → ℕ → Head → Type 0
HeadOn n at (assertion p) = Further n at p
HeadOn n at (empty_list j p) = Further n at p
HeadOn n at (open_list j p) = (at + 2 ≤ p) × (p ≤ n)
HeadOn n at (negation p) = Further n at p
HeadOn n at no_head = Unit

abbrev pub TailOn : ℕ → ℕ → Tail → Type 0
TailOn n at (another p) = Further n at p
TailOn n at (closed p) = Further n at p
TailOn n at no_tail = Unit

braces_on : (s : List ℕ) (at : ℕ) (j : Join) (o : Option ℕ) → ((p : ℕ) → o ≡ Some p → (at + 2 ≤ p) × (p ≤ length s)) → HeadOn (length s) at (in_braces s j o)
braces_on s at j None f = tt
braces_on s at j (Some p) f =
    let h = f p refl in
    pick_cases (HeadOn (length s) at) (eqb (octet s p) close_brace) (empty_list j (p + 1)) (open_list j p)
    (λ e. let o = eqb-true (octet s p) close_brace e in let i = octet-inside s p (omega arith) in (omega arith, omega arith))
    (λ e. h)

pub head_on : (s : List ℕ) (at : ℕ) → HeadOn (length s) at (head_at s at)
unfolding head_at
head_on s at =
    pick_cases P (starts (bytes "item:") (drop at s)) _ _ (λ e. let f = fits (bytes "item:") e in (omega arith, omega arith))
    (λ e. pick_cases P (starts (bytes "and:") (drop at s)) _ _ (λ e. list and 3)
    (λ e. pick_cases P (starts (bytes "or:") (drop at s)) _ _ (λ e. list or 2)
    (λ e. pick_cases P (starts (bytes "not:") (drop at s)) _ _ (λ e. let f = fits (bytes "not:") e in (omega arith, omega arith)) (λ e. tt))))
  where
    P : Head → Type 0
    P = HeadOn (length s) at

    fits : (w : List ℕ) → starts w (drop at s) ≡ true → length w ≤ length s - at
    fits w e = starts-fits w s at e

    list : (j : Join) (k : ℕ) → P (in_braces s j (mark_at open_brace s (at + suc k)))
    list j k = braces_on s at j (mark_at open_brace s (at + suc k)) (λ p e. let m = mark-further s (at + suc k) p open_brace (omega arith) e in (omega arith, omega arith))

pub tail_on : (s : List ℕ) (at : ℕ) → TailOn (length s) at (tail_at s at)
unfolding tail_at
tail_on s at = go (mark_at comma s at) refl
  where
    go : (o : Option ℕ) → mark_at comma s at ≡ o → TailOn (length s) at (or_closed s (skip s at) o)
    go None e =
        pick_cases (TailOn (length s) at) (eqb (octet s (skip s at)) close_brace) (closed (skip s at + 1)) no_tail
        (λ e. let o = eqb-true (octet s (skip s at)) close_brace e in let i = octet-inside s (skip s at) (omega arith) in let k = skip-from s at in (omega arith, omega arith))
        (λ e. tt)
    go (Some q) e = mark-further s at q comma (omega arith) e

-- ---- progress
abbrev pub ReadOn : {A : Type 0} → ℕ → ℕ → Option (Read A) → Type 0
ReadOn n at None = Unit
ReadOn n at (Some r) = Further n at r.after

pub read-on : {A : Type 0} (n at : ℕ) (x : Option (Read A)) (r : Read A) → ReadOn n at x → x ≡ Some r → Further n at r.after
read-on n at None r h e = absurd (none_not e)
read-on n at (Some p) r h e = subst (λ (q : Read _). Further n at q.after) (some_is e) h

assertion-on : (s : List ℕ) (at : ℕ) → ReadOn (length s) at (assertion_at s at)
assertion-on s at = go (assertion_at s at) refl
  where
    go : (x : Option (Read Item)) → assertion_at s at ≡ x → ReadOn (length s) at x
    go None e = tt
    go (Some r) e = assertion-further s at r e

made-on : {A B : Type 0} (n at : ℕ) (f : A → B) (p : ℕ) → at ≤ p → (x : Option (Read A)) → ReadOn n p x → ReadOn n at (made f x)
made-on n at f p h None g = tt
made-on n at f p h (Some r) g = (omega arith, omega arith)

module _ (s : List ℕ) (at : ℕ) (lists : ℕ → Option (Read (Filters Item))) (on : (p : ℕ) → ReadOn (length s) p (lists p)) where
  by_head-on : (filters : ℕ → Option (Read (Filter Item))) → ((p : ℕ) → ReadOn (length s) p (filters p)) → (h : Head) → HeadOn (length s) at h → ReadOn (length s) at (by_head s lists filters h)
  by_head-on filters f (assertion p) h = made-on (length s) at item p (omega arith) (assertion_at s p) (assertion-on s p)
  by_head-on filters f (empty_list j p) h = h
  by_head-on filters f (open_list j p) h = made-on (length s) at (list j) p (omega arith) (lists p) (on p)
  by_head-on filters f (negation p) h = made-on (length s) at inverse p (omega arith) (filters p) (f p)
  by_head-on filters f no_head h = tt

  by_tail-on : (f : Filter Item) (q : ℕ) → at < q → (t : Tail) → TailOn (length s) q t → ReadOn (length s) at (by_tail lists f t)
  by_tail-on f q e (another p) h = made-on (length s) at (next f) p (omega arith) (lists p) (on p)
  by_tail-on f q e (closed p) h = (omega arith, h.1)
  by_tail-on f q e no_tail h = tt

  first_on : (x : Option (Read (Filter Item))) → ReadOn (length s) at x → ReadOn (length s) at (bind x (after_first s lists))
  first_on None h = tt
  first_on (Some r) h = by_tail-on r.is r.after h.0 (tail_at s r.after) (tail_on s r.after)

mutual
  unfolding filter_from

  pub from_on : (n : ℕ) (s : List ℕ) (at : ℕ) → ReadOn (length s) at (filter_from n s at)
  from_on zero s at = tt
  from_on (suc n) s at = by_head-on s at (filters_from n s) (λ p. list_on n s p) (filter_from n s) (λ p. from_on n s p) (head_at s at) (head_on s at)

  pub list_on : (n : ℕ) (s : List ℕ) (at : ℕ) → ReadOn (length s) at (filters_from n s at)
  list_on zero s at = tt
  list_on (suc n) s at = first_on s at (filters_from n s) (λ p. list_on n s p) (filter_from n s at) (from_on n s at)

-- ---- the number that bounds the calls
module _ (s : List ℕ) (at : ℕ) (l m : ℕ → Option (Read (Filters Item))) where
  pub same_head : (f g : ℕ → Option (Read (Filter Item))) → ((p : ℕ) → at + 2 ≤ p → p ≤ length s → l p ≡ m p) → ((p : ℕ) → Further (length s) at p → f p ≡ g p)
      → (h : Head) → HeadOn (length s) at h → by_head s l f h ≡ by_head s m g h
  same_head f g i j (assertion p) h = refl
  same_head f g i j (empty_list k p) h = refl
  same_head f g i j (open_list k p) h = ap (made (list k)) (i p h.0 h.1)
  same_head f g i j (negation p) h = ap (made inverse) (j p h)
  same_head f g i j no_head h = refl

  module _ (i : (p : ℕ) → Further (length s) at p → l p ≡ m p) where
    same_tail : (f : Filter Item) (q : ℕ) → at < q → (t : Tail) → TailOn (length s) q t → by_tail l f t ≡ by_tail m f t
    same_tail f q e (another p) h = ap (made (next f)) (i p (omega arith, h.1))
    same_tail f q e (closed p) h = refl
    same_tail f q e no_tail h = refl

    pub same_first : (x : Option (Read (Filter Item))) → ReadOn (length s) at x → bind x (after_first s l) ≡ bind x (after_first s m)
    same_first None h = refl
    same_first (Some r) h = same_tail r.is r.after h.0 (tail_at s r.after) (tail_on s r.after)

-- enough for a filter at a place of a text of l octets, and for the filters of a list
abbrev pub Enough : ℕ → ℕ → ℕ → Type 0
Enough l at n = (l < n + at) × (0 < n)

abbrev pub EnoughIn : ℕ → ℕ → ℕ → Type 0
EnoughIn l at n = (l + 1 < n + at) × (1 < n)

mutual
  unfolding filter_from

  pub same-filter : (n m : ℕ) (s : List ℕ) (at : ℕ) → Enough (length s) at n → Enough (length s) at m → filter_from n s at ≡ filter_from m s at
  same-filter zero m s at e f = absurd (omega arith)
  same-filter (suc n) zero s at e f = absurd (omega arith)
  same-filter (suc n) (suc m) s at e f =
      same_head s at (filters_from n s) (filters_from m s) (filter_from n s) (filter_from m s)
      (λ p h k. same_filters n m s p (omega arith) (omega arith))
      (λ p h. same-filter n m s p (omega arith) (omega arith))
      (head_at s at) (head_on s at)

  pub same_filters : (n m : ℕ) (s : List ℕ) (at : ℕ) → EnoughIn (length s) at n → EnoughIn (length s) at m → filters_from n s at ≡ filters_from m s at
  same_filters zero m s at e f = absurd (omega arith)
  same_filters (suc n) zero s at e f = absurd (omega arith)
  same_filters (suc n) (suc m) s at e f =
      ap (λ (x : Option (Read (Filter Item))). bind x (after_first s (filters_from n s))) (same-filter n m s at (omega arith) (omega arith))
      ∙ same_first s at (filters_from n s) (filters_from m s) (λ p h. same_filters n m s p (omega arith) (omega arith)) (filter_from m s at) (from_on m s at)
