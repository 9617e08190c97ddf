-- Laws of the definitions, for this crate's proofs and for the layers above: what a filter is by its head, and the filters of a list by the first
-- of them and what follows it, with no number that bounds the calls.
use mathlib.Core.Path.{◌≡◌, refl, sym, ap, ◌∙◌}
use mathlib.Core.Bool.{Bool, true, false}
use mathlib.Core.List.{List}
use Rattle.std.specs.Prelude.{Option, None, Some}
use Prim.Native.Nat.{ℕ, suc, ◌+◌, ◌≤◌}
use native.Mathlib.Omega.{arith}
use borrow.Author.Tests.{leb-true, eqb-true}
use lib.Dec.{leb, eqb}
use lib.ListN.{length}
use Rattle.octets.specs.Pick.{pick, both, bind}
use Rattle.octets.specs.Utf8.{utf8}
use Rattle.octets.proofs.Laws.{both_true}
use Rattle.assertion.specs.Assertion.{Read, read_to}
use Rattle.assertion.proofs.Laws.{some_is, none_not, if_some, bind-some}
use Rattle.assertion.proofs.Progress.{Further}
use Rattle.filter.specs.Limits.{Limits}
use Rattle.filter.specs.Filter.{Item, Filter, Filters, depth, items}
use Rattle.filter.specs.Parse.{Head, head_at, Tail, tail_at, made, by_head, by_tail, after_first, filter_from, filters_from, filter_at, if_whole, within_limits, whole, parse, parse_within}
use Rattle.filter.specs.Inner.Answers.{filters_at}
use Rattle.filter.specs.Inner.Answers.{items_of}
use Rattle.filter.proofs.Progress.{read-on, from_on, head_on, same_head, same_first, same-filter, same_filters}

-- ---- equations
pub filter-step : (s : List ℕ) (at : ℕ) → filter_at s at ≡ by_head s (filters_at s) (filter_at s) (head_at s at)
unfolding filter_at filters_at filter_from
filter-step s at =
    let n = length s in
    let e : n + 1 ≡ suc n = omega arith in
    ap (λ (k : ℕ). filter_from k s at) e
    ∙ same_head s at (filters_from n s) (filters_from (n + 2) s) (filter_from n s) (filter_from (n + 1) s)
    (λ p h l. same_filters n (n + 2) s p (omega arith) (omega arith))
    (λ p h. same-filter n (n + 1) s p (omega arith) (omega arith))
    (head_at s at) (head_on s at)

pub filters_step : (s : List ℕ) (at : ℕ) → filters_at s at ≡ bind (filter_at s at) (after_first s (filters_at s))
unfolding filter_at filters_at filter_from
filters_step s at =
    let n = length s in
    let e : n + 2 ≡ suc (n + 1) = omega arith in
    ap (λ (k : ℕ). filters_from k s at) e
    ∙ same_first s at (filters_from (n + 1) s) (filters_from (n + 2) s) (λ p h. same_filters (n + 1) (n + 2) s p (omega arith) (omega arith)) (filter_from (n + 1) s at) (from_on (n + 1) s at)

-- ---- progress
module _ (s : List ℕ) (at : ℕ) where
  pub filter-further : (r : Read (Filter Item)) → filter_at s at ≡ Some r → Further (length s) at r.after
  unfolding filter_at
  filter-further r e = read-on (length s) at (filter_at s at) r (from_on (length s + 1) s at) e

  -- ---- a filter by its head
  module _ {h : Head} (e : head_at s at ≡ h) where
    pub filter-by : filter_at s at ≡ by_head s (filters_at s) (filter_at s) h
    filter-by = filter-step s at ∙ ap (by_head s (filters_at s) (filter_at s)) e

-- what was made of something read
pub made_some : {A B : Type 0} (f : A → B) (x : Option (Read A)) (r : Read B) → made f x ≡ Some r → (a : Read A) × ((x ≡ Some a) × ((f a.is ≡ r.is) × (a.after ≡ r.after)))
made_some f None r e = absurd (none_not e)
made_some f (Some a) r e = (a, (refl, (ap (λ (q : Read _). q.is) (some_is e), ap (λ (q : Read _). q.after) (some_is e))))

-- ---- the filters of a list by the first of them, and by what follows it
module _ (s : List ℕ) (at : ℕ) where
  pub filters_by : (f : Read (Filter Item)) {t : Tail} → filter_at s at ≡ Some f → tail_at s f.after ≡ t → filters_at s at ≡ by_tail (filters_at s) f.is t
  filters_by f e q = filters_step s at ∙ ap (λ (x : Option (Read (Filter Item))). bind x (after_first s (filters_at s))) e ∙ ap (by_tail (filters_at s) f.is) q

  pub read_first : (r : Read (Filters Item)) → filters_at s at ≡ Some r → (f : Read (Filter Item)) × ((filter_at s at ≡ Some f) × (by_tail (filters_at s) f.is (tail_at s f.after) ≡ Some r))
  read_first r e = bind-some (filter_at s at) (after_first s (filters_at s)) r (sym (filters_step s at) ∙ e)

-- ---- a parsed text
pub whole-read : (s : List ℕ) (f : Filter Item) → whole s ≡ Some f → (utf8 s ≡ true) × (filter_at s 0 ≡ read_to f (length s))
unfolding whole
whole-read s f e = go (utf8 s) refl e
  where
    ends : (r : Read (Filter Item)) → filter_at s 0 ≡ Some r → if_whole s r ≡ Some f → filter_at s 0 ≡ read_to f (length s)
    ends r q e =
        let z = if_some (eqb r.after (length s)) r.is f e in
        let h : r.after ≡ length s = eqb-true r.after (length s) z.0 in
        q ∙ rw (← h, ← z.1)

    go : (t : Bool) → utf8 s ≡ t → pick t (bind (filter_at s 0) (if_whole s)) None ≡ Some f → (utf8 s ≡ true) × (filter_at s 0 ≡ read_to f (length s))
    go true u e = let z = bind-some (filter_at s 0) (if_whole s) f e in (u, ends z.0 z.1.0 z.1.1)
    go false u e = absurd (none_not e)

pub parse-read : (l : Limits) (s : List ℕ) (f : Filter Item) → parse l s ≡ Some f → ((utf8 s ≡ true) × (filter_at s 0 ≡ read_to f (length s))) × ((depth f ≤ l.depth) × (length (items f) ≤ l.items))
unfolding parse_within
parse-read l s f e =
    let z = bind-some (whole s) (within_limits l.depth l.items) f e in
    let g = z.0 in
    let y = if_some (both (leb (depth g) l.depth) (leb (length (items g)) l.items)) g f z.1.1 in
    let t = both_true (leb (depth g) l.depth) (leb (length (items g)) l.items) y.0 in
    (whole-read s f (z.1.0 ∙ ap Some y.1), rw (← y.1) (leb-true _ _ t.0, leb-true _ _ t.1))

-- the items that were counted are those of the filter that was parsed
pub counted_some : (x : Option (Filter Item)) (k : ℕ) → Some k ≡ items_of x → (f : Filter Item) × ((x ≡ Some f) × (k ≡ length (items f)))
counted_some None k e = absurd (none_not (sym e))
counted_some (Some f) k e = (f, (refl, some_is e))

pub counted_none : (x : Option (Filter Item)) → None ≡ items_of x → x ≡ None
counted_none None e = refl
counted_none (Some f) e = absurd (none_not e)
