-- Depth and items of what is read, against what is left of both.
use Rattle.std.proofs.lemmas.Option.{none-some}
use mathlib.Core.Path.{◌≡◌, refl, sym, ap, ◌∙◌}
use mathlib.Core.Bool.{Bool, true, false}
use mathlib.Core.List.{List}
use Rattle.std.specs.Prelude.{Option, None, Some}
use Prim.Native.Nat.{ℕ, ◌+◌, ◌-◌, ◌<◌, ◌≤◌}
use native.Mathlib.Omega.{arith}
use native.Mathlib.Nat.{sub-zero}
use borrow.Author.Tests.{le-leb, lt-leb, leb-true, leb-false}
use lib.Dec.{leb}
use lib.ListN.{length, length-append}
use Rattle.octets.specs.Pick.{pick, both, bind}
use Rattle.octets.specs.Octets.{larger}
use Rattle.octets.proofs.TextLaws.{larger-least, larger-most}
use Rattle.assertion.specs.Assertion.{Read, read_to}
use Rattle.filter.specs.Filter.{Item, Join, Filter, Filters, item, list, inverse, end_filters, next, depth, depth_in, items, items_in}
use Rattle.filter.specs.Parse.{made, by_tail, another, closed, no_tail, Tail, after_first, tail_at}
use Rattle.assertion.proofs.Laws.{some_is}
use Rattle.filter.specs.Inner.Answers.{rest_of, fitting, bounded, bounded_in}
use Rattle.filter.specs.declared.Rest.{Rest}

-- ---- tests that say the same
leb_same : (a b c d : ℕ) → (a ≤ b → c ≤ d) → (c ≤ d → a ≤ b) → leb a b ≡ leb c d
leb_same a b c d f g = go (leb a b) refl (leb c d) refl
  where
    go : (t : Bool) → leb a b ≡ t → (u : Bool) → leb c d ≡ u → leb a b ≡ leb c d
    go true e true q = e ∙ sym q
    go true e false q = let h = f (leb-true a b e) in absurd (omega (arith, leb-false c d q))
    go false e true q = let h = g (leb-true c d q) in absurd (omega (arith, leb-false a b e))
    go false e false q = e ∙ sym q

-- ---- what fits
fit_is : (d room deep used after : ℕ) → deep ≤ d → used ≤ room → fitting d room deep used after ≡ Some (rest_of after (room - used))
fit_is d room deep used after h g = rw (le-leb deep d h, le-leb used room g)

module _ (d room deep used after : ℕ) where
  pub of-fits : (q : Rest) → Some q ≡ fitting d room deep used after → ((deep ≤ d) × (used ≤ room)) × ((q.after ≡ after) × (q.left ≡ room - used))
  of-fits q e = go (leb deep d) refl (leb used room) refl e
    where
      go : (t : Bool) → leb deep d ≡ t → (u : Bool) → leb used room ≡ u → Some q ≡ pick (both t u) (Some (rest_of after (room - used))) None
          → ((deep ≤ d) × (used ≤ room)) × ((q.after ≡ after) × (q.left ≡ room - used))
      go true h true g e = ((leb-true deep d h, leb-true used room g), let z = some_is e in (ap (λ (x : Rest). x.after) z, ap (λ (x : Rest). x.left) z))
      go true h false g e = let z : ◌≡◌ {A = ℕ} 0 1 = cc in absurd (omega arith)
      go false h u g e = let z : ◌≡◌ {A = ℕ} 0 1 = cc in absurd (omega arith)

  -- no more fits than did
  pub bad-fits : (deeper more end : ℕ) → deep ≤ deeper → used ≤ more → None ≡ fitting d room deep used after → None ≡ fitting d room deeper more end
  bad-fits deeper more end h g e = go (leb deeper d) refl (leb more room) refl
    where
      go : (t : Bool) → leb deeper d ≡ t → (u : Bool) → leb more room ≡ u → None ≡ pick {A = Option Rest} (both t u) (Some (rest_of end (room - more))) None
      go true x true y =
          let a = leb-true deeper d x in
          let b = leb-true more room y in
          let f : None ≡ Some (rest_of after (room - used)) = e ∙ fit_is d room deep used after (omega arith) (omega arith) in
          absurd (none-some (rest_of after (room - used)) f)
      go true x false y = refl
      go false x u y = refl

-- one fits, and then another: both do
fit-both : (d room deep used more deeper end : ℕ) → deep ≤ d → used ≤ room
    → fitting d (room - used) deeper more end ≡ fitting d room (larger deep deeper) (used + more) end
fit-both d room deep used more deeper end h g =
    let a : leb deeper d ≡ leb (larger deep deeper) d = leb_same deeper d (larger deep deeper) d (λ x. larger-most deep deeper d h x) (λ x. let y = (larger-least deep deeper).1 in omega arith) in
    let b : leb more (room - used) ≡ leb (used + more) room = leb_same more (room - used) (used + more) room (λ x. omega arith) (λ x. omega arith) in
    let e : room - used - more ≡ room - (used + more) = omega arith in
    rw (a, b, e)

-- one level deeper
fit_deeper : (d room deep used end : ℕ) → 0 < d → fitting (d - 1) room deep used end ≡ fitting d room (deep + 1) used end
fit_deeper d room deep used end h =
    let a : leb deep (d - 1) ≡ leb (deep + 1) d = leb_same deep (d - 1) (deep + 1) d (λ x. omega arith) (λ x. omega arith) in
    rw a

-- ---- filters
-- the items of a list are those of its first filter and those of the rest
more-items : (f : Filter Item) (fs : Filters Item) → length (items f) + length (items_in fs) ≡ length (items_in (next f fs))
unfolding items
more-items f fs = sym (length-append (items f) (items_in fs))

depth_positive : (f : Filter Item) → 1 ≤ depth f
unfolding depth
depth_positive (item i) = omega arith
depth_positive (list j fs) = omega arith
depth_positive (inverse f) = omega arith

pub bounded-none : (d room : ℕ) (x : Option (Read (Filter Item))) → d ≡ 0 → None ≡ bounded d room x
unfolding bounded
bounded-none d room None e = refl
bounded-none d room (Some r) e = let h : d < depth r.is = omega (arith, depth_positive r.is) in rw (lt-leb (depth r.is) d h)

module _ (d room : ℕ) (h : 0 < d) where
  pub bounded_item : (x : Option (Read Item)) → bounded 1 room (made item x) ≡ bounded d room (made item x)
  unfolding bounded depth
  bounded_item None = refl
  bounded_item (Some r) = rw (le-leb 1 d h)

  pub bounded-empty : (j : Join) (p : ℕ) → Some (rest_of p room) ≡ bounded d room (read_to (list j end_filters) p)
  unfolding bounded depth items
  bounded-empty j p = let g : 0 ≤ room = omega arith in rw (le-leb 1 d h, le-leb 0 room g, sub-zero)

  pub bounded-list : (j : Join) (x : Option (Read (Filters Item))) → bounded_in (d - 1) room x ≡ bounded d room (made (list j) x)
  unfolding bounded bounded_in depth items
  bounded-list j None = refl
  bounded-list j (Some r) = fit_deeper d room (depth_in r.is) (length (items_in r.is)) r.after h

  pub bounded-negation : (x : Option (Read (Filter Item))) → bounded (d - 1) room x ≡ bounded d room (made inverse x)
  unfolding bounded depth items
  bounded-negation None = refl
  bounded-negation (Some r) = fit_deeper d room (depth r.is) (length (items r.is)) r.after h

-- ---- lists: the first filter was read, and left so many items
module _ (d room : ℕ) where
  pub bounded_of : (x : Option (Read (Filter Item))) (q : Rest) → Some q ≡ bounded d room x
      → (r : Read (Filter Item)) × ((x ≡ Some r) × (((depth r.is ≤ d) × (length (items r.is) ≤ room)) × ((q.after ≡ r.after) × (q.left ≡ room - length (items r.is)))))
  unfolding bounded
  bounded_of None q e = let z : ◌≡◌ {A = ℕ} 0 1 = cc in absurd (omega arith)
  bounded_of (Some r) q e = (r, (refl, of-fits d room (depth r.is) (length (items r.is)) r.after q e))

  bad_tail : (f : Read (Filter Item)) (lists : ℕ → Option (Read (Filters Item))) (t : Tail) → None ≡ bounded d room (Some f) → None ≡ bounded_in d room (by_tail lists f.is t)
  unfolding bounded bounded_in depth items
  bad_tail f lists (another p) e = go (lists p)
    where
      go : (x : Option (Read (Filters Item))) → None ≡ bounded_in d room (made (next f.is) x)
      go None = refl
      go (Some l) =
          let more = more-items f.is l.is in
          bad-fits d room (depth f.is) (length (items f.is)) f.after (larger (depth f.is) (depth_in l.is)) (length (items_in (next f.is l.is))) l.after
          (larger-least (depth f.is) (depth_in l.is)).0 (omega arith) e
  bad_tail f lists (closed p) e =
      let more = more-items f.is end_filters in
      bad-fits d room (depth f.is) (length (items f.is)) f.after (larger (depth f.is) 0) (length (items_in (next f.is end_filters))) p (larger-least (depth f.is) 0).0 (omega arith) e
  bad_tail f lists no_tail e = refl

  pub bad-first : (s : List ℕ) (lists : ℕ → Option (Read (Filters Item))) (x : Option (Read (Filter Item))) → None ≡ bounded d room x → None ≡ bounded_in d room (bind x (after_first s lists))
  unfolding bounded_in
  bad-first s lists None e = refl
  bad-first s lists (Some f) e = bad_tail f lists (tail_at s f.after) e

  module _ (f : Filter Item) (h : depth f ≤ d) (g : length (items f) ≤ room) where
    pub bounded-more : (x : Option (Read (Filters Item))) → bounded_in d (room - length (items f)) x ≡ bounded_in d room (made (next f) x)
    unfolding bounded_in depth items
    bounded-more None = refl
    bounded-more (Some l) =
        fit-both d room (depth f) (length (items f)) (length (items_in l.is)) (depth_in l.is) l.after h g
        ∙ ap (λ (n : ℕ). fitting d room (larger (depth f) (depth_in l.is)) n l.after) (more-items f l.is)

    pub bounded-last : (p : ℕ) → Some (rest_of p (room - length (items f))) ≡ bounded_in d room (read_to (next f end_filters) p)
    unfolding bounded_in depth items
    bounded-last p =
        let a : larger (depth f) 0 ≤ d = larger-most (depth f) 0 d h (omega arith) in
        let more = more-items f end_filters in
        let b : length (items_in (next f end_filters)) ≤ room = omega arith in
        let e : room - length (items f) ≡ room - length (items_in (next f end_filters)) = omega arith in
        rw e (sym (fit_is d room (larger (depth f) 0) (length (items_in (next f end_filters))) p a b))
