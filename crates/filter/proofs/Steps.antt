-- One lemma for each return and each turn of a loop; its premises are the facts as the code has them.
use mathlib.Core.Path.{◌≡◌, refl, sym, ap, ◌∙◌, subst}
use mathlib.Core.Bool.{Bool, true, false, not}
use mathlib.Core.List.{List}
use Rattle.std.specs.Prelude.{Option, None, Some}
use Prim.Native.Nat.{ℕ, ◌+◌, ◌-◌, ◌<◌, ◌≤◌}
use native.Mathlib.Omega.{arith}
use borrow.Author.Tests.{eq-eqb, ne_eqb, le-leb, not-true, not-false}
use lib.Dec.{leb, eqb}
use lib.ListN.{length}
use Rattle.octets.specs.Pick.{pick, both, bind}
use Rattle.octets.specs.Octets.{octet, bytes}
use Rattle.octets.specs.Text.{skip}
use Rattle.octets.specs.Utf8.{utf8}
use Rattle.assertion.specs.Spaces.{mark_at}
use Rattle.assertion.specs.Assertion.{Read, assertion_at}
use Rattle.assertion.specs.Inner.Places.{word_at, report_assertion}
use Rattle.assertion.specs.declared.Parts.{Parts}
use Rattle.assertion.proofs.Laws.{at_place, at_none, word_there, word_not}
use Rattle.filter.specs.Filter as filter
use Rattle.filter.specs.Filter.{Item, Filter, item, depth, items}
use Rattle.filter.specs.Parse.{in_braces, head_at, tail_at, made, by_tail, filter_at, if_whole, within_limits, whole, parse, parse_within, assertion, empty_list, open_list, negation, no_head, another, closed, no_tail}
use Rattle.filter.specs.Inner.Answers.{filters_at}
use Rattle.filter.specs.Limits.{Limits}
use Rattle.filter.specs.Paper.{filter_limits}
use Rattle.filter.specs.Inner.Answers.{report_join, report_head, report_tail, rest_of, bounded, bounded_in, items_of}
use Rattle.filter.proofs.Progress.{TailOn, tail_on}
use Rattle.filter.proofs.Laws.{filters_step, filter-further, filter-by, filters_by}
use Rattle.filter.proofs.Bounds.{bounded-none, bounded_item, bounded-empty, bounded-list, bounded-negation, bounded_of, bad-first, bounded-more, bounded-last}
use Rattle.filter.specs.declared.Join.{Join}
use Rattle.filter.specs.declared.Head.{Head}
use Rattle.filter.specs.declared.Tail.{Tail}
use Rattle.filter.specs.declared.Rest.{Rest}

-- ---- heads
module _ (s : List ℕ) (at : ℕ) (j : Join) (r : Option ℕ) (e : r ≡ mark_at 123 s at) where
  pub list-none : r ≡ None → no_head ≡ in_braces s (report_join j) (mark_at 123 s at)
  list-none q = rw (at_none r e q)

  module _ (p o : ℕ) (q : r ≡ Some p) (read : o ≡ octet s p) where
    pub list-opens : (o ≡ 125 → ⊥) → open_list (report_join j) p ≡ in_braces s (report_join j) (mark_at 123 s at)
    list-opens n = rw (at_place r e p q, ← read, ne_eqb _ _ n)

    pub list_closes : o ≡ 125 → empty_list (report_join j) (p + 1) ≡ in_braces s (report_join j) (mark_at 123 s at)
    list_closes n = rw (at_place r e p q, ← read, eq-eqb _ _ n)

module _ (s : List ℕ) (at : ℕ) (a : Option ℕ) (ea : a ≡ word_at (bytes "item:") s at) where
  pub head_item : (p : ℕ) → a ≡ Some p → assertion p ≡ head_at s at
  unfolding head_at
  head_item p q = let z = word_there (bytes "item:") s at a ea p q in rw (z.0, z.1)

  module _ (na : a ≡ None) (b : Option ℕ) (eb : b ≡ word_at (bytes "and:") s at) where
    pub head_and : (p : ℕ) (h : Option Head) → b ≡ Some p → report_head h ≡ in_braces s filter.and (mark_at 123 s p) → report_head h ≡ head_at s at
    unfolding head_at
    head_and p h q f = let z = word_there (bytes "and:") s at b eb p q in rw (word_not (bytes "item:") s at a ea na, z.0, z.1) f

    module _ (nb : b ≡ None) (c : Option ℕ) (ec : c ≡ word_at (bytes "or:") s at) where
      pub head-or : (p : ℕ) (h : Option Head) → c ≡ Some p → report_head h ≡ in_braces s filter.or (mark_at 123 s p) → report_head h ≡ head_at s at
      unfolding head_at
      head-or p h q f =
          let z = word_there (bytes "or:") s at c ec p q in
          rw (word_not (bytes "item:") s at a ea na, word_not (bytes "and:") s at b eb nb, z.0, z.1) f

      module _ (nc : c ≡ None) (d : Option ℕ) (ed : d ≡ word_at (bytes "not:") s at) where
        pub head_not : (p : ℕ) → d ≡ Some p → negation p ≡ head_at s at
        unfolding head_at
        head_not p q =
            let z = word_there (bytes "not:") s at d ed p q in
            rw (word_not (bytes "item:") s at a ea na, word_not (bytes "and:") s at b eb nb, word_not (bytes "or:") s at c ec nc, z.0, z.1)

        pub head_none : d ≡ None → no_head ≡ head_at s at
        unfolding head_at
        head_none q = rw (word_not (bytes "item:") s at a ea na, word_not (bytes "and:") s at b eb nb, word_not (bytes "or:") s at c ec nc, word_not (bytes "not:") s at d ed q)

-- ---- tails
module _ (s : List ℕ) (at : ℕ) (r : Option ℕ) (e : r ≡ mark_at 44 s at) where
  pub tail_another : (p : ℕ) → r ≡ Some p → another p ≡ tail_at s at
  unfolding tail_at
  tail_another p q = rw (at_place r e p q)

  module _ (q : r ≡ None) (p o : ℕ) (f : p ≡ skip s at) (read : o ≡ octet s p) where
    pub tail_other : (o ≡ 125 → ⊥) → no_tail ≡ tail_at s at
    unfolding tail_at
    tail_other n = rw (at_none r e q, ← f, ← read, ne_eqb _ _ n)

    pub tail_closed : o ≡ 125 → closed (p + 1) ≡ tail_at s at
    unfolding tail_at
    tail_closed n = rw (at_none r e q, ← f, ← read, eq-eqb _ _ n)

-- ---- items
pub item_full : (s : List ℕ) (at room : ℕ) → room ≡ 0 → None ≡ bounded 1 room (made item (assertion_at s at))
unfolding bounded depth items
item_full s at room e = go (assertion_at s at)
  where
    go : (x : Option (Read filter.Item)) → None ≡ bounded 1 room (made item x)
    go None = refl
    go (Some i) = rw e

module _ (s : List ℕ) (at room : ℕ) (n : room ≡ 0 → ⊥) (a : Option Parts) (e : report_assertion s a ≡ assertion_at s at) where
  pub item_bad : a ≡ None → None ≡ bounded 1 room (made item (assertion_at s at))
  unfolding bounded
  item_bad q = let z : assertion_at s at ≡ None = sym e ∙ ap (report_assertion s) q in rw z

  pub item_is : (p : Parts) → a ≡ Some p → Some (rest_of p.after (room - 1)) ≡ bounded 1 room (made item (assertion_at s at))
  unfolding bounded depth items
  item_is p q =
      let z : assertion_at s at ≡ report_assertion s (Some p) = sym e ∙ ap (report_assertion s) q in
      let h : 1 ≤ room = omega arith in
      rw (z, le-leb 1 room h)

-- ---- a filter, by its head
pub filter_shallow : (s : List ℕ) (at d room : ℕ) → d ≡ 0 → None ≡ bounded d room (filter_at s at)
filter_shallow s at d room e = bounded-none d room (filter_at s at) e

module _ (s : List ℕ) (at d room : ℕ) (n : d ≡ 0 → ⊥) (h : Option Head) (e : report_head h ≡ head_at s at) where
  positive : 0 < d
  positive = omega arith

  pub filter_item : (p : ℕ) (r : Option Rest) → h ≡ Some (Head.Assertion p) → r ≡ bounded 1 room (made item (assertion_at s p)) → r ≡ bounded d room (filter_at s at)
  filter_item p r q f = f ∙ bounded_item d room positive (assertion_at s p) ∙ ap (bounded d room) (sym (filter-by s at (sym e ∙ ap report_head q)))

  pub filter-empty : (j : Join) (p : ℕ) → h ≡ Some (Head.EmptyList j p) → Some (rest_of p room) ≡ bounded d room (filter_at s at)
  filter-empty j p q = bounded-empty d room positive (report_join j) p ∙ ap (bounded d room) (sym (filter-by s at (sym e ∙ ap report_head q)))

  pub filter-list : (j : Join) (p : ℕ) (r : Option Rest) → h ≡ Some (Head.OpenList j p) → r ≡ bounded_in (d - 1) room (filters_at s p) → r ≡ bounded d room (filter_at s at)
  filter-list j p r q f = f ∙ bounded-list d room positive (report_join j) (filters_at s p) ∙ ap (bounded d room) (sym (filter-by s at (sym e ∙ ap report_head q)))

  pub filter-negation : (p : ℕ) (r : Option Rest) → h ≡ Some (Head.Negation p) → r ≡ bounded (d - 1) room (filter_at s p) → r ≡ bounded d room (filter_at s at)
  filter-negation p r q f = f ∙ bounded-negation d room positive (filter_at s p) ∙ ap (bounded d room) (sym (filter-by s at (sym e ∙ ap report_head q)))

  pub filter_none : h ≡ None → None ≡ bounded d room (filter_at s at)
  unfolding bounded
  filter_none q = ap (bounded d room) (sym (filter-by s at (sym e ∙ ap report_head q)))

-- ---- the filters of a list: those before place i left so many items
abbrev pub Listed : List ℕ → ℕ → ℕ → ℕ → ℕ → ℕ → Type 0
Listed s at d room i left = bounded_in d left (filters_at s i) ≡ bounded_in d room (filters_at s at)

module _ (s : List ℕ) (at d room i left : ℕ) (inv : Listed s at d room i left) (x : Option Rest) (e : x ≡ bounded d left (filter_at s i)) where
  pub list_stop : x ≡ None → None ≡ bounded_in d room (filters_at s at)
  list_stop q = bad-first d left s (filters_at s) (filter_at s i) (sym q ∙ e) ∙ ap (bounded_in d left) (sym (filters_step s i)) ∙ inv

  module _ (q : Rest) (o : x ≡ Some q) (t : Option Tail) (g : report_tail t ≡ tail_at s q.after) where
    first : (f : Read (Filter Item)) × ((filter_at s i ≡ Some f) × (((depth f.is ≤ d) × (length (items f.is) ≤ left)) × ((q.after ≡ f.after) × (q.left ≡ left - length (items f.is)))))
    first = bounded_of d left (filter_at s i) q (sym o ∙ e)

    follows : tail_at s first.0.after ≡ report_tail t
    follows = sym (ap (tail_at s) first.1.1.1.0) ∙ sym g

    rest-is : filters_at s i ≡ by_tail (filters_at s) first.0.is (report_tail t)
    rest-is = filters_by s i first.0 first.1.0 follows

    pub list_again : (p : ℕ) → t ≡ Some (Tail.Another p) → Listed s at d room p q.left
    list_again p k =
        ap (λ (m : ℕ). bounded_in d m (filters_at s p)) first.1.1.1.1
        ∙ bounded-more d left first.0.is first.1.1.0.0 first.1.1.0.1 (filters_at s p)
        ∙ ap (bounded_in d left) (sym (rest-is ∙ ap (λ (m : Option Tail). by_tail (filters_at s) first.0.is (report_tail m)) k))
        ∙ inv

    pub list_falls : (p : ℕ) → t ≡ Some (Tail.Another p) → length s - p < length s - i
    list_falls p k =
        let f = filter-further s i first.0 first.1.0 in
        let z : q.after ≡ first.0.after = first.1.1.1.0 in
        let l : TailOn (length s) q.after (another p) = subst (TailOn (length s) q.after) (sym g ∙ ap report_tail k) (tail_on s q.after) in
        omega arith

    pub list-ends : (p : ℕ) → t ≡ Some (Tail.Closed p) → Some (rest_of p q.left) ≡ bounded_in d room (filters_at s at)
    list-ends p k =
        ap (λ (x : ℕ). Some (rest_of p x)) first.1.1.1.1
        ∙ bounded-last d left first.0.is first.1.1.0.0 first.1.1.0.1 p
        ∙ ap (bounded_in d left) (sym (rest-is ∙ ap (λ (m : Option Tail). by_tail (filters_at s) first.0.is (report_tail m)) k))
        ∙ inv

    pub list_lost : t ≡ None → None ≡ bounded_in d room (filters_at s at)
    unfolding bounded_in
    list_lost k = ap (bounded_in d left) (sym (rest-is ∙ ap (λ (m : Option Tail). by_tail (filters_at s) first.0.is (report_tail m)) k)) ∙ inv

-- ---- the whole text
-- of a filter that was read at the start of a text, what is one of the whole text and within the limits
abbrev of_whole : List ℕ → Limits → Option (Read (Filter Item)) → Option (Filter Item)
of_whole s l x = bind (bind x (if_whole s)) (within_limits l.depth l.items)

whole-bad : (s : List ℕ) (l : Limits) (x : Option (Read (Filter Item))) → None ≡ bounded l.depth l.items x → None ≡ items_of (of_whole s l x)
unfolding bounded
whole-bad s l None e = refl
whole-bad s l (Some r) e = whole (eqb r.after (length s))
  where
    fits : (a b : Bool) → None ≡ pick {A = Option Rest} (both a b) (Some (rest_of r.after (l.items - length (items r.is)))) None → None ≡ items_of (pick (both a b) (Some r.is) None)
    fits true true e = let z : ◌≡◌ {A = ℕ} 0 1 = cc in absurd (omega arith)
    fits true false e = refl
    fits false b e = refl

    whole : (t : Bool) → None ≡ items_of (bind (pick t (Some r.is) None) (within_limits l.depth l.items))
    whole true = fits (leb (depth r.is) l.depth) (leb (length (items r.is)) l.items) e
    whole false = refl

pub read_left : (d room : ℕ) (x : Option (Read (Filter Item))) (y : Option Rest) (q : Rest) → y ≡ bounded d room x → y ≡ Some q → q.left ≤ room
read_left d room x y q e h =
    let f = bounded_of d room x q (sym h ∙ e) in
    let z : q.left ≡ room - length (items f.0.is) = f.1.1.1.1 in
    omega arith

module _ (s : List ℕ) (u : Bool) (valid : u ≡ utf8 s) where
  pub read-other : not u ≡ true → None ≡ items_of (parse filter_limits s)
  unfolding parse_within whole
  read-other h = rw (sym valid ∙ not-true u h)

  module _ (h : not u ≡ false) (x : Option Rest) (e : x ≡ bounded filter_limits.depth filter_limits.items (filter_at s 0)) where
    parsed : parse filter_limits s ≡ of_whole s filter_limits (filter_at s 0)
    unfolding parse_within whole
    parsed = rw (sym valid ∙ not-false u h)

    pub read-bad : x ≡ None → None ≡ items_of (parse filter_limits s)
    read-bad q = whole-bad s filter_limits (filter_at s 0) (sym q ∙ e) ∙ ap items_of (sym parsed)

    module _ (q : Rest) (o : x ≡ Some q) where
      found : (f : Read (Filter Item)) × ((filter_at s 0 ≡ Some f) × (((depth f.is ≤ filter_limits.depth) × (length (items f.is) ≤ filter_limits.items)) × ((q.after ≡ f.after) × (q.left ≡ filter_limits.items - length (items f.is)))))
      found = bounded_of filter_limits.depth filter_limits.items (filter_at s 0) q (sym o ∙ e)

      pub read_trailing : (q.after ≡ length s → ⊥) → None ≡ items_of (parse filter_limits s)
      read_trailing n = rw (parsed, found.1.0, ← found.1.1.1.0, ne_eqb q.after (length s) n)

      pub read_whole : (k : ℕ) → q.after ≡ length s → k ≡ filter_limits.items - q.left → Some k ≡ items_of (parse filter_limits s)
      read_whole k w g =
          let f = found.0.is in
          let a : length (items f) ≤ filter_limits.items = found.1.1.0.1 in
          let z : q.left ≡ filter_limits.items - length (items f) = found.1.1.1.1 in
          let c : k ≡ length (items f) = omega arith in
          rw (parsed, found.1.0, ← found.1.1.1.0, eq-eqb q.after (length s) w, le-leb (depth f) filter_limits.depth found.1.1.0.0, le-leb (length (items f)) filter_limits.items a, c)
