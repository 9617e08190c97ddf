-- Elements counted and found by position: one lemma for each need, its premises as the code has them.
use mathlib.Core.Path.{◌≡◌, refl, sym, ap, ◌∙◌, subst}
use mathlib.Core.Bool.{Bool, true, false}
use mathlib.Core.List.{List, [], ◌∷◌}
use mathlib.Core.Logic.{⊎_elim}
use Prim.Native.Nat.{ℕ, suc, ◌≤◌, ◌<◌, ◌+◌, ◌-◌, ◌*◌}
use native.Mathlib.Omega.{arith}
use borrow.Author.Tests.{eq-eqb, ne_eqb, le-leb, lt-leb}
use lib.ListN.{length}
use lib.Dec.{leb}
use Rattle.octets.specs.Pick.{pick}
use Rattle.types.specs.Types.{Ty}
use Rattle.value.specs.Value.{Value, Values, end_values, next}
use Rattle.value.specs.Inner.Decodes.{Elements, ends, goes}
use Rattle.reference.specs.Inner.Work.{cap}
use Rattle.reference.proofs.Laws.{cap_cases}
use Rattle.reference.specs.Named.{Held, value, size, element_at, element_from_end}
use Rattle.walk.specs.Inner.Raw.{next_after}
use Rattle.walk.specs.Inner.Stands.{Stands, InList}
use Rattle.walk.specs.Inner.Leads.{One, Counts, FindsNth, FindsLast}
use Rattle.walk.specs.declared.Move.{Move}
use Rattle.walk.proofs.RawLaws.{start-long, start-before}
use Rattle.walk.proofs.Standing.{decodes_next, decodes-stands, stands-within}

-- an element before stop, and those after it
pub record Next (v : List ℕ) (ty : Ty) (stop i : ℕ) (xs : Values) : Type 0 where
  pub x : Value
  pub ys : Values
  pub most : ℕ
  pub stands : Stands ty v i x
  pub turn : Elements v ty stop most (next_after v i) ys
  pub whole : next x ys ≡ xs

pub turn_next : {v : List ℕ} {ty : Ty} {stop k i : ℕ} {xs : Values} → stop ≤ length v → Elements v ty stop k i xs → i < stop → Next v ty stop i xs
turn_next inside (ends h) l = absurd (omega arith)
turn_next {v = v} {ty = ty} {stop = stop} inside (goes {k = k} {i = i} {x = x} {xs = ys} h d rest) l =
    record {
      x = x;
      ys = ys;
      most = k;
      stands = decodes-stands d inside;
      turn = subst (λ (y : ℕ). Elements v ty stop k y ys) (sym (decodes_next d)) rest;
      whole = refl;
    }

pub turn_end : {v : List ℕ} {ty : Ty} {stop k i : ℕ} {xs : Values} → Elements v ty stop k i xs → stop ≤ i → end_values ≡ xs
turn_end (ends h) l = refl
turn_end (goes h d rest) l = absurd (omega arith)

pub turn-less : (v : List ℕ) (stop i j : ℕ) → j ≡ next_after v i → i < stop → stop - j < stop - i
turn-less v stop i j e l = let a = start-long v i in let b = start-before v i in omega arith

-- ---- counted
pub record Counting (v : List ℕ) (start stop i n : ℕ) (l : InList v start stop) : Type 0 where
  pub ys : Values
  pub most : ℕ
  pub turn : Elements v l.element stop most i ys
  pub few : n ≤ i
  pub same : n + size ys ≡ size l.xs

unfoldable pub AllCounting : List ℕ → ℕ → ℕ → ℕ → ℕ → Type 0
AllCounting v start stop i n = (l : InList v start stop) → Counting v start stop i n l

module _ (v : List ℕ) (start stop : ℕ) where
  pub count-start : AllCounting v start stop start 0
  unfolding AllCounting
  count-start l = record { ys = l.xs; most = l.most; turn = l.turn; few = omega arith; same = omega arith }

  module _ (i n : ℕ) (w : AllCounting v start stop i n) where
    pub count-within : InList v start stop → i < stop → next_after v i ≤ length v
    unfolding AllCounting
    count-within l h = stands-within (turn_next l.inside (w l).turn h).stands

    pub count_fits : InList v start stop → i < stop → stop < 18446744073709551616 → n + 1 < 18446744073709551616
    unfolding AllCounting
    count_fits l h s = let f = (w l).few in omega arith

    pub count_again : (j : ℕ) → j ≡ next_after v i → i < stop → AllCounting v start stop j (n + 1)
    unfolding AllCounting size
    count_again j e h l =
        let t = turn_next l.inside (w l).turn h in
        let a = start-long v i in
        let b = start-before v i in
        let f = (w l).few in
        let q : suc (size t.ys) ≡ size (w l).ys = ap size t.whole in
        let r = (w l).same in
        record { ys = t.ys; most = t.most; turn = subst (λ (y : ℕ). Elements v l.element stop t.most y t.ys) (sym e) t.turn; few = omega arith; same = omega arith }

    pub count-done : stop ≤ i → Counts v start stop n
    unfolding AllCounting Counts size
    count-done h l = let q : 0 ≡ size (w l).ys = ap size (turn_end (w l).turn h) in let r = (w l).same in omega arith

-- ---- by position
pub record Seeking (v : List ℕ) (start stop n i left : ℕ) (l : InList v start stop) : Type 0 where
  pub ys : Values
  pub most : ℕ
  pub turn : Elements v l.element stop most i ys
  pub same : element_at left ys ≡ element_at n l.xs

unfoldable pub AllSeeking : List ℕ → ℕ → ℕ → ℕ → ℕ → ℕ → Type 0
AllSeeking v start stop n i left = (l : InList v start stop) → Seeking v start stop n i left l

module _ (v : List ℕ) (start stop n : ℕ) where
  pub nth_start : AllSeeking v start stop n start n
  unfolding AllSeeking
  nth_start l = record { ys = l.xs; most = l.most; turn = l.turn; same = refl }

  module _ (i left : ℕ) (w : AllSeeking v start stop n i left) where
    pub nth_within : InList v start stop → i < stop → next_after v i ≤ length v
    unfolding AllSeeking
    nth_within l h = stands-within (turn_next l.inside (w l).turn h).stands

    pub nth_found : left ≡ 1 → i < stop → FindsNth v start stop n (Move.To i)
    unfolding AllSeeking FindsNth element_at
    nth_found e h l =
        let t = turn_next l.inside (w l).turn h in
        let q : element_at left (next t.x t.ys) ≡ value t.x ∷ [] = rw (eq-eqb left 1 e) in
        (t.x, t.stands, sym (w l).same ∙ sym (ap (element_at left) t.whole) ∙ q)

    pub nth_again : (j less : ℕ) → (left ≡ 1 → ⊥) → less ≡ left - 1 → j ≡ next_after v i → i < stop → AllSeeking v start stop n j less
    unfolding AllSeeking element_at
    nth_again j less other e f h l =
        let t = turn_next l.inside (w l).turn h in
        let q : element_at left (next t.x t.ys) ≡ element_at (left - 1) t.ys = rw (ne_eqb left 1 other) in
        record {
          ys = t.ys;
          most = t.most;
          turn = subst (λ (y : ℕ). Elements v l.element stop t.most y t.ys) (sym f) t.turn;
          same = ap (λ (y : ℕ). element_at y t.ys) e ∙ sym q ∙ ap (element_at left) t.whole ∙ (w l).same;
        }

    pub nth_done : stop ≤ i → FindsNth v start stop n Move.Nothing
    unfolding AllSeeking FindsNth element_at
    nth_done h l = sym (w l).same ∙ sym (ap (element_at left) (turn_end (w l).turn h))

-- ---- a list within the octets has not so many elements as there are octets
pub turn-size : {v : List ℕ} {ty : Ty} {stop k i : ℕ} {xs : Values} → stop ≤ length v → Elements v ty stop k i xs → i ≤ length v → i + 2 * size xs ≤ length v
unfolding size
turn-size inside (ends h) l = omega arith
turn-size {v = v} inside (goes {i = i} {xs = ys} h d rest) l =
    let w = stands-within (decodes-stands d inside) in
    let a = start-long v i in
    let b = start-before v i in
    let e = decodes_next d in
    let r = turn-size inside rest (omega arith) in
    omega arith

turn-few : {v : List ℕ} {ty : Ty} {stop k i : ℕ} {xs : Values} → stop ≤ length v → Elements v ty stop k i xs → 2 * size xs ≤ length v
unfolding size
turn-few inside (ends h) = omega arith
turn-few inside (goes h d rest) = let r = turn-size inside (goes h d rest) (omega arith) in omega arith

-- ---- from the end
module _ (v : List ℕ) (start stop n size-all : ℕ) (told : Counts v start stop size-all) where
  pub last_none : size-all < n → FindsLast v start stop n Move.Nothing
  unfolding Counts FindsLast
  last_none h l = let q = told l in let e : leb n (size l.xs) ≡ false = lt-leb n (size l.xs) (omega arith) in rw e

  pub last_fits : n ≤ size-all → InList v start stop → length v < 18446744073709551616 → size-all - n + 1 < 18446744073709551616
  unfolding Counts
  last_fits h l small = let q = told l in let f = turn-few l.inside l.turn in omega arith

  pub last_nth : n ≤ size-all → (r : Move) → FindsNth v start stop (size-all - n + 1) r → FindsLast v start stop n r
  unfolding Counts FindsNth FindsLast
  last_nth h r found l =
      let q = told l in
      let e : leb n (size l.xs) ≡ true = le-leb n (size l.xs) (omega arith) in
      let a : size-all - n + 1 ≡ size l.xs + 1 - n = omega arith in
      let b : element_at (size-all - n + 1) l.xs ≡ element_from_end n l.xs = ap (λ (y : ℕ). element_at y l.xs) a ∙ sym (ap (λ (y : Bool). pick y (element_at (size l.xs + 1 - n) l.xs) []) e) in
      subst (λ (y : List Held). One l.element v y r) b (found l)

-- ---- positions larger than any number of the language
element-past : (n : ℕ) (xs : Values) → size xs < n → element_at n xs ≡ []
unfolding size element_at
element-past n end_values h = refl
element-past n (next x xs) h = rw (ne_eqb n 1 (λ e. absurd (omega arith))) (element-past (n - 1) xs (omega arith))

module _ (n : ℕ) (xs : Values) (few : size xs < 18446744073709551615) where
  pub element-capped : element_at (cap n) xs ≡ element_at n xs
  element-capped = ⊎_elim (λ e. ap (λ (y : ℕ). element_at y xs) e) (λ w. let a = w.0 in let b = w.1 in element-past (cap n) xs (omega arith) ∙ sym (element-past n xs (omega arith))) (cap_cases n)

  pub from_end-capped : element_from_end (cap n) xs ≡ element_from_end n xs
  from_end-capped = ⊎_elim (λ e. ap (λ (y : ℕ). element_from_end y xs) e)
      (λ w. let a = w.0 in let b = w.1 in
      ap (λ (y : Bool). pick y (element_at (size xs + 1 - cap n) xs) []) (lt-leb (cap n) (size xs) (omega arith)) ∙ sym (ap (λ (y : Bool). pick y (element_at (size xs + 1 - n) xs) []) (lt-leb n (size xs) (omega arith))))
      (cap_cases n)
