-- Elements: one lemma for each return and each turn of the loop; its premises are the facts as the code has them.
use mathlib.Core.Path.{◌≡◌, refl, sym, ap, ap₂, ◌∙◌}
use mathlib.Core.Bool.{Bool, true, false, not}
use Rattle.std.specs.Prelude.{Option, None, Some}
use mathlib.Core.List.{List, []}
use Prim.Native.Nat.{ℕ, zero, suc, ◌≤◌, ◌<◌, ◌+◌, ◌-◌, ◌*◌}
use native.Mathlib.Omega.{arith}
use borrow.Author.Tests.{not-true, not-false}
use lib.ListN.{length}
use lib.Dec.{eqb}
use Rattle.octets.specs.Pick.{both, either, bind}
use Rattle.octets.specs.Octets.{part}
use Rattle.der.specs.Kind as kind
use Rattle.der.specs.Order.{not_above}
use Rattle.rows.proofs.KindLaws.{list-names}
use Rattle.rows.specs.Row.{row_at, kind_at, is_member, named_at, is_list}
use Rattle.types.specs.Types.{untagged, tagging_of, Ty, type_from}
use Rattle.types.specs.Inner.Work.{Sound}
use Rattle.table.specs.Inner.Words.{first_octet, is_basic, Ready}
use Rattle.value.specs.Value.{Value, Values, end_values, next, encoding}
use Rattle.value.specs.Order.{rising}
use Rattle.value.specs.Decode.{Decoded, next_then, many, unwrapped}
use Rattle.value.specs.Inner.Work.{checked, up_to, in_order, elements_checked, rising_after, order_after, neighbours, Answers}
use Rattle.value.proofs.ModeSteps.{own_tag}
use Rattle.value.proofs.Views.{many-end, many_more}
use Rattle.value.proofs.Decodes.{Own, own, framed, decodes}
use Rattle.value.proofs.Laws.{own-encoding, framed_long, framed_within}

-- ---- rising, element by element
rises : (v : List ℕ) (x : Value) (xs : Values) → rising v (next x xs) ≡ rising_after v (encoding v x) xs
unfolding rising rising_after
rises v x end_values = refl
rises v x (next y ys) = ap (both (not_above (encoding v x) (encoding v y))) (rises v y ys)

rises-all : (v : List ℕ) (xs : Values) → rising v xs ≡ rising_after v [] xs
unfolding rising rising_after not_above
rises-all v end_values = refl
rises-all v (next x xs) = rises v x xs

order_all : (k : ℕ) (v : List ℕ) (o : Option Values) → order_after k v [] o ≡ in_order k v o
order_all k v None = refl
order_all k v (Some xs) = ap (either (eqb k kind.sequence_of)) (sym (rises-all v xs))

order_next : (k : ℕ) (v p : List ℕ) (x : Value) (o : Option Values) → order_after k v p (bind o (λ xs. Some (next x xs))) ≡ both (either (eqb k kind.sequence_of) (not_above p (encoding v x))) (order_after k v (encoding v x) o)
unfolding rising_after
order_next k v p x None = go (either (eqb k kind.sequence_of) (not_above p (encoding v x)))
  where
    go : (z : Bool) → false ≡ both z false
    go true = refl
    go false = refl
order_next k v p x (Some xs) = go (eqb k kind.sequence_of) (not_above p (encoding v x)) (rising_after v (encoding v x) xs)
  where
    go : (a b c : Bool) → either a (both b c) ≡ both (either a b) (either a c)
    go true b c = refl
    go false b c = refl

told_at : (o : Option Decoded) (x : ℕ) → Some x ≡ checked o → (d : Decoded) × (o ≡ Some d) × (d.after ≡ x)
told_at None x e = absurd (let z : ◌≡◌ {A = ℕ} 0 1 = cc in omega arith)
told_at (Some d) x e = (d, refl, cc)

told_bad : (o : Option Decoded) → None ≡ checked o → o ≡ None
told_bad None e = refl
told_bad (Some d) e = absurd (let z : ◌≡◌ {A = ℕ} 0 1 = cc in omega arith)

-- the elements from i on, after the one from before to i, have the answer of all of them; n is enough for them
pub record Listed (chain : ℕ) (t s : List ℕ) (row : ℕ) (v : List ℕ) (start stop before i : ℕ) : Type 0 where
  pub n : ℕ
  pub enough : stop - i ≤ n
  pub low : before ≤ i
  pub high : i ≤ stop
  pub same : order_after (kind_at t (row_at s row)) v (part v before (i - before)) (many (λ i stop. unwrapped (type_from chain t s (named_at t (row_at s row))) untagged v i stop) n stop i)
      ≡ in_order (kind_at t (row_at s row)) v (many (λ i stop. unwrapped (type_from chain t s (named_at t (row_at s row))) untagged v i stop) (stop - start) stop start)

module _ (chain : ℕ) (t s m : List ℕ) (row : ℕ) (ok : Sound chain t s m) (here : row < length s) (list : is_list (kind_at t (row_at s row)) ≡ true) (v : List ℕ) (start stop : ℕ) where
  abbrev element : Ty
  element = type_from chain t s (named_at t (row_at s row))

  abbrev one : ℕ → ℕ → Option Decoded
  one i stop = unwrapped (type_from chain t s (named_at t (row_at s row))) untagged v i stop

  abbrev k : ℕ
  k = kind_at t (row_at s row)

  pub listed-low : (before i : ℕ) → Listed chain t s row v start stop before i → before ≤ i
  listed-low before i w = w.low

  pub elements_start : start ≤ stop → Listed chain t s row v start stop start start
  elements_start h =
      let q : start - start ≡ 0 = omega arith in
      record { n = stop - start; enough = omega arith; low = omega arith; high = h; same = ap (λ (x : ℕ). order_after k v (part v start x) (many one (stop - start) stop start)) q ∙ order_all k v (many one (stop - start) stop start) }

  module _ (e : ℕ) (read : e ≡ named_at t (row_at s row)) where
    pub element-here : e < length s
    element-here = rw read (ok.later.of_row row here (list-names t (row_at s row) list)).1

    pub element_falls : (z : ℕ) → 5 * (length s - row) + 2 ≡ z → 5 * (length s - e) + 3 < z
    element_falls z q = let a = ok.later.of_row row here (list-names t (row_at s row) list) in let b = a.0 in let d = a.1 in omega arith

    module _ (before i : ℕ) (w : Listed chain t s row v start stop before i) (l : i < stop) (c : Option ℕ) (tag : ℕ)
        (tagged : tag ≡ first_octet untagged (kind_at t (row_at s e)))
        (answered : Answers (type_from chain t s e) (kind_at t (row_at s e)) tag v i stop c) where
      asks : c ≡ checked (one i stop)
      unfolding tagging_of
      asks = answered.says 0 0 (λ z. (own_tag tag (kind_at t (row_at s e)) 0 tagged z).0)
          ∙ ap (λ (x : ℕ). checked (unwrapped (type_from chain t s x) untagged v i stop)) read

      opens : (r : ℕ) × (w.n ≡ suc r) × (many one w.n stop i ≡ next_then (λ j. many one r stop j) (one i stop))
      opens = go w.n w.enough
        where
          go : (x : ℕ) → stop - i ≤ x → (r : ℕ) × (x ≡ suc r) × (many one x stop i ≡ next_then (λ j. many one r stop j) (one i stop))
          go zero h = absurd (omega arith)
          go (suc r) h = (r, refl, many_more one stop i r l)

      answer : elements_checked k element v stop start ≡ up_to stop (order_after k v (part v before (i - before)) (next_then (λ j. many one opens.0 stop j) (one i stop)))
      unfolding elements_checked
      answer = ap (up_to stop) (sym w.same ∙ ap (order_after k v (part v before (i - before))) opens.2)

      pub elements_bad : c ≡ None → None ≡ elements_checked k element v stop start
      elements_bad b = sym (answer ∙ ap (λ (o : Option Decoded). up_to stop (order_after k v (part v before (i - before)) (next_then (λ j. many one opens.0 stop j) o))) (told_bad (one i stop) (sym b ∙ asks)))

      module _ (after : ℕ) (found : c ≡ Some after) where
        value_there_lem : (d : Decoded) × (one i stop ≡ Some d) × (d.after ≡ after)
        value_there_lem = told_at (one i stop) after (sym found ∙ asks)

        owned : Own v i stop value_there_lem.0.value value_there_lem.0.after
        owned = own (decodes element untagged v i stop value_there_lem.0 value_there_lem.1)

        pub element-long : i + 2 ≤ after
        element-long = let a = framed_long (framed owned) in let b = value_there_lem.2 in omega arith

        pub element-within : after ≤ stop
        element-within = let a = framed_within (framed owned) in let b = value_there_lem.2 in omega arith

        pub element-ends : stop ≤ length v → after ≤ length v
        element-ends h = let a = element-within in omega arith

        pub element-less : stop - after < stop - i
        element-less = let a = element-long in let b = element-within in omega arith

        pub element-after : i ≤ after
        element-after = let a = element-long in omega arith

        encoded : encoding v value_there_lem.0.value ≡ part v i (after - i)
        encoded = sym (own-encoding owned) ∙ ap (λ (x : ℕ). part v i (x - i)) value_there_lem.2

        split : order_after k v (part v before (i - before)) (next_then (λ j. many one opens.0 stop j) (one i stop)) ≡ both (neighbours k v before i after) (order_after k v (part v i (after - i)) (many one opens.0 stop after))
        unfolding neighbours
        split =
            ap (λ (o : Option Decoded). order_after k v (part v before (i - before)) (next_then (λ j. many one opens.0 stop j) o)) value_there_lem.1
            ∙ order_next k v (part v before (i - before)) value_there_lem.0.value (many one opens.0 stop value_there_lem.0.after)
            ∙ ap₂ (λ (x : List ℕ) (y : ℕ). both (either (eqb k kind.sequence_of) (not_above (part v before (i - before)) x)) (order_after k v x (many one opens.0 stop y))) encoded value_there_lem.2

        module _ (q : ℕ) (o : Bool) (kinded : q ≡ kind_at t (row_at s row)) (ordered : o ≡ neighbours q v before i after) where
          in_order_lem : neighbours k v before i after ≡ o
          in_order_lem = sym (ordered ∙ ap (λ (x : ℕ). neighbours x v before i after) kinded)

          pub elements_disorder : not o ≡ true → None ≡ elements_checked k element v stop start
          elements_disorder h = sym (answer ∙ ap (up_to stop) (split ∙ ap (λ (x : Bool). both x (order_after k v (part v i (after - i)) (many one opens.0 stop after))) (in_order_lem ∙ not-true o h)))

          pub elements_again : not o ≡ false → Listed chain t s row v start stop i after
          elements_again h =
              let a = element-long in
              let b = element-within in
              let x = w.enough in
              let y = opens.1 in
              record {
                n = opens.0;
                enough = omega arith;
                low = omega arith;
                high = b;
                same = sym (split ∙ ap (λ (x : Bool). both x (order_after k v (part v i (after - i)) (many one opens.0 stop after))) (in_order_lem ∙ not-false o h)) ∙ ap (order_after k v (part v before (i - before))) (sym opens.2) ∙ w.same;
              }

  pub elements_done : (before i : ℕ) → Listed chain t s row v start stop before i → stop ≤ i → Some stop ≡ elements_checked k element v stop start
  unfolding elements_checked rising_after
  elements_done before i w h = ap (up_to stop) (sym (either_true (eqb k kind.sequence_of)) ∙ ap (order_after k v (part v before (i - before))) (sym (many-end one stop i w.n h)) ∙ w.same)
    where
      either_true : (x : Bool) → either x true ≡ true
      either_true true = refl
      either_true false = refl

pub element-typed : (chain : ℕ) (t s m : List ℕ) (row e : ℕ) → Ready chain t s m → row < length s → is_list (kind_at t (row_at s row)) ≡ true
    → e ≡ named_at t (row_at s row) → is_member (kind_at t (row_at s e)) ≡ true → ⊥
element-typed chain t s m row e ok here list read = rw read (ok.typed row here (list-names t (row_at s row) list))

pub leaves_are : (t s : List ℕ) (row e k : ℕ) (r : Bool) → e ≡ named_at t (row_at s row) → k ≡ kind_at t (row_at s e) → r ≡ is_basic k
    → r ≡ is_basic (kind_at t (row_at s (named_at t (row_at s row))))
leaves_are t s row e k r read kinded told = told ∙ ap is_basic (kinded ∙ ap (λ (x : ℕ). kind_at t (row_at s x)) read)

pub leaves_basic : (k : ℕ) (r : Bool) → r ≡ is_basic k → r ≡ true → is_basic k ≡ true
leaves_basic k r e h = sym e ∙ h

-- the kind of an element's type, by the row that the list's names
pub leaf_kind : (t s : List ℕ) (row e k : ℕ) → e ≡ named_at t (row_at s row) → k ≡ kind_at t (row_at s e) → k ≡ kind_at t (row_at s (named_at t (row_at s row)))
leaf_kind t s row e k read kinded = kinded ∙ ap (λ (x : ℕ). kind_at t (row_at s x)) read

pub leaf_given : (t s : List ℕ) (row e k given : ℕ) → e ≡ named_at t (row_at s row) → k ≡ kind_at t (row_at s e) → k ≡ given
    → given ≡ kind_at t (row_at s (named_at t (row_at s row)))
leaf_given t s row e k given read kinded h = sym h ∙ leaf_kind t s row e k read kinded

pub element_kind : (t s : List ℕ) (row e k : ℕ) → e ≡ named_at t (row_at s row) → k ≡ kind_at t (row_at s (named_at t (row_at s row))) → k ≡ kind_at t (row_at s e)
element_kind t s row e k read kinded = rw read kinded

pub element_basic : (t s : List ℕ) (row e : ℕ) → e ≡ named_at t (row_at s row) → is_basic (kind_at t (row_at s (named_at t (row_at s row)))) ≡ true
    → is_basic (kind_at t (row_at s e)) ≡ true
element_basic t s row e read h = rw read h
