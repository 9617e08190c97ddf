-- Stored arcs, and both sides arc by arc.
use mathlib.Core.Path.{◌≡◌, refl, sym, ap, ap₂, ◌∙◌}
use mathlib.Core.Bool.{Bool, true, false}
use Rattle.std.specs.Prelude.{Option, None, Some}
use mathlib.Core.List.{List, [], ◌∷◌, map}
use Prim.Native.Nat.{ℕ, ◌<◌, ◌-◌}
use native.Mathlib.Omega.{arith}
use borrow.Author.Tests.{eq-eqb, ne_eqb, ltb-false, eqb-true, eqb-false}
use lib.Dec.{ltb, eqb}
use lib.ListN.{length, drop}
use Rattle.octets.specs.Pick.{pick, both, consed}
use Rattle.octets.specs.Octets.{same}
use Rattle.octets.specs.Text.{decimal_from}
use Rattle.octets.specs.Inner.Answers.{clip}
use Rattle.octets.proofs.TextLaws.{same-nil, same_shorter, same_longer, same-cons}
use Rattle.octets.proofs.Laws.{never}
use Rattle.der.specs.Contents.{subidentifiers}
use Rattle.der.specs.Meaning.{arcs_from, arcs_of}
use Rattle.der.specs.Dotted.{dotted_arcs}
use Rattle.der.specs.Inner.Answers.{report_sub}
use Rattle.der.specs.declared.Sub.{Sub}
use Rattle.der.proofs.DottedLaws.{arcs-pieces}
use Rattle.der.proofs.MeaningLaws.{arcs_subs}
use Rattle.dotted.specs.Inner.Arcs.{arc_at, small_at, rest_pieces}
use Rattle.dotted.specs.Inner.Held.{split_first, rest_held, report_held, first_step, is_over, same_arc, rest_arcs, matches}
use Rattle.dotted.specs.declared.SmallArc.{SmallArc}
use Rattle.dotted.specs.declared.Held.{Held}
use Rattle.dotted.specs.declared.HeldStep.{HeldStep}
use Rattle.dotted.proofs.ArcSteps.{Headed, arc_headed}
use Rattle.dotted.proofs.SmallSteps.{IsSmall, small-known, above_arc}

-- ---- the cursor
split_some : (n : ℕ) (o : Option (List ℕ)) (a b : Bool) → ltb n 40 ≡ a → ltb n 80 ≡ b
    → pick a (consed 0 (consed n o)) (pick b (consed 1 (consed (n - 40) o)) (consed 2 (consed (n - 80) o))) ≡ split_first (consed n o)
split_some n None true b p q = refl
split_some n None false true p q = refl
split_some n None false false p q = refl
split_some n (Some l) true b p q = rw p
split_some n (Some l) false true p q = rw (p, q)
split_some n (Some l) false false p q = rw (p, q)

first_told : (c : List ℕ) (n next : ℕ) → report_held c (first_step n next) ≡ split_first (consed n (subidentifiers (drop next c)))
unfolding rest_held
first_told c n next = go (ltb n 40) (ltb n 80) ∙ split_some n (subidentifiers (drop next c)) (ltb n 40) (ltb n 80) refl refl
  where
    go : (a b : Bool) → report_held c (pick a (HeldStep.Next 0 (Held.Second n next)) (pick b (HeldStep.Next 1 (Held.Second (n - 40) next)) (HeldStep.Next 2 (Held.Second (n - 80) next))))
        ≡ pick a (consed 0 (consed n (subidentifiers (drop next c)))) (pick b (consed 1 (consed (n - 40) (subidentifiers (drop next c)))) (consed 2 (consed (n - 80) (subidentifiers (drop next c)))))
    go true b = refl
    go false true = refl
    go false false = refl

module _ (c : List ℕ) (w : Sub) where
  module _ (e : report_sub c w ≡ subidentifiers (drop 0 c)) where
    pub start-end : w ≡ Sub.End → report_held c (HeldStep.End true) ≡ rest_held c Held.Start
    unfolding rest_held
    start-end h = ap split_first (ap (report_sub c) (sym h) ∙ e)

    pub start-broken : w ≡ Sub.Broken → report_held c (HeldStep.End false) ≡ rest_held c Held.Start
    unfolding rest_held
    start-broken h = ap split_first (ap (report_sub c) (sym h) ∙ e)

    pub start_first : (n next : ℕ) (r : HeldStep) → w ≡ Sub.Value n next → r ≡ first_step n next → report_held c r ≡ rest_held c Held.Start
    unfolding rest_held
    start_first n next r h q = ap (report_held c) q ∙ first_told c n next ∙ ap split_first (ap (report_sub c) (sym h) ∙ e)

-- ---- both sides
same-clip : (k n : ℕ) → n < 4294967296 → same_arc (clip k) n ≡ eqb n k
same-clip k n h = go (ltb k 18446744073709551616) refl
  where
    swap : (u : Bool) → eqb n k ≡ u → eqb k n ≡ eqb n k
    swap true e = let q : n ≡ k = eqb-true n k e in eq-eqb k n (sym q) ∙ sym e
    swap false e = ne_eqb k n (λ q. eqb-false n k e (sym q)) ∙ sym e

    go : (u : Bool) → ltb k 18446744073709551616 ≡ u → same_arc (pick u (Some k) None) n ≡ eqb n k
    go true e = swap (eqb n k) refl
    go false e = sym (ne_eqb n k (λ q. omega (arith, ltb-false k 18446744073709551616 e)))

rest_at_0 : (t : List ℕ) → rest_arcs t (Some 0) ≡ dotted_arcs t
unfolding rest_pieces
rest_at_0 t = sym (arcs-pieces t)

first_arc : (t : List ℕ) → Headed t 0 (arc_at t 0)
first_arc t = arc_headed t 0 (arc_at t 0) refl

none-same : (t : List ℕ) → false ≡ same [] (dotted_arcs t)
none-same t = sym (ap (same []) (arcs-pieces t ∙ ap (map (decimal_from 0)) (first_arc t).is) ∙ same_shorter (decimal_from 0 (first_arc t).piece) (map (decimal_from 0) (rest_pieces t (arc_at t 0).next)))

pub arcs-start : (t c : List ℕ) → matches (rest_held c Held.Start) (rest_arcs t (Some 0)) ≡ same (arcs_of c) (dotted_arcs t)
unfolding rest_held
arcs-start t c = ap (matches (split_first (subidentifiers c))) (rest_at_0 t) ∙ go (subidentifiers c) ∙ ap (λ (x : List ℕ). same x (dotted_arcs t)) (sym (arcs_subs c))
  where
    go : (o : Option (List ℕ)) → matches (split_first o) (dotted_arcs t) ≡ same (arcs_from o) (dotted_arcs t)
    go None = none-same t
    go (Some []) = refl
    go (Some (n ∷ l)) = refl

none-asked : (t : List ℕ) → rest_arcs t None ≡ []
unfolding rest_pieces
none-asked t = refl

over-matches : (c : List ℕ) (x : HeldStep) → is_over x ≡ matches (report_held c x) []
over-matches c (HeldStep.End true) = sym same-nil
over-matches c (HeldStep.End false) = refl
over-matches c (HeldStep.Next n h) = go (rest_held c h)
  where
    go : (o : Option (List ℕ)) → false ≡ matches (consed n o) []
    go None = refl
    go (Some l) = sym (same_longer n l)

matches-cons : (n k : ℕ) (o : Option (List ℕ)) (l : List ℕ) → matches (consed n o) (k ∷ l) ≡ both (eqb n k) (matches o l)
matches-cons n k None l = sym (never (eqb n k))
matches-cons n k (Some s) l = same-cons n k s l

module _ (t c : List ℕ) (a : Option ℕ) (h : Held) (step : HeldStep) (m : Bool)
    (inv : matches (rest_held c h) (rest_arcs t a) ≡ m) (told : report_held c step ≡ rest_held c h) where
  sides : (l : List ℕ) → rest_arcs t a ≡ l → matches (report_held c step) l ≡ m
  sides l e = ap₂ matches told (sym e) ∙ inv

  pub arcs-over : (r : Bool) → a ≡ None → r ≡ is_over step → r ≡ m
  arcs-over r e q = q ∙ over-matches c step ∙ sides [] (ap (rest_arcs t) e ∙ none-asked t)

  module _ (at : ℕ) (e : a ≡ Some at) where
    headed : Headed t at (arc_at t at)
    headed = arc_headed t at (arc_at t at) refl

    left : rest_pieces t a ≡ headed.piece ∷ rest_pieces t (arc_at t at).next
    unfolding rest_pieces
    left = ap (rest_pieces t) e ∙ headed.is

    -- the next arc of the text beside a stored one
    module _ (small : Option SmallArc) (read : small ≡ small_at t at) (n : ℕ) (after : Held) (f : step ≡ HeldStep.Next n after) (low : n < 4294967296) where
      agree : both (same_arc (arc_at t at).size n) (matches (rest_held c after) (rest_arcs t (arc_at t at).next)) ≡ m
      agree =
          ap (λ (x : Bool). both x (matches (rest_held c after) (rest_arcs t (arc_at t at).next)))
          (ap (λ (z : Option ℕ). same_arc z n) headed.clipped ∙ same-clip (decimal_from 0 headed.piece) n low)
          ∙ sym (matches-cons n (decimal_from 0 headed.piece) (rest_held c after) (rest_arcs t (arc_at t at).next))
          ∙ sym (ap (λ (x : HeldStep). matches (report_held c x) (decimal_from 0 headed.piece ∷ rest_arcs t (arc_at t at).next)) f)
          ∙ sides (decimal_from 0 headed.piece ∷ rest_arcs t (arc_at t at).next) (ap (map (decimal_from 0)) left)

      pub arcs-above : small ≡ None → false ≡ m
      unfolding small_at
      arcs-above q = rw (above_arc (arc_at t at).size (arc_at t at).next n (sym read ∙ q) low) at agree

      module _ (arc : SmallArc) (q : small ≡ Some arc) where
        known : IsSmall t at arc
        known = small-known t at arc small read q

        turn : both (eqb arc.number n) (matches (rest_held c after) (rest_arcs t arc.next)) ≡ m
        turn = ap₂ (λ (z : Option ℕ) (d : Option ℕ). both (same_arc z n) (matches (rest_held c after) (rest_arcs t d))) (sym known.size) (sym known.goes) ∙ agree

        module _ (wide : ℕ) (w : wide ≡ n) where
          pub arcs-differ : (arc.number ≡ wide → ⊥) → false ≡ m
          arcs-differ d = rw (ne_eqb arc.number n (λ z. d (z ∙ sym w))) at turn

          pub arcs-more : arc.number ≡ wide → matches (rest_held c after) (rest_arcs t arc.next) ≡ m
          arcs-more d = rw (eq-eqb arc.number n (d ∙ w)) at turn

        pub arcs_fall : length (rest_pieces t arc.next) < length (rest_pieces t a)
        arcs_fall = let z : length (rest_pieces t (arc_at t at).next) ≡ length (rest_pieces t arc.next) = ap (λ (d : Option ℕ). length (rest_pieces t d)) known.goes in
            omega (arith, ap length left)

    asked : rest_arcs t a ≡ decimal_from 0 headed.piece ∷ rest_arcs t (arc_at t at).next
    asked = ap (map (decimal_from 0)) left

    ended : (k : ℕ) (l : List ℕ) (whole : Bool) → false ≡ matches (pick whole (Some []) None) (k ∷ l)
    ended k l true = sym (same_shorter k l)
    ended k l false = refl

    pub arcs-ended : (whole : Bool) → step ≡ HeldStep.End whole → false ≡ m
    arcs-ended whole f =
        ended (decimal_from 0 headed.piece) (rest_arcs t (arc_at t at).next) whole
        ∙ sym (ap (λ (x : HeldStep). matches (report_held c x) (decimal_from 0 headed.piece ∷ rest_arcs t (arc_at t at).next)) f) ∙ sides _ asked
