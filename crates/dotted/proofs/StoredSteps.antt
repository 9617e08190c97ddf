-- A text whose arcs can be stored: one lemma for each return and each turn of a loop.
use Rattle.std.specs.Prelude.{Option, None, Some}
use mathlib.Core.Path.{◌≡◌, refl, sym, ap, ◌∙◌}
use mathlib.Core.Bool.{Bool, true, false}
use mathlib.Core.List.{List, [], ◌∷◌, map}
use Prim.Native.Nat.{ℕ, zero, suc, ◌≤◌, ◌<◌, ◌-◌}
use native.Mathlib.Omega.{arith}
use borrow.Author.Tests.{lt-ltb, le-ltb, ltb-false}
use lib.Dec.{ltb}
use Rattle.octets.specs.Pick.{pick, both}
use Rattle.octets.specs.Text.{decimal_from}
use Rattle.octets.specs.Inner.Answers.{clip}
use Rattle.der.specs.Dotted.{dotted_arcs}
use Rattle.der.proofs.DottedLaws.{arcs-pieces}
use Rattle.dotted.specs.Inner.Arcs.{arc_at, small_at, rest_pieces}
use Rattle.dotted.specs.Inner.Held.{rest_arcs}
use Rattle.dotted.specs.Inner.Stored.{is_small, is_small_size, fitting}
use Rattle.dotted.specs.declared.SmallArc.{SmallArc}
use Rattle.dotted.proofs.ArcSteps.{Headed, arc_headed}
use Rattle.dotted.proofs.SmallSteps.{IsSmall, small-known, above-small}

-- ---- sizes
small-clip : (n : ℕ) → is_small_size (clip n) ≡ is_small n
small-clip n = go (ltb n 18446744073709551616) refl
  where
    go : (u : Bool) → ltb n 18446744073709551616 ≡ u → is_small_size (pick u (Some n) None) ≡ is_small n
    go true e = refl
    go false e = let h : 4294967296 ≤ n = omega (arith, ltb-false n 18446744073709551616 e) in sym (le-ltb n 4294967296 h)

-- ---- whether a text fits
text-arcs : (t : List ℕ) → rest_arcs t (Some 0) ≡ dotted_arcs t
unfolding rest_pieces
text-arcs t = sym (arcs-pieces t)

arcs-over : (t : List ℕ) → rest_arcs t None ≡ []
unfolding rest_pieces
arcs-over t = refl

pub fit-start : (t : List ℕ) → fitting 33 (rest_arcs t (Some 0)) ≡ fitting 33 (dotted_arcs t)
fit-start t = ap (fitting 33) (text-arcs t)

fitting-cons : (k n : ℕ) (l : List ℕ) → 0 < k → fitting k (n ∷ l) ≡ both (is_small n) (fitting (k - 1) l)
unfolding fitting
fitting-cons zero n l h = absurd (omega arith)
fitting-cons (suc k) n l h = let e : suc k - 1 ≡ k = omega arith in rw e

fitting_zero : (k n : ℕ) (l : List ℕ) → k ≤ 0 → fitting k (n ∷ l) ≡ false
unfolding fitting
fitting_zero zero n l h = refl
fitting_zero (suc k) n l h = absurd (omega arith)

fitting-nil : (k : ℕ) → fitting k [] ≡ true
unfolding fitting
fitting-nil k = refl

module _ (t : List ℕ) (i k : ℕ) (m : Bool) (inv : fitting k (rest_arcs t (Some i)) ≡ m) where
  headed : Headed t i (arc_at t i)
  headed = arc_headed t i (arc_at t i) refl

  left : rest_arcs t (Some i) ≡ decimal_from 0 headed.piece ∷ rest_arcs t (arc_at t i).next
  unfolding rest_pieces
  left = ap (map (decimal_from 0)) headed.is

  pub fit_none : k ≤ 0 → false ≡ m
  fit_none h = sym (fitting_zero k _ _ h) ∙ sym (ap (fitting k) left) ∙ inv

  module _ (h : 0 < k) (small : Option SmallArc) (read : small ≡ small_at t i) where
    turn : both (is_small_size (arc_at t i).size) (fitting (k - 1) (rest_arcs t (arc_at t i).next)) ≡ m
    turn =
        ap (λ (x : Bool). both x (fitting (k - 1) (rest_arcs t (arc_at t i).next)))
        (ap is_small_size headed.clipped ∙ small-clip (decimal_from 0 headed.piece))
        ∙ sym (fitting-cons k (decimal_from 0 headed.piece) (rest_arcs t (arc_at t i).next) h) ∙ sym (ap (fitting k) left) ∙ inv

    pub fit-bad : small ≡ None → false ≡ m
    unfolding small_at
    fit-bad q = rw (above-small (arc_at t i).size (arc_at t i).next (sym read ∙ q)) at turn

    module _ (arc : SmallArc) (q : small ≡ Some arc) where
      known : IsSmall t i arc
      known = small-known t i arc small read q

      further : fitting (k - 1) (rest_arcs t arc.next) ≡ m
      further =
          ap (λ (x : Bool). both x (fitting (k - 1) (rest_arcs t arc.next))) (sym (ap is_small_size known.size ∙ lt-ltb arc.number 4294967296 known.low))
          ∙ ap (λ (d : Option ℕ). both (is_small_size (arc_at t i).size) (fitting (k - 1) (rest_arcs t d))) (sym known.goes) ∙ turn

      pub fit-end : arc.next ≡ None → true ≡ m
      fit-end e = sym (ap (λ (d : Option ℕ). fitting (k - 1) (rest_arcs t d)) e ∙ ap (fitting (k - 1)) (arcs-over t) ∙ fitting-nil (k - 1)) ∙ further

      pub fit-more : (p : ℕ) → arc.next ≡ Some p → fitting (k - 1) (rest_arcs t (Some p)) ≡ m
      fit-more p e = sym (ap (λ (d : Option ℕ). fitting (k - 1) (rest_arcs t d)) e) ∙ further
