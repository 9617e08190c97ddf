-- A text in dotted form, arc by arc.
use Rattle.std.specs.Prelude.{Option}
use Rattle.std.specs.Prelude.{None, Some}
use mathlib.Core.Path.{◌≡◌, refl, sym, ap, ap₂, ◌∙◌}
use mathlib.Core.Bool.{Bool, true, false, not}
use mathlib.Core.List.{List, [], ◌∷◌, map}
use Prim.Native.Nat.{ℕ, ◌≤◌, ◌<◌}
use native.Mathlib.Omega.{arith}
use borrow.Author.Tests.{le-ltb, lt-leb, leb-true, eqb-true, ltb-false, not-true, not-false}
use lib.Dec.{ltb, leb, eqb}
use lib.ListN.{length, drop}
use Rattle.octets.specs.Pick.{pick, both, either}
use Rattle.octets.specs.Octets.{octet, every}
use Rattle.octets.specs.Text.{is_digit, is_number, decimal_from, onto_first, pieces}
use Rattle.octets.specs.Inner.Answers.{clip}
use Rattle.octets.proofs.Laws.{never, both_true, rest-cons}
use Rattle.octets.proofs.TextLaws.{pieces-cons}
use Rattle.der.specs.Dotted.{every_number, rooted, is_dotted}
use Rattle.der.proofs.DottedLaws.{numbers-nil, numbers-cons, dotted-pieces}
use Rattle.dotted.specs.Inner.Arcs.{is_joint, arc_at, rest_pieces, are_roots, under_root, dotted_under}
use Rattle.dotted.specs.declared.Arc.{Arc}
use Rattle.dotted.proofs.ArcSteps.{cut, Headed, arc_headed}

-- ---- the first two arcs
roots_clip : (m n : ℕ) → are_roots (clip m) (clip n) ≡ both (leb m 2) (either (eqb m 2) (ltb n 40))
roots_clip m n = go (ltb m 18446744073709551616) (ltb n 18446744073709551616) refl refl
  where
    alone : (x : Bool) → x ≡ either x false
    alone true = refl
    alone false = refl

    go : (x y : Bool) → ltb m 18446744073709551616 ≡ x → ltb n 18446744073709551616 ≡ y
        → are_roots (pick x (Some m) None) (pick y (Some n) None) ≡ both (leb m 2) (either (eqb m 2) (ltb n 40))
    go false y p q = let h : 2 < m = omega (arith, ltb-false) in rw (lt-leb m 2 h)
    go true true p q = refl
    go true false p q = let h : 40 ≤ n = omega (arith, ltb-false) in rw (le-ltb n 40 h) (ap (both (leb m 2)) (alone (eqb m 2)))

-- ---- numbers from a place on
rest_over : (t : List ℕ) → rest_pieces t None ≡ []
unfolding rest_pieces
rest_over t = refl

rest_at : (t : List ℕ) (p : ℕ) → rest_pieces t (Some p) ≡ pieces (drop p t)
unfolding rest_pieces
rest_at t p = refl

module _ (t : List ℕ) (i : ℕ) (arc : Arc) (read : arc ≡ arc_at t i) where
  headed : Headed t i arc
  headed = arc_headed t i arc read

  numbers : every_number (pieces (drop i t)) ≡ both arc.formed (every_number (rest_pieces t arc.next))
  numbers = ap every_number headed.is ∙ numbers-cons _ _ ∙ ap (λ (x : Bool). both x (every_number (rest_pieces t arc.next))) (sym headed.formed)

  -- ---- the arcs after the first
  under : (a : Option ℕ) → dotted_under a (pieces (drop i t)) ≡ both (both arc.formed (every_number (rest_pieces t arc.next))) (are_roots a arc.size)
  unfolding dotted_under
  under a = ap₂ both numbers (ap (under_root a) headed.is ∙ ap (are_roots a) (sym headed.clipped))

  module _ (a : Option ℕ) where
    pub under-bad : not arc.formed ≡ true → false ≡ dotted_under a (pieces (drop i t))
    under-bad h = sym (under a ∙ rw (not-true arc.formed h))

    module _ (h : not arc.formed ≡ false) (u : Bool) (told : u ≡ are_roots a arc.size) where
      always : (x : Bool) → both x true ≡ x
      always true = refl
      always false = refl

      pub under-wrong : not u ≡ true → false ≡ dotted_under a (pieces (drop i t))
      under-wrong q = sym (under a ∙ rw (sym told ∙ not-true u q) (never (both arc.formed (every_number (rest_pieces t arc.next)))))

      module _ (q : not u ≡ false) where
        pub under-end : arc.next ≡ None → true ≡ dotted_under a (pieces (drop i t))
        under-end e = sym (under a ∙ rw (sym told ∙ not-false u q, not-false arc.formed h, e, rest_over t, numbers-nil))

        pub under-is : (p : ℕ) (r : Bool) → arc.next ≡ Some p → r ≡ every_number (pieces (drop p t)) → r ≡ dotted_under a (pieces (drop i t))
        under-is p r e f = f ∙ sym (under a ∙ rw (sym told ∙ not-false u q, not-false arc.formed h, e, rest_at t p) (always (every_number (pieces (drop p t)))))

-- ---- a text whose first arc is 2
module _ (t : List ℕ) where
  joint_pieces : is_joint t ≡ true → pieces t ≡ (50 ∷ []) ∷ pieces (drop 2 t)
  unfolding is_joint
  joint_pieces e =
      let a = both_true (leb 2 (length t)) (both (eqb (octet t 0) 50) (eqb (octet t 1) 46)) e in
      let b = both_true (eqb (octet t 0) 50) (eqb (octet t 1) 46) a.1 in
      let long : 2 ≤ length t = leb-true 2 (length t) a.0 in
      ap pieces (rest-cons t 0 (omega arith) ∙ ap (λ (l : List ℕ). octet t 0 ∷ l) (rest-cons t 1 (omega arith)) ∙ ap₂ (λ (x y : ℕ). x ∷ y ∷ drop 2 t) (eqb-true (octet t 0) 50 b.0) (eqb-true (octet t 1) 46 b.1))
      ∙ pieces-cons 50 (46 ∷ drop 2 t) ∙ ap (onto_first 50) (pieces-cons 46 (drop 2 t))

  under-two : (p : List ℕ) (ps : List (List ℕ)) → both (every_number ((50 ∷ []) ∷ p ∷ ps)) (rooted (map (decimal_from 0) ((50 ∷ []) ∷ p ∷ ps))) ≡ every_number (p ∷ ps)
  unfolding every_number is_number is_digit every decimal_from
  under-two p ps = go (both (is_number p) (every_number ps))
    where
      go : (x : Bool) → both x true ≡ x
      go true = refl
      go false = refl

  pub dotted_joint : (u r : Bool) → u ≡ is_joint t → u ≡ true → r ≡ every_number (pieces (drop 2 t)) → r ≡ is_dotted t
  dotted_joint u r told e q =
      let c = cut (drop 2 t) in
      let z : pieces t ≡ (50 ∷ []) ∷ c.piece ∷ c.others = joint_pieces (sym told ∙ e) ∙ ap (λ (l : List (List ℕ)). (50 ∷ []) ∷ l) c.is in
      q ∙ ap every_number c.is ∙ sym (dotted-pieces t ∙ ap (λ (x : List (List ℕ)). both (every_number x) (rooted (map (decimal_from 0) x))) z ∙ under-two c.piece c.others)

-- ---- the whole text
module _ (t : List ℕ) (arc : Arc) (read : arc ≡ arc_at t 0) where
  first : Headed t 0 arc
  first = arc_headed t 0 arc read

  whole : is_dotted t ≡ both (both arc.formed (every_number (rest_pieces t arc.next))) (rooted (decimal_from 0 first.piece ∷ map (decimal_from 0) (rest_pieces t arc.next)))
  whole = dotted-pieces t ∙ ap₂ both (numbers t 0 arc read) (ap (λ (x : List (List ℕ)). rooted (map (decimal_from 0) x)) first.is)

  module _ (x : List (List ℕ)) (e : rest_pieces t arc.next ≡ x) where
    whole-at : is_dotted t ≡ both (both arc.formed (every_number x)) (rooted (decimal_from 0 first.piece ∷ map (decimal_from 0) x))
    whole-at = whole ∙ ap (λ (y : List (List ℕ)). both (both arc.formed (every_number y)) (rooted (decimal_from 0 first.piece ∷ map (decimal_from 0) y))) e

  over : arc.next ≡ None → rest_pieces t arc.next ≡ []
  over e = ap (rest_pieces t) e ∙ rest_over t

  later : (p : ℕ) → arc.next ≡ Some p → rest_pieces t arc.next ≡ pieces (drop p t)
  later p e = ap (rest_pieces t) e ∙ rest_at t p

  pub dotted-bad : not arc.formed ≡ true → false ≡ is_dotted t
  dotted-bad h = sym (whole ∙ unformed arc.formed _ _ (not-true arc.formed h))
    where
      unformed : (f g y : Bool) → f ≡ false → both (both f g) y ≡ false
      unformed f g y e = rw e

  none : (x : Bool) → both x false ≡ false
  none true = refl
  none false = refl

  pub dotted-alone : arc.next ≡ None → false ≡ is_dotted t
  dotted-alone e = sym (whole-at [] (over e) ∙ none (both arc.formed (every_number [])))

  rooted-under : (n : ℕ) (ps : List (List ℕ)) → both (every_number ps) (rooted (n ∷ map (decimal_from 0) ps)) ≡ dotted_under (clip n) ps
  unfolding dotted_under
  rooted-under n [] = refl
  rooted-under n (p ∷ ps) = ap (both (every_number (p ∷ ps))) (sym (roots_clip n (decimal_from 0 p)))

  formed-is : (f : Bool) (x : List (List ℕ)) (n : ℕ) → f ≡ true → both (both f (every_number x)) (rooted (n ∷ map (decimal_from 0) x)) ≡ dotted_under (clip n) x
  formed-is f x n h = rw h (rooted-under n x)

  pub dotted-is : (p : ℕ) (r : Bool) → not arc.formed ≡ false → arc.next ≡ Some p → r ≡ dotted_under arc.size (pieces (drop p t)) → r ≡ is_dotted t
  dotted-is p r h e f =
      f ∙ ap (λ (x : Option ℕ). dotted_under x (pieces (drop p t))) first.clipped
      ∙ sym (formed-is arc.formed (pieces (drop p t)) (decimal_from 0 first.piece) (not-false arc.formed h))
      ∙ sym (whole-at (pieces (drop p t)) (later p e))
