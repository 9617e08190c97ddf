-- An arc as a stored one may be.
use Rattle.std.specs.Prelude.{Option, None, Some}
use mathlib.Core.Path.{◌≡◌, refl, sym, ap, ◌∙◌}
use mathlib.Core.Bool.{Bool, true, false}
use mathlib.Core.List.{List, [], ◌∷◌}
use Prim.Native.Nat.{ℕ, ◌≤◌, ◌<◌, ◌+◌, ◌-◌, ◌*◌}
use native.Mathlib.Omega.{arith}
use borrow.Author.Tests.{lt-ltb, le-ltb, eq-eqb, ne_eqb, ltb-true, ltb-false}
use lib.Dec.{ltb, eqb}
use lib.ListN.{length, drop}
use Rattle.octets.specs.Pick.{pick}
use Rattle.octets.specs.Octets.{octet}
use Rattle.octets.specs.Inner.Answers.{clip}
use Rattle.octets.proofs.Laws.{rest-cons, rest-none}
use Rattle.octets.proofs.Steps.{grow_clip}
use Rattle.dotted.specs.Inner.Arcs.{after_digit, add_digit, arc_of, arc_from, arc_at, small_of, small_at}
use Rattle.dotted.specs.Inner.Held.{same_arc}
use Rattle.dotted.specs.Inner.Stored.{is_small_size}
use Rattle.dotted.specs.declared.Form.{Form}
use Rattle.dotted.specs.declared.Digits.{Digits}
use Rattle.dotted.specs.declared.Arc.{Arc}
use Rattle.dotted.specs.declared.SmallArc.{SmallArc}

abbrev pub small_arc : Arc → Option SmallArc
small_arc a = small_of a.size a.next

abbrev pub digits_of : Option ℕ → Form → Digits
digits_of size form = record { size = size; form = form }

-- ---- a number above all stored ones stays so
above-clip : (m : ℕ) (next : Option ℕ) → 4294967296 ≤ m → small_of (clip m) next ≡ None
above-clip m next h = go (ltb m 18446744073709551616)
  where
    go : (u : Bool) → small_of (pick u (Some m) None) next ≡ None
    go true = rw (le-ltb m 4294967296 h)
    go false = refl

above-stays : (m : ℕ) (f : Form) (l : List ℕ) (i : ℕ) → 4294967296 ≤ m → small_arc (arc_from (digits_of (clip m) f) l i) ≡ None
unfolding arc_from
above-stays m f [] i h = above-clip m None h
above-stays m f (b ∷ l) i h = go (eqb b 46) (above-stays (m * 10 + (b - 48)) (after_digit f b) l (i + 1) (omega arith))
  where
    go : (u : Bool) → small_arc (arc_from (digits_of (clip (m * 10 + (b - 48))) (after_digit f b)) l (i + 1)) ≡ None
        → small_arc (pick u (arc_of (digits_of (clip m) f) (Some (i + 1))) (arc_from (add_digit (digits_of (clip m) f) b) l (i + 1))) ≡ None
    go true e = above-clip m (Some (i + 1)) h
    go false e = ap (λ (z : Option ℕ). small_arc (arc_from (digits_of z (after_digit f b)) l (i + 1))) (grow_clip m (b - 48)) ∙ e

-- ---- the loop: digits up to place i, of some form, stand for n
pub record Reading (t : List ℕ) (at i n : ℕ) : Type 0 where
  pub small : n < 4294967296
  pub form : Form
  pub so_far : small_arc (arc_from (digits_of (Some n) form) (drop i t) i) ≡ small_at t at

pub small-start : (t : List ℕ) (at : ℕ) → Reading t at at 0
unfolding arc_at small_at
small-start t at = record { small = omega arith; form = Form.Empty; so_far = refl }

module _ (t : List ℕ) (at i n : ℕ) (s : Reading t at i n) where
  here : (next : Option ℕ) → Some (record { number = n; next = next }) ≡ small_arc (arc_of (digits_of (Some n) s.form) next)
  here next = rw (lt-ltb n 4294967296 s.small)

  pub small-done : length t ≤ i → Some (record { number = n; next = None }) ≡ small_at t at
  unfolding arc_from
  small-done h = here None ∙ sym (ap (λ (l : List ℕ). small_arc (arc_from (digits_of (Some n) s.form) l i)) (rest-none t i h)) ∙ s.so_far

  module _ (h : i < length t) where
    step : small_arc (arc_from (digits_of (Some n) s.form) (octet t i ∷ drop (i + 1) t) i) ≡ small_at t at
    step = sym (ap (λ (l : List ℕ). small_arc (arc_from (digits_of (Some n) s.form) l i)) (rest-cons t i h)) ∙ s.so_far

    pub small_dot : octet t i ≡ 46 → Some (record { number = n; next = Some (i + 1) }) ≡ small_at t at
    unfolding arc_from
    small_dot q = here (Some (i + 1)) ∙ (rw (eq-eqb (octet t i) 46 q) at step)

    module _ (q : octet t i ≡ 46 → ⊥) (g : ℕ) (e : g ≡ octet t i - 48) where
      on : small_arc (arc_from (digits_of (clip (n * 10 + g)) (after_digit s.form (octet t i))) (drop (i + 1) t) (i + 1)) ≡ small_at t at
      unfolding arc_from
      on =
          ap (λ (y : ℕ). small_arc (arc_from (digits_of (clip (n * 10 + y)) (after_digit s.form (octet t i))) (drop (i + 1) t) (i + 1))) e
          ∙ (rw (ne_eqb (octet t i) 46 q) at step)

      pub small-above : 4294967295 < n * 10 + g → None ≡ small_at t at
      small-above l = sym (above-stays (n * 10 + g) (after_digit s.form (octet t i)) (drop (i + 1) t) (i + 1) (omega arith)) ∙ on

      pub small-more : n * 10 + g ≤ 4294967295 → Reading t at (i + 1) (n * 10 + g)
      small-more l =
          let z : n * 10 + g < 18446744073709551616 = omega arith in
          record { small = omega arith; form = after_digit s.form (octet t i); so_far = rw (lt-ltb (n * 10 + g) 18446744073709551616 z) at on }

-- ---- what such an arc says of the arc at its place
pub record IsSmall (t : List ℕ) (at : ℕ) (arc : SmallArc) : Type 0 where
  pub size : (arc_at t at).size ≡ Some arc.number
  pub goes : (arc_at t at).next ≡ arc.next
  pub low : arc.number < 4294967296

large : (n : ℕ) (next : Option ℕ) → small_of (Some n) next ≡ None → 4294967296 ≤ n
large n next e = go (ltb n 4294967296) refl e
  where
    go : (u : Bool) → ltb n 4294967296 ≡ u → pick {A = Option SmallArc} u (Some (record { number = n; next = next })) None ≡ None → 4294967296 ≤ n
    go true l q = cc
    go false l q = omega (arith, ltb-false n 4294967296 l)

small_is : (t : List ℕ) (at : ℕ) (arc : SmallArc) (size : Option ℕ) → (arc_at t at).size ≡ size → small_of size (arc_at t at).next ≡ Some arc → IsSmall t at arc
small_is t at arc None e f = cc
small_is t at arc (Some m) e f = go (ltb m 4294967296) refl f
  where
    go : (u : Bool) → ltb m 4294967296 ≡ u → pick {A = Option SmallArc} u (Some (record { number = m; next = (arc_at t at).next })) None ≡ Some arc → IsSmall t at arc
    go true l q =
        let z : m ≡ arc.number = cc in
        let y : m < 4294967296 = ltb-true m 4294967296 l in
        record { size = e ∙ ap Some z; goes = cc; low = omega arith }
    go false l q = cc

pub small-known : (t : List ℕ) (at : ℕ) (arc : SmallArc) (r : Option SmallArc) → r ≡ small_at t at → r ≡ Some arc → IsSmall t at arc
unfolding small_at
small-known t at arc r e f = small_is t at arc (arc_at t at).size refl (sym e ∙ f)

-- one above: it is no stored one
pub above_arc : (size : Option ℕ) (next : Option ℕ) (n : ℕ) → small_of size next ≡ None → n < 4294967296 → same_arc size n ≡ false
above_arc None next n e h = refl
above_arc (Some m) next n e h = ne_eqb m n (λ q. let l = large m next e in omega arith)

pub above-small : (size : Option ℕ) (next : Option ℕ) → small_of size next ≡ None → is_small_size size ≡ false
above-small None next e = refl
above-small (Some m) next e = le-ltb m 4294967296 (large m next e)
