-- One lemma for each return; its premises are the facts as the code has them.
use Rattle.std.specs.Prelude.{Some, None}
use mathlib.Core.Path.{◌≡◌, refl, sym, ap, ◌∙◌}
use mathlib.Core.Bool.{Bool, true, false}
use mathlib.Core.List.{List}
use Prim.Native.Nat.{ℕ, ◌≤◌, ◌<◌, ◌+◌, ◌-◌}
use native.Mathlib.Omega.{arith}
use borrow.Author.Tests.{lt-ltb, le-ltb, ltb-true, ltb-false, leb-true}
use lib.Dec.{ltb, leb}
use Rattle.octets.specs.Pick.{pick, both}
use Rattle.octets.specs.Octets.{octet, base_from}
use Rattle.octets.specs.Inner.Answers.{clip}
use Rattle.octets.proofs.Laws.{both_true}
use Rattle.der.specs.Meaning.{Whole, plus, integer_of}
use Rattle.der.specs.Inner.Answers.{report_integer}
use Rattle.der.specs.declared.Integer.{Integer}
use Rattle.integers.specs.Inner.Answers.{held_of}
use Rattle.integers.specs.Inner.Bounds.{fits, lifted, minus_bound, plus_bound, bound_of, minus_bound_of, plus_bound_of}
use Rattle.integers.specs.declared.Asked.{Asked}
use Rattle.integers.specs.declared.Bound.{Bound}

-- ---- bounds
minus-clip : (n : ℕ) → minus_bound_of (clip n) ≡ minus_bound n
minus-clip n = go (ltb n 18446744073709551616) refl
  where
    go : (u : Bool) → ltb n 18446744073709551616 ≡ u → minus_bound_of (pick u (Some n) None) ≡ minus_bound n
    go true e = refl
    go false e = let h : 9223372036854775808 < n = omega (arith, ltb-false n 18446744073709551616 e) in rw (lt-ltb 9223372036854775808 n h)

plus-clip : (n : ℕ) → plus_bound_of (clip n) ≡ plus_bound n
plus-clip n = go (ltb n 18446744073709551616) refl
  where
    go : (u : Bool) → ltb n 18446744073709551616 ≡ u → plus_bound_of (pick u (Some n) None) ≡ plus_bound n
    go true e = refl
    go false e = let h : 9223372036854775808 ≤ n = omega (arith, ltb-false n 18446744073709551616 e) in rw (le-ltb n 9223372036854775808 h)

module _ (a : Asked) (w : Whole) (r : Bound) (read : a ≡ held_of w) where
  pub bound_minus : a.minus ≡ true → r ≡ minus_bound_of a.size → r ≡ bound_of w
  unfolding bound_of
  bound_minus h e = rw (sym (ap (λ (x : Asked). x.minus) read) ∙ h) (e ∙ ap (λ (x : Asked). minus_bound_of x.size) read ∙ minus-clip w.size)

  pub bound_plus : a.minus ≡ false → r ≡ plus_bound_of a.size → r ≡ bound_of w
  unfolding bound_of
  bound_plus h e = rw (sym (ap (λ (x : Asked). x.minus) read) ∙ h) (e ∙ ap (λ (x : Asked). plus_bound_of x.size) read ∙ plus-clip w.size)

-- ---- lifted
pub count-is : (n : ℕ) → 9223372036854775808 + n ≡ lifted (plus n)
unfolding lifted
count-is n = refl

module _ (c : List ℕ) (u : Bool) (sign : u ≡ leb 128 (octet c 0)) (f : fits (integer_of c) ≡ true) where
  module _ (h : u ≡ false) (n : ℕ) (e : n ≡ base_from 0 c) where
    plain-is : integer_of c ≡ plus n
    unfolding integer_of
    plain-is = rw (sym sign ∙ h, e)

    pub lift_room : 9223372036854775808 + n < 18446744073709551616
    unfolding fits
    lift_room = let s : ltb n 9223372036854775808 ≡ true = sym (ap fits plain-is) ∙ f in omega (arith, ltb-true n 9223372036854775808 s)

    pub lift_plus : 9223372036854775808 + n ≡ lifted (integer_of c)
    lift_plus = count-is n ∙ ap lifted (sym plain-is)

  module _ (h : u ≡ true) (i : Integer) (e : report_integer i ≡ integer_of c) where
    negative : i.minus ≡ true
    unfolding integer_of
    negative = ap (λ (x : Whole). x.minus) e ∙ rw (sym sign ∙ h)

    pub lift_low : i.size ≤ 9223372036854775808
    unfolding fits
    lift_low =
        let s : both (leb 1 i.size) (leb i.size 9223372036854775808) ≡ true = rw negative at (ap fits e ∙ f) in
        leb-true i.size 9223372036854775808 (both_true (leb 1 i.size) (leb i.size 9223372036854775808) s).1

    pub lift_minus : 9223372036854775808 - i.size ≡ lifted (integer_of c)
    unfolding lifted
    lift_minus = sym (rw negative) ∙ ap lifted e
