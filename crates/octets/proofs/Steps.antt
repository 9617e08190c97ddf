-- One lemma for each return and each turn of a loop; its premises are the facts as the code has them.
use mathlib.Core.Path.{◌≡◌, refl, sym, ap, ◌∙◌}
use mathlib.Core.Bool.{Bool, true, false, not, false≢true}
use Rattle.std.specs.Prelude.{Option, None, Some}
use mathlib.Core.List.{List, [], ◌∷◌}
use Prim.Native.Nat.{ℕ, suc, ◌≤◌, ◌<◌, ◌+◌, ◌-◌, ◌*◌, max}
use native.Mathlib.Omega.{arith}
use native.Mathlib.Nat.{add-zero}
use borrow.Author.Tests.{eq-eqb, ne_eqb, lt-ltb, le-ltb, ltb-false, leb-true}
use lib.Dec.{ltb, leb, eqb}
use lib.ListN.{length, take, drop}
use lib.Seq.{take-nil}
use Rattle.std.specs.Cmp.Lexicographic.{pointwise}
use Rattle.std.specs.Option.{is_some}
use Rattle.std.proofs.lemmas.Bool.Decides.{nat_tests}
use Rattle.octets.specs.Pick.{pick, both, either}
use Rattle.octets.specs.Octets.{octet, part, larger, same}
use Rattle.octets.specs.Inner.Answers.{highest_from, highest}
use Rattle.octets.specs.Text.{within, is_digit, is_hex, hex_value, starts, lead, skip, decimal_from, decimal}
use Rattle.octets.specs.Utf8.{after_first, after, utf8_from, utf8, may_end, awaits}
use Rattle.octets.specs.Quoted.{closing, closing_at}
use Rattle.octets.specs.Inner.Answers.{clip, grow_of}
use Rattle.octets.proofs.Laws.{rest-cons, rest-none, part-past, part-rest, either_in, both_true}
use Rattle.octets.proofs.TextLaws.{highest-cons}

-- ---- part
pub part_none : (s : List ℕ) (at n k : ℕ) → length s ≤ at → take k (drop (length s) s) ≡ part s at n
part_none s at n k h = rw (rest-none s (length s) (omega arith), part-past s at n h) (take-nil k)

pub part-most : (s : List ℕ) (at n : ℕ) → length s - at ≤ n → take (length s - at) (drop at s) ≡ part s at n
part-most s at n h = part-rest s at (length s - at) (omega arith) ∙ sym (part-rest s at n h)

pub part-exact : (s : List ℕ) (at n : ℕ) → take (at + n - at) (drop at s) ≡ part s at n
part-exact s at n = let e : at + n - at ≡ n = omega arith in rw e

-- ---- skip
module _ (s : List ℕ) (at i : ℕ) (inv : skip s at ≡ skip s i) where
  pub skip-stops : i < length s → (octet s i ≡ 32 → ⊥) → i ≡ skip s at
  unfolding skip lead
  skip-stops h e = sym (inv ∙ rw (rest-cons s i h, ne_eqb _ _ e) (add-zero _))

  pub skip-on : i < length s → octet s i ≡ 32 → skip s at ≡ skip s (i + 1)
  unfolding skip lead
  skip-on h e = inv ∙ rw (rest-cons s i h, eq-eqb _ _ e) (omega arith)

pub skip-past : (s : List ℕ) (at : ℕ) → length s ≤ at → at ≡ skip s at
unfolding skip lead
skip-past s at h = sym (rw (rest-none s at h) (add-zero _))

-- ---- starts
-- whether the front of a list is a word
pub starts-is : (w s : List ℕ) → pointwise eqb w (take (length w) s) ≡ starts w s
unfolding starts
starts-is [] s = refl
starts-is (w ∷ ws) [] = refl
starts-is (w ∷ ws) (b ∷ s) = grind (arith, nat_tests, starts-is ws s)

-- ---- sizes
-- one digit more of a clipped number
pub grow_clip : (n d : ℕ) → grow_of (clip n) d ≡ clip (n * 10 + d)
grow_clip n d = go (ltb n 18446744073709551616) refl
  where
    go : (t : Bool) → ltb n 18446744073709551616 ≡ t → grow_of (pick t (Some n) None) d ≡ clip (n * 10 + d)
    go true e = refl
    go false e = let g : 18446744073709551616 ≤ n * 10 + d = omega (arith, ltb-false) in rw (le-ltb _ _ g)

-- the size so far stands for a number n
pub record Decimal (s : List ℕ) (i : ℕ) (size : Option ℕ) : Type 0 where
  pub number : ℕ
  pub clipped : size ≡ clip number
  pub so_far : decimal_from number (drop i s) ≡ decimal s

pub decimal-start : (s : List ℕ) → Decimal s 0 (Some 0)
decimal-start s = record { number = 0; clipped = refl; so_far = refl }

pub decimal-more : (s : List ℕ) (i d : ℕ) (size grown : Option ℕ) → Decimal s i size → i < length s → d ≡ octet s i - 48 → grown ≡ grow_of size d → Decimal s (i + 1) grown
unfolding decimal_from
decimal-more s i d size grown p h e g = record {
  number = p.number * 10 + d;
  clipped = g ∙ ap (λ (x : Option ℕ). grow_of x d) p.clipped ∙ grow_clip p.number d;
  so_far = rw e (sym (ap (decimal_from p.number) (rest-cons s i h)) ∙ p.so_far);
}

pub decimal-done : (s : List ℕ) (i : ℕ) (size : Option ℕ) → Decimal s i size → length s ≤ i → size ≡ clip (decimal s)
unfolding decimal_from
decimal-done s i size p h = p.clipped ∙ ap clip (rw (rest-none s i h) at p.so_far)

-- ---- UTF-8
-- no octets are UTF-8 after one that may not come
none_from : (b : Option (ℕ × ℕ × ℕ)) (s : List ℕ) → is_some b ≡ false → false ≡ utf8_from b s
unfolding utf8_from after
none_from None [] e = refl
none_from None (x ∷ s) e = none_from None s e
none_from (Some t) s e = absurd (false≢true (sym e))

module _ (s : List ℕ) (i : ℕ) (a : Option (ℕ × ℕ × ℕ)) (inv : utf8_from a (drop i s) ≡ utf8 s) where
  pub utf8-more : (b : Option (ℕ × ℕ × ℕ)) → i < length s → b ≡ after a (octet s i) → utf8_from b (drop (i + 1) s) ≡ utf8 s
  unfolding utf8_from
  utf8-more b h e = rw e (sym (ap (utf8_from a) (rest-cons s i h)) ∙ inv)

  pub utf8-broken : (b : Option (ℕ × ℕ × ℕ)) → i < length s → b ≡ after a (octet s i) → (u : Bool) → is_some b ≡ not u → u ≡ true → false ≡ utf8 s
  utf8-broken b h e u n t = none_from b (drop (i + 1) s) (n ∙ ap not t) ∙ utf8-more b h e

  pub utf8-done : (u : Bool) → length s ≤ i → u ≡ may_end a → u ≡ utf8 s
  unfolding utf8_from
  utf8-done u h e = e ∙ (rw (rest-none s i h) at inv)

pub utf8-start : (s : List ℕ) → utf8_from (awaits 0) s ≡ utf8 s
unfolding utf8
utf8-start s = refl

-- text with no octet above 127
ascii_from : (n : ℕ) (s : List ℕ) → highest_from n s < 128 → utf8_from (awaits 0) s ≡ true
unfolding utf8_from after after_first
ascii_from n [] h = refl
ascii_from n (b ∷ s) h =
    let w = highest-cons n b s in
    let low : b < 128 = omega arith in
    let rest : highest_from (larger n b) s < 128 = omega arith in
    rw (lt-ltb b 128 low) (ascii_from (larger n b) s rest)

pub utf8_ascii : (s : List ℕ) (most : ℕ) → most ≡ highest s → most < 128 → true ≡ utf8 s
unfolding utf8
utf8_ascii s most e h = let g : highest s < 128 = omega arith in sym (ascii_from 0 s g)

-- ---- quoted strings
module _ (s : List ℕ) (at i : ℕ) (inv : closing (drop i s) i ≡ closing (drop at s) at) where
  pub closing-none : length s ≤ i → None ≡ closing (drop at s) at
  unfolding closing
  closing-none h = rw (rest-none s i h) at inv

  module _ (h : i < length s) where
    here : (x : Option ℕ) → closing (octet s i ∷ drop (i + 1) s) i ≡ x → x ≡ closing (drop at s) at
    here x e = sym e ∙ sym (ap (λ (l : List ℕ). closing l i) (rest-cons s i h)) ∙ inv

    pub closing-on : (octet s i ≡ 34 → ⊥) → closing (drop (i + 1) s) (i + 1) ≡ closing (drop at s) at
    unfolding closing
    closing-on e = here _ (go (drop (i + 1) s))
      where
        go : (l : List ℕ) → closing (octet s i ∷ l) i ≡ closing l (i + 1)
        go [] = rw (ne_eqb _ _ e)
        go (c ∷ l) = rw (ne_eqb _ _ e)

    module _ (quote : octet s i ≡ 34) where
      pub closing-last : length s - i < 2 → Some i ≡ closing (drop at s) at
      unfolding closing
      closing-last e =
          let g : length s ≤ i + 1 = omega arith in
          here _ (ap (λ (l : List ℕ). closing (octet s i ∷ l) i) (rest-none s (i + 1) g) ∙ rw (eq-eqb _ _ quote))

      module _ (g : 2 ≤ length s - i) where
        two : closing (octet s i ∷ drop (i + 1) s) i ≡ closing (octet s i ∷ octet s (i + 1) ∷ drop (i + 2) s) i
        two =
            let z : i + 1 < length s = omega arith in
            let next : i + 1 + 1 ≡ i + 2 = omega arith in
            ap (λ (l : List ℕ). closing (octet s i ∷ l) i) (rest-cons s (i + 1) z ∙ ap (λ (n : ℕ). octet s (i + 1) ∷ drop n s) next)

        pub closing-found : (octet s (i + 1) ≡ 34 → ⊥) → Some i ≡ closing (drop at s) at
        unfolding closing
        closing-found e = here _ (two ∙ rw (eq-eqb _ _ quote, ne_eqb _ _ e))

        pub closing-double : octet s (i + 1) ≡ 34 → closing (drop (i + 2) s) (i + 2) ≡ closing (drop at s) at
        unfolding closing
        closing-double e = here _ (two ∙ rw (eq-eqb _ _ quote, eq-eqb _ _ e))

-- b is what the code read at the place
module _ (s : List ℕ) (at b : ℕ) (told : b ≡ octet s at) where
  pub opening_other : (b ≡ 34 → ⊥) → None ≡ closing_at s at
  unfolding closing_at
  opening_other e = rw (ne_eqb _ _ (λ q. e (told ∙ q)))

  pub opening_is : (r : Option ℕ) → b ≡ 34 → r ≡ closing (drop (at + 1) s) (at + 1) → r ≡ closing_at s at
  unfolding closing_at
  opening_is r e h = rw (eq-eqb _ _ (sym told ∙ e)) h

-- ---- the largest octet: it is the largest of the one so far and the rest
max-larger : (a b : ℕ) → max a b ≡ larger a b
unfolding larger
max-larger a b = grind (arith, nat_tests)

module _ (s : List ℕ) (i most : ℕ) (inv : highest_from most (drop i s) ≡ highest s) where
  pub highest-more : (x : ℕ) → i < length s → x ≡ max most (octet s i) → highest_from x (drop (i + 1) s) ≡ highest s
  unfolding highest_from
  highest-more x h e = rw (e ∙ max-larger most (octet s i)) (sym (ap (highest_from most) (rest-cons s i h)) ∙ inv)

  pub highest-done : length s ≤ i → most ≡ highest s
  unfolding highest_from
  highest-done h = rw (rest-none s i h) at inv

-- ---- two texts
pub same_pointwise : (a b : List ℕ) → pointwise eqb a b ≡ same a b
unfolding same
same_pointwise [] [] = refl
same_pointwise [] (b ∷ s) = refl
same_pointwise (a ∷ l) [] = refl
same_pointwise (a ∷ l) (b ∷ s) = grind (arith, nat_tests, same_pointwise l s)

pub same-lengths : (a b : List ℕ) → (length a ≡ length b → ⊥) → false ≡ same a b
unfolding same
same-lengths [] [] n = absurd (n refl)
same-lengths [] (b ∷ bs) n = refl
same-lengths (a ∷ l) [] n = refl
same-lengths (a ∷ l) (b ∷ bs) n = go (eqb a b) (same-lengths l bs (λ e. n (ap suc e)))
  where
    go : (t : Bool) → false ≡ same l bs → false ≡ pick t (same l bs) false
    go true h = h
    go false h = refl

-- ---- two hexadecimal digits
hex-small : (c : ℕ) → is_hex c ≡ true → hex_value c ≤ 15
unfolding is_hex is_digit hex_value
hex-small c = either_in (within 48 57 c) (either (within 65 70 c) (within 97 102 c)) digit (either_in (within 65 70 c) (within 97 102 c) upper lower)
  where
    bounds : (a b : ℕ) → within a b c ≡ true → (a ≤ c) × (c ≤ b)
    bounds a b e = let w = both_true (leb a c) (leb c b) e in (leb-true a c w.0, leb-true c b w.1)

    digit : within 48 57 c ≡ true → pick (ltb c 65) (c - 48) (pick (ltb c 97) (c - 55) (c - 87)) ≤ 15
    digit e = let w = bounds 48 57 e in rw (lt-ltb c 65 (omega arith)) (omega arith)

    upper : within 65 70 c ≡ true → pick (ltb c 65) (c - 48) (pick (ltb c 97) (c - 55) (c - 87)) ≤ 15
    upper e = let w = bounds 65 70 e in rw (le-ltb c 65 (omega arith), lt-ltb c 97 (omega arith)) (omega arith)

    lower : within 97 102 c ≡ true → pick (ltb c 65) (c - 48) (pick (ltb c 97) (c - 55) (c - 87)) ≤ 15
    lower e = let w = bounds 97 102 e in rw (le-ltb c 65 (omega arith), le-ltb c 97 (omega arith)) (omega arith)

module _ (c d x : ℕ) (e : both (is_hex c) (is_hex d) ≡ true) (told : x ≡ hex_value c) where
  pub pair-times : x * 16 < 256
  pair-times = omega (arith, hex-small c (both_true (is_hex c) (is_hex d) e).0)

  pub pair-plus : (y : ℕ) → y ≡ hex_value d → x * 16 + y < 256
  pair-plus y f = omega (arith, hex-small c (both_true (is_hex c) (is_hex d) e).0, hex-small d (both_true (is_hex c) (is_hex d) e).1)
