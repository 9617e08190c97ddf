-- Subidentifiers: the join by a shift and a mask, and the turns of the loops.
use mathlib.Core.Path.{◌≡◌, refl, sym, ap, ap₂, ◌∙◌}
use mathlib.Core.Bool.{Bool, true, false}
use Rattle.std.specs.Prelude.{Option, None, Some}
use mathlib.Core.List.{List, [], ◌∷◌}
use Prim.Native.Nat.{ℕ, suc, ◌≤◌, ◌<◌, ◌+◌, ◌-◌, ◌*◌, ◌%◌, ◌^◌}
use native.Mathlib.Omega.{arith}
use native.Mathlib.Nat.{mod-eq_of_lt}
use borrow.Author.Tests.{eq-eqb, ne_eqb, lt-ltb, le-ltb, lt-leb, le-leb}
use lib.Dec.{ltb, leb}
use lib.Bits.{bit_and, bit_or, and_mask, or_shifted}
use lib.ListN.{length, drop}
use Rattle.octets.specs.Pick.{pick, consed}
use Rattle.octets.specs.Octets.{octet}
use Rattle.octets.specs.Text.{within}
use Rattle.octets.proofs.Laws.{rest-cons, rest-none}
use Rattle.der.specs.Contents.{subs_from, subidentifiers, legal_subs, legal_oid}
use Rattle.der.specs.Inner.Answers.{report_sub, Forward}
use Rattle.der.specs.declared.Sub.{Sub}

-- (v << 7) | (o & 127), where the shift loses nothing
pub join : (v o : ℕ) → v ≤ 33554431 → bit_or (v * 2 ^ 7 % 2 ^ 32) (bit_and o 127) ≡ v * 128 + o % 128
join v o h =
    let small : v * 2 ^ 7 < 2 ^ 32 = omega arith in
    let low : o % 128 < 128 = omega arith in
    ap₂ bit_or (mod-eq_of_lt small) (and_mask o 7) ∙ or_shifted v 7 (o % 128) low

pub sub-end : (c : List ℕ) (at : ℕ) → length c ≤ at → Some [] ≡ subidentifiers (drop at c)
unfolding subidentifiers subs_from
sub-end c at h = rw (rest-none c at h)

module _ (c : List ℕ) (at : ℕ) (h : at < length c) where
  pub sub_80 : octet c at ≡ 128 → None ≡ subidentifiers (drop at c)
  unfolding subidentifiers subs_from
  sub_80 e = rw (rest-cons c at h, eq-eqb _ _ e)

  -- at its first octet a subidentifier is read as further on
  pub sub-start : (octet c at ≡ 128 → ⊥) → subs_from true 0 (drop at c) ≡ subidentifiers (drop at c)
  unfolding subidentifiers subs_from
  sub-start e = rw (rest-cons c at h, ne_eqb _ _ e)

module _ (c : List ℕ) (at i v : ℕ) (inv : subs_from true v (drop i c) ≡ subidentifiers (drop at c)) where
  pub sub_cut : length c ≤ i → None ≡ subidentifiers (drop at c)
  unfolding subs_from
  sub_cut h = rw (rest-none c i h) at inv

  module _ (h : i < length c) where
    here : subs_from true v (octet c i ∷ drop (i + 1) c) ≡ subidentifiers (drop at c)
    here = sym (ap (subs_from true v) (rest-cons c i h)) ∙ inv

    pub sub-over : 33554431 < v → None ≡ subidentifiers (drop at c)
    unfolding subs_from
    sub-over g = let e : 4294967295 < v * 128 + octet c i % 128 = omega arith in rw (lt-ltb _ _ e) at here

    -- w is the octet's lower seven bits as the code has them
    module _ (g : v ≤ 33554431) (w : ℕ) (low : w ≡ bit_and (octet c i) 127) where
      small : ltb 4294967295 (v * 128 + octet c i % 128) ≡ false
      small = let e : v * 128 + octet c i % 128 ≤ 4294967295 = omega arith in le-ltb _ _ e

      pub sub-value : octet c i < 128 → consed (bit_or (v * 2 ^ 7 % 2 ^ 32) w) (subidentifiers (drop (i + 1) c)) ≡ subidentifiers (drop at c)
      unfolding subs_from subidentifiers
      sub-value l = rw (low, join v (octet c i) g) (rw (small, lt-leb _ _ l) at here)

      pub sub_more : 128 ≤ octet c i → subs_from true (bit_or (v * 2 ^ 7 % 2 ^ 32) w) (drop (i + 1) c) ≡ subidentifiers (drop at c)
      unfolding subs_from
      sub_more l = rw (low, join v (octet c i) g) (rw (small, le-leb _ _ l) at here)

-- ---- their number: k have been read
abbrev pub legal_from : ℕ → Option (List ℕ) → Bool
legal_from k None = false
legal_from k (Some l) = within 1 32 (k + length l)

pub oid-start : (c : List ℕ) → legal_from 0 (subidentifiers c) ≡ legal_oid c
unfolding legal_oid
oid-start c = go (subidentifiers c)
  where
    go : (o : Option (List ℕ)) → legal_from 0 o ≡ legal_subs o
    go None = refl
    go (Some l) = let e : 0 + length l ≡ length l = omega arith in rw e

one_more : (k m : ℕ) (o : Option (List ℕ)) → legal_from k (consed m o) ≡ legal_from (k + 1) o
one_more k m None = refl
one_more k m (Some l) = let e : k + suc (length l) ≡ k + 1 + length l = omega arith in rw e

full : (m : ℕ) (o : Option (List ℕ)) → legal_from 32 (consed m o) ≡ false
full m None = refl
full m (Some l) =
    let e : 1 ≤ 32 + suc (length l) = omega arith in
    let f : 32 < 32 + suc (length l) = omega arith in
    rw (le-leb _ _ e, lt-leb _ _ f)

module _ (c : List ℕ) (i n : ℕ) (few : n ≤ 32) (inv : legal_from n (subidentifiers (drop i c)) ≡ legal_oid c) where
  count : leb 1 n ≡ legal_from n (Some [])
  count = let e : n + 0 ≡ n = omega arith in rw (e, le-leb n 32 few) (go (leb 1 n))
    where
      go : (t : Bool) → t ≡ pick t true false
      go true = refl
      go false = refl

  pub oid-done : length c ≤ i → leb 1 n ≡ legal_oid c
  unfolding subidentifiers subs_from
  oid-done h = count ∙ (rw (rest-none c i h) at inv)

  module _ (s : Sub) (read : report_sub c s ≡ subidentifiers (drop i c)) where
    pub oid-end : s ≡ Sub.End → leb 1 n ≡ legal_oid c
    oid-end e = count ∙ ap (legal_from n) (sym (ap (report_sub c) e) ∙ read) ∙ inv

    pub oid-broken : s ≡ Sub.Broken → false ≡ legal_oid c
    oid-broken e = ap (legal_from n) (sym (ap (report_sub c) e) ∙ read) ∙ inv

    module _ (m next : ℕ) (e : s ≡ Sub.Value m next) where
      value : legal_from n (consed m (subidentifiers (drop next c))) ≡ legal_oid c
      value = ap (legal_from n) (sym (ap (report_sub c) e) ∙ read) ∙ inv

      pub oid_full : n ≡ 32 → false ≡ legal_oid c
      oid_full h = sym (full m (subidentifiers (drop next c))) ∙ ap (λ (k : ℕ). legal_from k (consed m (subidentifiers (drop next c)))) (sym h) ∙ value

      pub oid-more : legal_from (n + 1) (subidentifiers (drop next c)) ≡ legal_oid c
      oid-more = sym (one_more n m (subidentifiers (drop next c))) ∙ value

pub oid_falls : (c : List ℕ) (i m next : ℕ) (s : Sub) → i < length c → Forward c i s → s ≡ Sub.Value m next → length c - next < length c - i
oid_falls c i m next s h f e = let w : (i < next) × (next ≤ length c) = rw e at f in omega arith
