-- Writing an operand: one lemma for each need, its premises as the code has them.
use mathlib.Core.Path.{◌≡◌, sym, ap, ap₂, ◌∙◌}
use mathlib.Core.Bool.{true}
use mathlib.Core.List.{List, [], ◌∷◌, ◌++◌, append_assoc, append-nil}
use Prim.Native.Nat.{ℕ, suc, ◌≤◌, ◌<◌, ◌+◌, ◌-◌, ◌*◌, ◌/◌, ◌%◌}
use native.Mathlib.Omega.{arith}
use native.Mathlib.Numerals.{add-one}
use lib.ListN.{length, take, drop, set, length-set}
use lib.Seq.{take-suc-set, length-take-le}
use Rattle.octets.specs.Octets.{octet}
use Rattle.octets.specs.Inner.Answers.{between}
use Rattle.octets.proofs.Laws.{rest-cons, rest-length}
use Rattle.strings.specs.Prepared.{prepared}
use Rattle.strings.specs.Inner.Escaped.{unescaped}
use Rattle.names.specs.Inner.Operand.{two_octets, attribute_octets}

-- ---- copying: the octets before place i stand in the memory, those from it on are to come
pub record Copying (p : List ℕ) (from to n : ℕ) (m₀ : List ℕ) (i : ℕ) (m : List ℕ) : Type 0 where
  pub start : take (n + (i - from)) m ++ between p i to ≡ take n m₀ ++ between p from to

pub copy_start : (p : List ℕ) (from to n : ℕ) (m : List ℕ) → Copying p from to n m from m
copy_start p from to n m = record { start = let e : n + (from - from) ≡ n = omega arith in ap (λ (k : ℕ). take k m ++ between p from to) e }

between_first : (p : List ℕ) (i to : ℕ) → i < to → to ≤ length p → between p i to ≡ octet p i ∷ between p (i + 1) to
between_first p i to h w = go
  where
    go : between p i to ≡ octet p i ∷ between p (i + 1) to
    go = ap (λ (l : List ℕ). take (to - i) l) (rest-cons p i (omega arith)) ∙ ap (λ (k : ℕ). take k (octet p i ∷ drop (i + 1) p)) more
      where
        more : to - i ≡ suc (to - (i + 1))
        more = omega arith

module _ (p : List ℕ) (from to n : ℕ) (m₀ : List ℕ) (i : ℕ) (m : List ℕ) (v : Copying p from to n m₀ i m) where
  pub copy_done : i ≡ to → take (n + (to - from)) m ≡ take n m₀ ++ between p from to
  copy_done e =
      ap (λ (k : ℕ). take (n + (k - from)) m) (sym e)
      ∙ sym (append-nil (take (n + (i - from)) m))
      ∙ ap (λ (l : List ℕ). take (n + (i - from)) m ++ l) (sym none)
      ∙ v.start
    where
      none : between p i to ≡ []
      none = let z : to - i ≡ 0 = omega arith in ap (λ (k : ℕ). take k (drop i p)) z

  pub copy_more : length m ≡ 5120 → from ≤ i → i < to → n + (to - from) ≤ 5120 → to ≤ length p
      → Copying p from to n m₀ (i + 1) (set m (n + (i - from)) (octet p i))
  copy_more l b h short w = record {
    start =
        let e : n + (i + 1 - from) ≡ suc (n + (i - from)) = omega arith in
        rw (
          e,
          take-suc-set m (n + (i - from)) (octet p i) (omega arith),
          append_assoc (take (n + (i - from)) m) (octet p i ∷ []) (between p (i + 1) to),
        )
        (ap (λ (l : List ℕ). take (n + (i - from)) m ++ l) (sym (between_first p i to h w)) ∙ v.start);
  }

-- ---- a number in two octets
pub two-written : (m : List ℕ) (n k : ℕ) → length m ≡ 5120 → n + 2 ≤ 5120
    → take (n + 2) (set (set m n (k / 256)) (n + 1) (k % 256)) ≡ take n m ++ two_octets k
two-written m n k l h =
    let e : n + 2 ≡ suc (n + 1) = omega arith in
    ap (λ (y : ℕ). take y (set (set m n (k / 256)) (n + 1) (k % 256))) e
    ∙ take-suc-set (set m n (k / 256)) (n + 1) (k % 256) (omega (arith, length-set m n (k / 256)))
    ∙ ap (λ (y : List ℕ). y ++ (k % 256 ∷ [])) (ap (λ (y : ℕ). take y (set m n (k / 256))) (add-one n) ∙ take-suc-set m n (k / 256) (omega arith))
    ∙ append_assoc (take n m) (k / 256 ∷ []) (k % 256 ∷ [])

pub two-long : (m : List ℕ) (n a b : ℕ) → length m ≡ 5120 → length (set (set m n a) (n + 1) b) ≡ 5120
two-long m n a b l = length-set (set m n a) (n + 1) b ∙ length-set m n a ∙ l

pub lengths-written : (a b n next r : ℕ) (m m₁ m₂ : List ℕ) → take next m₁ ≡ take n m ++ two_octets a → take r m₂ ≡ take next m₁ ++ two_octets b
    → take r m₂ ≡ take n m ++ (two_octets a ++ two_octets b)
lengths-written a b n next r m m₁ m₂ e f = f ∙ ap (λ (x : List ℕ). x ++ two_octets b) e ∙ append_assoc (take n m) (two_octets a) (two_octets b)

-- ---- an attribute
pub between-length : (p : List ℕ) (a b : ℕ) → b ≤ length p → length (between p a b) ≡ b - a
between-length p a b w = length-take-le (b - a) (drop a p) (omega (arith, rest-length p a))

pub lengths-small : (p : List ℕ) (equals end text lengths : ℕ) (v : List ℕ) → end ≤ length p → length p ≤ 2048 → v ≡ between p (equals + 1) end
    → 2 * lengths ≤ 2 * text + 5 * length v → lengths - text < 65536
lengths-small p equals end text lengths v within short value most = omega (arith, ap length value ∙ between-length p (equals + 1) end within)

module _ (p : List ℕ) (at equals end n : ℕ) (typed : at + 3 ≤ equals) (valued : equals < end) (within : end ≤ length p) (short : length p ≤ 2048)
    (behind : 2 * n ≤ 5 * at) where
  pub type-room : n + (equals - at) ≤ 5120
  type-room = omega arith

  module _ (text : ℕ) (after-type : text ≡ n + (equals - at)) (v : List ℕ) (value : v ≡ between p (equals + 1) end) where
    value-length : length v ≡ end - (equals + 1)
    value-length = ap length value ∙ between-length p (equals + 1) end within

    pub value_room : 2 * text + 5 * length v ≤ 10240
    value_room = omega (arith, value-length)

    module _ (lengths : ℕ) (most : 2 * lengths ≤ 2 * text + 5 * length v) where
      pub lengths-room : lengths + 4 ≤ 5120
      lengths-room = omega (arith, value-length)

      pub attribute-most : (r : ℕ) → r ≡ lengths + 4 → 2 * r + 6 ≤ 5 * end
      attribute-most r e = omega (arith, value-length)

  pub type-small : equals - at < 65536
  type-small = omega arith

  pub type-within : equals ≤ length p
  type-within = omega arith

  pub attribute-written : (text lengths r : ℕ) (v m m₁ m₂ m₃ : List ℕ) → v ≡ between p (equals + 1) end
      → take text m₁ ≡ take n m ++ between p at equals
      → take lengths m₂ ≡ take text m₁ ++ prepared true (unescaped v) → lengths ≡ text + length (prepared true (unescaped v))
      → take r m₃ ≡ take lengths m₂ ++ (two_octets (equals - at) ++ two_octets (lengths - text))
      → take r m₃ ≡ take n m ++ attribute_octets (record { type = between p at equals; value = unescaped (between p (equals + 1) end) })
  attribute-written text lengths r v m m₁ m₂ m₃ value e f place g =
      let type-is : equals - at ≡ length (between p at equals) = sym (between-length p at equals (omega arith)) in
      let text-is : lengths - text ≡ length (prepared true (unescaped v)) = omega arith in
      g ∙ ap₂ (λ (x y : List ℕ). x ++ y) (f ∙ ap (λ (x : List ℕ). x ++ prepared true (unescaped v)) e)
      (ap₂ (λ (j k : ℕ). two_octets j ++ two_octets k) type-is text-is)
      ∙ append_assoc (take n m ++ between p at equals) (prepared true (unescaped v))
      (two_octets (length (between p at equals)) ++ two_octets (length (prepared true (unescaped v))))
      ∙ append_assoc (take n m) (between p at equals)
      (prepared true (unescaped v) ++ (two_octets (length (between p at equals)) ++ two_octets (length (prepared true (unescaped v)))))
      ∙ ap (λ (y : List ℕ). take n m ++ attribute_octets (record { type = between p at equals; value = unescaped y })) value
