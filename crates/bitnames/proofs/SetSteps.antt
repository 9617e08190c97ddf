-- The bits that a list names: one lemma for each return and each turn of the loop.
use mathlib.Core.Path.{◌≡◌, refl, sym, ap, ap₂, ◌∙◌, subst}
use mathlib.Core.Bool.{Bool, true, false, not}
use Rattle.std.specs.Prelude.{Option, None, Some}
use mathlib.Core.List.{List, [], ◌∷◌, ◌++◌, map, append_assoc, append-nil}
use Prim.Native.Nat.{ℕ, zero, suc, ◌≤◌, ◌<◌, ◌+◌, ◌-◌, ◌/◌, ◌%◌, ◌^◌}
use native.Mathlib.Omega.{arith}
use borrow.Author.Tests.{le-leb, lt-leb, eq-eqb, ne_eqb, eqb-true, eqb-false, ltb-true, ltb-false, not-true, not-false}
use lib.Bits.{bit_or}
use lib.ListN.{length, drop}
use lib.Dec.{ltb, leb, eqb}
use Rattle.octets.specs.Pick.{pick, either, bind}
use Rattle.octets.specs.Octets.{part}
use Rattle.digits.specs.Inner.Masks.{low_bits, mask_bits}
use Rattle.gser.specs.Listed.{after_spaces, in_braces, inside, parted, listed}
use Rattle.gser.specs.Inner.Parts.{parted_behind}
use Rattle.types.specs.Types.{NamedBit}
use Rattle.types.specs.Inner.Work.{bit_of}
use Rattle.types.proofs.BitSets.{bit_none, bit_or_lem, bit_one}
use Rattle.bitnames.specs.Names.{number_of, numbers_of, is_in, bits_listed, listed_bits}
use Rattle.bitnames.specs.Inner.Sets.{report_number, Low, texts_from, bits_of_texts}

-- ---- sets
in_append : (i : ℕ) (a b : List ℕ) → is_in i (a ++ b) ≡ either (is_in i a) (is_in i b)
unfolding is_in
in_append i [] b = refl
in_append i (m ∷ a) b = ap (either (eqb i m)) (in_append i a b) ∙ go (eqb i m)
  where
    go : (u : Bool) → either u (either (is_in i a) (is_in i b)) ≡ either (either u (is_in i a)) (is_in i b)
    go true = refl
    go false = refl

none_of_lem : (i : ℕ) → is_in i [] ≡ false
unfolding is_in
none_of_lem i = refl

-- the bits of a number, where each is told by a list
bits_told : (k n m : ℕ) (ns : List ℕ) → ((i : ℕ) → i < k → bit_of m i ≡ is_in (n + i) ns) → low_bits k m ≡ bits_listed k n ns
unfolding low_bits bits_listed bit_of
bits_told zero n m ns f = refl
bits_told (suc k) n m ns f = ap₂ (λ (x : ℕ) (l : List ℕ). x ∷ l) (digit (is_in n ns) first) (bits_told k (n + 1) (m / 2) ns (λ i h. f (suc i) (omega arith)
    ∙ next i))
  where
    first : eqb (m % 2) 1 ≡ is_in n ns
    first = let z : n + 0 ≡ n = omega arith in f 0 (omega arith) ∙ ap (λ (x : ℕ). is_in x ns) z

    next : (i : ℕ) → is_in (n + suc i) ns ≡ is_in (n + 1 + i) ns
    next i = let z : n + suc i ≡ n + 1 + i = omega arith in ap (λ (x : ℕ). is_in x ns) z

    digit : (u : Bool) → eqb (m % 2) 1 ≡ u → m % 2 ≡ pick u 1 0
    digit true e = eqb-true (m % 2) 1 e
    digit false e = let z = eqb-false (m % 2) 1 e in low (m % 2) (omega arith) z
      where
        low : (d : ℕ) → d < 2 → (d ≡ 1 → ⊥) → d ≡ 0
        low d h n = omega arith

-- ---- texts
pub number-low : (r : Option ℕ) (n : ℕ) → Low r → r ≡ Some n → n < 64
number-low r n h e = subst Low e h

-- a text, and the texts behind its comma
texts_first : (s : List ℕ) (at e : ℕ) → at ≤ length s → parted (drop at s) ≡ part s at (e - at) ∷ parted_behind s e
    → texts_from s at ≡ after_spaces (part s at (e - at)) ∷ texts_from s (e + 1)
unfolding texts_from parted_behind
texts_first s at e h q =
    ap (λ (b : Bool). pick b (map after_spaces (parted (drop at s))) []) (le-leb at (length s) h)
    ∙ ap (map after_spaces) q
    ∙ ap (λ (l : List (List ℕ)). after_spaces (part s at (e - at)) ∷ l) (go (ltb e (length s)) refl)
  where
    go : (u : Bool) → ltb e (length s) ≡ u
        → map after_spaces (pick u (parted (drop (e + 1) s)) []) ≡ pick (leb (e + 1) (length s)) (map after_spaces (parted (drop (e + 1) s))) []
    go true r = let l = ltb-true e (length s) r in rw (le-leb (e + 1) (length s) (omega arith))
    go false r = let l = ltb-false e (length s) r in rw (lt-leb (e + 1) (length s) (omega arith))

abbrev joined : List ℕ → Option (List ℕ) → Option (List ℕ)
joined ds None = None
joined ds (Some ns) = Some (ds ++ ns)

-- the numbers of the texts before place `at` are found, and the set has them
pub record Gathering (names : List NamedBit) (s : List ℕ) (at set : ℕ) : Type 0 where
  pub found : List ℕ
  pub bits : (i : ℕ) → i < 64 → bit_of set i ≡ is_in i found
  pub rest : joined found (numbers_of names (texts_from s at)) ≡ numbers_of names (texts_from s 0)
  pub inside : at ≤ length s + 1

module _ (names : List NamedBit) (s : List ℕ) where
  pub gather_start : Gathering names s 0 0
  unfolding is_in
  gather_start = record { found = []; bits = λ i h. bit_none i; rest = same (numbers_of names (texts_from s 0)); inside = omega arith }
    where
      same : (o : Option (List ℕ)) → joined [] o ≡ o
      same None = refl
      same (Some ns) = refl

  module _ (at set : ℕ) (inv : Gathering names s at set) where
    pub gather_done : length s < at → Some (mask_bits set) ≡ bits_of_texts names (texts_from s 0)
    unfolding bits_of_texts texts_from numbers_of
    gather_done h =
        ap Some (bits_told 64 0 set inv.found (λ i l. let z : i ≡ 0 + i = omega arith in inv.bits i l ∙ ap (λ (y : ℕ). is_in y inv.found) z))
        ∙ ap (λ (o : Option (List ℕ)). bind o (λ ns. Some (bits_listed 64 0 ns))) (ap Some (sym (append-nil inv.found))
        ∙ sym (ap (joined inv.found) none_left) ∙ inv.rest)
      where
        none_left : numbers_of names (texts_from s at) ≡ Some []
        none_left = rw (lt-leb at (length s) h)

    module _ (h : at ≤ length s) (e start : ℕ) (r : Option ℕ) (parts : parted (drop at s) ≡ part s at (e - at) ∷ parted_behind s e)
        (text : part s start (e - start) ≡ after_spaces (part s at (e - at))) (told : report_number r ≡ number_of names (part s start (e - start))) where
      first : numbers_of names (texts_from s at) ≡ bind (report_number r) (λ n. bind (numbers_of names (texts_from s (e + 1))) (λ ns. Some (n ∷ ns)))
      unfolding numbers_of
      first =
          ap (numbers_of names) (texts_first s at e h parts)
          ∙ ap (λ (o : Option ℕ). bind o (λ n. bind (numbers_of names (texts_from s (e + 1))) (λ ns. Some (n ∷ ns)))) (sym (told ∙ ap (number_of names) text))

      pub gather_unknown : r ≡ None → None ≡ bits_of_texts names (texts_from s 0)
      unfolding bits_of_texts
      gather_unknown q =
          ap (λ (o : Option (List ℕ)). bind o (λ ns. Some (bits_listed 64 0 ns)))
          (sym (ap (joined inv.found) (first
          ∙ ap (λ (y : Option ℕ). bind (report_number y) (λ n. bind (numbers_of names (texts_from s (e + 1))) (λ ns. Some (n ∷ ns)))) q)) ∙ inv.rest)

      pub gather_next : (n bit : ℕ) → r ≡ Some n → bit ≡ 2 ^ n → e ≤ length s → Gathering names s (e + 1) (bit_or set bit)
      unfolding is_in
      gather_next n bit q b l =
          record { found = inv.found ++ (n ∷ []); bits = one; rest = more (numbers_of names (texts_from s (e + 1))) refl; inside = omega arith }
        where
          or : (x y : Bool) → pick x true y ≡ either x (either y false)
          or true y = refl
          or false true = refl
          or false false = refl

          one : (i : ℕ) → i < 64 → bit_of (bit_or set bit) i ≡ is_in i (inv.found ++ (n ∷ []))
          one i d =
              bit_or_lem i set bit
              ∙ ap₂ (λ (x y : Bool). pick x true y) (inv.bits i d) (ap (λ (x : ℕ). bit_of x i) b ∙ bit_one i n)
              ∙ or (is_in i inv.found) (eqb i n)
              ∙ sym (in_append i inv.found (n ∷ []))

          glue : (o : Option (List ℕ)) → joined (inv.found ++ (n ∷ [])) o ≡ joined inv.found (bind o (λ ns. Some (n ∷ ns)))
          glue None = refl
          glue (Some ns) = ap Some (append_assoc inv.found (n ∷ []) ns)

          more : (o : Option (List ℕ)) → numbers_of names (texts_from s (e + 1)) ≡ o → joined (inv.found ++ (n ∷ [])) o ≡ numbers_of names (texts_from s 0)
          more o z =
              glue o
              ∙ ap (λ (x : Option (List ℕ)). joined inv.found (bind x (λ ns. Some (n ∷ ns)))) (sym z)
              ∙ sym (ap (joined inv.found) (first
              ∙ ap (λ (y : Option ℕ). bind (report_number y) (λ m. bind (numbers_of names (texts_from s (e + 1))) (λ ns. Some (m ∷ ns)))) q))
              ∙ inv.rest

-- ---- the whole text
module _ (names : List NamedBit) (text : List ℕ) (u : Bool) (told : u ≡ in_braces text) where
  pub list-none : not u ≡ true → None ≡ listed_bits names text
  unfolding listed_bits listed
  list-none h = rw (sym told ∙ not-true u h)

  module _ (h : not u ≡ false) (s : List ℕ) (is : s ≡ inside text) where
    pub list-empty : length s ≡ 0 → Some (mask_bits 0) ≡ listed_bits names text
    unfolding listed_bits listed numbers_of
    list-empty e = rw (sym told ∙ not-false u h, ← is, eq-eqb (length s) 0 e) (ap Some (bits_told 64 0 0 [] none_in))
      where
        none_in : (i : ℕ) → i < 64 → bit_of 0 i ≡ is_in (0 + i) []
        none_in i l = bit_none i ∙ sym (none_of_lem (0 + i))

    pub list-bits : (r : Option (List ℕ)) → (length s ≡ 0 → ⊥) → r ≡ bits_of_texts names (texts_from s 0) → r ≡ listed_bits names text
    unfolding listed_bits listed bits_of_texts texts_from
    list-bits r n e =
        let l : 0 ≤ length s = omega arith in
        rw (sym told ∙ not-false u h, ← is, ne_eqb (length s) 0 n) (rw (le-leb 0 (length s) l) at e)
