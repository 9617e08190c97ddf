-- Laws of elements that are read one after another, and of marks.
use mathlib.Core.Path.{◌≡◌, refl, sym, ap, ap₂, ◌∙◌}
use mathlib.Core.Bool.{Bool, true, false}
use Rattle.std.specs.Prelude.{Option, None, Some}
use mathlib.Core.List.{List, [], ◌∷◌, map, map-map}
use Prim.Native.Nat.{ℕ, zero, suc, ◌≤◌, ◌<◌, ◌+◌, ◌-◌, ◌*◌, ◌/◌, ◌%◌}
use native.Mathlib.Omega.{arith}
use native.Mathlib.Nat.{mul-add, mul_assoc}
use borrow.Author.Tests.{eqb-true}
use lib.ListN.{length}
use lib.Dec.{leb, eqb}
use Rattle.octets.specs.Pick.{pick, both, consed}
use Rattle.der.specs.Kind.{is_constructed}
use Rattle.der.specs.Tag.{universal_text, universal, own_octet}
use Rattle.der.specs.Header.{inside_at, opened}
use Rattle.der.specs.Names as stored-names
use Rattle.der.specs.Names.{Element, element_at, elements_from, elements_of, pair_of, name_of}
use Rattle.der.proofs.Laws.{inside-long, inside-within}
use Rattle.der.proofs.NameLaws.{elements_next}
use Rattle.names.specs.Compared.{Compared, same_pair, stored, stored_rdn, stored_name, without}
use Rattle.names.specs.Inner.Operand.{type_start, attributes_back}
use Rattle.names.proofs.Matching.{without-cons}
use Rattle.namematch.specs.Inner.Marks.{unused, behind, marked}
use Rattle.namematch.specs.Inner.Names.{rdn_of}

-- ---- elements: 30 is the tag octet of a pair, 31 that of an RDN
abbrev pub pair_in : Element → Compared
pair_in e = stored (pair_of e.contents)

pub rdn_elements : (c : List ℕ) → stored_rdn c ≡ map pair_in (elements_of (elements_from 4 48 c 0))
unfolding stored-names.rdn_of own_octet universal universal_text is_constructed
rdn_elements c = map-map stored (λ e. pair_of e.contents) (elements_of (elements_from 4 48 c 0))

pub name_elements : (c : List ℕ) → stored_name c ≡ map rdn_of (elements_of (elements_from 16 49 c 0))
unfolding name_of own_octet universal universal_text is_constructed
name_elements c = map-map (map stored) (λ e. stored-names.rdn_of e.contents) (elements_of (elements_from 16 49 c 0))

abbrev pub how_many : ℕ → ℕ → List ℕ → ℕ → ℕ
how_many m o c at = length (elements_of (elements_from m o c at))

nothing : (u : Bool) → length (elements_of (pick u (Some []) None)) ≡ 0
nothing true = refl
nothing false = refl

-- nothing opens: no element is left
pub none_left : (m o : ℕ) (c : List ℕ) (at : ℕ) → inside_at o c at (length c) ≡ None → how_many m o c at ≡ 0
unfolding elements_from
none_left zero o c at e = nothing (leb (length c) at)
none_left (suc m) o c at e = rw e (nothing (leb (length c) at))

first_of : (b : Element) (o : Option (List Element)) → 0 < length (elements_of (consed b o)) → elements_of (consed b o) ≡ b ∷ elements_of o
first_of b None h = absurd (omega arith)
first_of b (Some es) h = refl

-- the element at a place, and those behind it: i of n lie before it
pub next_element : (most o : ℕ) (c : List ℕ) (n i at start len : ℕ) → i < n → n ≤ most → i + how_many (most - i) o c at ≡ n
    → inside_at o c at (length c) ≡ Some (start, len)
    → elements_of (elements_from (most - i) o c at) ≡ element_at c at start len ∷ elements_of (elements_from (most - (i + 1)) o c (start + len))
next_element most o c n i at start len h l k e = unfolded ∙ first_of (element_at c at start len) (elements_from (most - (i + 1)) o c (start + len)) some_left
  where
    inside : at < length c
    inside = let a = inside-long o c at (length c) start len e in let b = inside-within o c at (length c) start len e in omega arith

    unfolded : elements_of (elements_from (most - i) o c at) ≡ elements_of (consed (element_at c at start len) (elements_from (most - (i + 1)) o c (start + len)))
    unfolded =
        let z : most - i ≡ suc (most - (i + 1)) = omega arith in
        ap (λ (m : ℕ). elements_of (elements_from m o c at)) z ∙ ap elements_of (elements_next o c at inside (most - (i + 1)) start len e)

    some_left : 0 < length (elements_of (consed (element_at c at start len) (elements_from (most - (i + 1)) o c (start + len))))
    some_left = let q : how_many (most - i) o c at ≡ length (elements_of (consed (element_at c at start len) (elements_from (most - (i + 1)) o c (start + len))))
        = ap length unfolded in omega arith

pub few_elements : (m o : ℕ) (c : List ℕ) (at : ℕ) → how_many m o c at ≤ m
unfolding elements_from
few_elements zero o c at = let e = nothing (leb (length c) at) in omega arith
few_elements (suc m) o c at = go (leb (length c) at) (inside_at o c at (length c)) (λ p. few_elements m o c p)
  where
    long : (b : Element) (q : Option (List Element)) → length (elements_of q) ≤ m → length (elements_of (consed b q)) ≤ suc m
    long b None h = omega arith
    long b (Some es) h = omega arith

    go : (u : Bool) (i : Option (ℕ × ℕ)) → ((p : ℕ) → how_many m o c p ≤ m)
        → length (elements_of (pick u (Some []) (opened i (λ start n. consed (element_at c at start n) (elements_from m o c (start + n)))))) ≤ suc m
    go true i f = omega arith
    go false None f = omega arith
    go false (Some (start, n)) f = long (element_at c at start n) (elements_from m o c (start + n)) (f (start + n))

-- ---- marks
pub none-marked : (l : List Compared) → unused l 0 ≡ l
unfolding unused
none-marked [] = refl
none-marked (b ∷ l) = ap (λ (r : List Compared). b ∷ r) (none-marked l)

abbrev pub taken : (ℕ → List Compared) → Option ℕ → Option (List Compared)
taken f None = None
taken f (Some m) = Some (f m)

unused_bit : (b : Compared) (l : List Compared) (d m : ℕ) → d < 2 → unused (b ∷ l) (d + 2 * m) ≡ pick (eqb d 0) (b ∷ unused l m) (unused l m)
unfolding unused
unused_bit b l d m h =
    let p : (d + 2 * m) % 2 ≡ d = omega arith in
    let q : (d + 2 * m) / 2 ≡ m = omega arith in
    ap₂ (λ (x y : ℕ). pick (eqb x 0) (b ∷ unused l y) (unused l y)) p q

-- the attributes without the first unmarked one that is the same as a are those that aren't marked with its mark set
pub without-marked : (a : Compared) (l : List Compared) (m : ℕ) → without a (unused l m) ≡ taken (unused l) (marked a l m)
unfolding unused marked without
without-marked a [] m = refl
without-marked a (b ∷ l) m = go (eqb (m % 2) 0) (same_pair a b) refl refl (without-marked a l (m / 2))
  where
    low : m % 2 < 2
    low = omega arith

    later : (d : ℕ) (o : Option ℕ) → d < 2 → pick (eqb d 0) (consed b (taken (unused l) o)) (taken (unused l) o) ≡ taken (unused (b ∷ l)) (behind d o)
    later d None h = flat (eqb d 0)
      where
        flat : (u : Bool) → pick {A = Option (List Compared)} u None None ≡ None
        flat true = refl
        flat false = refl
    later d (Some k) h = out (eqb d 0) ∙ ap Some (sym (unused_bit b l d k h))
      where
        out : (u : Bool) → pick u (Some (b ∷ unused l k)) (Some (unused l k)) ≡ Some (pick u (b ∷ unused l k) (unused l k))
        out true = refl
        out false = refl

    marking : eqb (m % 2) 0 ≡ true → unused (b ∷ l) (m + 1) ≡ unused l (m / 2)
    marking e =
        let z = eqb-true (m % 2) 0 e in
        let q : m + 1 ≡ 1 + 2 * (m / 2) = omega arith in
        ap (unused (b ∷ l)) q ∙ unused_bit b l 1 (m / 2) (omega arith)

    -- by whether the attribute is unmarked, and the same
    go : (u v : Bool) → eqb (m % 2) 0 ≡ u → same_pair a b ≡ v → without a (unused l (m / 2)) ≡ taken (unused l) (marked a l (m / 2))
        → without a (pick u (b ∷ unused l (m / 2)) (unused l (m / 2)))
        ≡ taken (unused (b ∷ l)) (pick (both u v) (Some (m + 1)) (behind (m % 2) (marked a l (m / 2))))
    go true true e f ih =
        without-cons a b (unused l (m / 2))
        ∙ ap (λ (x : Bool). pick x (Some (unused l (m / 2))) (consed b (without a (unused l (m / 2))))) f
        ∙ ap Some (sym (marking e))
    go true false e f ih =
        without-cons a b (unused l (m / 2))
        ∙ ap (λ (x : Bool). pick x (Some (unused l (m / 2))) (consed b (without a (unused l (m / 2))))) f
        ∙ ap (consed b) ih
        ∙ ap (λ (x : Bool). pick x (consed b (taken (unused l) (marked a l (m / 2)))) (taken (unused l) (marked a l (m / 2)))) (sym e)
        ∙ later (m % 2) (marked a l (m / 2)) low
    go false v e f ih =
        ih
        ∙ ap (λ (x : Bool). pick x (consed b (taken (unused l) (marked a l (m / 2)))) (taken (unused l) (marked a l (m / 2)))) (sym e)
        ∙ later (m % 2) (marked a l (m / 2)) low

-- ---- marks from a place on, of weight w, above the marks `low` of the places before
abbrev pub above : ℕ → ℕ → Option ℕ → Option ℕ
above low w None = None
above low w (Some m) = Some (low + w * m)

pub spread : (w d m : ℕ) → w * (d + 2 * m) ≡ w * d + w * 2 * m
spread w d m = mul-add w d (2 * m) ∙ ap (λ (y : ℕ). w * d + y) (sym (mul_assoc w 2 m))

pub above-start : (o : Option ℕ) → above 0 1 o ≡ o
above-start None = refl
above-start (Some m) = let e : 0 + 1 * m ≡ m = omega arith in ap Some e

pub above-behind : (low w d : ℕ) (o : Option ℕ) → above low w (behind d o) ≡ above (low + w * d) (w * 2) o
above-behind low w d None = refl
above-behind low w d (Some m) = let e = spread w d m in let q : low + w * (d + 2 * m) ≡ low + w * d + w * 2 * m = omega arith in ap Some q

-- ---- attributes
pub attributes_length : (n : ℕ) (x : List ℕ) (end : ℕ) → length (attributes_back n x end) ≡ n
unfolding attributes_back
attributes_length zero x end = refl
attributes_length (suc n) x end = ap suc (attributes_length n x (type_start x end))
