-- Laws of the definitions, for this crate's proofs and for the layers above.
use Rattle.std.specs.Prelude.{Option, Some, None}
use Rattle.std.proofs.lemmas.Option.{same_Some, some_pair_parts}
use mathlib.Core.Path.{◌≡◌, refl, sym, ap}
use mathlib.Core.Bool.{Bool, true, false}
use mathlib.Core.List.{List}
use Prim.Native.Nat.{ℕ, ◌≤◌, ◌<◌, ◌+◌, ◌-◌, ◌%◌}
use native.Mathlib.Omega.{arith}
use borrow.Author.Tests.{ltb-false, leb-true, leb-false, eqb-true, eqb-false, eq-eqb, ne_eqb, le-ltb, lt-leb}
use lib.Dec.{ltb, leb, eqb}
use lib.ListN.{length}
use Rattle.octets.specs.Octets.{octet, two}
use Rattle.octets.specs.Pick.{pick, both}
use Rattle.octets.proofs.Laws.{pick_cases, both_true}
use Rattle.der.specs.Tag.{class, number, tag_of, universal_text, universal}
use Rattle.der.specs.Header.{long_length, length_at, sized, header_at, tagged, inside_at, any_tag}
use Rattle.der.specs.Kind as kind
use Rattle.der.specs.Contents.{legal_boolean, legal_integer}
use Rattle.der.specs.Legal.{legal}
use Rattle.der.specs.Time.{legal_time}

-- ---- tags
pub number_small : (o : ℕ) → number o < 32
unfolding number
number_small o = omega arith

pub tag_small : (o : ℕ) → tag_of o < 64
unfolding tag_of number
tag_small o = go (eqb (class o) 0) (eqb (class o) 2)
  where
    go : (x y : Bool) → pick x (o % 32) (pick y (32 + o % 32) 31) < 64
    go true y = omega arith
    go false true = omega arith
    go false false = omega arith

-- universal tags are 0 to 24
pub universal-most : (k : ℕ) → universal k ≤ 24
unfolding universal universal_text
universal-most k =
    low (eqb k 1) 1 _ (omega arith) (low (eqb k 2) 2 _ (omega arith) (low (eqb k 3) 10 _ (omega arith) (low (eqb k 4) 5 _ (omega arith)
    (low (eqb k 5) 6 _ (omega arith) (low (eqb k 6) 4 _ (omega arith) (low (eqb k 7) 3 _ (omega arith) (low (eqb k 17) 3 _ (omega arith)
    (low (eqb k 8) 12 _ (omega arith)
    (low (eqb k 9) 19 _ (omega arith) (low (eqb k 10) 22 _ (omega arith) (low (eqb k 11) 24 _ (omega arith) (low (eqb k 12) 16 _ (omega arith)
    (low (eqb k 14) 16 _ (omega arith) (low (eqb k 15) 17 _ (omega arith) (low (eqb k 19) 16 _ (omega arith) (low (eqb k 20) 17 0 (omega arith)
    (omega arith)))))))))))))))))
  where
    low : (x : Bool) (a b : ℕ) → a ≤ 24 → b ≤ 24 → pick x a b ≤ 24
    low true a b p q = p
    low false a b p q = q

-- the first three kinds have one
pub universal-first : (k : ℕ) → 1 ≤ k → k ≤ 3 → 1 ≤ universal k
unfolding universal
universal-first k h g = go (eqb k 1) refl (eqb k 2) refl
  where
    go : (x : Bool) → eqb k 1 ≡ x → (y : Bool) → eqb k 2 ≡ y → 1 ≤ universal k
    go true p y q = rw p (omega arith)
    go false p true q = rw (p, q) (omega arith)
    go false p false q = let a = eqb-false k 1 p in let b = eqb-false k 2 q in let e : k ≡ 3 = omega arith in rw (p, q, eq-eqb k 3 e) (omega arith)

-- ---- parts of a triple
pub some_triple_parts : (a x b y c z : ℕ) → ◌≡◌ {A = Option (ℕ × ℕ × ℕ)} (Some (a, b, c)) (Some (x, y, z)) → (a ≡ x) × (b ≡ y) × (c ≡ z)
some_triple_parts a x b y c z e =
    let p = same_Some (a, b, c) (x, y, z) e in
    (ap (λ (t : ℕ × ℕ × ℕ). t.0) p, ap (λ (t : ℕ × ℕ × ℕ). t.1) p, ap (λ (t : ℕ × ℕ × ℕ). t.2) p)

-- ---- lengths
-- the place after a length lies after the length's own place, and within the end
pub long-within : (n least next end m after : ℕ) → long_length n least next end ≡ Some (m, after) → (next ≡ after) × (after ≤ end)
unfolding long_length
long-within n least next end m after =
    pick_cases P (ltb end next) _ _ (λ t. refused) (λ t₁. pick_cases P (ltb n least) _ _ (λ t. refused)
    (λ t e. let q : next ≡ after = (some_pair_parts n m next after e).1 in (q, omega (arith, ltb-false))))
  where
    P : Option (ℕ × ℕ) → Type 0
    P x = x ≡ Some (m, after) → (next ≡ after) × (after ≤ end)

    refused : P None
    refused e = absurd (let z : ◌≡◌ {A = ℕ} 0 1 = cc in omega arith)

pub length-within : (s : List ℕ) (at end n after : ℕ) → length_at s at end ≡ Some (n, after) → (at < after) × (after ≤ end)
unfolding length_at
length-within s at end n after =
    pick_cases P (leb end at) _ _ (λ t. refused) (λ t₁.
    pick_cases P (ltb (octet s at) 128) _ _ (λ t e. let q : at + 1 ≡ after = (some_pair_parts (octet s at) n (at + 1) after e).1 in omega (arith, leb-false))
    (λ t. pick_cases P (eqb (octet s at) 129) _ _ (λ t e. let w = long-within _ _ (at + 2) end n after e in (omega arith, w.1))
    (λ t. pick_cases P (eqb (octet s at) 130) _ _ (λ t e. let w = long-within _ _ (at + 3) end n after e in (omega arith, w.1))
    (λ t. refused))))
  where
    P : Option (ℕ × ℕ) → Type 0
    P x = x ≡ Some (n, after) → (at < after) × (after ≤ end)

    refused : P None
    refused e = absurd (let z : ◌≡◌ {A = ℕ} 0 1 = cc in omega arith)

-- ---- headers: a header that fits lies within its end and is at least two octets
abbrev Fitting : List ℕ → ℕ → ℕ → ℕ → ℕ → ℕ → Type 0
Fitting s at end o start n = (at + 1 < start) × (start + n ≤ end) × (o ≡ octet s at)

header-fits : (s : List ℕ) (at end o start n : ℕ) → header_at s at end ≡ Some (o, start, n) → Fitting s at end o start n
unfolding header_at
header-fits s at end o start n =
    pick_cases P (leb end at) _ _ (λ t. misfit) (λ t. pick_cases P (eqb (number (octet s at)) 31) _ _ (λ t. misfit) (λ t. go (length_at s (at + 1) end) refl))
  where
    P : Option (ℕ × ℕ × ℕ) → Type 0
    P x = x ≡ Some (o, start, n) → Fitting s at end o start n

    misfit : P None
    misfit e = absurd (let z : ◌≡◌ {A = ℕ} 0 1 = cc in omega arith)

    go : (l : Option (ℕ × ℕ)) → length_at s (at + 1) end ≡ l → P (sized (octet s at) end l)
    go None q = misfit
    go (Some (m, next)) q = pick_cases P (ltb (end - next) m) _ _ (λ u. misfit) (λ u e.
        let w = length-within s (at + 1) end m next q in
        let p = some_triple_parts (octet s at) o next start m n e in
        let a : octet s at ≡ o = p.0 in
        let b : next ≡ start = p.1 in
        let d : m ≡ n = p.2 in
        (omega arith, omega (arith, ltb-false), sym a))

module _ (s : List ℕ) (at end o start n : ℕ) (e : header_at s at end ≡ Some (o, start, n)) where
  pub header-long : at + 1 < start
  header-long = (header-fits s at end o start n e).0

  pub header-within : start + n ≤ end
  header-within = (header-fits s at end o start n e).1

  pub header_tag : o ≡ octet s at
  header_tag = (header-fits s at end o start n e).2

-- the header behind contents with a tag octet g, and behind any contents
pub inside_view : (g : ℕ) (s : List ℕ) (at end start n : ℕ) → inside_at g s at end ≡ Some (start, n) → header_at s at end ≡ Some (g, start, n)
unfolding inside_at
inside_view g s at end start n e = go (header_at s at end) e
  where
    go : (h : Option (ℕ × ℕ × ℕ)) → tagged g h ≡ Some (start, n) → h ≡ Some (g, start, n)
    go None q = absurd (let z : ◌≡◌ {A = ℕ} 0 1 = cc in omega arith)
    go (Some (o, b, m)) q = pick_cases P (eqb o g) _ _ (λ t f. let x : o ≡ g = eqb-true _ _ t in let p = some_pair_parts b start m n f in rw (x, p.0, p.1)) (λ t f. absurd (let z : ◌≡◌ {A = ℕ} 0 1 = cc in omega arith)) q
      where
        P : Option (ℕ × ℕ) → Type 0
        P x = x ≡ Some (start, n) → ◌≡◌ {A = Option (ℕ × ℕ × ℕ)} (Some (o, b, m)) (Some (g, start, n))

pub any-view : (s : List ℕ) (at end start n : ℕ) → any_tag (header_at s at end) ≡ Some (start, n) → header_at s at end ≡ Some (octet s at, start, n)
any-view s at end start n e = go (header_at s at end) refl e
  where
    go : (h : Option (ℕ × ℕ × ℕ)) → header_at s at end ≡ h → any_tag h ≡ Some (start, n) → h ≡ Some (octet s at, start, n)
    go None q f = absurd (let z : ◌≡◌ {A = ℕ} 0 1 = cc in omega arith)
    go (Some (o, b, m)) q f = let x : o ≡ octet s at = header_tag s at end o b m q in let p = some_pair_parts b start m n f in rw (x, p.0, p.1)

module _ (g : ℕ) (s : List ℕ) (at end start n : ℕ) (e : inside_at g s at end ≡ Some (start, n)) where
  pub inside-long : at + 1 < start
  inside-long = header-long s at end g start n (inside_view g s at end start n e)

  pub inside-within : start + n ≤ end
  inside-within = header-within s at end g start n (inside_view g s at end start n e)

-- behind another tag octet nothing opens
pub other-octet : (o : ℕ) (s : List ℕ) (at end : ℕ) → (octet s at ≡ o → ⊥) → inside_at o s at end ≡ None
unfolding inside_at header_at
other-octet o s at end h = go (leb end at) (eqb (number (octet s at)) 31) (length_at s (at + 1) end)
  where
    fits : (x : Bool) (n next : ℕ) → tagged o (pick x None (Some (octet s at, next, n))) ≡ None
    fits true n next = refl
    fits false n next = rw (ne_eqb (octet s at) o h)

    go : (x y : Bool) (l : Option (ℕ × ℕ)) → tagged o (pick x None (pick y None (sized (octet s at) end l))) ≡ None
    go true y l = refl
    go false true l = refl
    go false false None = refl
    go false false (Some (n, next)) = fits (ltb (end - next) n) n next

-- ---- contents
pub integer-octets : (c : List ℕ) → legal_integer c ≡ true → (1 ≤ length c) × (length c ≤ 8)
unfolding legal_integer
integer-octets c e =
    let w = (both_true (both (leb 1 (length c)) (leb (length c) 8)) _ e).0 in
    let v = both_true (leb 1 (length c)) (leb (length c) 8) w in
    (leb-true _ _ v.0, leb-true _ _ v.1)

pub time-octets : (c : List ℕ) → legal_time c ≡ true → 15 ≤ length c
unfolding legal_time
time-octets c e = leb-true _ _ (both_true (leb 15 (length c)) _ e).0

-- legal contents, kind by kind
module _ (c : List ℕ) where
  pub legal-boolean : legal kind.boolean c ≡ legal_boolean c
  unfolding legal
  legal-boolean = refl

  pub legal-integer : legal kind.integer c ≡ legal_integer c
  unfolding legal
  legal-integer = refl

  pub legal-enumerated : legal kind.enumerated c ≡ legal_integer c
  unfolding legal
  legal-enumerated = refl

-- ---- what is read before one end is read before any end that it lies within
long-before : (n least next end other m after : ℕ) → long_length n least next end ≡ Some (m, after) → after ≤ other → long_length n least next other ≡ Some (m, after)
unfolding long_length
long-before n least next end other m after =
    pick_cases P (ltb end next) _ _ (λ t. refused) (λ t₁. pick_cases P (ltb n least) _ _ (λ t. refused)
    (λ t e h. let q : next ≡ after = (some_pair_parts n m next after e).1 in rw (le-ltb other next (omega arith), t) e))
  where
    P : Option (ℕ × ℕ) → Type 0
    P x = x ≡ Some (m, after) → after ≤ other → pick {A = Option (ℕ × ℕ)} (ltb other next) None (pick (ltb n least) None (Some (n, next))) ≡ Some (m, after)

    refused : P None
    refused e = absurd (let z : ◌≡◌ {A = ℕ} 0 1 = cc in omega arith)

length_before : (s : List ℕ) (at end other n after : ℕ) → length_at s at end ≡ Some (n, after) → after ≤ other → length_at s at other ≡ Some (n, after)
unfolding length_at
length_before s at end other n after e h =
    let w = length-within s at end n after e in
    let a = w.0 in
    let b = w.1 in
    rw (lt-leb other at (omega arith)) (go (ltb (octet s at) 128) (eqb (octet s at) 129) (eqb (octet s at) 130) (rw (lt-leb end at (omega arith)) at e))
  where
    go : (x y z : Bool)
        → pick x (Some (octet s at, at + 1)) (pick y (long_length (octet s (at + 1)) 128 (at + 2) end) (pick z (long_length (two s (at + 1)) 256 (at + 3) end) None)) ≡ Some (n, after)
        → pick x (Some (octet s at, at + 1)) (pick y (long_length (octet s (at + 1)) 128 (at + 2) other) (pick z (long_length (two s (at + 1)) 256 (at + 3) other) None)) ≡ Some (n, after)
    go true y z e = e
    go false true z e = long-before (octet s (at + 1)) 128 (at + 2) end other n after e h
    go false false true e = long-before (two s (at + 1)) 256 (at + 3) end other n after e h
    go false false false e = e

pub header-before : (s : List ℕ) (at end other o start n : ℕ) → header_at s at end ≡ Some (o, start, n) → start + n ≤ other → header_at s at other ≡ Some (o, start, n)
unfolding header_at
header-before s at end other o start n e h =
    let l = header-long s at end o start n e in
    let w = header-within s at end o start n e in
    rw (lt-leb other at (omega arith)) (go (eqb (number (octet s at)) 31) (rw (lt-leb end at (omega arith)) at e))
  where
    sizes : (l : Option (ℕ × ℕ)) → length_at s (at + 1) end ≡ l → sized (octet s at) end l ≡ Some (o, start, n) → sized (octet s at) other (length_at s (at + 1) other) ≡ Some (o, start, n)
    sizes None q = λ f. absurd (let z : ◌≡◌ {A = ℕ} 0 1 = cc in omega arith)
    sizes (Some (m, next)) q = pick_cases P (ltb (end - next) m) _ _ (λ u f. absurd (let z : ◌≡◌ {A = ℕ} 0 1 = cc in omega arith)) (λ u f.
        let p = some_triple_parts (octet s at) o next start m n f in
        let b : next ≡ start = p.1 in
        let c : m ≡ n = p.2 in
        rw (length_before s (at + 1) end other m next q (omega arith), le-ltb (other - next) m (omega arith)) f)
      where
        P : Option (ℕ × ℕ × ℕ) → Type 0
        P x = x ≡ Some (o, start, n) → sized (octet s at) other (length_at s (at + 1) other) ≡ Some (o, start, n)

    go : (x : Bool) → pick x None (sized (octet s at) end (length_at s (at + 1) end)) ≡ Some (o, start, n) → pick x None (sized (octet s at) other (length_at s (at + 1) other)) ≡ Some (o, start, n)
    go true f = absurd (let z : ◌≡◌ {A = ℕ} 0 1 = cc in omega arith)
    go false f = sizes (length_at s (at + 1) end) refl f

pub inside-before : (g : ℕ) (s : List ℕ) (at end other start n : ℕ) → inside_at g s at end ≡ Some (start, n) → start + n ≤ other → inside_at g s at other ≡ Some (start, n)
unfolding inside_at
inside-before g s at end other start n e h = rw (header-before s at end other g start n (inside_view g s at end start n e) h, eq-eqb g g refl)
