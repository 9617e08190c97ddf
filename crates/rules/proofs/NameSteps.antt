-- Names without regard to case, and the table of rules row by row.
use mathlib.Core.Path.{◌≡◌, refl, sym, ap, ap₂, ◌∙◌}
use mathlib.Core.Bool.{Bool, true, false, false≢true}
use Rattle.std.specs.Prelude.{Option, None, Some}
use Rattle.std.specs.Borrow.{Bor}
use mathlib.Core.List.{List, [], ◌∷◌, map}
use Prim.Native.Nat.{ℕ, zero, suc, ◌+◌, ◌<◌, ◌≤◌}
use native.Mathlib.Omega.{arith}
use borrow.Author.Tests.{eq-eqb, ne_eqb, eqb-true, leb-true, lt-leb}
use lib.Dec.{eqb, leb}
use lib.ListN.{get_or, drop, length, drop_of_length-le}
use Rattle.std.proofs.Common.{add-one}
use Rattle.std.proofs.Math.Seq.{drop-cons}
use Rattle.octets.specs.Pick.{pick, both, either, no}
use Rattle.octets.specs.Octets.{octet, same}
use Rattle.octets.specs.Text.{is_upper, is_digit, lower}
use Rattle.octets.proofs.Laws.{both_true, rest-cons, rest-none}
use Rattle.octets.proofs.TextLaws.{digit_within, same-nil, same_shorter, same_longer, same-cons, same-is}
use Rattle.rules.specs.Rule.{Rule, Known, same_name, rule_of}
use Rattle.rules.specs.Inner.Answers.{meant, called}
use Rattle.rules.specs.declared.Rule as code

-- ---- names: letters
upper_within : (b : ℕ) → is_upper b ≡ true → (65 ≤ b) × (b ≤ 90)
unfolding is_upper
upper_within b e = let w = both_true (leb 65 b) (leb b 90) e in (leb-true _ _ w.0, leb-true _ _ w.1)

pub upper-fits : (b : ℕ) (u : Bool) → u ≡ is_upper b → u ≡ true → b + 32 < 256
upper-fits b u e h = let w = upper_within b (sym e ∙ h) in omega arith

lower_upper : (b : ℕ) → is_upper b ≡ true → lower b ≡ b + 32
unfolding lower
lower_upper b e = rw e

lower_other : (b : ℕ) → is_upper b ≡ false → lower b ≡ b
unfolding lower
lower_other b e = rw e

alike : (x y u v : ℕ) → (x ≡ y → u ≡ v) → (u ≡ v → x ≡ y) → eqb x y ≡ eqb u v
alike x y u v f g = go (eqb x y) (eqb u v) refl refl
  where
    go : (p q : Bool) → eqb x y ≡ p → eqb u v ≡ q → p ≡ q
    go true true e h = refl
    go false false e h = refl
    go true false e h = absurd (false≢true (sym h ∙ eq-eqb u v (f (eqb-true x y e))))
    go false true e h = absurd (false≢true (sym e ∙ eq-eqb x y (g (eqb-true u v h))))

pub letter-same : (a b : ℕ) → a ≡ b → true ≡ eqb (lower a) (lower b)
letter-same a b e = sym (eq-eqb _ _ (ap lower e))

module _ (a b : ℕ) (n : a ≡ b → ⊥) (u : Bool) (upper : u ≡ is_upper a) where
  pub letter-upper : u ≡ true → eqb b (a + 32) ≡ eqb (lower a) (lower b)
  letter-upper h = go (is_upper b) refl
    where
      up : is_upper a ≡ true
      up = sym upper ∙ h

      go : (v : Bool) → is_upper b ≡ v → eqb b (a + 32) ≡ eqb (lower a) (lower b)
      go true f =
          let w = upper_within a up in
          let z = upper_within b f in
          rw (lower_upper a up, lower_upper b f) (alike b (a + 32) (a + 32) (b + 32) (λ e. omega arith) (λ e. absurd (n (omega arith))))
      go false f = rw (lower_upper a up, lower_other b f) (alike b (a + 32) (a + 32) b sym sym)

  module _ (h : u ≡ false) (v : Bool) (other : v ≡ is_upper b) where
    pub letter-lower : v ≡ true → eqb a (b + 32) ≡ eqb (lower a) (lower b)
    letter-lower f = rw (lower_other a (sym upper ∙ h), lower_upper b (sym other ∙ f))

    pub letter-differs : v ≡ false → false ≡ eqb (lower a) (lower b)
    letter-differs f = rw (lower_other a (sym upper ∙ h), lower_other b (sym other ∙ f)) (sym (ne_eqb a b n))

-- ---- names: their letters one by one
pub same_self : (a : List ℕ) → same a a ≡ true
same_self [] = same-nil
same_self (a ∷ l) = same-cons a a l l ∙ rw (eq-eqb a a refl) (same_self l)

lowered_length : (a b : List ℕ) → (length a ≡ length b → ⊥) → false ≡ same (map lower a) (map lower b)
lowered_length [] [] n = absurd (n refl)
lowered_length [] (y ∷ b) n = sym (same_shorter (lower y) (map lower b))
lowered_length (x ∷ a) [] n = sym (same_longer (lower x) (map lower a))
lowered_length (x ∷ a) (y ∷ b) n = go (eqb (lower x) (lower y)) (lowered_length a b (λ e. n (ap suc e))) ∙ sym (same-cons (lower x) (lower y) (map lower a) (map lower b))
  where
    go : (u : Bool) → false ≡ same (map lower a) (map lower b) → false ≡ both u (same (map lower a) (map lower b))
    go true e = e
    go false e = refl

pub name-length : (a b : List ℕ) → (length a ≡ length b → ⊥) → eqb (length a) (length b) ≡ same_name a b
unfolding same_name
name-length a b n = ne_eqb _ _ n ∙ lowered_length a b n

pub name-start : (a b : List ℕ) → same (map lower a) (map lower b) ≡ same_name a b
unfolding same_name
name-start a b = refl

module _ (a b : List ℕ) (i : ℕ) (m : Bool) (l : length a ≡ length b) (inv : same (map lower (drop i a)) (map lower (drop i b)) ≡ m) where
  pub name_done : length a ≤ i → true ≡ m
  name_done h = let g : length b ≤ i = omega arith in sym same-nil ∙ ap₂ (λ (x : List ℕ) (y : List ℕ). same (map lower x) (map lower y)) (sym (rest-none a i h)) (sym (rest-none b i g)) ∙ inv

  module _ (h : i < length a) (u : Bool) (told : u ≡ eqb (lower (octet a i)) (lower (octet b i))) where
    letters : both u (same (map lower (drop (i + 1) a)) (map lower (drop (i + 1) b))) ≡ m
    letters =
        let g : i < length b = omega arith in
        ap (λ (x : Bool). both x (same (map lower (drop (i + 1) a)) (map lower (drop (i + 1) b)))) told
        ∙ sym (same-cons (lower (octet a i)) (lower (octet b i)) (map lower (drop (i + 1) a)) (map lower (drop (i + 1) b)))
        ∙ ap₂ (λ (x : List ℕ) (y : List ℕ). same (map lower x) (map lower y)) (sym (rest-cons a i h)) (sym (rest-cons b i g)) ∙ inv

    pub name_differs : u ≡ false → false ≡ m
    name_differs n = rw n at letters

    pub name-more : u ≡ true → same (map lower (drop (i + 1) a)) (map lower (drop (i + 1) b)) ≡ m
    name-more n = rw n at letters

-- ---- a name and an OID differ in their first octets
not_upper : (d : ℕ) → d ≤ 57 → is_upper d ≡ false
unfolding is_upper
not_upper d h = rw (lt-leb 65 d (omega arith))

digit_lower : (d : ℕ) → is_digit d ≡ true → lower d ≡ d
digit_lower d e = lower_other d (not_upper d (digit_within d e).1)

first_lower : (l : List ℕ) → octet (map lower l) 0 ≡ lower (octet l 0)
unfolding lower is_upper
first_lower [] = refl
first_lower (b ∷ l) = refl

not_named : (t name : List ℕ) → is_digit (octet t 0) ≡ true → is_digit (lower (octet name 0)) ≡ false → same_name t name ≡ false
unfolding same_name
not_named t name d w = go (same (map lower t) (map lower name)) refl
  where
    go : (v : Bool) → same (map lower t) (map lower name) ≡ v → v ≡ false
    go false q = refl
    go true q =
        let e = sym (first_lower t) ∙ ap (λ (l : List ℕ). octet l 0) (same-is _ _ q) ∙ first_lower name in
        absurd (false≢true (sym w ∙ ap is_digit (sym e ∙ digit_lower _ d) ∙ d))

not_numbered : (t oid : List ℕ) → is_digit (octet t 0) ≡ false → is_digit (octet oid 0) ≡ true → same t oid ≡ false
not_numbered t oid d n = go (same t oid) refl
  where
    go : (v : Bool) → same t oid ≡ v → v ≡ false
    go false q = refl
    go true q = absurd (false≢true (sym d ∙ ap (λ (l : List ℕ). is_digit (octet l 0)) (same-is _ _ q) ∙ n))

module _ (t name oid : List ℕ) (u : Bool) (told : u ≡ is_digit (octet t 0)) (word : is_digit (lower (octet name 0)) ≡ false) (number : is_digit (octet oid 0) ≡ true) (v : Bool) where
  pub called-number : u ≡ true → v ≡ same t oid → v ≡ called t name oid
  unfolding called
  called-number h e = rw (not_named t name (sym told ∙ h) word) e

  pub called-word : u ≡ false → v ≡ same_name t name → v ≡ called t name oid
  unfolding called
  called-word h e = rw (not_numbered t oid (sym told ∙ h) number, ← e) (go v)
    where
      go : (x : Bool) → x ≡ either x false
      go true = refl
      go false = refl

-- ---- the table
-- a row of the code's: name, OID, rule
abbrev pub Row : Type 0
Row = Bor (List ℕ) × Bor (List ℕ) × code.Rule

abbrev pub row_of : Row → Known
row_of (name, oid, r) = record { name = name.now; oid = oid.now; rule = meant r }

-- rows whose OID begins with a digit, and whose name doesn't
abbrev pub formed : List Row → Bool
formed [] = true
formed (r ∷ rs) = let m = formed rs in both (both (is_digit (octet r.1.now 0)) (no (is_digit (lower (octet r.0.now 0))))) m

module _ (rows : List Row) (i : ℕ) (f : formed (drop i rows) ≡ true) (d : Row) (within : i < length rows) where
  here : both (both (is_digit (octet (get_or rows i d).1.now 0)) (no (is_digit (lower (octet (get_or rows i d).0.now 0))))) (formed (drop (i + 1) rows)) ≡ true
  here = rw add-one (rw (drop-cons rows i d within) at f)

  pub row-number : is_digit (octet (get_or rows i d).1.now 0) ≡ true
  row-number = (both_true _ _ (both_true _ _ here).0).0

  pub row-word : is_digit (lower (octet (get_or rows i d).0.now 0)) ≡ false
  row-word = go _ (both_true _ _ (both_true _ _ here).0).1
    where
      go : (x : Bool) → no x ≡ true → x ≡ false
      go true e = sym e
      go false e = refl

rest_formed : (i : ℕ) (rows : List Row) → formed (drop i rows) ≡ true → formed (drop (suc i) rows) ≡ true
rest_formed zero [] f = refl
rest_formed zero (r ∷ rows) f = (both_true _ _ f).1
rest_formed (suc i) [] f = refl
rest_formed (suc i) (r ∷ rows) f = rest_formed i rows f

pub rows-formed : (rows : List Row) (i : ℕ) → formed (drop i rows) ≡ true → formed (drop (i + 1) rows) ≡ true
rows-formed rows i f = rw add-one (rest_formed i rows f)

-- what the rows from i on say of a text t: by what the code found of row i, and where there is none
module _ (t : List ℕ) (rows : List Row) (i : ℕ) (r : Option Rule) (before : rule_of (map row_of (drop i rows)) t ≡ r) where
  module _ (d : Row) (u : Bool) (told : u ≡ called t (get_or rows i d).0.now (get_or rows i d).1.now) (within : i < length rows) where
    stepped : pick u (Some (meant (get_or rows i d).2)) (rule_of (map row_of (drop (i + 1) rows)) t) ≡ r
    unfolding rule_of called
    stepped = rw (add-one, told) (rw (drop-cons rows i d within) at before)

    pub rule-here : u ≡ true → Some (meant (get_or rows i d).2) ≡ r
    rule-here h = rw h at stepped

    pub rule-after : u ≡ false → rule_of (map row_of (drop (i + 1) rows)) t ≡ r
    rule-after h = rw h at stepped

  pub rule-none : length rows ≤ i → None ≡ r
  unfolding rule_of
  rule-none over = rw (drop_of_length-le rows over) at before
