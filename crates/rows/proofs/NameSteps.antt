-- Names in their fields: their length, and two of them compared, eight and 24 octets at a time.
use mathlib.Core.Path.{◌≡◌, refl, sym, ap, ap₂, ◌∙◌}
use mathlib.Core.Bool.{Bool, true, false, not}
use mathlib.Core.List.{List, [], ◌∷◌, ◌++◌}
use Prim.Native.Nat.{ℕ, zero, suc, ◌≤◌, ◌<◌, ◌+◌, ◌-◌, ◌*◌}
use native.Mathlib.Omega.{arith}
use borrow.Author.Tests.{not-true, not-false, eq-eqb, ne_eqb, eqb-true, eqb-false, le-leb, lt-leb}
use lib.Dec.{eqb}
use lib.ListN.{length, take, drop, length-take}
use lib.Seq.{take-add, drop-drop}
use Rattle.octets.specs.Pick.{both, all}
use Rattle.octets.specs.Octets.{octet, part, same}
use Rattle.octets.specs.Text.{within, is_lower, may_be_last}
use Rattle.octets.proofs.Laws.{both_true, never}
use Rattle.octets.proofs.TextLaws.{same-nil, same_shorter, same_longer}
use Rattle.rows.specs.Row.{kind_at, name_width, name_at, name_octet_at, unfilled}
use Rattle.rows.specs.Body.{followed, name_formed, length_formed}
use Rattle.rows.specs.Inner.Sizes.{WholeName}
use Rattle.rows.proofs.KindLaws.{wide_name}
use Rattle.rows.proofs.NumberSteps.{part_length}
use Rattle.rows.proofs.Steps.{part-octet, fill_on, width-long, width-short}

-- ---- a name without its fill ends where the first zero is
pub unfilled-first : (b : ℕ) (bs : List ℕ) → b ≡ 0 → unfilled (b ∷ bs) ≡ []
unfolding unfilled
unfilled-first b bs e = rw e

pub unfilled_next : (b : ℕ) (bs : List ℕ) → (b ≡ 0 → ⊥) → unfilled (b ∷ bs) ≡ b ∷ unfilled bs
unfolding unfilled
unfilled_next b bs n = rw (ne_eqb b 0 n)

by_zero : (P : Type 0) (b : ℕ) → (b ≡ 0 → P) → ((b ≡ 0 → ⊥) → P) → P
by_zero P b f g = go (eqb b 0) refl
  where
    go : (x : Bool) → eqb b 0 ≡ x → P
    go true e = f (eqb-true b 0 e)
    go false e = g (eqb-false b 0 e)

pub unfilled_upto : (x : List ℕ) (n : ℕ) → octet x n ≡ 0 → length (unfilled x) ≤ n
unfolding unfilled
unfilled_upto [] n e = omega arith
unfilled_upto (b ∷ bs) zero e = let z = unfilled-first b bs e in let l : length (unfilled (b ∷ bs)) ≡ 0 = ap length z in omega arith
unfilled_upto (b ∷ bs) (suc n) e =
    by_zero (length (unfilled (b ∷ bs)) ≤ suc n) b
    (λ h. let l : length (unfilled (b ∷ bs)) ≡ 0 = ap length (unfilled-first b bs h) in omega arith)
    (λ h. let l : length (unfilled (b ∷ bs)) ≡ suc (length (unfilled bs)) = ap length (unfilled_next b bs h) in let r = unfilled_upto bs n e in omega arith)

pub unfilled-past : (x : List ℕ) (n : ℕ) → ((j : ℕ) → j ≤ n → octet x j ≡ 0 → ⊥) → n < length (unfilled x)
unfilled-past [] n h = absurd (h 0 (omega arith) refl)
unfilled-past (b ∷ bs) zero h =
    let l : length (unfilled (b ∷ bs)) ≡ suc (length (unfilled bs)) = ap length (unfilled_next b bs (h 0 (omega arith))) in omega arith
unfilled-past (b ∷ bs) (suc n) h =
    let l : length (unfilled (b ∷ bs)) ≡ suc (length (unfilled bs)) = ap length (unfilled_next b bs (h 0 (omega arith))) in
    let r = unfilled-past bs n (λ j k e. h (suc j) (omega arith) e) in
    omega arith

pub unfilled-within : (x : List ℕ) → length (unfilled x) ≤ length x
unfolding unfilled
unfilled-within [] = omega arith
unfilled-within (b ∷ bs) =
    by_zero (length (unfilled (b ∷ bs)) ≤ length (b ∷ bs)) b
    (λ h. let l : length (unfilled (b ∷ bs)) ≡ 0 = ap length (unfilled-first b bs h) in omega arith)
    (λ h. let l : length (unfilled (b ∷ bs)) ≡ suc (length (unfilled bs)) = ap length (unfilled_next b bs h) in let r = unfilled-within bs in omega arith)

-- ---- the length of a name
pub field_within : (t : List ℕ) (p : ℕ) → length (name_at t p) ≤ name_width (kind_at t p)
field_within t p = let l = length-take (name_width (kind_at t p)) (drop (p + 1) t) in omega arith

pub name-octet : (t : List ℕ) (p j : ℕ) → j < name_width (kind_at t p) → octet (name_at t p) j ≡ name_octet_at t p j
name-octet t p j h = let place : p + 1 + j ≡ p + (1 + j) = omega arith in part-octet t (p + 1) (name_width (kind_at t p)) j h ∙ ap (octet t) place

pub name-chain : (t : List ℕ) (p : ℕ) → name_formed t p ≡ true → all (followed t p) (name_width (kind_at t p) - 1) ≡ true
unfolding name_formed
name-chain t p e =
    let n = name_width (kind_at t p) - 1 in
    let w = both_true (is_lower (name_octet_at t p 0)) (both (may_be_last (name_octet_at t p n)) (all (followed t p) n)) e in
    (both_true (may_be_last (name_octet_at t p n)) (all (followed t p) n) w.1).1

module _ (t : List ℕ) (p : ℕ) where
  pub length-short : (octet t p ≡ 21 → ⊥) → true ≡ length_formed t p
  unfolding length_formed
  length-short n = rw (ne_eqb (kind_at t p) 21 n)

  module _ (formed : name_formed t p ≡ true) (long : octet t p ≡ 21) where
    ends : octet t (p + 25) ≡ 0 → length (unfilled (name_at t p)) ≤ 24
    ends e =
        let w = width-long (kind_at t p) long in
        let h : 24 < name_width (kind_at t p) = omega arith in
        unfilled_upto (name_at t p) 24 (name-octet t p 24 h ∙ e)

    goes_on_lem : (octet t (p + 25) ≡ 0 → ⊥) → 24 < length (unfilled (name_at t p))
    goes_on_lem n = unfilled-past (name_at t p) 24 (λ j l e. n (at_24 j l e))
      where
        at_24 : (j : ℕ) → j ≤ 24 → octet (name_at t p) j ≡ 0 → octet t (p + 25) ≡ 0
        at_24 j l e =
            let w = width-long (kind_at t p) long in
            let h : j < name_width (kind_at t p) = omega arith in
            let r : j + (24 - j) ≤ name_width (kind_at t p) - 1 = omega arith in
            let place : 24 ≡ j + (24 - j) = omega arith in
            ap (name_octet_at t p) place ∙ fill_on t p (name_width (kind_at t p) - 1) j (name-chain t p formed) (sym (name-octet t p j h) ∙ e) (24 - j) r

    most : length (unfilled (name_at t p)) ≤ 48
    most = let w = width-long (kind_at t p) long in let f = field_within t p in let u = unfilled-within (name_at t p) in omega arith

    pub length-long : not (eqb (octet t (p + 25)) 0) ≡ length_formed t p
    unfolding length_formed
    length-long = rw (eq-eqb (kind_at t p) 21 long) (go (eqb (octet t (p + 25)) 0) refl)
      where
        go : (x : Bool) → eqb (octet t (p + 25)) 0 ≡ x → not x ≡ within 25 48 (length (unfilled (name_at t p)))
        go true e = let l = ends (eqb-true _ _ e) in rw (lt-leb 25 (length (unfilled (name_at t p))) (omega arith))
        go false e =
            let l = goes_on_lem (eqb-false _ _ e) in
            rw (le-leb 25 (length (unfilled (name_at t p))) l, le-leb (length (unfilled (name_at t p))) 48 most)

-- ---- two fields compared
same-append : (a b c d : List ℕ) → length a ≡ length c → same (a ++ b) (c ++ d) ≡ both (same a c) (same b d)
unfolding same
same-append [] b [] d e = refl
same-append [] b (y ∷ c) d e = absurd (omega arith)
same-append (x ∷ a) b [] d e = absurd (omega arith)
same-append (x ∷ a) b (y ∷ c) d e = ap (both (eqb x y)) (same-append a b c d (omega arith)) ∙ go (eqb x y)
  where
    go : (u : Bool) → both u (both (same a c) (same b d)) ≡ both (both u (same a c)) (same b d)
    go true = refl
    go false = refl

part-split : (t : List ℕ) (m p k n : ℕ) → p + m ≡ k → part t p (m + n) ≡ part t p m ++ part t k n
part-split t m p k n e = take-add m n (drop p t) ∙ ap (λ (l : List ℕ). part t p m ++ take n l) (drop-drop m p t ∙ ap (λ (x : ℕ). drop x t) e)

same-split : (t : List ℕ) (m p q k l n o : ℕ) → p + m ≤ length t → q + m ≤ length t → p + m ≡ k → q + m ≡ l
    → same (part t p (m + n)) (part t q (m + o)) ≡ both (same (part t p m) (part t q m)) (same (part t k n) (part t l o))
same-split t m p q k l n o a b e f =
    ap₂ same (part-split t m p k n e) (part-split t m q l o f)
    ∙ same-append (part t p m) (part t k n) (part t q m) (part t l o) (part_length t p m a ∙ sym (part_length t q m b))

-- two fields of 24 octets, eight at a time: k times eight octets have been met
pub eights_start : (t : List ℕ) (p q : ℕ) → same (part t p (8 * 0)) (part t q (8 * 0)) ≡ true
eights_start t p q = same-nil

module _ (t : List ℕ) (p q k : ℕ) (one : p + 24 ≤ length t) (other : q + 24 ≤ length t) (more : k < 3)
    (u : Bool) (told : u ≡ same (part t (p + 8 * k) 8) (part t (q + 8 * k) 8)) where
  eights_next : same (part t p (8 * (k + 1))) (part t q (8 * (k + 1))) ≡ both (same (part t p (8 * k)) (part t q (8 * k))) u
  eights_next =
      let size : 8 * (k + 1) ≡ 8 * k + 8 = omega arith in
      ap (λ (x : ℕ). same (part t p x) (part t q x)) size
      ∙ same-split t (8 * k) p q (p + 8 * k) (q + 8 * k) 8 8 (omega arith) (omega arith) refl refl
      ∙ ap (both (same (part t p (8 * k)) (part t q (8 * k)))) (sym told)

  pub eights_more : same (part t p (8 * k)) (part t q (8 * k)) ≡ true → not u ≡ false → same (part t p (8 * (k + 1))) (part t q (8 * (k + 1))) ≡ true
  eights_more a e = eights_next ∙ ap₂ both a (not-false u e)

  pub eights-bad : not u ≡ true → false ≡ same (part t p 24) (part t q 24)
  eights-bad e =
      let size : 24 ≡ 8 * (k + 1) + (16 - 8 * k) = omega arith in
      sym (ap (λ (x : ℕ). same (part t p x) (part t q x)) size
      ∙ same-split t (8 * (k + 1)) p q (p + 8 * (k + 1)) (q + 8 * (k + 1)) (16 - 8 * k) (16 - 8 * k) (omega arith) (omega arith) refl refl
      ∙ ap (λ (x : Bool). both x (same (part t (p + 8 * (k + 1)) (16 - 8 * k)) (part t (q + 8 * (k + 1)) (16 - 8 * k))))
      (eights_next ∙ ap (both (same (part t p (8 * k)) (part t q (8 * k)))) (not-true u e) ∙ never (same (part t p (8 * k)) (part t q (8 * k)))))

pub eights_done : (t : List ℕ) (p q k : ℕ) → same (part t p (8 * k)) (part t q (8 * k)) ≡ true → k ≤ 3 → 3 ≤ k → true ≡ same (part t p 24) (part t q 24)
eights_done t p q k a l h = let e : 8 * k ≡ 24 = omega arith in sym a ∙ ap (λ (x : ℕ). same (part t p x) (part t q x)) e

-- a field that goes on is not the same as one that has ended
same_none : (x : List ℕ) → 0 < length x → same [] x ≡ false
same_none [] h = absurd (omega arith)
same_none (b ∷ x) h = same_shorter b x

same_some : (x : List ℕ) → 0 < length x → same x [] ≡ false
same_some [] h = absurd (omega arith)
same_some (b ∷ x) h = same_longer b x

pub long-inside : (t : List ℕ) (p : ℕ) → WholeName t p → octet t p ≡ 21 → p + 25 + 24 ≤ length t
long-inside t p w e = let l = w.inside in let n = width-long (octet t p) e in omega arith

module _ (t : List ℕ) (p q : ℕ) (one : WholeName t p) (other : WholeName t q) (a : Bool) (first : a ≡ same (part t (p + 1) 24) (part t (q + 1) 24)) where
  -- what is left of the field of the row at p behind 24 octets
  abbrev rest : ℕ → List ℕ
  rest r = part t (r + 25) (name_width (octet t r) - 24)

  in_two : same (name_at t p) (name_at t q) ≡ both a (same (rest p) (rest q))
  in_two =
      let f = wide_name (octet t p) in
      let g = wide_name (octet t q) in
      let m : name_width (octet t p) ≡ 24 + (name_width (octet t p) - 24) = omega arith in
      let n : name_width (octet t q) ≡ 24 + (name_width (octet t q) - 24) = omega arith in
      let k = one.least in
      let l = other.least in
      ap₂ (λ (x y : ℕ). same (part t (p + 1) x) (part t (q + 1) y)) m n
      ∙ same-split t 24 (p + 1) (q + 1) (p + 25) (q + 25) (name_width (octet t p) - 24) (name_width (octet t q) - 24)
      (omega arith) (omega arith) (omega arith) (omega arith)
      ∙ ap (λ (x : Bool). both x (same (rest p) (rest q))) (sym first)

  pub name-first : not a ≡ true → false ≡ same (name_at t p) (name_at t q)
  name-first e = sym (in_two ∙ ap (λ (x : Bool). both x (same (rest p) (rest q))) (not-true a e))

  module _ (e : not a ≡ false) where
    by-rest : same (name_at t p) (name_at t q) ≡ same (rest p) (rest q)
    by-rest = in_two ∙ ap (λ (x : Bool). both x (same (rest p) (rest q))) (not-false a e)

    ended : (r : ℕ) → (octet t r ≡ 21 → ⊥) → rest r ≡ []
    ended r n = let w = width-short (octet t r) n in let z : name_width (octet t r) - 24 ≡ 0 = omega arith in ap (part t (r + 25)) z

    goes : (r : ℕ) → octet t r ≡ 21 → rest r ≡ part t (r + 25) 24
    goes r h = let w = width-long (octet t r) h in let z : name_width (octet t r) - 24 ≡ 24 = omega arith in ap (part t (r + 25)) z

    going : (r : ℕ) → WholeName t r → octet t r ≡ 21 → 0 < length (part t (r + 25) 24)
    going r w h = let l = part_length t (r + 25) 24 (long-inside t r w h) in omega arith

    pub name-short : (octet t p ≡ 21 → ⊥) → not (eqb (octet t q) 21) ≡ same (name_at t p) (name_at t q)
    name-short n = sym (by-rest ∙ ap (λ (x : List ℕ). same x (rest q)) (ended p n) ∙ go (eqb (octet t q) 21) refl)
      where
        go : (x : Bool) → eqb (octet t q) 21 ≡ x → same [] (rest q) ≡ not x
        go true h = ap (same []) (goes q (eqb-true _ _ h)) ∙ same_none (part t (q + 25) 24) (going q other (eqb-true _ _ h))
        go false h = ap (same []) (ended q (eqb-false _ _ h)) ∙ same-nil

    module _ (l : octet t p ≡ 21) where
      pub name_longer : (octet t q ≡ 21 → ⊥) → false ≡ same (name_at t p) (name_at t q)
      name_longer n = sym (by-rest ∙ ap₂ same (goes p l) (ended q n) ∙ same_some (part t (p + 25) 24) (going p one l))

      pub name-rest : (r : Bool) → octet t q ≡ 21 → r ≡ same (part t (p + 25) 24) (part t (q + 25) 24) → r ≡ same (name_at t p) (name_at t q)
      name-rest r m g = g ∙ sym (by-rest ∙ ap₂ same (goes p l) (goes q m))
