-- "names in one type differ": also without their fill.
use mathlib.Core.Path.{◌≡◌, refl, sym, ap, ◌∙◌}
use mathlib.Core.Bool.{Bool, true, false, true≢false, false≢true}
use mathlib.Core.Logic.{⊎_elim}
use mathlib.Core.List.{List, [], ◌∷◌}
use Prim.Native.Nat.{ℕ, suc, ◌≤◌, ◌<◌, ◌+◌, ◌-◌}
use native.Mathlib.Omega.{arith}
use borrow.Author.Tests.{eqb-true, eqb-false, eq-eqb, leb-true}
use lib.ListN.{length}
use lib.Dec.{leb, eqb}
use Rattle.octets.specs.Pick.{both, no}
use Rattle.octets.specs.Octets.{octet, same}
use Rattle.octets.specs.Text.{within}
use Rattle.octets.proofs.Laws.{both_true, all-at}
use Rattle.octets.proofs.TextLaws.{same-nil, same_shorter, same_longer, same-cons, same-is}
use Rattle.rows.specs.Limits.{Limits}
use Rattle.rows.specs.Row.{kind_at, name_width, name_at, name_octet_at, unfilled, is_member, rows, row_at, members_at, followers_at}
use Rattle.rows.specs.Body.{follows, followed, length_formed}
use Rattle.rows.proofs.KindLaws.{member-kind, member-follower, follower-name}
use Rattle.rows.proofs.NumberSteps.{part_length}
use Rattle.rows.proofs.Steps.{width-short}
use Rattle.rows.proofs.NameSteps.{field_within, unfilled-within, unfilled-first, unfilled_next, name-octet, name-chain}
use Rattle.clauses.specs.Clauses.{member_place, same_name, differs_from, new_name, names_differ}
use Rattle.clauses.proofs.PassLaws.{member-whole}
use Rattle.types.specs.Admitted.{admitted}
use Rattle.types.proofs.Laws.{member-formed, member-stands, names-differ}

-- ---- the fill goes on to the end
abbrev Chained : List ℕ → Type 0
Chained x = (j : ℕ) → suc j < length x → follows (octet x j) (octet x (suc j)) ≡ true

tail_chained : (a : ℕ) (x : List ℕ) → Chained (a ∷ x) → Chained x
tail_chained a x c j h = c (suc j) (omega arith)

fill-follows : (a b : ℕ) → a ≡ 0 → follows a b ≡ true → b ≡ 0
unfolding follows
fill-follows a b e h = eqb-true b 0 (rw e at h)

fills_same : (x y : List ℕ) (a b : ℕ) → a ≡ 0 → b ≡ 0 → Chained (a ∷ x) → Chained (b ∷ y) → length x ≡ length y → same (a ∷ x) (b ∷ y) ≡ true
fills_same [] [] a b p q c d h = same-cons a b [] [] ∙ rw (p, q) same-nil
fills_same [] (e ∷ y) a b p q c d h = absurd (omega arith)
fills_same (f ∷ x) [] a b p q c d h = absurd (omega arith)
fills_same (f ∷ x) (e ∷ y) a b p q c d h =
    same-cons a b (f ∷ x) (e ∷ y) ∙ rw (p, q) (fills_same x y f e (fill-follows a f p (c 0 (omega arith))) (fill-follows b e q (d 0 (omega arith))) (tail_chained a (f ∷ x) c) (tail_chained b (e ∷ y) d) (let z : suc (length x) ≡ suc (length y) = h in omega arith))

unfilled-same : (x y : List ℕ) → length x ≡ length y → Chained x → Chained y → same (unfilled x) (unfilled y) ≡ true → same x y ≡ true
unfilled-same [] [] h c d e = same-nil
unfilled-same [] (b ∷ y) h c d e = absurd (omega arith)
unfilled-same (a ∷ x) [] h c d e = absurd (omega arith)
unfilled-same (a ∷ x) (b ∷ y) h c d e = go (eqb a 0) refl (eqb b 0) refl (λ q. unfilled-same x y (let z : suc (length x) ≡ suc (length y) = h in omega arith) (tail_chained a x c) (tail_chained b y d) q)
  where
    sizes : length x ≡ length y
    sizes = let z : suc (length x) ≡ suc (length y) = h in omega arith

    go : (u : Bool) → eqb a 0 ≡ u → (v : Bool) → eqb b 0 ≡ v → (same (unfilled x) (unfilled y) ≡ true → same x y ≡ true) → same (a ∷ x) (b ∷ y) ≡ true
    go true p true q f = fills_same x y a b (eqb-true a 0 p) (eqb-true b 0 q) c d sizes
    go true p false q f = absurd (false≢true (sym (rw (unfilled-first a x (eqb-true a 0 p), unfilled_next b y (eqb-false b 0 q)) (same_shorter b (unfilled y))) ∙ e))
    go false p true q f = absurd (false≢true (sym (rw (unfilled_next a x (eqb-false a 0 p), unfilled-first b y (eqb-true b 0 q)) (same_longer a (unfilled x))) ∙ e))
    go false p false q f =
        let w : both (eqb a b) (same (unfilled x) (unfilled y)) ≡ true = sym (rw (unfilled_next a x (eqb-false a 0 p), unfilled_next b y (eqb-false b 0 q)) (same-cons a b (unfilled x) (unfilled y))) ∙ e in
        let r = both_true (eqb a b) (same (unfilled x) (unfilled y)) w in
        same-cons a b x y ∙ rw r.0 (f r.1)

same-turned : (x y : List ℕ) → same x y ≡ true → same y x ≡ true
same-turned [] [] e = same-nil
same-turned [] (b ∷ y) e = absurd (false≢true (sym (same_shorter b y) ∙ e))
same-turned (a ∷ x) [] e = absurd (false≢true (sym (same_longer a x) ∙ e))
same-turned (a ∷ x) (b ∷ y) e =
    let w = both_true (eqb a b) (same x y) (sym (same-cons a b x y) ∙ e) in
    same-cons b a y x ∙ rw (eq-eqb b a (sym (eqb-true a b w.0))) (same-turned x y w.1)

-- ---- the names of members
module _ (l : Limits) (t : List ℕ) (ok : admitted l t ≡ true) where
  abbrev s : List ℕ
  s = rows l.rows t

  module _ (i : ℕ) (here : i < length s) (member : is_member (kind_at t (row_at s i)) ≡ true) where
    abbrev place : ℕ
    place = row_at s i

    field_length : length (name_at t place) ≡ name_width (kind_at t place)
    field_length =
        let w = (follower-name t place (member-whole l.rows t i here member)).inside in
        part_length t (place + 1) (name_width (kind_at t place)) (omega arith)

    name_chained : Chained (name_at t place)
    unfolding followed
    name_chained j h =
        let n = field_length in
        let a : j < name_width (kind_at t place) = omega arith in
        let b : suc j < name_width (kind_at t place) = omega arith in
        let k : j < name_width (kind_at t place) - 1 = omega arith in
        let g = name-chain t place (member-formed l t ok i here member).named in
        let m : follows (name_octet_at t place j) (name_octet_at t place (j + 1)) ≡ true = all-at (followed t place) (name_width (kind_at t place) - 1) j g k in
        let e : j + 1 ≡ suc j = omega arith in
        rw (name-octet t place j a, name-octet t place (suc j) b) (ap (λ (y : ℕ). follows (name_octet_at t place j) (name_octet_at t place y)) (sym e) ∙ m)

    -- "names of 25 to 48 characters" in kind 21, up to 24 in kind 16
    pub long-name : kind_at t place ≡ 21 → (25 ≤ length (unfilled (name_at t place))) × (length (unfilled (name_at t place)) ≤ 48)
    unfolding length_formed
    long-name k =
        let w : within 25 48 (length (unfilled (name_at t place))) ≡ true = rw (eq-eqb (kind_at t place) 21 k) at (member-formed l t ok i here member).sized in
        let v = both_true (leb 25 (length (unfilled (name_at t place)))) (leb (length (unfilled (name_at t place))) 48) w in
        (leb-true _ _ v.0, leb-true _ _ v.1)

    pub short-name : kind_at t place ≡ 16 → length (unfilled (name_at t place)) ≤ 24
    short-name k =
        let n : kind_at t place ≡ 21 → ⊥ = λ e. omega arith in
        let w = width-short (kind_at t place) n in
        let f = field_within t place in
        let u = unfilled-within (name_at t place) in
        omega arith

-- names of one length stand in rows of one kind
module _ (l : Limits) (t u : List ℕ) (ad : admitted l t ≡ true) (bd : admitted l u ≡ true) (i j : ℕ)
    (here : i < length (rows l.rows t)) (there : j < length (rows l.rows u))
    (one : is_member (kind_at t (row_at (rows l.rows t) i)) ≡ true) (other : is_member (kind_at u (row_at (rows l.rows u) j)) ≡ true) where
  abbrev p : ℕ
  p = row_at (rows l.rows t) i

  abbrev q : ℕ
  q = row_at (rows l.rows u) j

  pub kinds_same : length (unfilled (name_at t p)) ≡ length (unfilled (name_at u q)) → kind_at t p ≡ kind_at u q
  kinds_same alike = ⊎_elim
      (λ (a : kind_at t p ≡ 16). ⊎_elim
      (λ (b : kind_at u q ≡ 16). a ∙ sym b)
      (λ (b : kind_at u q ≡ 21). absurd (let x = short-name l t ad i here one a in let y = (long-name l u bd j there other b).0 in omega arith))
      (member-kind (kind_at u q) other))
      (λ (a : kind_at t p ≡ 21). ⊎_elim
      (λ (b : kind_at u q ≡ 16). absurd (let x = short-name l u bd j there other b in let y = (long-name l t ad i here one a).0 in omega arith))
      (λ (b : kind_at u q ≡ 21). a ∙ sym b)
      (member-kind (kind_at u q) other))
      (member-kind (kind_at t p) one)

-- "names in one type differ": without their fill too
module _ (l : Limits) (t : List ℕ) (ok : admitted l t ≡ true) where
  abbrev rs : List ℕ
  rs = rows l.rows t

  pub unfilled-differ : (i : ℕ) → i < length rs → (a b : ℕ) → a < b → b < members_at t (row_at rs i)
      → same (unfilled (name_at t (member_place rs i b))) (unfilled (name_at t (member_place rs i a))) ≡ false
  unfolding names_differ new_name differs_from same_name
  unfilled-differ i here a b low high = go (same (unfilled (name_at t (member_place rs i b))) (unfilled (name_at t (member_place rs i a)))) refl
    where
      stand_a : (i + 1 + a < length rs) × (is_member (kind_at t (member_place rs i a)) ≡ true)
      stand_a = member-stands l t ok i here a (omega arith)

      stand_b : (i + 1 + b < length rs) × (is_member (kind_at t (member_place rs i b)) ≡ true)
      stand_b = member-stands l t ok i here b high

      apart : no (same (name_at t (member_place rs i a)) (name_at t (member_place rs i b))) ≡ true
      apart = all-at (differs_from t rs i b) b a (all-at (new_name t rs i) (followers_at t (row_at rs i)) b (names-differ l t ok i here)
          (member-follower t (row_at rs i) b high)) low

      widths : same (unfilled (name_at t (member_place rs i b))) (unfilled (name_at t (member_place rs i a))) ≡ true
          → length (name_at t (member_place rs i b)) ≡ length (name_at t (member_place rs i a))
      widths e =
          field_length l t ok (i + 1 + b) stand_b.0 stand_b.1
          ∙ ap name_width (kinds_same l t t ok ok (i + 1 + b) (i + 1 + a) stand_b.0 stand_a.0 stand_b.1 stand_a.1
          (ap length (same-is (unfilled (name_at t (member_place rs i b))) (unfilled (name_at t (member_place rs i a))) e)))
          ∙ sym (field_length l t ok (i + 1 + a) stand_a.0 stand_a.1)

      alike : same (unfilled (name_at t (member_place rs i b))) (unfilled (name_at t (member_place rs i a))) ≡ true
          → same (name_at t (member_place rs i a)) (name_at t (member_place rs i b)) ≡ true
      alike e = same-turned (name_at t (member_place rs i b)) (name_at t (member_place rs i a))
          (unfilled-same (name_at t (member_place rs i b)) (name_at t (member_place rs i a)) (widths e)
          (name_chained l t ok (i + 1 + b) stand_b.0 stand_b.1) (name_chained l t ok (i + 1 + a) stand_a.0 stand_a.1) e)

      go : (x : Bool) → same (unfilled (name_at t (member_place rs i b))) (unfilled (name_at t (member_place rs i a))) ≡ x → x ≡ false
      go false q = refl
      go true q = absurd (true≢false (sym apart ∙ ap no (alike q)))
