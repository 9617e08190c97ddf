-- The type of a row does not depend on the depth to which it is unfolded, where the chain fits; one step of it.
use mathlib.Core.Path.{◌≡◌, refl, ap, ap₂, ◌∙◌}
use mathlib.Core.Bool.{Bool, true, false, false≢true}
use mathlib.Core.List.{List}
use Prim.Native.Nat.{ℕ, zero, suc, ◌≤◌, ◌<◌, ◌+◌}
use native.Mathlib.Omega.{arith}
use lib.ListN.{length}
use Rattle.octets.specs.Pick.{pick, both, either, no, all}
use Rattle.octets.specs.Octets.{octet}
use Rattle.octets.proofs.Laws.{both_true, all-at}
use Rattle.rows.specs.Row.{kind_at, row_at, is_type_kind, is_group, names_row, named_at, members_at}
use Rattle.rows.proofs.KindLaws.{group_type}
use Rattle.clauses.specs.Clauses.{every_row, of_member, chain_fits, member_place}
use Rattle.clauses.specs.Inner.Work.{member_type, Later}
use Rattle.types.specs.Types.{Ty, more, member_of, members_from, typed, type_from}
use Rattle.types.proofs.TypeCases.{typed-named}

-- a row with members is a SEQUENCE or a CHOICE, and no list
members_group : (t : List ℕ) (p a : ℕ) → a < members_at t p → is_group (kind_at t p) ≡ true
unfolding members_at
members_group t p a h = go (is_group (kind_at t p)) h
  where
    go : (x : Bool) → a < pick x (octet t (p + 1)) 0 → x ≡ true
    go true l = refl
    go false l = absurd (omega arith)

-- the chains of what a row names are shorter by one
module _ (t s : List ℕ) (i k : ℕ) (fits : chain_fits (suc k) t s i ≡ true) where
  of-type : is_type_kind (kind_at t (row_at s i)) ≡ true
      → both (either (no (names_row t (row_at s i))) (chain_fits k t s (named_at t (row_at s i)))) (all (of_member (chain_fits k t s) t s i) (members_at t (row_at s i))) ≡ true
  unfolding chain_fits
  of-type h = rw h at fits

  pub member-fits : (a : ℕ) → a < members_at t (row_at s i) → chain_fits k t s (member_type t s i a) ≡ true
  unfolding of_member
  member-fits a l = all-at (of_member (chain_fits k t s) t s i) (members_at t (row_at s i)) a (both_true (either (no (names_row t (row_at s i))) (chain_fits k t s (named_at t (row_at s i)))) _ (of-type (group_type (kind_at t (row_at s i)) (members_group t (row_at s i) a l)))).1 l

  pub named-fits : is_type_kind (kind_at t (row_at s i)) ≡ true → names_row t (row_at s i) ≡ true → chain_fits k t s (named_at t (row_at s i)) ≡ true
  named-fits h n = rw n at (both_true (either (no (names_row t (row_at s i))) (chain_fits k t s (named_at t (row_at s i)))) _ (of-type h)).0

members_cong : (f g : ℕ → Ty) (t s : List ℕ) (i m j n : ℕ) → j + n ≤ m → ((a : ℕ) → a < m → f (member_type t s i a) ≡ g (member_type t s i a)) → members_from f t s (i + 1 + j) n ≡ members_from g t s (i + 1 + j) n
unfolding members_from
members_cong f g t s i m j zero l e = refl
members_cong f g t s i m j (suc n) l e =
    let q : i + 1 + (j + 1) ≡ i + 1 + j + 1 = omega arith in
    let r : members_from f t s (i + 1 + j + 1) n ≡ members_from g t s (i + 1 + j + 1) n = (rw q at (members_cong f g t s i m (j + 1) n (omega arith) e)) in
    ap₂ (more (member_of t (i + 1 + j) (member_place s i j))) (e j (omega arith)) r

-- two types of one row are equal where those of the rows that it names are
typed_cong : (f g : ℕ → Ty) (t s : List ℕ) (i : ℕ)
    → (is_type_kind (kind_at t (row_at s i)) ≡ true → names_row t (row_at s i) ≡ true → f (named_at t (row_at s i)) ≡ g (named_at t (row_at s i)))
    → ((a : ℕ) → a < members_at t (row_at s i) → f (member_type t s i a) ≡ g (member_type t s i a))
    → typed t s i (f (named_at t (row_at s i))) (members_from f t s (i + 1) (members_at t (row_at s i)))
    ≡ typed t s i (g (named_at t (row_at s i))) (members_from g t s (i + 1) (members_at t (row_at s i)))
typed_cong f g t s i named each =
    ap (typed t s i (f (named_at t (row_at s i)))) same
    ∙ typed-named t s i (f (named_at t (row_at s i))) (members_from g t s (i + 1) (members_at t (row_at s i))) (g (named_at t (row_at s i))) named
  where
    same : members_from f t s (i + 1) (members_at t (row_at s i)) ≡ members_from g t s (i + 1) (members_at t (row_at s i))
    same = let q : i + 1 + 0 ≡ i + 1 = omega arith in rw q at (members_cong f g t s i (members_at t (row_at s i)) 0 (members_at t (row_at s i)) (omega arith) each)

no-chain : {A : Type 0} (t s : List ℕ) (i : ℕ) → chain_fits 0 t s i ≡ true → A
unfolding chain_fits
no-chain t s i e = absurd (false≢true e)

-- any depth that suffices gives one type
pub type-same : (t s : List ℕ) (k m i : ℕ) → chain_fits k t s i ≡ true → chain_fits m t s i ≡ true → type_from k t s i ≡ type_from m t s i
unfolding type_from
type-same t s zero m i a b = no-chain t s i a
type-same t s (suc k) zero i a b = no-chain t s i b
type-same t s (suc k) (suc m) i a b =
    typed_cong (type_from k t s) (type_from m t s) t s i
    (λ h n. type-same t s k m (named_at t (row_at s i)) (named-fits t s i k a h n) (named-fits t s i m b h n))
    (λ j l. type-same t s k m (member_type t s i j) (member-fits t s i k a j l) (member-fits t s i m b j l))

-- the type of row i by the types of the rows that it names, none of which is unfolded less far
pub step : (t s : List ℕ) (n : ℕ) → Later t s → every_row (chain_fits n t s) s ≡ true → (i : ℕ) → i < length s
    → type_from n t s i ≡ typed t s i (type_from n t s (named_at t (row_at s i))) (members_from (type_from n t s) t s (i + 1) (members_at t (row_at s i)))
unfolding type_from
step t s zero later chains i h = no-chain t s i (all-at (chain_fits 0 t s) (length s) i chains h)
step t s (suc n) later chains i h =
    typed_cong (type_from n t s) (type_from (suc n) t s) t s i
    (λ y m. type-same t s n (suc n) (named_at t (row_at s i)) (named-fits t s i n (at i h) y m) (at (named_at t (row_at s i)) (later.of_row i h m).1))
    (λ j l. type-same t s n (suc n) (member_type t s i j) (member-fits t s i n (at i h) j l) (at (member_type t s i j) (later.of-member i h j l).1))
  where
    at : (c : ℕ) → c < length s → chain_fits (suc n) t s c ≡ true
    at c l = all-at (chain_fits (suc n) t s) (length s) c chains l
