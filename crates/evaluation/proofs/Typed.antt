-- Types of an admitted table: defaults are legal contents of their types, and names differ.
use mathlib.Core.Path.{◌≡◌, refl, sym, ap, ◌∙◌, subst}
use mathlib.Core.Bool.{Bool, true, false}
use mathlib.Core.List.{List, [], ◌∷◌}
use Prim.Native.Nat.{ℕ, zero, suc, ◌≤◌, ◌<◌, ◌+◌}
use native.Mathlib.Omega.{arith}
use borrow.Author.Tests.{eqb-true, eqb-false, eq-eqb, leb-true}
use lib.ListN.{length}
use lib.Dec.{leb, eqb}
use Rattle.octets.specs.Pick.{pick, either, no}
use Rattle.octets.specs.Octets.{same}
use Rattle.octets.specs.Text.{within}
use Rattle.octets.proofs.TextLaws.{same-is}
use Rattle.octets.proofs.Laws.{both_true}
use Rattle.der.specs.Contents.{legal_boolean}
use Rattle.der.specs.Legal.{legal}
use Rattle.der.proofs.Laws.{integer-octets, legal-boolean, legal-integer, legal-enumerated}
use Rattle.rows.specs.Paper.{table_limits}
use Rattle.rows.specs.Row.{name_at, kind_at, is_member, named_at, presence_at, default_length_at, default_at, row_at, members_at, unfilled}
use Rattle.rows.proofs.KindLaws.{list-names}
use Rattle.clauses.specs.Clauses.{member_place, default_allowed, default_legal}
use Rattle.types.proofs.TypeCases.{typed_cases, typed-small}
use Rattle.types.specs.Types.{Presence, mandatory, optional, default, NamedBit, Ty, basic, sequence, choice, list_of, Members, no_more, more}
use Rattle.types.specs.Types.{presence_of, member_of, members_from, typed, type_from}
use Rattle.types.specs.Admitted.{admitted}
use Rattle.types.specs.Inner.Work.{Sound}
use Rattle.types.proofs.NameLaws.{unfilled-differ}
use Rattle.table.specs.Inner.Rows.{table_rows, type_at}
use Rattle.table.specs.Inner.Words.{Worded}

-- "names in one type differ", without their fill
pub record NamesDiffer (t s : List ℕ) : Type 0 where
  pub differ : (i : ℕ) → i < length s → (a b : ℕ) → a < b → b < members_at t (row_at s i) → same (unfilled (name_at t (member_place s i b))) (unfilled (name_at t (member_place s i a))) ≡ false

-- ---- defaults of at most 8 octets
boolean-short : (c : List ℕ) → legal_boolean c ≡ true → length c ≤ 8
unfolding legal_boolean
boolean-short c e = go (same c (0 ∷ [])) refl e
  where
    one : (b : ℕ) → same c (b ∷ []) ≡ true → length c ≤ 8
    one b q = let z : length c ≡ 1 = ap length (same-is c (b ∷ []) q) in omega arith

    go : (u : Bool) → same c (0 ∷ []) ≡ u → either u (same c (255 ∷ [])) ≡ true → length c ≤ 8
    go true q f = one 0 q
    go false q f = one 255 f

small-kind : (k : ℕ) (P : ℕ → Type 0) → 1 ≤ k → k ≤ 3 → P 1 → P 2 → P 3 → P k
small-kind k P a b p q r = go (eqb k 1) refl (eqb k 2) refl
  where
    go : (x : Bool) → eqb k 1 ≡ x → (y : Bool) → eqb k 2 ≡ y → P k
    go true e y f = subst P (sym (eqb-true k 1 e)) p
    go false e true f = subst P (sym (eqb-true k 2 f)) q
    go false e false f = let u = eqb-false k 1 e in let w = eqb-false k 2 f in let z : 3 ≡ k = omega arith in subst P z r

default-short : (k : ℕ) (c : List ℕ) → default_allowed k c ≡ true → length c ≤ 8
unfolding default_allowed
default-short k c e =
    let w = both_true (within 1 3 k) (legal k c) e in
    let u = both_true (leb 1 k) (leb k 3) w.0 in
    small-kind k (λ (y : ℕ). legal y c ≡ true → length c ≤ 8) (leb-true 1 k u.0) (leb-true k 3 u.1)
    (λ h. boolean-short c (sym (legal-boolean c) ∙ h))
    (λ h. (integer-octets c (sym (legal-integer c) ∙ h)).1)
    (λ h. (integer-octets c (sym (legal-enumerated c) ∙ h)).1)
    w.1

-- ---- types whose defaults are legal and whose names differ
-- the contents of a default, which only a basic type has
pub record Defaulted (ty : Ty) (c : List ℕ) : Type 0 where
  pub kind : ℕ
  pub names : List NamedBit
  pub is_basic_type : ty ≡ basic kind names
  pub low : kind ≤ 3
  pub legal : legal kind c ≡ true
  pub short : length c ≤ 8

abbrev pub DefaultFine : Ty → Presence → Type 0
DefaultFine ty mandatory = Unit {0}
DefaultFine ty optional = Unit {0}
DefaultFine ty (default c) = Defaulted ty c

-- none of these members has the name
unfoldable pub Fresh : List ℕ → Members → Type 0
Fresh x no_more = Unit {0}
Fresh x (more m ty ms) = (same m.name x ≡ false) × Fresh x ms

unfoldable mutual
  pub Fine : Ty → Type 0
  Fine (basic k names) = Unit {0}
  Fine (sequence ms) = FineIn ms
  Fine (choice ms) = FineIn ms
  Fine (list_of k ty) = Fine ty

  pub FineIn : Members → Type 0
  FineIn no_more = Unit {0}
  FineIn (more m ty ms) = DefaultFine ty m.presence × (Fresh m.name ms × (Fine ty × FineIn ms))

module _ (chain : ℕ) (t s m : List ℕ) (ok : Sound chain t s m) where
  -- the default of a member row
  pub default_fine : (i : ℕ) → i < length s → is_member (kind_at t (row_at s i)) ≡ true → named_at t (row_at s i) < length s
      → DefaultFine (type_from chain t s (named_at t (row_at s i))) (member_of t i (row_at s i)).presence
  unfolding member_of presence_of default_legal default_allowed
  default_fine i h k there = go (eqb (presence_at t (row_at s i)) 0) refl (eqb (presence_at t (row_at s i)) 1) refl
    where
      legal-default : (a b : Bool) → eqb (presence_at t (row_at s i)) 2 ≡ true → either (no (is_member (kind_at t (row_at s i)))) (pick (eqb (presence_at t (row_at s i)) 2) a b) ≡ true → a ≡ true
      legal-default a b e f = rw (k, e) at f

      allowed : eqb (presence_at t (row_at s i)) 2 ≡ true → Defaulted (type_from chain t s (named_at t (row_at s i))) (default_at t (row_at s i))
      allowed e =
          let k = kind_at t (row_at s (named_at t (row_at s i))) in
          let w : default_allowed k (default_at t (row_at s i)) ≡ true = legal-default (default_allowed k (default_at t (row_at s i))) (eqb (default_length_at t (row_at s i)) 0) e (ok.defaults i h) in
          let u = both_true (within 1 3 k) (legal k (default_at t (row_at s i))) w in
          let z = both_true (leb 1 k) (leb k 3) u.0 in
          record {
            kind = k;
            names = _;
            is_basic_type = ok.step (named_at t (row_at s i)) there ∙ typed-small t s (named_at t (row_at s i)) _ _ (omega (arith, leb-true k 3 z.1));
            low = leb-true k 3 z.1;
            legal = u.1;
            short = default-short k (default_at t (row_at s i)) w;
          }

      go : (x : Bool) → eqb (presence_at t (row_at s i)) 0 ≡ x → (y : Bool) → eqb (presence_at t (row_at s i)) 1 ≡ y
          → DefaultFine (type_from chain t s (named_at t (row_at s i))) (pick x mandatory (pick y optional (default (default_at t (row_at s i)))))
      go true e y f = tt
      go false e true f = tt
      go false e false f =
          let a = eqb-false (presence_at t (row_at s i)) 0 e in
          let b = eqb-false (presence_at t (row_at s i)) 1 f in
          let c = ok.presence i h k in
          let d : presence_at t (row_at s i) ≡ 2 = omega arith in
          allowed (eq-eqb (presence_at t (row_at s i)) 2 d)

module _ (chain : ℕ) (t s m : List ℕ) (ok : Sound chain t s m) (names : NamesDiffer t s) where
  fresh-rows : (f : ℕ → Ty) (x : List ℕ) (k a : ℕ) → ((j : ℕ) → j < k → same (unfilled (name_at t (row_at s (a + j)))) x ≡ false) → Fresh x (members_from f t s a k)
  unfolding Fresh members_from member_of
  fresh-rows f x zero a h = tt
  fresh-rows f x (suc k) a h = (
    let z : a + 0 ≡ a = omega arith in subst (λ (y : ℕ). same (unfilled (name_at t (row_at s y))) x ≡ false) z (h 0 (omega arith)),
    fresh-rows f x k (a + 1) (λ j d. let e : a + suc j ≡ a + 1 + j = omega arith in subst (λ (y : ℕ). same (unfilled (name_at t (row_at s y))) x ≡ false) e (h (suc j) (omega arith))),
  )

  -- k members from row a on, behind row i
  fine_rows : (i : ℕ) → ((j : ℕ) → i < j → j < length s → Fine (type_from chain t s j)) → (k a : ℕ)
      → ((j : ℕ) → j < k → (a + j < length s) × (is_member (kind_at t (row_at s (a + j))) ≡ true) × (i < named_at t (row_at s (a + j))) × (named_at t (row_at s (a + j)) < length s))
      → ((i j : ℕ) → i < j → j < k → same (unfilled (name_at t (row_at s (a + j)))) (unfilled (name_at t (row_at s (a + i)))) ≡ false) → FineIn (members_from (type_from chain t s) t s a k)
  unfolding Fine members_from member_of
  fine_rows n fine zero a rows apart = tt
  fine_rows n fine (suc k) a rows apart =
      let z : a + 0 ≡ a = omega arith in
      let first = subst (λ (y : ℕ). (y < length s) × (is_member (kind_at t (row_at s y)) ≡ true) × (n < named_at t (row_at s y)) × (named_at t (row_at s y) < length s)) z (rows 0 (omega arith)) in (
        default_fine chain t s m ok a first.0 first.1 first.3,
        (
          fresh-rows (type_from chain t s) _ k (a + 1) (λ j d. shift (λ (y : ℕ). same (unfilled (name_at t (row_at s y))) (unfilled (name_at t (row_at s a))) ≡ false) j (subst (λ (y : ℕ). same (unfilled (name_at t (row_at s (a + suc j)))) (unfilled (name_at t (row_at s y))) ≡ false) z (apart 0 (suc j) (omega arith) (omega arith)))),
          (
            fine (named_at t (row_at s a)) first.2 first.3,
            fine_rows n fine k (a + 1) (λ j d. shift (λ (y : ℕ). (y < length s) × (is_member (kind_at t (row_at s y)) ≡ true) × (n < named_at t (row_at s y)) × (named_at t (row_at s y) < length s)) j (rows (suc j) (omega arith)))
                (λ i j l d. shift (λ (y : ℕ). same (unfilled (name_at t (row_at s y))) (unfilled (name_at t (row_at s (a + 1 + i)))) ≡ false) j (shift (λ (y : ℕ). same (unfilled (name_at t (row_at s (a + suc j)))) (unfilled (name_at t (row_at s y))) ≡ false) i (apart (suc i) (suc j) (omega arith) (omega arith)))),
          ),
        ),
      )
    where
      shift : (P : ℕ → Type 0) (j : ℕ) → P (a + suc j) → P (a + 1 + j)
      shift P j w = let e : a + suc j ≡ a + 1 + j = omega arith in subst P e w

  -- the type of a row, where those of later rows are fine
  fine_typed : (i : ℕ) → i < length s → ((j : ℕ) → i < j → j < length s → Fine (type_from chain t s j))
      → Fine (typed t s i (type_from chain t s (named_at t (row_at s i))) (members_from (type_from chain t s) t s (i + 1) (members_at t (row_at s i))))
  unfolding Fine
  fine_typed i h later =
      typed_cases t s i (type_from chain t s (named_at t (row_at s i))) (members_from (type_from chain t s) t s (i + 1) (members_at t (row_at s i))) (λ (y : Ty). Fine y)
      (λ _. members) (λ _. members) (λ e. let w = ok.later.of_row i h (list-names t (row_at s i) e) in later (named_at t (row_at s i)) w.0 w.1) (λ _ _ _. tt)
    where
      members : FineIn (members_from (type_from chain t s) t s (i + 1) (members_at t (row_at s i)))
      members = fine_rows i later (members_at t (row_at s i)) (i + 1) (λ j d. (ok.stands i h j d, ok.members i h j d, (ok.later.of-member i h j d).0, (ok.later.of-member i h j d).1)) (λ a b l d. names.differ i h a b l d)

  -- the rows that a row names come later
  fine_type : (n i : ℕ) → i < length s → length s ≤ i + n → Fine (type_from chain t s i)
  fine_type zero i h l = absurd (omega arith)
  fine_type (suc n) i h l = subst Fine (sym (ok.step i h)) (fine_typed i h (λ j a d. fine_type n j d (omega arith)))

-- the type of row 0 of an admitted table
pub fine_first : (t w : List ℕ) → Worded t w → admitted table_limits t ≡ true → Fine (type_at t 0)
fine_first t w ok admits =
    fine_type table_limits.chain t (table_rows t) ok.m ok.ready.sound (record { differ = unfilled-differ table_limits t admits }) (length (table_rows t)) 0 ok.ready.rooted (omega arith)
