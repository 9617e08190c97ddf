-- Sets of tags that are gathered from a row's members are the definition's.
use mathlib.Core.Path.{◌≡◌, refl, sym, ap, ap₂, ◌∙◌}
use mathlib.Core.Bool.{Bool, true, false}
use mathlib.Core.List.{List}
use Prim.Native.Nat.{ℕ, zero, suc, ◌≤◌, ◌<◌, ◌+◌, ◌^◌}
use native.Mathlib.Omega.{arith}
use borrow.Author.Tests.{ltb-true, ltb-false, eq-eqb, ne_eqb}
use lib.Dec.{ltb, eqb}
use lib.Pow.{pow-lt}
use lib.Bits.{bit_and, bit_or, or_lt, and_le_l}
use Rattle.octets.specs.Pick.{pick, both, either, no}
use Rattle.octets.proofs.Laws.{all_cong}
use Rattle.der.specs.Tag.{context, universal}
use Rattle.der.proofs.Laws.{universal-most}
use Rattle.rows.specs.Row.{kind_at, mode_at, number_at, presence_at, default_at, named_at, row_at, members_at}
use Rattle.types.specs.Types.{untagged, explicit, implicit, mandatory, optional, default, Member, Ty, Members, tagging_of, presence_of, member_of, members_from, typed, type_from}
use Rattle.types.specs.Begins.{as_tagged, begins, some_begins, member_begins, is_mandatory, apart_at, apart, apart_from_all, alternatives_differ, apart_in_run, runs_differ, tags_apart}
use Rattle.types.specs.Inner.Work.{bit_of, context_bit, member_set, apart_from, union_from, never}
use Rattle.types.proofs.TypeCases.{typed_cases, typed-sequence, typed-choice}
use Rattle.clauses.proofs.PassLaws.{all_both}
use Rattle.types.proofs.BitSets.{bit_none, bit_or_lem, bit_one, sets-apart}

pick_bit : (x : Bool) (g a b : ℕ) (c d : Bool) → (x ≡ true → bit_of a g ≡ c) → (x ≡ false → bit_of b g ≡ d) → bit_of (pick x a b) g ≡ pick x c d
pick_bit true g a b c d p q = p refl
pick_bit false g a b c d p q = q refl

pick_small : (x : Bool) (a b n : ℕ) → (x ≡ true → a < n) → (x ≡ false → b < n) → pick x a b < n
pick_small true a b n p q = p refl
pick_small false a b n p q = q refl

context-small : (n : ℕ) → context_bit n < 2 ^ 64
unfolding context_bit
context-small n = pick_small (ltb n 32) (2 ^ (32 + n)) 0 (2 ^ 64) (λ e. let l = ltb-true n 32 e in let h : 32 + n < 64 = omega arith in pow-lt h) (λ e. omega arith)

pub context-bits : (n g : ℕ) → g < 64 → bit_of (context_bit n) g ≡ eqb g (context n)
unfolding context_bit
context-bits n g h = go (ltb n 32) refl
  where
    go : (x : Bool) → ltb n 32 ≡ x → bit_of (pick x (2 ^ (32 + n)) 0) g ≡ eqb g (32 + n)
    go true e = bit_one g (32 + n)
    go false e = let l = ltb-false n 32 e in bit_none g ∙ sym (ne_eqb g (32 + n) (λ z. omega arith))

-- ---- members as the table has them
pub tagged_as : (mode n g : ℕ) (own : Bool) → as_tagged (tagging_of mode n) own g ≡ pick (eqb mode 0) own (eqb g (context n))
unfolding tagging_of
tagged_as mode n g own = go (eqb mode 0) (eqb mode 1)
  where
    go : (x y : Bool) → as_tagged (pick x untagged (pick y (explicit n) (implicit n))) own g ≡ pick x own (eqb g (context n))
    go true y = refl
    go false true = refl
    go false false = refl

pub mandatory_as : (presence : ℕ) (c : List ℕ) → is_mandatory (presence_of presence c) ≡ eqb presence 0
unfolding presence_of
mandatory_as presence c = go (eqb presence 0) (eqb presence 1)
  where
    go : (x y : Bool) → is_mandatory (pick x mandatory (pick y optional (default c))) ≡ x
    go true y = refl
    go false true = refl
    go false false = refl

pub presence_as : (t : List ℕ) (j p : ℕ) → is_mandatory (member_of t j p).presence ≡ eqb (presence_at t p) 0
unfolding member_of
presence_as t j p = mandatory_as (presence_at t p) (default_at t p)

-- a member's set, by the set of its type
pub set_small : (m : ℕ → ℕ) (t : List ℕ) (p : ℕ) → m (named_at t p) < 2 ^ 64 → member_set m t p < 2 ^ 64
unfolding member_set
set_small m t p h = pick_small (eqb (mode_at t p) 0) _ _ (2 ^ 64) (λ _. h) (λ _. context-small (number_at t p))

pub set_bits : (m : ℕ → ℕ) (ty : Ty) (t : List ℕ) (j p g : ℕ) → g < 64 → bit_of (m (named_at t p)) g ≡ begins ty g → bit_of (member_set m t p) g ≡ member_begins (member_of t j p) ty g
unfolding member_set member_begins member_of
set_bits m ty t j p g b h =
    pick_bit (eqb (mode_at t p) 0) g _ _ _ _ (λ _. h) (λ _. context-bits (number_at t p) g b)
    ∙ sym (tagged_as (mode_at t p) (number_at t p) g (begins ty g))

-- ---- one gathered set in place of pairs
-- x has nothing in common with the k sets from b on, up to the end of the run
unfoldable clear_from : (ℕ → ℕ) → (ℕ → Bool) → ℕ → ℕ → ℕ → Bool
clear_from f e x zero b = true
clear_from f e x (suc k) b = let r = clear_from f e x k (b + 1) in both (eqb (bit_and x (f b)) 0) (either (e b) r)

-- each of the k sets from b on has nothing in common with those after it in its run
unfoldable differ_from : (ℕ → ℕ) → (ℕ → Bool) → ℕ → ℕ → Bool
differ_from f e zero b = true
differ_from f e (suc k) b = let r = differ_from f e k (b + 1) in both (either (e b) (clear_from f e (f b) k (b + 1))) r

none_apart : (y : ℕ) → eqb (bit_and 0 y) 0 ≡ true
none_apart y = let a = and_le_l 0 y in eq-eqb (bit_and 0 y) 0 (omega arith)

clear_none : (f : ℕ → ℕ) (e : ℕ → Bool) (k b : ℕ) → clear_from f e 0 k b ≡ true
unfolding clear_from
clear_none f e zero b = refl
clear_none f e (suc k) b = rw (none_apart (f b), clear_none f e k (b + 1)) (go (e b))
  where
    go : (x : Bool) → either x true ≡ true
    go true = refl
    go false = refl

or_apart : (x y z : ℕ) → x < 2 ^ 64 → y < 2 ^ 64 → eqb (bit_and (bit_or x y) z) 0 ≡ both (eqb (bit_and x z) 0) (eqb (bit_and y z) 0)
or_apart x y z hx hy =
    sets-apart 64 (bit_or x y) z (or_lt 64 x y hx hy)
    ∙ all_cong (λ g. no (both (bit_of (bit_or x y) g) (bit_of z g))) (λ g. both (no (both (bit_of x g) (bit_of z g))) (no (both (bit_of y g) (bit_of z g)))) 64
    (λ g l. ap (λ (u : Bool). no (both u (bit_of z g))) (bit_or_lem g x y) ∙ split (bit_of x g) (bit_of y g) (bit_of z g))
    ∙ all_both (λ g. no (both (bit_of x g) (bit_of z g))) (λ g. no (both (bit_of y g) (bit_of z g))) 64
    ∙ sym (ap₂ both (sets-apart 64 x z hx) (sets-apart 64 y z hy))
  where
    split : (a b c : Bool) → no (both (pick a true b) c) ≡ both (no (both a c)) (no (both b c))
    split true true true = refl
    split true true false = refl
    split true false true = refl
    split true false false = refl
    split false true true = refl
    split false true false = refl
    split false false c = refl

clear_or : (f : ℕ → ℕ) (e : ℕ → Bool) (x y : ℕ) → x < 2 ^ 64 → y < 2 ^ 64 → (k b : ℕ) → clear_from f e (bit_or x y) k b ≡ both (clear_from f e x k b) (clear_from f e y k b)
unfolding clear_from
clear_or f e x y hx hy zero b = refl
clear_or f e x y hx hy (suc k) b =
    ap₂ (λ (u v : Bool). both u (either (e b) v)) (or_apart x y (f b) hx hy) (clear_or f e x y hx hy k (b + 1))
    ∙ crossed (eqb (bit_and x (f b)) 0) (eqb (bit_and y (f b)) 0) (e b) (clear_from f e x k (b + 1)) (clear_from f e y k (b + 1))
  where
    crossed : (a c z p q : Bool) → both (both a c) (either z (both p q)) ≡ both (both a (either z p)) (both c (either z q))
    crossed true true true p q = refl
    crossed true true false p q = refl
    crossed true false true p q = refl
    crossed true false false true q = refl
    crossed true false false false q = refl
    crossed false c z p q = refl

gathered : (f : ℕ → ℕ) (e : ℕ → Bool) (hi : ℕ) (k b x : ℕ) → b + k ≤ hi → ((j : ℕ) → b ≤ j → j < hi → f j < 2 ^ 64) → x < 2 ^ 64
    → apart_from f e k b x ≡ both (clear_from f e x k b) (differ_from f e k b)
unfolding apart_from clear_from differ_from
gathered f e hi zero b x l small h = refl
gathered f e hi (suc k) b x l small h = go (λ y q. gathered f e hi k (b + 1) y (omega arith) (λ j a c. small j (omega arith) c) q) (e b)
  where
    here : f b < 2 ^ 64
    here = small b (omega arith) (omega arith)

    last : (a d : Bool) → both a (both true d) ≡ both (both a true) (both true d)
    last true d = refl
    last false d = refl

    more : (a p q d : Bool) → both a (both (both p q) d) ≡ both (both a p) (both q d)
    more true true q d = refl
    more true false q d = refl
    more false p q d = refl

    go : ((y : ℕ) → y < 2 ^ 64 → apart_from f e k (b + 1) y ≡ both (clear_from f e y k (b + 1)) (differ_from f e k (b + 1)))
        → (z : Bool) → both (eqb (bit_and x (f b)) 0) (apart_from f e k (b + 1) (pick z 0 (bit_or x (f b))))
        ≡ both (both (eqb (bit_and x (f b)) 0) (either z (clear_from f e x k (b + 1)))) (both (either z (clear_from f e (f b) k (b + 1))) (differ_from f e k (b + 1)))
    go next true =
        ap (both (eqb (bit_and x (f b)) 0)) (next 0 (omega arith) ∙ ap (λ (u : Bool). both u (differ_from f e k (b + 1))) (clear_none f e k (b + 1)))
        ∙ last (eqb (bit_and x (f b)) 0) (differ_from f e k (b + 1))
    go next false =
        ap (both (eqb (bit_and x (f b)) 0)) (next (bit_or x (f b)) (or_lt 64 x (f b) h here) ∙ ap (λ (u : Bool). both u (differ_from f e k (b + 1))) (clear_or f e x (f b) h here k (b + 1)))
        ∙ more (eqb (bit_and x (f b)) 0) (clear_from f e x k (b + 1)) (clear_from f e (f b) k (b + 1)) (differ_from f e k (b + 1))

-- ---- the members in the rows lo to hi, where each one's set is right; ty gives a row's type
module _ (t s : List ℕ) (lo hi : ℕ) (f : ℕ → ℕ) (ty : ℕ → Ty)
    (small : (j : ℕ) → lo ≤ j → j < hi → f j < 2 ^ 64)
    (right : (j : ℕ) → lo ≤ j → j < hi → (g : ℕ) → g < 64 → bit_of (f j) g ≡ member_begins (member_of t j (row_at s j)) (ty (named_at t (row_at s j))) g) where
  apart-same : (a b : ℕ) → lo ≤ a → a < hi → lo ≤ b → b < hi
      → eqb (bit_and (f a) (f b)) 0 ≡ apart (member_of t a (row_at s a)) (ty (named_at t (row_at s a))) (member_of t b (row_at s b)) (ty (named_at t (row_at s b)))
  unfolding apart apart_at
  apart-same a b la ha lb hb =
      sets-apart 64 (f a) (f b) (small a la ha)
      ∙ all_cong (λ g. no (both (bit_of (f a) g) (bit_of (f b) g)))
      (apart_at (member_of t a (row_at s a)) (ty (named_at t (row_at s a))) (member_of t b (row_at s b)) (ty (named_at t (row_at s b)))) 64
      (λ g l. ap₂ (λ (x y : Bool). no (both x y)) (right a la ha g l) (right b lb hb g l))

  begins-is : (m : Member) (u : Ty) (g : ℕ) → member_begins m u g ≡ as_tagged m.tagging (begins u g) g
  unfolding member_begins
  begins-is m u g = refl

  pub union-bits : (g : ℕ) → g < 64 → (k b x : ℕ) → lo ≤ b → b + k ≤ hi → bit_of (union_from f k b x) g ≡ either (bit_of x g) (some_begins (members_from ty t s b k) g)
  unfolding union_from members_from begins
  union-bits g l zero b x h q = sym (go (bit_of x g))
    where
      go : (z : Bool) → either z false ≡ z
      go true = refl
      go false = refl
  union-bits g l (suc k) b x h q =
      let hb : b < hi = omega arith in
      let r : b + 1 + k ≤ hi = omega arith in
      let d : lo ≤ b + 1 = omega arith in
      union-bits g l k (b + 1) (bit_or x (f b)) d r
      ∙ ap (λ (u : Bool). either u (some_begins (members_from ty t s (b + 1) k) g)) (bit_or_lem g x (f b) ∙ ap (either (bit_of x g)) (right b h hb g l ∙ begins-is (member_of t b (row_at s b)) (ty (named_at t (row_at s b))) g))
      ∙ joined (bit_of x g) (as_tagged (member_of t b (row_at s b)).tagging (begins (ty (named_at t (row_at s b))) g) g) (some_begins (members_from ty t s (b + 1) k) g)
    where
      joined : (a c d : Bool) → either (either a c) d ≡ either a (either c d)
      joined true c d = refl
      joined false c d = refl

  pub union-small : (k b x : ℕ) → lo ≤ b → b + k ≤ hi → x < 2 ^ 64 → union_from f k b x < 2 ^ 64
  unfolding union_from
  union-small zero b x l h q = q
  union-small (suc k) b x l h q =
      let hb : b < hi = omega arith in
      let r : b + 1 + k ≤ hi = omega arith in
      let d : lo ≤ b + 1 = omega arith in
      union-small k (b + 1) (bit_or x (f b)) d r (or_lt 64 x (f b) q (small b l hb))

  start : (e : ℕ → Bool) (n : ℕ) → lo + n ≤ hi → apart_from f e n lo 0 ≡ differ_from f e n lo
  start e n h = gathered f e hi n lo 0 h small (omega arith) ∙ ap (λ (u : Bool). both u (differ_from f e n lo)) (clear_none f e n lo)

  -- of a CHOICE
  clear_choice : (a : ℕ) → lo ≤ a → a < hi → (k b : ℕ) → lo ≤ b → b + k ≤ hi
      → clear_from f never (f a) k b ≡ apart_from_all (member_of t a (row_at s a)) (ty (named_at t (row_at s a))) (members_from ty t s b k)
  unfolding clear_from members_from apart_from_all
  clear_choice a la ha zero b l h = refl
  clear_choice a la ha (suc k) b l h =
      let hb : b < hi = omega arith in
      let r : b + 1 + k ≤ hi = omega arith in
      let d : lo ≤ b + 1 = omega arith in
      ap₂ both (apart-same a b la ha l hb) (clear_choice a la ha k (b + 1) d r)

  differ-choice : (k b : ℕ) → lo ≤ b → b + k ≤ hi → differ_from f never k b ≡ alternatives_differ (members_from ty t s b k)
  unfolding differ_from members_from alternatives_differ
  differ-choice zero b l h = refl
  differ-choice (suc k) b l h =
      let hb : b < hi = omega arith in
      let r : b + 1 + k ≤ hi = omega arith in
      let d : lo ≤ b + 1 = omega arith in
      ap₂ both (clear_choice b l hb k (b + 1) d r) (differ-choice k (b + 1) d r)

  pub apart-choice : (n : ℕ) → lo + n ≤ hi → apart_from f never n lo 0 ≡ alternatives_differ (members_from ty t s lo n)
  apart-choice n h = start never n h ∙ differ-choice n lo (omega arith) h

  -- of a SEQUENCE
  module _ (e : ℕ → Bool) (ends : (j : ℕ) → lo ≤ j → j < hi → e j ≡ is_mandatory (member_of t j (row_at s j)).presence) where
    clear_sequence : (a : ℕ) → lo ≤ a → a < hi → (k b : ℕ) → lo ≤ b → b + k ≤ hi
        → clear_from f e (f a) k b ≡ apart_in_run (member_of t a (row_at s a)) (ty (named_at t (row_at s a))) (members_from ty t s b k)
    unfolding clear_from members_from apart_in_run
    clear_sequence a la ha zero b l h = refl
    clear_sequence a la ha (suc k) b l h =
        let hb : b < hi = omega arith in
        let r : b + 1 + k ≤ hi = omega arith in
        let d : lo ≤ b + 1 = omega arith in
        ap₂ both (apart-same a b la ha l hb) (ap₂ either (ends b l hb) (clear_sequence a la ha k (b + 1) d r))

    differ-sequence : (k b : ℕ) → lo ≤ b → b + k ≤ hi → differ_from f e k b ≡ runs_differ (members_from ty t s b k)
    unfolding differ_from members_from runs_differ
    differ-sequence zero b l h = refl
    differ-sequence (suc k) b l h =
        let hb : b < hi = omega arith in
        let r : b + 1 + k ≤ hi = omega arith in
        let d : lo ≤ b + 1 = omega arith in
        ap₂ both (ap₂ either (ends b l hb) (clear_sequence b l hb k (b + 1) d r)) (differ-sequence k (b + 1) d r)

    pub apart-sequence : (n : ℕ) → lo + n ≤ hi → apart_from f e n lo 0 ≡ runs_differ (members_from ty t s lo n)
    apart-sequence n h = start e n h ∙ differ-sequence n lo (omega arith) h

-- ---- kinds
pub universal-fits : (k u : ℕ) → u ≡ universal k → u < 64
universal-fits k u e = let m = universal-most k in omega arith

-- the set of a type with a universal tag
pub one-small : (k : ℕ) → 2 ^ universal k < 2 ^ 64
one-small k = pow-lt (universal-fits k (universal k) refl)

-- ---- the type of a row
pub typed-begins : (t s : List ℕ) (i : ℕ) (e : Ty) (ms : Members) (g : ℕ) → (kind_at t (row_at s i) ≡ 13 → ⊥) → begins (typed t s i e ms) g ≡ eqb g (universal (kind_at t (row_at s i)))
unfolding begins
typed-begins t s i e ms g n =
    typed_cases t s i e ms (λ (x : Ty). begins x g ≡ eqb g (universal (kind_at t (row_at s i))))
    (λ h. ap (λ (u : ℕ). eqb g (universal u)) (sym h)) (λ h. absurd (n h)) (λ _. refl) (λ _ _ _. refl)

module _ (t s : List ℕ) (i k : ℕ) where
  abbrev element : Ty
  element = type_from k t s (named_at t (row_at s i))

  abbrev parts : Members
  parts = members_from (type_from k t s) t s (i + 1) (members_at t (row_at s i))

  whole : type_from (suc k) t s i ≡ typed t s i element parts
  unfolding type_from
  whole = refl

  pub bits-one : (kind_at t (row_at s i) ≡ 13 → ⊥) → (g : ℕ) → bit_of (2 ^ universal (kind_at t (row_at s i))) g ≡ begins (type_from (suc k) t s i) g
  bits-one n g = bit_one g (universal (kind_at t (row_at s i))) ∙ sym (ap (λ (x : Ty). begins x g) whole ∙ typed-begins t s i element parts g n)

  pub bits-choice : kind_at t (row_at s i) ≡ 13 → (g : ℕ) → begins (type_from (suc k) t s i) g ≡ some_begins (members_from (type_from k t s) t s (i + 1) (members_at t (row_at s i))) g
  unfolding begins
  bits-choice q g = ap (λ (x : Ty). begins x g) (whole ∙ typed-choice t s i element parts q)

  pub apart_of_choice : kind_at t (row_at s i) ≡ 13 → tags_apart (type_from (suc k) t s i) ≡ alternatives_differ (members_from (type_from k t s) t s (i + 1) (members_at t (row_at s i)))
  unfolding tags_apart
  apart_of_choice q = ap tags_apart (whole ∙ typed-choice t s i element parts q)

  pub apart_of_sequence : kind_at t (row_at s i) ≡ 12 → tags_apart (type_from (suc k) t s i) ≡ runs_differ (members_from (type_from k t s) t s (i + 1) (members_at t (row_at s i)))
  unfolding tags_apart
  apart_of_sequence q = ap tags_apart (whole ∙ typed-sequence t s i element parts q)

  pub apart_of_other : (kind_at t (row_at s i) ≡ 12 → ⊥) → (kind_at t (row_at s i) ≡ 13 → ⊥) → tags_apart (type_from (suc k) t s i) ≡ true
  unfolding tags_apart
  apart_of_other a b =
      ap tags_apart whole
      ∙ typed_cases t s i element parts (λ (x : Ty). tags_apart x ≡ true) (λ h. absurd (a h)) (λ h. absurd (b h)) (λ _. refl) (λ _ _ _. refl)
