-- One lemma for each return and each turn of a loop; its premises are the facts as the code has them.
use mathlib.Core.Path.{◌≡◌, refl, sym, ap, ap₂, ◌∙◌}
use mathlib.Core.Bool.{Bool, true, false, not}
use mathlib.Core.List.{List}
use Prim.Native.Nat.{ℕ, zero, suc, ◌≤◌, ◌<◌, ◌+◌, ◌-◌, ◌*◌}
use native.Mathlib.Omega.{arith}
use native.Mathlib.Nat.{add-zero}
use borrow.Author.Tests.{not-true, not-false, eq-eqb, ne_eqb, eqb-true, eqb-false, leb-true, lt-ltb, le-ltb, lt-leb, le-leb, ltb-true, ltb-false}
use lib.Dec.{ltb, leb, eqb}
use lib.ListN.{length, take, drop, length-take}
use lib.Seq.{take-nil, get_or-take, get_or-drop, drop-drop}
use Rattle.std.specs.Prelude.{Option, None, Some}
use Rattle.std.specs.Option.{unwrap_or}
use Rattle.octets.specs.Pick.{pick, no, all}
use Rattle.octets.specs.Octets.{octet, two, part, every}
use Rattle.octets.specs.Text.{within, is_lower, is_letter, is_alnum, may_follow}
use Rattle.octets.proofs.Laws.{octet-past, rest-none, part-rest, both_true, all-at, all-is, all_more, all-bad, all_done}
use Rattle.octets.proofs.TextLaws.{every-is, every-at}
use Rattle.rows.specs.Row.{kind_at, name_width, name_at, name_octet_at, behind_name, presence_at, default_length_at, default_at, is_type_kind, is_group}
use Rattle.rows.specs.Row.{is_member, is_list, named_at, row_size, members_at, bit_names_at, follower_kind, followers_at, stands_as}
use Rattle.rows.specs.Body.{count_formed, follows, followed, tagging_formed, tag_formed, presence_formed, is_zero, default_filled}
use Rattle.rows.specs.Inner.Sizes.{type_row_size, type_size, some_size, name_begun, fields_formed, WholeMember}
use Rattle.rows.proofs.KindLaws.{list-named, member-named}

-- ---- reading
pub from_past : (t : List ℕ) (p k : ℕ) → length t ≤ p → take k (drop (length t) t) ≡ drop p t
from_past t p k h = rw (rest-none t (length t) (omega arith), rest-none t p h) (take-nil k)

pub from-inside : (t : List ℕ) (p : ℕ) → take (length t - p) (drop p t) ≡ drop p t
from-inside t p = part-rest t p (length t - p) (omega arith)

module _ (t row : List ℕ) (p : ℕ) (rest : row ≡ drop p t) where
  pub field_is : (k r : ℕ) → r ≡ octet row k → r ≡ octet t (p + k)
  field_is k r e = e ∙ ap (λ (l : List ℕ). octet l k) rest ∙ get_or-drop p t k 0

  pub fields_are : (k n : ℕ) (r : List ℕ) → r ≡ part row k n → r ≡ part t (p + k) n
  fields_are k n r e = e ∙ ap (λ (l : List ℕ). part l k n) rest ∙ ap (take n) (drop-drop k p t)

pub number_is : (t : List ℕ) (p k a b r : ℕ) → a ≡ octet t (p + k) → b ≡ octet t (p + (k + 1)) → r ≡ a * 256 + b → r ≡ two t (p + k)
number_is t p k a b r e f g =
    let next : p + (k + 1) ≡ p + k + 1 = omega arith in
    g ∙ ap₂ (λ (x y : ℕ). x * 256 + y) e (f ∙ ap (octet t) next)

-- ---- behind a name
pub width-long : (k : ℕ) → k ≡ 21 → 48 ≡ name_width k
unfolding name_width
width-long k e = rw e

pub width-short : (k : ℕ) → (k ≡ 21 → ⊥) → 24 ≡ name_width k
unfolding name_width
width-short k n = rw (ne_eqb k 21 n)

pub behind-is : (t : List ℕ) (p w : ℕ) → w ≡ name_width (octet t p) → p + (1 + w) ≡ behind_name t p
unfolding behind_name
behind-is t p w e = ap (λ (x : ℕ). p + (1 + x)) e

module _ (t : List ℕ) (p o w : ℕ) (read : o ≡ octet t p) (wide : w ≡ name_width o) where
  behind : behind_name t p ≡ p + (1 + w)
  behind = sym (behind-is t p w (wide ∙ ap name_width read))

  pub name-is : (a : List ℕ) → a ≡ part t (p + 1) w → a ≡ name_at t p
  name-is a e = e ∙ ap (part t (p + 1)) (wide ∙ ap name_width read)

  pub field_behind : (k r : ℕ) → r ≡ octet t (p + (w + 1 + k)) → r ≡ octet t (behind_name t p + k)
  field_behind k r e = let b = behind in let place : p + (w + 1 + k) ≡ behind_name t p + k = omega arith in e ∙ ap (octet t) place

  pub default-is : (a : List ℕ) (n z : ℕ) → n ≡ octet t (behind_name t p + 5) → z ≡ n → a ≡ part t (p + (w + 7)) z → a ≡ default_at t p
  default-is a n z e f g =
      let b = behind in
      let place : p + (w + 7) ≡ behind_name t p + 6 = omega arith in
      g ∙ ap₂ (part t) place (f ∙ e)

module _ (t : List ℕ) (p q : ℕ) (at : q ≡ behind_name t p) where
  pub field_whole : (k : ℕ) → octet t (q + k) ≡ octet t (behind_name t p + k)
  field_whole k = ap (λ (x : ℕ). octet t (x + k)) at

  pub default-whole : (n w : ℕ) → n ≡ octet t (behind_name t p + 5) → w ≡ n → take (q + 6 + w - (q + 6)) (drop (q + 6) t) ≡ default_at t p
  default-whole n w e f = let size : q + 6 + w - (q + 6) ≡ w = omega arith in ap₂ (λ (x y : ℕ). part t (x + 6) y) at (size ∙ f ∙ e)

-- ---- the row that a row names
pub element-named : (t : List ℕ) (p r : ℕ) → is_list (kind_at t p) ≡ true → r ≡ two t (p + 1) → r ≡ named_at t p
element-named t p r h e = e ∙ sym (list-named t p h)

pub type_row_whole : (t : List ℕ) (p q r : ℕ) → q ≡ behind_name t p → WholeMember t p → r ≡ octet t q * 256 + octet t (q + 1) → r ≡ named_at t p
type_row_whole t p q r at w e = e ∙ ap (two t) at ∙ sym (member-named t p w.member)

-- ---- the rows
module _ (k : ℕ) (a : Bool) (basic : a ≡ within 1 11 k) where
  pub size_basic : a ≡ true → Some 1 ≡ some_size (type_row_size k)
  unfolding type_row_size
  size_basic h = rw (sym basic ∙ h)

  module _ (h : a ≡ false) (b : Bool) (group : b ≡ is_group k) where
    pub size_group : b ≡ true → Some 2 ≡ some_size (type_row_size k)
    unfolding type_row_size
    size_group g = rw (sym basic ∙ h, sym group ∙ g)

    module _ (g : b ≡ false) (c : Bool) (list : c ≡ is_list k) where
      pub size-list : c ≡ true → Some 3 ≡ some_size (type_row_size k)
      unfolding type_row_size
      size-list l = rw (sym basic ∙ h, sym group ∙ g, sym list ∙ l)

      module _ (l : c ≡ false) where
        pub size-named : k ≡ 17 → Some 2 ≡ some_size (type_row_size k)
        unfolding type_row_size
        size-named e = rw (sym basic ∙ h, sym group ∙ g, sym list ∙ l, eq-eqb k 17 e)

        module _ (n : k ≡ 17 → ⊥) (d : Bool) (name : d ≡ within 19 20 k) where
          pub size-name : d ≡ true → Some 1 ≡ some_size (type_row_size k)
          unfolding type_row_size
          size-name m = rw (sym basic ∙ h, sym group ∙ g, sym list ∙ l, ne_eqb k 17 n, sym name ∙ m)

          pub size_none : d ≡ false → None ≡ some_size (type_row_size k)
          unfolding type_row_size
          size_none m = rw (sym basic ∙ h, sym group ∙ g, sym list ∙ l, ne_eqb k 17 n, sym name ∙ m)

module _ (t : List ℕ) (p o : ℕ) (g : Bool) (read : o ≡ octet t p) (told : g ≡ is_group o) where
  pub members_group : (a r : ℕ) → g ≡ true → a ≡ octet t (p + 1) → r ≡ a → r ≡ members_at t p
  unfolding members_at
  members_group a r h e f = rw (← read, sym told ∙ h) (f ∙ e)

  pub members-none : g ≡ false → 0 ≡ members_at t p
  unfolding members_at
  members-none h = rw (← read, sym told ∙ h)

module _ (k : ℕ) (a : Bool) (told : a ≡ within 1 15 k) where
  pub type-plain : a ≡ true → true ≡ is_type_kind k
  unfolding is_type_kind
  type-plain h = rw (sym told ∙ h)

  module _ (h : a ≡ false) where
    pub type-named : k ≡ 17 → true ≡ is_type_kind k
    unfolding is_type_kind
    type-named e = rw (sym told ∙ h, eq-eqb k 17 e)

    pub type-name : (r : Bool) → (k ≡ 17 → ⊥) → r ≡ within 19 20 k → r ≡ is_type_kind k
    unfolding is_type_kind
    type-name r n e = rw (sym told ∙ h, ne_eqb k 17 n) e

pub follower-low : (k : ℕ) → k < 12 → 0 ≡ follower_kind k
unfolding follower_kind is_group
follower-low k h = rw (ne_eqb k 12 (λ e. omega arith), ne_eqb k 13 (λ e. omega arith), ne_eqb k 17 (λ e. omega arith))

module _ (k : ℕ) (g : Bool) (told : g ≡ is_group k) where
  pub follower_group : g ≡ true → 16 ≡ follower_kind k
  unfolding follower_kind
  follower_group h = rw (sym told ∙ h)

  module _ (h : g ≡ false) where
    pub follower_bit : k ≡ 17 → 18 ≡ follower_kind k
    unfolding follower_kind
    follower_bit e = rw (sym told ∙ h, eq-eqb k 17 e)

    pub follower-none : (k ≡ 17 → ⊥) → 0 ≡ follower_kind k
    unfolding follower_kind
    follower-none n = rw (sym told ∙ h, ne_eqb k 17 n)

module _ (t : List ℕ) (p f : ℕ) (told : f ≡ follower_kind (octet t p)) where
  pub followers_none : f ≡ 0 → 0 ≡ followers_at t p
  unfolding followers_at
  followers_none h = rw (sym told ∙ h)

  pub followers_count : (a r : ℕ) → (f ≡ 0 → ⊥) → a ≡ octet t (p + 1) → r ≡ a → r ≡ followers_at t p
  unfolding followers_at
  followers_count a r n e q = rw (← told, ne_eqb f 0 n) (q ∙ e)

module _ (t : List ℕ) (p o : ℕ) (read : o ≡ octet t p) where
  pub names-count : (a r : ℕ) → o ≡ 17 → a ≡ octet t (p + 1) → r ≡ a → r ≡ bit_names_at t p
  unfolding bit_names_at
  names-count a r h e q = rw (← read, h) (q ∙ e)

  pub names-none : (o ≡ 17 → ⊥) → 0 ≡ bit_names_at t p
  unfolding bit_names_at
  names-none n = rw (← read, ne_eqb o 17 n)

size_of : (n : ℕ) → unwrap_or (some_size n) 0 ≡ n
size_of zero = refl
size_of (suc n) = refl

-- a size that one function found by another
pub size_found : (n r : ℕ) (o q : Option ℕ) → q ≡ some_size n → o ≡ q → r ≡ unwrap_or o 0 → r ≡ n
size_found n r o q e f g = rw (f, e) at g ∙ size_of n

module _ (most : ℕ) (t : List ℕ) (p : ℕ) (o : Option ℕ) (told : o ≡ some_size (type_row_size (octet t p))) where
  pub type-unsized : o ≡ None → 0 ≡ type_size most t p
  unfolding type_size
  type-unsized e = rw (sym (size_found (type_row_size (octet t p)) 0 None o told (sym e) refl)) (go (ltb (length t - p) 0) (count_formed most t p))
    where
      go : (x y : Bool) → ◌≡◌ {A = ℕ} 0 (pick x 0 (pick y 0 0))
      go true y = refl
      go false true = refl
      go false false = refl

module _ (most : ℕ) (t : List ℕ) (p size : ℕ) (o : Option ℕ) (told : o ≡ some_size (type_row_size (octet t p))) (found : o ≡ Some size) where
  sized : size ≡ type_row_size (octet t p)
  sized = size_found (type_row_size (octet t p)) size (Some size) o told (sym found) refl

  pub type-short : length t - p < size → 0 ≡ type_size most t p
  unfolding type_size
  type-short h = rw (← sized, lt-ltb (length t - p) size h)

  module _ (u : Bool) (h : size ≤ length t - p) (formed : u ≡ count_formed most t p) where
    pub type_unformed : not u ≡ true → 0 ≡ type_size most t p
    unfolding type_size
    type_unformed e = rw (← sized, le-ltb (length t - p) size h, sym formed ∙ not-true u e)

    pub type-sized : not u ≡ false → size ≡ type_size most t p
    unfolding type_size
    type-sized e = rw (← sized, le-ltb (length t - p) size h, sym formed ∙ not-false u e)

-- ---- bodies
module _ (most : ℕ) (t : List ℕ) (p k : ℕ) (read : k ≡ octet t p) where
  pub count-sequence : (a : ℕ) → k ≡ 12 → a ≡ octet t (p + 1) → leb a most ≡ count_formed most t p
  unfolding count_formed
  count-sequence a e f = rw (← read, eq-eqb k 12 e, f)

  pub count-choice : (a : ℕ) (r : Bool) → (k ≡ 12 → ⊥) → k ≡ 13 → a ≡ octet t (p + 1) → r ≡ within 1 most a → r ≡ count_formed most t p
  unfolding count_formed
  count-choice a r n e f q = rw (← read, ne_eqb k 12 n, eq-eqb k 13 e, ← f) q

  pub count-named : (a : ℕ) (r : Bool) → (k ≡ 12 → ⊥) → (k ≡ 13 → ⊥) → k ≡ 17 → a ≡ octet t (p + 1) → r ≡ within 1 most a → r ≡ count_formed most t p
  unfolding count_formed
  count-named a r n m e f q = rw (← read, ne_eqb k 12 n, ne_eqb k 13 m, eq-eqb k 17 e, ← f) q

  pub count-other : (k ≡ 12 → ⊥) → (k ≡ 13 → ⊥) → (k ≡ 17 → ⊥) → true ≡ count_formed most t p
  unfolding count_formed
  count-other n e m = rw (← read, ne_eqb k 12 n, ne_eqb k 13 e, ne_eqb k 17 m)

module _ (a b : ℕ) (n : a ≡ 0 → ⊥) where
  pub follows-end : b ≡ 0 → not (eqb a 45) ≡ follows a b
  unfolding follows
  follows-end e = rw (ne_eqb a 0 n, eq-eqb b 0 e) (go (eqb a 45))
    where
      go : (u : Bool) → not u ≡ no u
      go true = refl
      go false = refl

  pub follows-name : (r : Bool) → (b ≡ 0 → ⊥) → r ≡ may_follow a b → r ≡ follows a b
  unfolding follows
  follows-name r z q = rw (ne_eqb a 0 n, ne_eqb b 0 z) q

pub follows-fill : (a b : ℕ) → a ≡ 0 → eqb b 0 ≡ follows a b
unfolding follows
follows-fill a b e = rw (eq-eqb a 0 e)

pub same_truth : (a b : Bool) → (a ≡ true → b ≡ true) → (b ≡ true → a ≡ true) → a ≡ b
same_truth true b f g = sym (f refl)
same_truth false true f g = g refl
same_truth false false f g = refl

-- ---- a name, octet by octet
-- after the fill only fill
pub fill_on : (t : List ℕ) (p n j : ℕ) → all (followed t p) n ≡ true → name_octet_at t p j ≡ 0 → (i : ℕ) → j + i ≤ n → name_octet_at t p (j + i) ≡ 0
unfolding followed follows
fill_on t p n j a z zero h = rw (add-zero j) z
fill_on t p n j a z (suc i) h =
    let before = fill_on t p n j a z i (omega arith) in
    let pair = all-at (followed t p) n (j + i) a (omega arith) in
    let next : j + suc i ≡ j + i + 1 = omega arith in
    rw next (eqb-true _ _ (rw before at pair))

pub part-octet : (s : List ℕ) (k n i : ℕ) → i < n → octet (part s k n) i ≡ octet s (k + i)
part-octet s k n i h = get_or-take n (drop k s) i 0 h ∙ get_or-drop k s i 0

part-within : (s : List ℕ) (k n i : ℕ) → i < length (part s k n) → i < n
part-within s k n i h = omega (arith, length-take n (drop k s))

-- each octet of a part is 0 where the test says so, past the end too
zeros_at : (s : List ℕ) (k n i : ℕ) → every is_zero (part s k n) ≡ true → i < n → octet s (k + i) ≡ 0
zeros_at s k n i e h = sym (part-octet s k n i h) ∙ go (ltb i (length (part s k n))) refl
  where
    go : (u : Bool) → ltb i (length (part s k n)) ≡ u → octet (part s k n) i ≡ 0
    go true q = eqb-true _ _ (every-at is_zero (part s k n) i e (ltb-true _ _ q))
    go false q = sym (octet-past (part s k n) i (ltb-false _ _ q))

module _ (t : List ℕ) (p n j : ℕ) (before : all (followed t p) (j + 1) ≡ true) (starts : name_octet_at t p (j + 1) ≡ 0) where
  fill-needed : all (followed t p) n ≡ true → every is_zero (part t (p + (j + 2)) (n - j)) ≡ true
  fill-needed a = every-is is_zero (part t (p + (j + 2)) (n - j)) (λ i l.
      let h : i < n - j = part-within t (p + (j + 2)) (n - j) i l in
      let place : p + (j + 2) + i ≡ p + (1 + (j + 1 + i)) = omega arith in
      eq-eqb _ _ (part-octet t (p + (j + 2)) (n - j) i h ∙ ap (octet t) place ∙ fill_on t p n (j + 1) a starts i (omega arith)))

  fill-pair : (i : ℕ) → every is_zero (part t (p + (j + 2)) (n - j)) ≡ true → j < i → i < n → followed t p i ≡ true
  unfolding followed follows
  fill-pair i e l h =
      let place : p + (1 + i) ≡ p + (j + 2) + (i - (j + 1)) = omega arith in
      let place' : p + (1 + (i + 1)) ≡ p + (j + 2) + (i - j) = omega arith in
      let here : name_octet_at t p i ≡ 0 = ap (octet t) place ∙ zeros_at t (p + (j + 2)) (n - j) (i - (j + 1)) e (omega arith) in
      let next : name_octet_at t p (i + 1) ≡ 0 = ap (octet t) place' ∙ zeros_at t (p + (j + 2)) (n - j) (i - j) e (omega arith) in
      rw (here, next)

  fill-enough : every is_zero (part t (p + (j + 2)) (n - j)) ≡ true → all (followed t p) n ≡ true
  fill-enough e = all-is (followed t p) n (λ i l. go i l (ltb i (j + 1)) refl)
    where
      go : (i : ℕ) → i < n → (u : Bool) → ltb i (j + 1) ≡ u → followed t p i ≡ true
      go i l true q = all-at (followed t p) (j + 1) i before (ltb-true _ _ q)
      go i l false q = fill-pair i e (omega (arith, ltb-false)) l

  fill_is : every is_zero (part t (p + (j + 2)) (n - j)) ≡ all (followed t p) n
  fill_is = same_truth _ _ fill-enough fill-needed

pub next_octet : (t : List ℕ) (p j : ℕ) → octet t (p + (j + 2)) ≡ name_octet_at t p (j + 1)
next_octet t p j = let place : p + (j + 2) ≡ p + (1 + (j + 1)) = omega arith in ap (octet t) place

this-octet : (t : List ℕ) (p j : ℕ) → octet t (p + (j + 1)) ≡ name_octet_at t p j
this-octet t p j = let place : p + (j + 1) ≡ p + (1 + j) = omega arith in ap (octet t) place

pub some_octet : (t : List ℕ) (p j : ℕ) → (octet t (p + (j + 2)) ≡ 0 → ⊥) → 0 < name_octet_at t p (j + 1)
some_octet t p j h = let e = next_octet t p j in omega arith

-- a lowercase letter may follow any octet of a name
module _ (b : ℕ) (r : Bool) (told : r ≡ is_lower b) (low : r ≡ true) where
  pub lower_some : 0 < b
  unfolding is_lower
  lower_some = let l = leb-true 97 b (both_true (leb 97 b) (leb b 122) (sym told ∙ low)).0 in omega arith

  lower-follows : (a : ℕ) → 0 < a → follows a b ≡ true
  unfolding follows may_follow is_alnum is_letter
  lower-follows a h =
      let x : a ≡ 0 → ⊥ = λ z. omega arith in
      let y : b ≡ 0 → ⊥ = λ z. (let l = lower_some in omega arith) in
      rw (ne_eqb a 0 x, ne_eqb b 0 y, sym told ∙ low)

  module _ (t : List ℕ) (p j : ℕ) (read : b ≡ octet t (p + (j + 2))) where
    pub lower_next : 0 < name_octet_at t p (j + 1)
    lower_next = let l = lower_some in let e : b ≡ name_octet_at t p (j + 1) = read ∙ next_octet t p j in omega arith

    pub named-lower : 0 < name_octet_at t p j → all (followed t p) j ≡ true → all (followed t p) (j + 1) ≡ true
    unfolding followed
    named-lower h before =
        all_more (followed t p) j true (sym (lower-follows (name_octet_at t p j) h) ∙ ap (follows (name_octet_at t p j)) (read ∙ next_octet t p j)) before refl

module _ (t : List ℕ) (p j a b : ℕ) (u : Bool) (last : a ≡ octet t (p + (j + 1))) (read : b ≡ octet t (p + (j + 2))) (told : u ≡ follows a b) where
  named_next : b ≡ name_octet_at t p (j + 1)
  named_next = read ∙ next_octet t p j

  pair : u ≡ followed t p j
  unfolding followed
  pair = told ∙ ap₂ follows (last ∙ this-octet t p j) named_next

  pub named-bad : (n : ℕ) → j < n → not u ≡ true → false ≡ all (followed t p) n
  named-bad n h e = all-bad (followed t p) j u pair n h e

  module _ (before : all (followed t p) j ≡ true) (n : not u ≡ false) where
    pub named_more : all (followed t p) (j + 1) ≡ true
    named_more = all_more (followed t p) j u pair before n

    pub named-fill : (r : Bool) → b ≡ 0 → r ≡ every is_zero (part t (p + 1 + (j + 1)) (24 - (j + 1))) → r ≡ all (followed t p) 23
    named-fill r z q =
        let place : p + 1 + (j + 1) ≡ p + (j + 2) = omega arith in
        let left : 24 - (j + 1) ≡ 23 - j = omega arith in
        q ∙ ap₂ (λ (x y : ℕ). every is_zero (part t x y)) place left ∙ fill_is t p 23 j named_more (sym named_next ∙ z)

pub named-done : (t : List ℕ) (p j n : ℕ) → all (followed t p) j ≡ true → j ≤ n → n ≤ j → true ≡ all (followed t p) n
named-done t p j n a l h = all_done (followed t p) j n a l h

-- the first 24 octets of a name
module _ (t : List ℕ) (p o : ℕ) (low : Bool) (read : o ≡ octet t (p + 1)) (told : low ≡ is_lower o) where
  pub begun-high : low ≡ false → low ≡ name_begun t p
  unfolding name_begun
  begun-high h = h ∙ rw (← read, sym told ∙ h)

  pub begun_spelt : (r : Bool) → low ≡ true → r ≡ all (followed t p) 23 → r ≡ name_begun t p
  unfolding name_begun
  begun_spelt r h e = rw (← read, sym told ∙ h) e

  pub lower-begins : low ≡ true → 0 < octet t (p + 1)
  lower-begins h = let l = lower_some o low told h in omega arith

-- ---- behind the name
module _ (t : List ℕ) (p q o n : ℕ) (at : q ≡ behind_name t p) (read : o ≡ octet t (q + 5)) (wide : n ≡ o) where
  length-is : default_length_at t p ≡ n
  length-is = ap (λ (x : ℕ). octet t (x + 5)) (sym at) ∙ sym (wide ∙ read)

  pub filled-long : 8 < n → leb n 8 ≡ default_filled t p
  unfolding default_filled
  filled-long h = rw (length-is, lt-leb n 8 h)

  pub filled-here : (r : Bool) → n ≤ 8 → r ≡ every is_zero (part t (q + 6 + n) (8 - n)) → r ≡ default_filled t p
  unfolding default_filled
  filled-here r h e =
      let place : q + 6 + n ≡ behind_name t p + (6 + n) = omega arith in
      rw (length-is, le-leb n 8 h) (e ∙ ap (λ (x : ℕ). every is_zero (part t x (8 - n))) place)

module _ (t : List ℕ) (p q : ℕ) (at : q ≡ behind_name t p) (a b : ℕ) (u : Bool)
    (e : a ≡ octet t (q + 2)) (f : b ≡ octet t (q + 3)) (told : u ≡ tagging_formed a b) where
  tag : u ≡ tag_formed t p
  unfolding tag_formed
  tag = told ∙ ap₂ tagging_formed (e ∙ field_whole t p q at 2) (f ∙ field_whole t p q at 3)

  pub member_tag : not u ≡ true → false ≡ fields_formed t p
  unfolding fields_formed
  member_tag g = rw (sym tag ∙ not-true u g)

  module _ (g : not u ≡ false) (c : ℕ) (read : c ≡ octet t (q + 4)) where
    presence : presence_at t p ≡ c
    presence = sym (read ∙ field_whole t p q at 4)

    pub member-presence : 2 < c → false ≡ fields_formed t p
    unfolding fields_formed presence_formed
    member-presence l = rw (sym tag ∙ not-false u g, presence, lt-leb c 2 l)

    pub member-filled : (w : Bool) → c ≤ 2 → w ≡ default_filled t p → w ≡ fields_formed t p
    unfolding fields_formed presence_formed
    member-filled w l k = rw (sym tag ∙ not-false u g, presence, le-leb c 2 l) k

-- ---- kinds
module _ (k : ℕ) where
  pub size-member : k ≡ 16 → 39 ≡ row_size k
  unfolding row_size is_group is_list is_member name_width
  size-member e = rw e

  pub size-long : k ≡ 21 → 63 ≡ row_size k
  unfolding row_size is_group is_list is_member name_width
  size-long e = rw e

module _ (k f : ℕ) where
  pub stands_same : k ≡ f → not (eqb f 21) ≡ eqb (stands_as k) f
  unfolding stands_as
  stands_same e = rw e (go (eqb f 21) refl)
    where
      go : (x : Bool) → eqb f 21 ≡ x → not x ≡ eqb (pick x 16 f) f
      go true q = sym (ne_eqb 16 f (λ h. let z = eqb-true f 21 q in omega arith))
      go false q = sym (eq-eqb f f refl)

  pub stands_not : (k ≡ f → ⊥) → (k ≡ 21 → ⊥) → eqb k 21 ≡ eqb (stands_as k) f
  unfolding stands_as
  stands_not n m = rw (ne_eqb k 21 m, ne_eqb k f n)

  pub stands-long : k ≡ 21 → eqb f 16 ≡ eqb (stands_as k) f
  unfolding stands_as
  stands-long e = rw e (go (eqb f 16) refl)
    where
      go : (x : Bool) → eqb f 16 ≡ x → x ≡ eqb 16 f
      go true q = sym (eq-eqb 16 f (sym (eqb-true f 16 q)))
      go false q = sym (ne_eqb 16 f (λ h. eqb-false f 16 q (sym h)))
