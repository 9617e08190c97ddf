-- Rows that follow another, by their kinds: one lemma for each return of the functions on one such row.
use mathlib.Core.Path.{◌≡◌, refl, sym, ap, ap₂, ◌∙◌}
use mathlib.Core.Bool.{Bool, true, false, not, false≢true}
use mathlib.Core.Logic.{⊎_elim}
use mathlib.Core.List.{List}
use Prim.Native.Nat.{ℕ, ◌≤◌, ◌<◌, ◌+◌, ◌-◌}
use native.Mathlib.Omega.{arith}
use borrow.Author.Tests.{not-true, not-false, eq-eqb, ne_eqb, lt-ltb, le-ltb, ltb-true, ltb-false, lt-leb, le-leb}
use lib.Dec.{ltb, leb}
use lib.ListN.{length}
use Rattle.std.specs.Prelude.{None, Some}
use Rattle.octets.specs.Pick.{pick, both, no, all}
use Rattle.octets.specs.Octets.{octet}
use Rattle.octets.specs.Text.{is_lower, may_be_last}
use Rattle.octets.proofs.Laws.{both_true, all-at, all-is, all-bad}
use Rattle.rows.specs.Row.{kind_at, name_width, name_octet_at, behind_name, is_member, is_group, is_list, row_size, is_follower}
use Rattle.rows.specs.Body.{follows, followed, name_formed, length_formed, member_formed, bit_formed, row_formed}
use Rattle.rows.specs.Paper.{table_limits}
use Rattle.rows.specs.Inner.Sizes.{name_begun, fields_formed, formed_size, some_size}
use Rattle.rows.proofs.KindLaws.{member-kind, member_or_bit, wide_name}
use Rattle.rows.proofs.Steps.{same_truth, width-long, width-short, behind-is, size-member, size-long}
use Rattle.rows.proofs.NameSteps.{name-chain, length-short, length-long}

-- ---- the size of a row of a named bit
size_18 : (k : ℕ) → k ≡ 18 → row_size k ≡ 26
unfolding row_size is_group is_list is_member
size_18 k e = rw e

-- ---- the size of a row of s octets
module _ (t : List ℕ) (p s : ℕ) (sized : s ≡ row_size (kind_at t p)) where
  cut : length t - p < s → 0 ≡ formed_size table_limits.members t p
  unfolding formed_size
  cut h = rw (← sized, lt-ltb (length t - p) s h)

  -- r is whether its body is formed
  module _ (h : s ≤ length t - p) (r : Bool) (formed : row_formed table_limits.members t p ≡ r) where
    misfit : r ≡ false → None ≡ some_size (formed_size table_limits.members t p)
    unfolding formed_size
    misfit e = rw (← sized, le-ltb (length t - p) s h, formed ∙ e)

    fit : r ≡ true → some_size s ≡ some_size (formed_size table_limits.members t p)
    unfolding formed_size
    fit e = rw (← sized, le-ltb (length t - p) s h, formed ∙ e)

both-last : (x : Bool) → both x true ≡ x
both-last true = refl
both-last false = refl

both_join : (x y z : Bool) → both x (both y z) ≡ both (both x y) z
both_join true y z = refl
both_join false y z = refl

-- ---- the name of a row, where its first 24 octets are as they have to be
module _ (t : List ℕ) (p : ℕ) (begun : name_begun t p ≡ true) where
  begins : is_lower (name_octet_at t p 0) ≡ true
  unfolding name_begun
  begins = (both_true (is_lower (name_octet_at t p 0)) (all (followed t p) 23) begun).0

  begun-chain : all (followed t p) 23 ≡ true
  unfolding name_begun
  begun-chain = (both_true (is_lower (name_octet_at t p 0)) (all (followed t p) 23) begun).1

  short-name : 24 ≡ name_width (kind_at t p) → name_formed t p ≡ may_be_last (octet t (p + 24))
  unfolding name_formed
  short-name w = rw (← w, begins, begun-chain) (both-last (may_be_last (octet t (p + 24))))

  long-name : 48 ≡ name_width (kind_at t p) → name_formed t p ≡ both (may_be_last (octet t (p + 48))) (all (followed t p) 47)
  unfolding name_formed
  long-name w = rw (← w, begins)

-- a name that is formed is as it has to be in its first 24 octets
name-begins : (t : List ℕ) (p : ℕ) → name_formed t p ≡ true → name_begun t p ≡ true
unfolding name_formed name_begun
name-begins t p e =
    let w = both_true (is_lower (name_octet_at t p 0)) _ e in
    let l = wide_name (kind_at t p) in
    let a : all (followed t p) 23 ≡ true =
    all-is (followed t p) 23 (λ i h. all-at (followed t p) (name_width (kind_at t p) - 1) i (name-chain t p e) (omega arith)) in
    rw (w.0, a)

-- a field of 48 octets in two halves
middle : (t : List ℕ) (p : ℕ) → follows (octet t (p + 24)) (octet t (p + 25)) ≡ followed t p 23
unfolding followed
middle t p = refl

later_half : (t : List ℕ) (p j : ℕ) → followed t (p + 24) j ≡ followed t p (j + 24)
unfolding followed
later_half t p j =
    let here : p + 24 + (1 + j) ≡ p + (1 + (j + 24)) = omega arith in
    let next : p + 24 + (1 + (j + 1)) ≡ p + (1 + (j + 24 + 1)) = omega arith in
    ap₂ (λ (x y : ℕ). follows (octet t x) (octet t y)) here next

in_halves : (t : List ℕ) (p : ℕ) → all (followed t p) 23 ≡ true → followed t p 23 ≡ true → all (followed t (p + 24)) 23 ≡ all (followed t p) 47
in_halves t p first link = same_truth (all (followed t (p + 24)) 23) (all (followed t p) 47) whole half
  where
    half : all (followed t p) 47 ≡ true → all (followed t (p + 24)) 23 ≡ true
    half a = all-is (followed t (p + 24)) 23 (λ i h. later_half t p i ∙ all-at (followed t p) 47 (i + 24) a (omega arith))

    whole : all (followed t (p + 24)) 23 ≡ true → all (followed t p) 47 ≡ true
    whole a = all-is (followed t p) 47 (λ i h. go i h (ltb i 23) refl (ltb 23 i) refl)
      where
        go : (i : ℕ) → i < 47 → (x : Bool) → ltb i 23 ≡ x → (y : Bool) → ltb 23 i ≡ y → followed t p i ≡ true
        go i h true e y f = all-at (followed t p) 23 i first (ltb-true i 23 e)
        go i h false e true f =
            let l = ltb-true 23 i f in
            let place : i - 24 + 24 ≡ i = omega arith in
            ap (followed t p) (sym place) ∙ sym (later_half t p (i - 24)) ∙ all-at (followed t (p + 24)) 23 (i - 24) a (omega arith)
        go i h false e false f =
            let l = ltb-false i 23 e in
            let u = ltb-false 23 i f in
            let place : i ≡ 23 = omega arith in
            ap (followed t p) place ∙ link

pub rest-begins : (t : List ℕ) (p : ℕ) → (octet t (p + 25) ≡ 0 → ⊥) → 0 < octet t (p + 24 + 1)
rest-begins t p n = let place : p + 24 + 1 ≡ p + 25 = omega arith in let e = ap (octet t) place in omega arith

-- ---- a member
module _ (t : List ℕ) (p : ℕ) (k : octet t p ≡ 16) where
  not_long : octet t p ≡ 21 → ⊥
  not_long l = omega arith

  pub member-behind : p + 25 ≡ behind_name t p
  member-behind = behind-is t p 24 (width-short (octet t p) not_long)

  pub member-whole : p + 26 ≤ length t → 39 ≤ length t - p → behind_name t p + 14 ≤ length t
  member-whole l h = let b = member-behind in omega arith

  pub member_cut : length t - p < 39 → None ≡ some_size (formed_size table_limits.members t p)
  member_cut h = ap some_size (cut t p 39 (size-member (octet t p) k) h)

  module _ (begun : name_begun t p ≡ true) (h : 39 ≤ length t - p) where
    member-formed : row_formed table_limits.members t p ≡ both (may_be_last (octet t (p + 24))) (fields_formed t p)
    unfolding row_formed member_formed fields_formed is_member
    member-formed = rw (eq-eqb (octet t p) 16 k, short-name t p begun (width-short (octet t p) not_long), sym (length-short t p not_long))

    pub member_hyphen : octet t (p + 24) ≡ 45 → None ≡ some_size (formed_size table_limits.members t p)
    member_hyphen e =
        misfit t p 39 (size-member (octet t p) k) h _ member-formed (ap (λ (x : Bool). both (no x) (fields_formed t p)) (eq-eqb (octet t (p + 24)) 45 e))

    module _ (n : octet t (p + 24) ≡ 45 → ⊥) (u : Bool) (told : u ≡ fields_formed t p) where
      by-fields : row_formed table_limits.members t p ≡ u
      by-fields = member-formed ∙ ap (λ (x : Bool). both (no x) (fields_formed t p)) (ne_eqb (octet t (p + 24)) 45 n) ∙ sym told

      pub member_unformed : not u ≡ true → None ≡ some_size (formed_size table_limits.members t p)
      member_unformed e = misfit t p 39 (size-member (octet t p) k) h u by-fields (not-true u e)

      pub member-sized : not u ≡ false → Some 39 ≡ some_size (formed_size table_limits.members t p)
      member-sized e = fit t p 39 (size-member (octet t p) k) h u by-fields (not-false u e)

-- ---- a named bit
module _ (t : List ℕ) (p : ℕ) (k : octet t p ≡ 18) (l : p + 26 ≤ length t) (begun : name_begun t p ≡ true) where
  bit_is : 26 ≡ row_size (octet t p)
  bit_is = sym (size_18 (octet t p) k)

  enough : 26 ≤ length t - p
  enough = omega arith

  bit_formed_lem : row_formed table_limits.members t p ≡ both (may_be_last (octet t (p + 24))) (leb (octet t (p + 25)) 63)
  unfolding row_formed bit_formed is_member
  bit_formed_lem = let n : octet t p ≡ 21 → ⊥ = λ e. omega arith in let w = width-short (octet t p) n in let f = short-name t p begun w in rw (k, f)

  pub bit_hyphen : octet t (p + 24) ≡ 45 → None ≡ some_size (formed_size table_limits.members t p)
  bit_hyphen e = misfit t p 26 bit_is enough _ bit_formed_lem (ap (λ (x : Bool). both (no x) (leb (octet t (p + 25)) 63)) (eq-eqb (octet t (p + 24)) 45 e))

  module _ (n : octet t (p + 24) ≡ 45 → ⊥) where
    by_number : row_formed table_limits.members t p ≡ leb (octet t (p + 25)) 63
    by_number = bit_formed_lem ∙ ap (λ (x : Bool). both (no x) (leb (octet t (p + 25)) 63)) (ne_eqb (octet t (p + 24)) 45 n)

    pub bit_high : 63 < octet t (p + 25) → None ≡ some_size (formed_size table_limits.members t p)
    bit_high h = misfit t p 26 bit_is enough _ by_number (lt-leb (octet t (p + 25)) 63 h)

    pub bit_sized : octet t (p + 25) ≤ 63 → Some 26 ≡ some_size (formed_size table_limits.members t p)
    bit_sized h = fit t p 26 bit_is enough _ by_number (le-leb (octet t (p + 25)) 63 h)

-- ---- a member with a long name
module _ (t : List ℕ) (p : ℕ) (k : octet t p ≡ 21) where
  pub long-behind : p + 49 ≡ behind_name t p
  long-behind = behind-is t p 48 (width-long (octet t p) k)

  pub long-whole : p + 26 ≤ length t → 63 ≤ length t - p → behind_name t p + 14 ≤ length t
  long-whole l h = let b = long-behind in omega arith

  pub long_cut : length t - p < 63 → None ≡ some_size (formed_size table_limits.members t p)
  long_cut h = ap some_size (cut t p 63 (size-long (octet t p) k) h)

  module _ (begun : name_begun t p ≡ true) where
    long-formed : name_formed t p ≡ both (may_be_last (octet t (p + 48))) (all (followed t p) 47)
    long-formed = long-name t p begun (width-long (octet t p) k)

    pub long-ended : octet t (p + 25) ≡ 0 → false ≡ both (name_formed t p) (length_formed t p)
    long-ended e = go (name_formed t p) refl
      where
        go : (x : Bool) → name_formed t p ≡ x → false ≡ both x (length_formed t p)
        go true f = ap (λ (x : Bool). not x) (sym (eq-eqb (octet t (p + 25)) 0 e)) ∙ length-long t p f k
        go false f = refl

    module _ (n : octet t (p + 25) ≡ 0 → ⊥) where
      pub long_hyphen : octet t (p + 48) ≡ 45 → false ≡ both (name_formed t p) (length_formed t p)
      long_hyphen e =
          ap (λ (x : Bool). both (both (no x) (all (followed t p) 47)) (length_formed t p)) (sym (eq-eqb (octet t (p + 48)) 45 e))
          ∙ ap (λ (x : Bool). both x (length_formed t p)) (sym long-formed)

      module _ (m : octet t (p + 48) ≡ 45 → ⊥) (u : Bool) (told : u ≡ follows (octet t (p + 24)) (octet t (p + 25))) where
        named : name_formed t p ≡ all (followed t p) 47
        named = long-formed ∙ ap (λ (x : Bool). both (no x) (all (followed t p) 47)) (ne_eqb (octet t (p + 48)) 45 m)

        by_chain : (r : Bool) → r ≡ all (followed t p) 47 → r ≡ both (name_formed t p) (length_formed t p)
        by_chain r e = go (name_formed t p) refl
          where
            go : (x : Bool) → name_formed t p ≡ x → r ≡ both x (length_formed t p)
            go true f = e ∙ sym named ∙ f ∙ ap (λ (x : Bool). not x) (sym (ne_eqb (octet t (p + 25)) 0 n)) ∙ length-long t p f k
            go false f = e ∙ sym named ∙ f

        pub long_apart : not u ≡ true → false ≡ both (name_formed t p) (length_formed t p)
        long_apart e = by_chain false (all-bad (followed t p) 23 u (told ∙ middle t p) 47 (omega arith) e)

        pub long_rest : (r : Bool) → not u ≡ false → r ≡ all (followed t (p + 24)) 23 → r ≡ both (name_formed t p) (length_formed t p)
        long_rest r e q = by_chain r (q ∙ in_halves t p (begun-chain t p begun) (sym (told ∙ middle t p) ∙ not-false u e))

  module _ (h : 63 ≤ length t - p) (r : Bool) (named : r ≡ both (name_formed t p) (length_formed t p)) where
    in_parts : row_formed table_limits.members t p ≡ both r (fields_formed t p)
    unfolding row_formed member_formed fields_formed is_member
    in_parts = rw (k, named) (both_join (name_formed t p) (length_formed t p) (fields_formed t p))

    pub long_unnamed : not r ≡ true → None ≡ some_size (formed_size table_limits.members t p)
    long_unnamed e = misfit t p 63 (size-long (octet t p) k) h _ in_parts (ap (λ (x : Bool). both x (fields_formed t p)) (not-true r e))

    module _ (f : not r ≡ false) (u : Bool) (told : u ≡ fields_formed t p) where
      by-rest : row_formed table_limits.members t p ≡ u
      by-rest = in_parts ∙ ap (λ (x : Bool). both x (fields_formed t p)) (not-false r f) ∙ sym told

      pub long_unformed : not u ≡ true → None ≡ some_size (formed_size table_limits.members t p)
      long_unformed e = misfit t p 63 (size-long (octet t p) k) h u by-rest (not-true u e)

      pub long-sized : not u ≡ false → Some 63 ≡ some_size (formed_size table_limits.members t p)
      long-sized e = fit t p 63 (size-long (octet t p) k) h u by-rest (not-false u e)

-- ---- a row that follows another
unformed : (t : List ℕ) (p : ℕ) → is_follower (octet t p) ≡ true → name_formed t p ≡ false → row_formed table_limits.members t p ≡ false
unfolding row_formed member_formed bit_formed is_member
unformed t p f e =
    ⊎_elim
    (λ m. ⊎_elim (λ (h : octet t p ≡ 16). rw (h, e)) (λ (h : octet t p ≡ 21). rw (h, e)) (member-kind (octet t p) m))
    (λ (h : octet t p ≡ 18). rw (h, e))
    (member_or_bit (octet t p) f)

module _ (t : List ℕ) (p : ℕ) (follows : is_follower (octet t p) ≡ true) where
  least : 26 ≤ row_size (octet t p)
  least =
      ⊎_elim
      (λ m. ⊎_elim (λ h. let s = size-member (octet t p) h in omega arith) (λ h. let s = size-long (octet t p) h in omega arith) (member-kind (octet t p) m))
      (λ h. let s = size_18 (octet t p) h in omega arith)
      (member_or_bit (octet t p) follows)

  pub follower_cut : length t - p < 26 → 0 ≡ formed_size table_limits.members t p
  follower_cut h = let l = least in cut t p (row_size (octet t p)) refl (omega arith)

  pub follower-named : 26 ≤ length t - p → p + 26 ≤ length t
  follower-named h = omega arith

  module _ (u : Bool) (told : u ≡ name_begun t p) where
    pub follower-begun : not u ≡ false → name_begun t p ≡ true
    follower-begun e = sym told ∙ not-false u e

    unnamed : not u ≡ true → name_formed t p ≡ false
    unnamed e = go (name_formed t p) refl
      where
        go : (x : Bool) → name_formed t p ≡ x → x ≡ false
        go true f = absurd (false≢true (sym (not-true u e) ∙ told ∙ name-begins t p f))
        go false f = refl

    pub follower_unbegun : not u ≡ true → 0 ≡ formed_size table_limits.members t p
    unfolding formed_size
    follower_unbegun e = rw (unformed t p follows (unnamed e)) (go (ltb (length t - p) (row_size (octet t p))))
      where
        go : (x : Bool) → ◌≡◌ {A = ℕ} 0 (pick x 0 0)
        go true = refl
        go false = refl

  pub follower-long : (octet t p ≡ 16 → ⊥) → (octet t p ≡ 18 → ⊥) → octet t p ≡ 21
  follower-long m b =
      ⊎_elim
      (λ h. ⊎_elim (λ e. absurd (m e)) (λ e. e) (member-kind (octet t p) h))
      (λ e. absurd (b e))
      (member_or_bit (octet t p) follows)

-- ---- sizes, for the layer above
module _ (most : ℕ) (t : List ℕ) (p : ℕ) where
  pub formed-least : formed_size most t p ≤ length t - p
  unfolding formed_size
  formed-least = go (ltb (length t - p) (row_size (kind_at t p))) refl (row_formed most t p)
    where
      go : (x : Bool) → ltb (length t - p) (row_size (kind_at t p)) ≡ x → (y : Bool) → pick x 0 (pick y (row_size (kind_at t p)) 0) ≤ length t - p
      go true e y = omega arith
      go false e true = ltb-false _ _ e
      go false e false = omega arith

  pub formed-size : (formed_size most t p ≡ 0 → ⊥) → formed_size most t p ≡ row_size (kind_at t p)
  unfolding formed_size
  formed-size some = go (ltb (length t - p) (row_size (kind_at t p))) (row_formed most t p) some
    where
      go : (x y : Bool) → (◌≡◌ {A = ℕ} (pick x 0 (pick y (row_size (kind_at t p)) 0)) 0 → ⊥) → pick x 0 (pick y (row_size (kind_at t p)) 0) ≡ row_size (kind_at t p)
      go true y h = absurd (h refl)
      go false true h = refl
      go false false h = absurd (h refl)
