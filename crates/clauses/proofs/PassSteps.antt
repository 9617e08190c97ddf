-- The first pass: one lemma for each return and each turn of its loop; its premises are the facts as the code has them.
use mathlib.Core.Path.{◌≡◌, refl, sym, ap, ◌∙◌, subst}
use mathlib.Core.Bool.{Bool, true, false, not, false≢true}
use mathlib.Core.Logic.{⊎_elim}
use Rattle.std.specs.Prelude.{Option, None, Some}
use mathlib.Core.List.{List, [], ◌∷◌, ◌++◌, append_assoc, append-nil}
use Prim.Native.Nat.{ℕ, zero, suc, ◌≤◌, ◌<◌, ◌+◌, ◌-◌, ◌*◌}
use native.Mathlib.Omega.{arith}
use native.Mathlib.Nat.{eq-or-lt_of_le}
use borrow.Author.Tests.{not-true, not-false, eq-eqb, ne_eqb, eqb-true, eqb-false, lt-ltb, le-ltb, ltb-true, ltb-false}
use lib.Dec.{ltb, eqb}
use lib.ListN.{length, get_or, set, drop, length-set, length-append, length-drop, get_or-append}
use lib.Seq.{get_or-set_same, get_or-set_other, get_or_at, get_or-drop}
use Rattle.octets.specs.Pick.{pick, both, either, consed}
use Rattle.octets.specs.Octets.{octet}
use Rattle.octets.proofs.Laws.{rest-none}
use Rattle.rows.specs.Paper.{table_limits}
use Rattle.rows.specs.Row.{kind_at, row_at, row_size, is_type_kind, is_member, is_follower, follower_kind, followers_at, stands_as, rows_from, rows, or_none}
use Rattle.rows.specs.Body.{member_formed, bit_formed, count_formed, row_formed}
use Rattle.rows.specs.Inner.Sizes.{type_size, size_if, WholeFollower}
use Rattle.rows.proofs.KindLaws.{kind-of_row, member_no_type, member_or_bit, type-row_size, follower_unsized, stands-follower, whole-follower}
use Rattle.clauses.specs.Inner.Work.{first_pass, Placed, place_in, FollowersIn, follower_size}
use Rattle.clauses.proofs.LaterSteps.{due-follower}
use Rattle.clauses.proofs.PassLaws.{passes, goes, new_after, formed, by-test, new_told, pass_counts}

abbrev joined : List ℕ → Option (List ℕ) → Option (List ℕ)
joined xs None = None
joined xs (Some ys) = Some (xs ++ ys)

-- n rows have been met and passed, and stand in w, those from `first` on behind one that they follow; what is left of the table passes if all of it does
pub record Passing (t w : List ℕ) (at n k due first : ℕ) : Type 0 where
  pub few : n ≤ table_limits.rows
  pub fewer : first ≤ n
  pub inside : at ≤ length t
  pub space : length w ≡ 256
  pub follows : 0 < due → is_follower k ≡ true
  pub found : List ℕ
  pub counted : length found ≡ n
  pub places : (i : ℕ) → i < n → get_or w (2 * i) 0 ≡ row_at found i
  pub whole : (i : ℕ) → first ≤ i → i < n → WholeFollower t (row_at found i)
  pub rest : joined found (rows_from (table_limits.rows - n) t at) ≡ rows_from table_limits.rows t 0
  pub passing : goes t k due (drop first found) (rows_from (table_limits.rows - n) t at) ≡ goes t 0 0 [] (rows_from table_limits.rows t 0)

pub pass_start : (t w : List ℕ) → length w ≡ 256 → Passing t w 0 0 0 0 0
pass_start t w e =
    record {
      few = omega arith;
      fewer = omega arith;
      inside = omega arith;
      space = e;
      follows = λ h. absurd (omega arith);
      found = [];
      counted = refl;
      places = λ i h. absurd (omega arith);
      whole = λ i l h. absurd (omega arith);
      rest = from (rows_from table_limits.rows t 0);
      passing = refl;
    }
  where
    from : (o : Option (List ℕ)) → joined [] o ≡ o
    from None = refl
    from (Some ys) = refl

-- a table that doesn't pass
abbrev Fails : List ℕ → Type 0
Fails t = goes t 0 0 [] (rows_from table_limits.rows t 0) ≡ false

abbrev Counted : List ℕ → ℕ → Type 0
Counted t r = r ≡ pick (first_pass table_limits t (rows table_limits.rows t)) (length (rows table_limits.rows t)) 0

pub fails_counted : (t : List ℕ) → Fails t → Counted t 0
fails_counted t e = sym (ap (λ (x : Bool). pick x (length (rows table_limits.rows t)) 0) e) ∙ pass_counts t

pub none_placed : (t w : List ℕ) → Placed t w 0
none_placed t w = record { at = λ i h. absurd (omega arith) }

-- ---- one row of what is left
none_left : (k : ℕ) (t : List ℕ) (at : ℕ) → length t ≤ at → rows_from k t at ≡ Some []
unfolding rows_from
none_left zero t at h = rw (le-ltb at (length t) h)
none_left (suc k) t at h = rw (le-ltb at (length t) h)

module _ (k : ℕ) (t : List ℕ) (at : ℕ) (inside : at < length t) where
  no_room_lem : rows_from 0 t at ≡ None
  unfolding rows_from
  no_room_lem = rw (lt-ltb at (length t) inside)

  no_kind : row_size (kind_at t at) ≡ 0 → rows_from (suc k) t at ≡ None
  unfolding rows_from
  no_kind e = rw (lt-ltb at (length t) inside, e)

  module _ (size : ℕ) (sized : row_size (kind_at t at) ≡ size) (some_size : size ≡ 0 → ⊥) where
    not_whole : length t - at < size → rows_from (suc k) t at ≡ None
    unfolding rows_from
    not_whole h = rw (lt-ltb at (length t) inside, sized, ne_eqb size 0 some_size, lt-ltb (length t - at) size h)

    whole_row : size ≤ length t - at → rows_from (suc k) t at ≡ consed at (rows_from k t (at + size))
    unfolding rows_from
    whole_row h = rw (lt-ltb at (length t) inside, sized, ne_eqb size 0 some_size, le-ltb (length t - at) size h)

-- ---- the test at one row
module _ (t : List ℕ) (k due : ℕ) (gs : List ℕ) (at : ℕ) where
  goes_not : ((ps : List ℕ) → passes t k due gs (at ∷ ps) ≡ false) → (o : Option (List ℕ)) → goes t k due gs (consed at o) ≡ false
  goes_not f None = refl
  goes_not f (Some ps) = f ps

  goes_on_lem : (k' due' : ℕ) (gs' : List ℕ) → ((ps : List ℕ) → passes t k due gs (at ∷ ps) ≡ passes t k' due' gs' ps)
      → (o : Option (List ℕ)) → goes t k due gs (consed at o) ≡ goes t k' due' gs' o
  goes_on_lem k' due' gs' f None = refl
  goes_on_lem k' due' gs' f (Some ps) = f ps

-- no row that follows another is a type's; any other has the body of a type's
follower_no_type : (k : ℕ) → is_follower k ≡ true → is_type_kind k ≡ false
unfolding is_type_kind
follower_no_type k e = ⊎_elim (λ m. member_no_type k m) (λ (h : k ≡ 18). rw h) (member_or_bit k e)

type-formed : (t : List ℕ) (p : ℕ) → is_follower (kind_at t p) ≡ false → formed t p ≡ count_formed table_limits.members t p
unfolding is_follower row_formed
type-formed t p e = go (is_member (kind_at t p)) (eqb (kind_at t p) 18) e
  where
    go : (x y : Bool) → either x y ≡ false
        → pick x (member_formed t p) (pick y (bit_formed t p) (count_formed table_limits.members t p)) ≡ count_formed table_limits.members t p
    go true y h = absurd (false≢true (sym h))
    go false true h = absurd (false≢true (sym h))
    go false false h = refl

-- ---- lists
drop-last : (n : ℕ) (xs : List ℕ) (y : ℕ) → n ≤ length xs → drop n (xs ++ (y ∷ [])) ≡ drop n xs ++ (y ∷ [])
drop-last zero xs y h = refl
drop-last (suc n) [] y h = absurd (omega arith)
drop-last (suc n) (x ∷ xs) y h = drop-last n xs y (omega arith)

module _ (t w : List ℕ) (at n k due first : ℕ) (inv : Passing t w at n k due first) where
  abbrev before : List ℕ
  before = drop first inv.found

  -- ---- a row that is due
  some_due : (due ≡ 0 → ⊥) → 0 < due
  some_due e = omega arith

  pub due-kind : (stood : Bool) → stood ≡ eqb (stands_as (octet t at)) k → not stood ≡ false → (due ≡ 0 → ⊥) → is_follower (octet t at) ≡ true
  due-kind stood told same e = stands-follower (octet t at) k (eqb-true _ _ (sym told ∙ not-false stood same)) (inv.follows (some_due e))

  pub set_space : length (set w (2 * n) at) ≡ 256
  set_space = length-set w (2 * n) at ∙ inv.space

  kept : (i : ℕ) → i < n → get_or (set w (2 * n) at) (2 * i) 0 ≡ row_at inv.found i
  kept i l = let d : 2 * i ≡ 2 * n → ⊥ = λ z. omega arith in get_or-set_other w (2 * n) (2 * i) at 0 d ∙ inv.places i l

  pub due-before : FollowersIn t (set w (2 * n) at) first n
  due-before = record { fewer = inv.fewer; whole = λ i l h. subst (WholeFollower t) (sym (kept i h)) (inv.whole i l h) }

  before-counted : length before ≡ n - first
  before-counted = length-drop first inv.found ∙ ap (λ (x : ℕ). x - first) inv.counted

  before-places : (a : ℕ) → a < length before → place_in (set w (2 * n) at) (first + a) ≡ row_at before a
  before-places a l =
      let c = before-counted in
      let h : first + a < n = omega arith in
      kept (first + a) h ∙ sym (get_or-drop first inv.found a 0)

  -- ---- behind the last row
  module _ (h : length t ≤ at) where
    ended : rows_from (table_limits.rows - n) t at ≡ Some []
    ended = none_left (table_limits.rows - n) t at h

    told : eqb due 0 ≡ goes t 0 0 [] (rows_from table_limits.rows t 0)
    unfolding passes
    told = sym (ap (goes t k due before) ended) ∙ inv.passing

    pub pass_due : (due ≡ 0 → ⊥) → Fails t
    pass_due e = sym told ∙ ne_eqb due 0 e

    all_found : inv.found ≡ rows table_limits.rows t
    unfolding rows
    all_found = sym (append-nil inv.found) ∙ ap or_none (sym (ap (joined inv.found) ended) ∙ inv.rest)

    pub pass_done : due ≡ 0 → (Counted t n) × ((Placed t w n) × (length w ≡ 256))
    pass_done e = (
      sym inv.counted ∙ ap length all_found
          ∙ sym (ap (λ (x : Bool). pick x (length (rows table_limits.rows t)) 0) (sym told ∙ eq-eqb due 0 e)) ∙ pass_counts t,
      (record { at = λ i l. inv.places i l ∙ ap (λ (s : List ℕ). row_at s i) all_found }, inv.space),
    )

  module _ (inside : at < length t) where
    pub pass_many : n ≡ table_limits.rows → Fails t
    pass_many e = sym inv.passing ∙ ap (goes t k due before) none_more
      where
        none_more : rows_from (table_limits.rows - n) t at ≡ None
        none_more = let z : table_limits.rows - n ≡ 0 = omega arith in ap (λ (r : ℕ). rows_from r t at) z ∙ no_room_lem 0 t at inside

    module _ (room : n ≡ table_limits.rows → ⊥) where
      below : n < table_limits.rows
      below = go n inv.few room
        where
          go : (n : ℕ) → n ≤ table_limits.rows → (n ≡ table_limits.rows → ⊥) → n < table_limits.rows
          go n h r = omega arith

      more : table_limits.rows - n ≡ suc (table_limits.rows - (n + 1))
      more = let l = below in omega arith

      abbrev left : Option (List ℕ)
      left = rows_from (suc (table_limits.rows - (n + 1))) t at

      fail : goes t k due before left ≡ false → Fails t
      fail e = sym inv.passing ∙ ap (λ (r : ℕ). goes t k due before (rows_from r t at)) more ∙ e

      abbrev rest : ℕ → Option (List ℕ)
      rest size = rows_from (table_limits.rows - (n + 1)) t (at + size)

      -- the row at `at` is whole and passes
      module _ (size k' due' first' : ℕ) (gs' : List ℕ) (whole : left ≡ consed at (rest size)) (short : at + size ≤ length t)
          (behind : drop first' (inv.found ++ (at ∷ [])) ≡ gs') (follow : 0 < due' → is_follower k' ≡ true)
          (fewer : first' ≤ n + 1) (wholes : (i : ℕ) → first' ≤ i → i < n + 1 → WholeFollower t (row_at (inv.found ++ (at ∷ [])) i))
          (on : (ps : List ℕ) → passes t k due before (at ∷ ps) ≡ passes t k' due' gs' ps) where
        whole-left : rows_from (table_limits.rows - n) t at ≡ consed at (rest size)
        whole-left = ap (λ (r : ℕ). rows_from r t at) more ∙ whole

        set_places : (i : ℕ) → i < n + 1 → get_or (set w (2 * n) at) (2 * i) 0 ≡ row_at (inv.found ++ (at ∷ [])) i
        set_places i h = ⊎_elim (λ (e : i ≡ n). last i e) (λ l. earlier i l) (eq-or-lt_of_le (omega arith))
          where
            last : (i : ℕ) → i ≡ n → get_or (set w (2 * n) at) (2 * i) 0 ≡ row_at (inv.found ++ (at ∷ [])) i
            last i e =
                let s : 2 * n < length w = (let l = below in let q = inv.space in omega arith) in
                ap (λ (k : ℕ). get_or (set w (2 * n) at) (2 * k) 0) e
                ∙ get_or-set_same w (2 * n) at 0 s
                ∙ sym (get_or_at inv.found at [] 0 n inv.counted)
                ∙ ap (row_at (inv.found ++ (at ∷ []))) (sym e)

            earlier : (i : ℕ) → i < n → get_or (set w (2 * n) at) (2 * i) 0 ≡ row_at (inv.found ++ (at ∷ [])) i
            earlier i l =
                let c : i < length inv.found = (let q = inv.counted in omega arith) in
                kept i l ∙ sym (get_or-append inv.found (at ∷ []) 0 i c)

        glue : (xs : List ℕ) (r : Option (List ℕ)) → joined (xs ++ (at ∷ [])) r ≡ joined xs (consed at r)
        glue xs None = refl
        glue xs (Some ys) = ap Some (append_assoc xs (at ∷ []) ys)

        next : Passing t (set w (2 * n) at) (at + size) (n + 1) k' due' first'
        next =
            record {
              few = let l = below in omega arith;
              fewer = fewer;
              inside = short;
              space = set_space;
              follows = follow;
              found = inv.found ++ (at ∷ []);
              counted = length-append inv.found (at ∷ []) ∙ ap (λ (k : ℕ). k + 1) inv.counted;
              places = set_places;
              whole = wholes;
              rest = glue inv.found (rest size) ∙ sym (ap (joined inv.found) whole-left) ∙ inv.rest;
              passing = ap (λ (l : List ℕ). goes t k' due' l (rest size)) behind ∙ sym (goes_on_lem t k due before at k' due' gs' on (rest size))
                  ∙ sym (ap (goes t k due before) whole-left) ∙ inv.passing;
            }

      abbrev size-at : ℕ
      size-at = row_size (kind_at t at)

      not_kind : eqb size-at 0 ≡ true → Fails t
      not_kind z = fail (ap (goes t k due before) (no_kind (table_limits.rows - (n + 1)) t at inside (eqb-true _ _ z)))

      cut : eqb size-at 0 ≡ false → ltb (length t - at) size-at ≡ true → Fails t
      cut z e = fail (ap (goes t k due before) (not_whole (table_limits.rows - (n + 1)) t at inside size-at refl (eqb-false _ _ z) (ltb-true _ _ e)))

      uncut : eqb size-at 0 ≡ false → ltb (length t - at) size-at ≡ false → left ≡ consed at (rest size-at)
      uncut z e = whole_row (table_limits.rows - (n + 1)) t at inside size-at refl (eqb-false _ _ z) (ltb-false _ _ e)

      -- where the test fails at a whole row, it fails
      row_fails : (eqb size-at 0 ≡ false → ltb (length t - at) size-at ≡ false → (ps : List ℕ) → passes t k due before (at ∷ ps) ≡ false) → Fails t
      row_fails f = by-test (eqb size-at 0) not_kind
          (λ z. by-test (ltb (length t - at) size-at) (cut z)
          (λ e. fail (ap (goes t k due before) (uncut z e) ∙ goes_not t k due before at (f z e) (rest size-at))))

      -- a row of another kind than the one that is due, and one that follows another where none is due
      pub pass_missing : (stood : Bool) → stood ≡ eqb (stands_as (octet t at)) k → (due ≡ 0 → ⊥) → not stood ≡ true → Fails t
      unfolding passes
      pass_missing stood told d e = row_fails (λ z l ps. rw (ne_eqb due 0 d, sym told ∙ not-true stood e))

      extra : due ≡ 0 → is_follower (kind_at t at) ≡ true → Fails t
      unfolding passes
      extra d e = row_fails (λ z l ps. rw (eq-eqb due 0 d, follower_no_type (kind_at t at) e))

      -- a row that stands where it may; `good` is what the test asks of it besides
      module _ (size : ℕ) (good : Bool) (sized : size ≡ size_if t at good) where
        module _ (e : size ≡ 0 → ⊥) where
          is-long : ltb (length t - at) size-at ≡ false
          is-long = by-test (ltb (length t - at) size-at) (λ l. absurd (e (rw l at sized))) (λ l. l)

          is-good : good ≡ true
          is-good = by-test good (λ g. g) (λ g. absurd (e (rw (is-long, g) at sized)))

          size_is : size ≡ size-at
          size_is = rw (is-long, is-good) at sized

          is-inside : at + size-at ≤ length t
          is-inside = let l : size-at ≤ length t - at = ltb-false _ _ is-long in omega arith

        module _ (k' due' first' : ℕ) (gs' : List ℕ)
            (on : (size-at ≡ 0 → ⊥) → (ps : List ℕ) → passes t k due before (at ∷ ps) ≡ both good (passes t k' due' gs' ps)) where
          unsized : size ≡ 0 → Fails t
          unsized e = row_fails (λ z l ps.
              on (eqb-false _ _ z) ps ∙ ap (λ (x : Bool). both x (passes t k' due' gs' ps)) (bad z good (rw l at (sym e ∙ sized))))
            where
              bad : eqb size-at 0 ≡ false → (c : Bool) → ◌≡◌ {A = ℕ} 0 (pick c size-at 0) → c ≡ false
              bad z true r = absurd (eqb-false _ _ z (sym r))
              bad z false r = refl

          sized_next : (size ≡ 0 → ⊥) → drop first' (inv.found ++ (at ∷ [])) ≡ gs' → (0 < due' → is_follower k' ≡ true) → first' ≤ n + 1
              → ((i : ℕ) → first' ≤ i → i < n + 1 → WholeFollower t (row_at (inv.found ++ (at ∷ [])) i))
              → Passing t (set w (2 * n) at) (at + size) (n + 1) k' due' first'
          sized_next e behind follow fewer wholes =
              let Some : size-at ≡ 0 → ⊥ = λ z. e (size_is e ∙ z) in
              rw (size_is e) (next size-at k' due' first' gs' (uncut (ne_eqb size-at 0 Some) (is-long e)) (is-inside e) behind follow fewer wholes
              (λ ps. on Some ps ∙ ap (λ (x : Bool). both x (passes t k' due' gs' ps)) (is-good e)))

      -- ---- a row that follows another
      module _ (stood : Bool) (size : ℕ) (told-kind : stood ≡ eqb (stands_as (octet t at)) k) (same : not stood ≡ false) (d : due ≡ 0 → ⊥)
          (told : size ≡ follower_size t (set w (2 * n) at) first n at) where
        abbrev new : Bool
        new = new_after t k before at

        stands : stands_as (kind_at t at) ≡ k
        stands = eqb-true _ _ (sym told-kind ∙ not-false stood same)

        follower-sized : size ≡ size_if t at (both (formed t at) new)
        unfolding follower_size
        follower-sized = told ∙ ap (λ (x : Bool). size_if t at (both (formed t at) x))
            (new_told t (set w (2 * n) at) before first n at before-counted before-places k stands (inv.follows (some_due d)))

        follower-on : (ps : List ℕ) → passes t k due before (at ∷ ps) ≡ both (both (formed t at) new) (passes t k (due - 1) (before ++ (at ∷ [])) ps)
        unfolding passes
        follower-on ps = rw (ne_eqb due 0 d, eq-eqb (stands_as (kind_at t at)) k stands) (join (formed t at) new (passes t k (due - 1) (before ++ (at ∷ [])) ps))
          where
            join : (x y z : Bool) → both x (both y z) ≡ both (both x y) z
            join true y z = refl
            join false y z = refl

        pub pass_misfit : size ≡ 0 → Fails t
        pass_misfit e = unsized size (both (formed t at) new) follower-sized k (due - 1) first (before ++ (at ∷ [])) (λ s ps. follower-on ps) e

        here-whole : (size ≡ 0 → ⊥) → WholeFollower t at
        here-whole e = whole-follower t at (due-kind stood told-kind same d) (is-inside size (both (formed t at) new) follower-sized e)

        all_whole : (size ≡ 0 → ⊥) → (i : ℕ) → first ≤ i → i < n + 1 → WholeFollower t (row_at (inv.found ++ (at ∷ [])) i)
        all_whole e i l h = ⊎_elim (λ (q : i ≡ n). last q) (λ g. earlier g) (eq-or-lt_of_le (omega arith))
          where
            last : i ≡ n → WholeFollower t (row_at (inv.found ++ (at ∷ [])) i)
            last q = subst (WholeFollower t) (sym (get_or_at inv.found at [] 0 i (inv.counted ∙ sym q))) (here-whole e)

            earlier : i < n → WholeFollower t (row_at (inv.found ++ (at ∷ [])) i)
            earlier g =
                let c : i < length inv.found = (let q = inv.counted in omega arith) in
                subst (WholeFollower t) (sym (get_or-append inv.found (at ∷ []) 0 i c)) (inv.whole i l g)

        pub pass_follower : (size ≡ 0 → ⊥) → Passing t (set w (2 * n) at) (at + size) (n + 1) k (due - 1) first
        pass_follower e =
            let c = inv.counted in
            let f = inv.fewer in
            sized_next size (both (formed t at) new) follower-sized k (due - 1) first (before ++ (at ∷ [])) (λ s ps. follower-on ps) e
            (drop-last first inv.found at (omega arith)) (λ l. inv.follows (some_due d)) (omega arith) (all_whole e)

      -- ---- a type row
      module _ (size : ℕ) (d : due ≡ 0) (told : size ≡ type_size table_limits.members t at) where
        none-follows : (size ≡ 0 → ⊥) → is_follower (kind_at t at) ≡ false
        unfolding type_size
        none-follows e = by-test (is_follower (kind_at t at))
            (λ f. absurd (e (rw (follower_unsized (kind_at t at) f) at told ∙ go (ltb (length t - at) 0) (count_formed table_limits.members t at)))) (λ f. f)
          where
            go : (x y : Bool) → ◌≡◌ {A = ℕ} (pick x 0 (pick y 0 0)) 0
            go true y = refl
            go false true = refl
            go false false = refl

        module _ (other : is_follower (kind_at t at) ≡ false) where
          type-sized : size ≡ size_if t at (count_formed table_limits.members t at)
          unfolding type_size
          type-sized = rw (type-row_size (kind_at t at) other) at told

          type-on : (size-at ≡ 0 → ⊥) → (ps : List ℕ) → passes t k due before (at ∷ ps)
              ≡ both (count_formed table_limits.members t at) (passes t (follower_kind (kind_at t at)) (followers_at t at) [] ps)
          unfolding passes
          type-on s ps = rw (eq-eqb due 0 d, kind-of_row (kind_at t at) s other, type-formed t at other)

        pub pass_unsized : size ≡ 0 → Fails t
        pass_unsized e = by-test (is_follower (kind_at t at)) (extra d)
            (λ f. unsized size (count_formed table_limits.members t at) (type-sized f)
            (follower_kind (kind_at t at)) (followers_at t at) (n + 1) [] (type-on f) e)

        none-behind : drop (n + 1) (inv.found ++ (at ∷ [])) ≡ []
        none-behind =
            let c = inv.counted in
            let l = length-append inv.found (at ∷ []) in
            rest-none (inv.found ++ (at ∷ [])) (n + 1) (omega arith)

        pub pass_type : (f m : ℕ) → (size ≡ 0 → ⊥) → f ≡ follower_kind (octet t at) → m ≡ followers_at t at
            → Passing t (set w (2 * n) at) (at + size) (n + 1) f m (n + 1)
        pass_type f m e g c =
            let o = none-follows e in
            rw (g, c) (sized_next size (count_formed table_limits.members t at) (type-sized o) (follower_kind (kind_at t at)) (followers_at t at) (n + 1) []
            (type-on o) e none-behind (due-follower t at) (omega arith) (λ i l h. absurd (omega arith)))
