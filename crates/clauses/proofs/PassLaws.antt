-- The first pass as one test that goes over the rows, and that it says what the clauses say.
use mathlib.Core.Path.{◌≡◌, refl, sym, ap, ap₂, ◌∙◌}
use mathlib.Core.Bool.{Bool, true, false}
use mathlib.Core.Logic.{⊎_elim}
use Rattle.std.specs.Prelude.{Option, None, Some}
use Rattle.std.proofs.lemmas.Option.{none-some}
use mathlib.Core.List.{List, [], ◌∷◌, ◌++◌, append_assoc}
use Prim.Native.Nat.{ℕ, zero, suc, ◌≤◌, ◌<◌, ◌+◌, ◌-◌}
use native.Mathlib.Omega.{arith}
use native.Mathlib.Numerals.{add-one}
use native.Mathlib.Nat.{add-zero}
use borrow.Author.Tests.{eqb-true, eqb-false, ltb-true, ltb-false, eq-eqb, ne_eqb, lt-ltb, le-leb}
use lib.Dec.{ltb, eqb}
use lib.ListN.{length, drop, length-append, get_or-append}
use lib.Seq.{get_or_at}
use Rattle.octets.specs.Pick.{pick, both, either, no, all, consed}
use Rattle.octets.specs.Octets.{every}
use Rattle.octets.proofs.Laws.{both_true, all_cong, never}
use Rattle.rows.specs.Paper.{table_limits}
use Rattle.rows.proofs.KindLaws.{member-kind, member_or_bit, member-follows, member_not_bit, stands-short, stands-member, stands_bit, stands-follower}
use Rattle.rows.proofs.KindLaws.{named_followers, whole-follower}
use Rattle.rows.specs.Row.{kind_at, row_at, row_size, is_type_kind, is_member, is_group, is_follower, follower_kind, followers_at, stands_as, bit_names_at, rows_from, rows}
use Rattle.rows.specs.Row.{or_none}
use Rattle.rows.specs.Body.{row_formed}
use Rattle.rows.specs.Inner.Sizes.{WholeFollower}
use Rattle.clauses.specs.Clauses.{every_row, whole_rows, body_formed, is_type, first_is_type, standing, followers_stand, member_place}
use Rattle.clauses.specs.Clauses.{same_name, differs_from, new_name, names_differ, same_number, number_differs_from, new_number, numbers_differ}
use Rattle.clauses.specs.Inner.Work.{first_pass, place_in, differs_at, new_name_at, number_differs_at, new_number_at, new_at}
use Rattle.clauses.proofs.LaterSteps.{due-follower, no_followers, after_group, after-named}

-- rows p and q of kind k that follow one row: their names differ, and of bits their numbers
unfoldable apart : List ℕ → ℕ → ℕ → ℕ → Bool
apart t k p q = both (no (same_name t p q)) (either (eqb k 16) (no (same_number t p q)))

-- the row at p differs so from each of b rows, where `place` gives their places
pub new_among : List ℕ → ℕ → (ℕ → ℕ) → ℕ → ℕ → Bool
new_among t k place p b = all (λ a. apart t k (place a) p) b

-- row b from each before it, and the row at p from those at gs
abbrev new_by : List ℕ → ℕ → (ℕ → ℕ) → ℕ → Bool
new_by t k place b = new_among t k place (place b) b

abbrev pub new_after : List ℕ → ℕ → List ℕ → ℕ → Bool
new_after t k gs p = new_among t k (row_at gs) p (length gs)

abbrev pub formed : List ℕ → ℕ → Bool
formed t p = row_formed table_limits.members t p

-- so many rows of kind k are due; those of them that stand before these rows are at gs
unfoldable pub passes : List ℕ → ℕ → ℕ → List ℕ → List ℕ → Bool
passes t k due gs [] = eqb due 0
passes t k due gs (p ∷ ps) =
    let type = passes t (follower_kind (kind_at t p)) (followers_at t p) [] ps in
    let follower = passes t k (due - 1) (gs ++ (p ∷ [])) ps in
    pick (eqb due 0)
    (both (is_type_kind (kind_at t p)) (both (formed t p) type))
    (both (eqb (stands_as (kind_at t p)) k) (both (formed t p) (both (new_after t k gs p) follower)))

abbrev pub goes : List ℕ → ℕ → ℕ → List ℕ → Option (List ℕ) → Bool
goes t k due gs None = false
goes t k due gs (Some ps) = passes t k due gs ps

pub by-test : {P : Type 0} (x : Bool) → (x ≡ true → P) → (x ≡ false → P) → P
by-test true f g = f refl
by-test false f g = g refl

-- ---- the test is those of bodies, of where rows stand, and of names and numbers
-- the names and numbers are new
unfoldable rows_new : List ℕ → ℕ → ℕ → List ℕ → List ℕ → Bool
rows_new t k due gs [] = true
rows_new t k due gs (p ∷ ps) =
    let type = rows_new t (follower_kind (kind_at t p)) (followers_at t p) [] ps in
    let follower = rows_new t k (due - 1) (gs ++ (p ∷ [])) ps in
    pick (eqb due 0) type (both (new_after t k gs p) follower)

shuffle_follower : (d m n e s x : Bool) → both d (both m (both n (both e (both s x)))) ≡ both (both m e) (both (both d s) (both n x))
shuffle_follower true true true true s x = refl
shuffle_follower true true true false s x = refl
shuffle_follower true true false true true x = refl
shuffle_follower true true false true false x = refl
shuffle_follower true true false false s x = refl
shuffle_follower true false n e s x = refl
shuffle_follower false true n true s x = refl
shuffle_follower false true n false s x = refl
shuffle_follower false false n e s x = refl

shuffle_type : (d m e s x : Bool) → both d (both m (both e (both s x))) ≡ both (both m e) (both (both d s) x)
shuffle_type true true e s x = refl
shuffle_type true false e s x = refl
shuffle_type false true true s x = refl
shuffle_type false true false s x = refl
shuffle_type false false e s x = refl

pick-both : (z f e u v n m l r : Bool) → l ≡ both (both f e) (both u n) → r ≡ both (both f e) (both v m)
    → pick z l r ≡ both (both f e) (both (pick z u v) (pick z n m))
pick-both true f e u v n m l r h g = h
pick-both false f e u v n m l r h g = g

pub both_end : (x : Bool) → both x true ≡ x
both_end true = refl
both_end false = refl

passes-split : (t : List ℕ) (k due : ℕ) (gs s : List ℕ)
    → passes t k due gs s ≡ both (every (formed t) s) (both (standing t k due s) (rows_new t k due gs s))
unfolding passes every standing rows_new
passes-split t k due gs [] = sym (both_end (eqb due 0))
passes-split t k due gs (p ∷ ps) =
    pick-both (eqb due 0) (formed t p) (every (formed t) ps)
    (both (is_type_kind (kind_at t p)) (standing t (follower_kind (kind_at t p)) (followers_at t p) ps))
    (both (eqb (stands_as (kind_at t p)) k) (standing t k (due - 1) ps))
    (rows_new t (follower_kind (kind_at t p)) (followers_at t p) [] ps)
    (both (new_after t k gs p) (rows_new t k (due - 1) (gs ++ (p ∷ [])) ps))
    (both (is_type_kind (kind_at t p)) (both (formed t p) (passes t (follower_kind (kind_at t p)) (followers_at t p) [] ps)))
    (both (eqb (stands_as (kind_at t p)) k) (both (formed t p) (both (new_after t k gs p) (passes t k (due - 1) (gs ++ (p ∷ [])) ps))))
    (ap (λ (x : Bool). both (is_type_kind (kind_at t p)) (both (formed t p) x)) (passes-split t (follower_kind (kind_at t p)) (followers_at t p) [] ps)
    ∙ shuffle_type (is_type_kind (kind_at t p)) (formed t p) (every (formed t) ps) _ _)
    (ap (λ (x : Bool). both (eqb (stands_as (kind_at t p)) k) (both (formed t p) (both (new_after t k gs p) x)))
    (passes-split t k (due - 1) (gs ++ (p ∷ [])) ps)
    ∙ shuffle_follower (eqb (stands_as (kind_at t p)) k) (formed t p) (new_after t k gs p) (every (formed t) ps) _ _)

-- ---- tests of all rows, from the first on
swap : (x y z : Bool) → both x (both y z) ≡ both y (both x z)
swap true y z = refl
swap false y z = sym (never y)

all_front : (f : ℕ → Bool) (n : ℕ) → all f (suc n) ≡ both (f 0) (all (λ i. f (suc i)) n)
unfolding all
all_front f zero = refl
all_front f (suc n) = ap (both (f (suc n))) (all_front f n) ∙ swap (f (suc n)) (f 0) (all (λ i. f (suc i)) n)

every-all : (f : ℕ → Bool) (s : List ℕ) → every f s ≡ all (λ i. f (row_at s i)) (length s)
unfolding every all
every-all f [] = refl
every-all f (p ∷ ps) = ap (both (f p)) (every-all f ps) ∙ sym (all_front (λ i. f (row_at (p ∷ ps) i)) (length ps))

bodies : (t s : List ℕ) → every (formed t) s ≡ every_row (body_formed table_limits.members t s) s
unfolding body_formed
bodies t s = every-all (formed t) s

-- ---- names and numbers together
crossed : (a b c d : Bool) → both (both a b) (both c d) ≡ both (both a c) (both b d)
crossed true true c d = refl
crossed true false c d = sym (never c)
crossed false b c d = refl

pub all_both : (f g : ℕ → Bool) (n : ℕ) → all (λ (i : ℕ). both (f i) (g i)) n ≡ both (all f n) (all g n)
unfolding all
all_both f g zero = refl
all_both f g (suc n) = ap (both (both (f n) (g n))) (all_both f g n) ∙ crossed (f n) (g n) (all f n) (all g n)

module _ (t : List ℕ) (k : ℕ) where
  new_cong : (f g : ℕ → ℕ) (b : ℕ) → ((a : ℕ) → a ≤ b → f a ≡ g a) → new_by t k f b ≡ new_by t k g b
  unfolding new_among
  new_cong f g b h =
      let own : f b ≡ g b = h b (omega arith) in
      all_cong (λ a. apart t k (f a) (f b)) (λ a. apart t k (g a) (g b)) b (λ a l. ap₂ (apart t k) (h a (omega arith)) own)

  module _ (place : ℕ → ℕ) (p b : ℕ) where
    -- of members names alone, of bits both
    new-member : k ≡ 16 → new_among t k place p b ≡ all (λ a. no (same_name t (place a) p)) b
    unfolding new_among apart
    new-member e = rw e (all_cong _ (λ a. no (same_name t (place a) p)) b (λ a l. both_end (no (same_name t (place a) p))))

    new_bit : k ≡ 18 → new_among t k place p b ≡ both (all (λ a. no (same_name t (place a) p)) b) (all (λ a. no (same_number t (place a) p)) b)
    unfolding new_among apart
    new_bit e = rw e (all_both (λ a. no (same_name t (place a) p)) (λ a. no (same_number t (place a) p)) b)

-- the rows that follow row i
unfoldable followers_differ : List ℕ → List ℕ → ℕ → Bool
followers_differ t s i = all (new_by t (follower_kind (kind_at t (row_at s i))) (member_place s i)) (followers_at t (row_at s i))

module _ (t s : List ℕ) (i : ℕ) where
  -- names of bits follow
  differ-named : kind_at t (row_at s i) ≡ 17 → followers_differ t s i ≡ both (names_differ t s i) (numbers_differ t s i)
  unfolding followers_differ names_differ numbers_differ new_name differs_from new_number number_differs_from
  differ-named k =
      all_cong (new_by t (follower_kind (kind_at t (row_at s i))) (member_place s i)) (λ b. both (new_name t s i b) (new_number t s i b)) (followers_at t (row_at s i))
      (λ b h. new_bit t (follower_kind (kind_at t (row_at s i))) (member_place s i) (member_place s i b) b (after-named (kind_at t (row_at s i)) k))
      ∙ all_both (new_name t s i) (new_number t s i) (followers_at t (row_at s i))
      ∙ ap (λ (n : ℕ). both (all (new_name t s i) (followers_at t (row_at s i))) (all (new_number t s i) n)) (named_followers t (row_at s i) k)

  module _ (k : eqb (kind_at t (row_at s i)) 17 ≡ false) where
    numbers-none : numbers_differ t s i ≡ true
    unfolding numbers_differ bit_names_at all
    numbers-none = rw k

    none_follow : is_group (kind_at t (row_at s i)) ≡ false → followers_at t (row_at s i) ≡ 0
    unfolding followers_at follower_kind
    none_follow g = rw (g, k)

    -- members follow, or none
    differ-names : followers_differ t s i ≡ names_differ t s i
    unfolding followers_differ names_differ new_name differs_from
    differ-names = by-test (is_group (kind_at t (row_at s i)))
        (λ g. all_cong (new_by t (follower_kind (kind_at t (row_at s i))) (member_place s i)) (new_name t s i) (followers_at t (row_at s i))
        (λ b h. new-member t (follower_kind (kind_at t (row_at s i))) (member_place s i) (member_place s i b) b (after_group (kind_at t (row_at s i)) g)))
        (λ g. all_cong (new_by t (follower_kind (kind_at t (row_at s i))) (member_place s i)) (new_name t s i) (followers_at t (row_at s i))
        (λ b h. absurd (let z = none_follow g in omega arith)))

  differ-split : followers_differ t s i ≡ both (names_differ t s i) (numbers_differ t s i)
  differ-split = by-test (eqb (kind_at t (row_at s i)) 17)
      (λ k. differ-named (eqb-true (kind_at t (row_at s i)) 17 k))
      (λ k. differ-names k ∙ sym (ap (both (names_differ t s i)) (numbers-none k) ∙ both_end (names_differ t s i)))

all-differ : (t s : List ℕ) → every_row (followers_differ t s) s ≡ both (every_row (names_differ t s) s) (every_row (numbers_differ t s) s)
all-differ t s =
    all_cong (followers_differ t s) (λ i. both (names_differ t s i) (numbers_differ t s i)) (length s) (λ i h. differ-split t s i)
    ∙ all_both (names_differ t s) (numbers_differ t s) (length s)

-- ---- by the list of the rows: those that follow a row by their number in the rows behind it
unfoldable lists_new : List ℕ → List ℕ → Bool
lists_new t [] = true
lists_new t (p ∷ ps) = let r = lists_new t ps in both (all (new_by t (follower_kind (kind_at t p)) (row_at ps)) (followers_at t p)) r

place-first : (p : ℕ) (ps : List ℕ) (j : ℕ) → member_place (p ∷ ps) 0 j ≡ row_at ps j
place-first p ps j = let e : 0 + 1 + j ≡ suc j = omega arith in ap (row_at (p ∷ ps)) e

place_next : (p : ℕ) (ps : List ℕ) (i j : ℕ) → member_place (p ∷ ps) (suc i) j ≡ member_place ps i j
place_next p ps i j = let e : suc i + 1 + j ≡ suc (i + 1 + j) = omega arith in ap (row_at (p ∷ ps)) e

differ-first : (t : List ℕ) (p : ℕ) (ps : List ℕ) → followers_differ t (p ∷ ps) 0 ≡ all (new_by t (follower_kind (kind_at t p)) (row_at ps)) (followers_at t p)
unfolding followers_differ
differ-first t p ps =
    all_cong (new_by t (follower_kind (kind_at t p)) (member_place (p ∷ ps) 0)) (new_by t (follower_kind (kind_at t p)) (row_at ps)) (followers_at t p)
    (λ b h. new_cong t (follower_kind (kind_at t p)) (member_place (p ∷ ps) 0) (row_at ps) b (λ a l. place-first p ps a))

differ_next : (t : List ℕ) (p : ℕ) (ps : List ℕ) (i : ℕ) → followers_differ t (p ∷ ps) (suc i) ≡ followers_differ t ps i
unfolding followers_differ
differ_next t p ps i =
    all_cong (new_by t (follower_kind (kind_at t (row_at ps i))) (member_place (p ∷ ps) (suc i)))
    (new_by t (follower_kind (kind_at t (row_at ps i))) (member_place ps i)) (followers_at t (row_at ps i))
    (λ b h. new_cong t (follower_kind (kind_at t (row_at ps i))) (member_place (p ∷ ps) (suc i)) (member_place ps i) b (λ a l. place_next p ps i a))

differ-lists : (t s : List ℕ) → every_row (followers_differ t s) s ≡ lists_new t s
unfolding lists_new all
differ-lists t [] = refl
differ-lists t (p ∷ ps) =
    all_front (followers_differ t (p ∷ ps)) (length ps)
    ∙ ap₂ both (differ-first t p ps)
    (all_cong (λ i. followers_differ t (p ∷ ps) (suc i)) (followers_differ t ps) (length ps) (λ i h. differ_next t p ps i) ∙ differ-lists t ps)

-- ---- the tests of d numbers from b on
unfoldable all_from : (ℕ → Bool) → ℕ → ℕ → Bool
all_from f b zero = true
all_from f b (suc d) = let r = all_from f (b + 1) d in both (f b) r

all-on : (f : ℕ → Bool) (b d : ℕ) → both (all f b) (all_from f b d) ≡ all f (b + d)
unfolding all_from all
all-on f b zero = both_end (all f b) ∙ sym (ap (all f) (add-zero b))
all-on f b (suc d) =
    let e : suc b + d ≡ b + suc d = omega arith in
    ap (λ (x : ℕ). both (all f b) (both (f b) (all_from f x d))) (add-one b)
    ∙ join (all f b) (f b) (all_from f (suc b) d)
    ∙ all-on f (suc b) d
    ∙ ap (all f) e
  where
    join : (x y z : Bool) → both x (both y z) ≡ both (both y x) z
    join true true z = refl
    join true false z = refl
    join false true z = refl
    join false false z = refl

all-from : (f : ℕ → Bool) (n : ℕ) → all_from f 0 n ≡ all f n
unfolding all
all-from f n = let e : 0 + n ≡ n = omega arith in all-on f 0 n ∙ ap (all f) e

-- ---- rows
-- a row, and the rows after it
pub record View (m : ℕ) (t : List ℕ) (at p : ℕ) (ps : List ℕ) : Type 0 where
  pub left : ℕ
  pub fuel : m ≡ suc left
  pub place : p ≡ at
  pub sized : row_size (kind_at t at) ≡ 0 → ⊥
  pub inside : at + row_size (kind_at t at) ≤ length t
  pub rest : rows_from left t (at + row_size (kind_at t at)) ≡ Some ps

rows_view : (m : ℕ) (t : List ℕ) (at p : ℕ) (ps : List ℕ) → rows_from m t at ≡ Some (p ∷ ps) → View m t at p ps
unfolding rows_from
rows_view zero t at p ps e = absurd (go (ltb at (length t)) e)
  where
    go : (x : Bool) → ◌≡◌ {A = Option (List ℕ)} (pick x None (Some [])) (Some (p ∷ ps)) → ⊥
    go true q = none-some (p ∷ ps) q
    go false q = let z : 0 ≡ length (p ∷ ps) = ap (λ (o : Option (List ℕ)). length (or_none o)) q in omega arith
rows_view (suc m) t at p ps e =
    go (ltb at (length t)) refl (eqb (row_size (kind_at t at)) 0) refl (ltb (length t - at) (row_size (kind_at t at))) refl
    (rows_from m t (at + row_size (kind_at t at))) refl e
  where
    go : (x : Bool) → ltb at (length t) ≡ x → (y : Bool) → eqb (row_size (kind_at t at)) 0 ≡ y → (z : Bool) → ltb (length t - at) (row_size (kind_at t at)) ≡ z
        → (o : Option (List ℕ)) → rows_from m t (at + row_size (kind_at t at)) ≡ o
        → ◌≡◌ {A = Option (List ℕ)} (pick x (pick y None (pick z None (consed at o))) (Some [])) (Some (p ∷ ps)) → View (suc m) t at p ps
    go true v true w z u o f q = absurd (none-some (p ∷ ps) q)
    go true v false w true u o f q = absurd (none-some (p ∷ ps) q)
    go true v false w false u None f q = absurd (none-some (p ∷ ps) q)
    go true v false w false u (Some qs) f q =
        record {
          left = m;
          fuel = refl;
          place = sym (ap (λ (o : Option (List ℕ)). row_at (or_none o) 0) q);
          sized = eqb-false (row_size (kind_at t at)) 0 w;
          inside = let a = ltb-true at (length t) v in let b = ltb-false (length t - at) (row_size (kind_at t at)) u in omega arith;
          rest = f ∙ ap (λ (o : Option (List ℕ)). Some (drop 1 (or_none o))) q;
        }
    go false v y w z u o f q = absurd (let n : 0 ≡ length (p ∷ ps) = ap (λ (o : Option (List ℕ)). length (or_none o)) q in omega arith)

rows_few : (m : ℕ) (t : List ℕ) (at : ℕ) (s : List ℕ) → rows_from m t at ≡ Some s → length s ≤ m
rows_few m t at [] e = omega arith
rows_few m t at (p ∷ ps) e =
    let v = rows_view m t at p ps e in
    let r = rows_few v.left t (at + row_size (kind_at t at)) ps v.rest in
    let f = v.fuel in
    omega arith

-- each row of a table is whole
whole_row : (m : ℕ) (t : List ℕ) (at : ℕ) (s : List ℕ) (j : ℕ) → rows_from m t at ≡ Some s → j < length s → row_at s j + row_size (kind_at t (row_at s j)) ≤ length t
whole_row m t at [] j e h = absurd (omega arith)
whole_row m t at (p ∷ ps) zero e h = let v = rows_view m t at p ps e in rw v.place v.inside
whole_row m t at (p ∷ ps) (suc j) e h = let v = rows_view m t at p ps e in whole_row v.left t (at + row_size (kind_at t at)) ps j v.rest (omega arith)

pub row-whole : (m : ℕ) (t : List ℕ) (j : ℕ) → j < length (rows m t) → row_at (rows m t) j + row_size (kind_at t (row_at (rows m t) j)) ≤ length t
unfolding rows
row-whole m t j = go (rows_from m t 0) refl
  where
    go : (o : Option (List ℕ)) → rows_from m t 0 ≡ o → j < length (or_none o) → row_at (or_none o) j + row_size (kind_at t (row_at (or_none o) j)) ≤ length t
    go None e h = absurd (omega arith)
    go (Some s) e h = whole_row m t 0 s j e h

pub member-whole : (m : ℕ) (t : List ℕ) (j : ℕ) → j < length (rows m t) → is_member (kind_at t (row_at (rows m t) j)) ≡ true
    → WholeFollower t (row_at (rows m t) j)
member-whole m t j h k = whole-follower t (row_at (rows m t) j) (member-follows (kind_at t (row_at (rows m t) j)) k) (row-whole m t j h)

-- ---- a row where rows are due
more-due : (d : ℕ) → eqb (suc d) 0 ≡ false
more-due d = let z : suc d ≡ 0 → ⊥ = λ q. omega arith in ne_eqb (suc d) 0 z

one_less : (d : ℕ) → suc d - 1 ≡ d
one_less d = omega arith

module _ (t : List ℕ) (p : ℕ) (ps : List ℕ) (k d : ℕ) where
  stand_next : standing t k (suc d) (p ∷ ps) ≡ true → (stands_as (kind_at t p) ≡ k) × (standing t k d ps ≡ true)
  unfolding standing
  stand_next e =
      let w = both_true (eqb (stands_as (kind_at t p)) k) (standing t k (suc d - 1) ps) (rw (more-due d) at e) in
      (eqb-true (stands_as (kind_at t p)) k w.0, ap (λ (x : ℕ). standing t k x ps) (sym (one_less d)) ∙ w.1)

  new_next : (gs : List ℕ) → rows_new t k (suc d) gs (p ∷ ps) ≡ both (new_after t k gs p) (rows_new t k d (gs ++ (p ∷ [])) ps)
  unfolding rows_new
  new_next gs = rw (more-due d, one_less d)

-- the row at p behind those at gs, by its number in a list of them all
new_is : (t : List ℕ) (k : ℕ) (gs ps : List ℕ) (p : ℕ) → new_after t k gs p ≡ new_by t k (row_at (gs ++ (p ∷ ps))) (length gs)
unfolding new_among
new_is t k gs ps p =
    let own : p ≡ row_at (gs ++ (p ∷ ps)) (length gs) = sym (get_or_at gs p ps 0 (length gs) refl) in
    all_cong (λ a. apart t k (row_at gs a) p) (λ a. apart t k (row_at (gs ++ (p ∷ ps)) a) (row_at (gs ++ (p ∷ ps)) (length gs))) (length gs)
    (λ a l. ap₂ (apart t k) (sym (get_or-append gs (p ∷ ps) 0 a l)) own)

new_are : (t : List ℕ) (ps gs : List ℕ) (k due : ℕ) → standing t k due ps ≡ true → (0 < due → is_follower k ≡ true)
    → rows_new t k due gs ps ≡ both (all_from (new_by t k (row_at (gs ++ ps))) (length gs) due) (lists_new t ps)
unfolding rows_new lists_new all_from standing all
new_are t [] gs k due st fo = go due (eqb-true due 0 st)
  where
    go : (d : ℕ) → d ≡ 0 → true ≡ both (all_from (new_by t k (row_at (gs ++ []))) (length gs) d) true
    go zero e = refl
    go (suc d) e = absurd (omega arith)
new_are t (p ∷ ps) gs k zero st fo =
    new_are t ps [] (follower_kind (kind_at t p)) (followers_at t p) (both_true (is_type_kind (kind_at t p)) _ st).1 (due-follower t p)
    ∙ ap (λ (x : Bool). both x (lists_new t ps)) (all-from (new_by t (follower_kind (kind_at t p)) (row_at ps)) (followers_at t p))
new_are t (p ∷ ps) gs k (suc d) st fo =
    let w = stand_next t p ps k d st in
    let None : followers_at t p ≡ 0 = no_followers t p (stands-follower (kind_at t p) k w.0 (fo (omega arith))) in
    new_next t p ps k d gs
    ∙ ap₂ both (new_is t k gs ps p)
    (new_are t ps (gs ++ (p ∷ [])) k d w.1 (λ l. fo (omega arith))
    ∙ ap₂ (λ (l : List ℕ) (n : ℕ). both (all_from (new_by t k (row_at l)) n d) (lists_new t ps)) (append_assoc gs (p ∷ []) ps) (length-append gs (p ∷ [])))
    ∙ glue (new_by t k (row_at (gs ++ (p ∷ ps))) (length gs)) (all_from (new_by t k (row_at (gs ++ (p ∷ ps)))) (length gs + 1) d) (lists_new t ps)
    ∙ ap (λ (n : ℕ). both (both (new_by t k (row_at (gs ++ (p ∷ ps))) (length gs)) (all_from (new_by t k (row_at (gs ++ (p ∷ ps)))) (length gs + 1) d))
    (both (all (new_by t (follower_kind (kind_at t p)) (row_at ps)) n) (lists_new t ps))) (sym None)
  where
    glue : (x y z : Bool) → both x (both y z) ≡ both (both x y) (both true z)
    glue true y z = refl
    glue false y z = refl

-- ---- the clauses together
module _ (t : List ℕ) (p : ℕ) (ps : List ℕ) (found : rows_from table_limits.rows t 0 ≡ Some (p ∷ ps)) where
  first-type : standing t 0 0 (p ∷ ps) ≡ true → first_is_type t (p ∷ ps) ≡ true
  unfolding standing first_is_type is_type
  first-type st =
      let h : 0 < length (p ∷ ps) = omega arith in
      rw (lt-ltb 0 (length (p ∷ ps)) h) (both_true (is_type_kind (kind_at t p)) _ st).0

  whole : whole_rows table_limits.rows (p ∷ ps) ≡ true
  unfolding whole_rows
  whole =
      let h = rows_few table_limits.rows t 0 (p ∷ ps) found in
      let l : 1 ≤ length (p ∷ ps) = omega arith in
      ap₂ both (le-leb 1 (length (p ∷ ps)) l) (le-leb (length (p ∷ ps)) table_limits.rows h)

  abbrev differ : Bool
  differ = both (every_row (names_differ t (p ∷ ps)) (p ∷ ps)) (every_row (numbers_differ t (p ∷ ps)) (p ∷ ps))

  new-rows : standing t 0 0 (p ∷ ps) ≡ true → rows_new t 0 0 [] (p ∷ ps) ≡ differ
  unfolding all_from
  new-rows st =
      new_are t (p ∷ ps) [] 0 0 st (λ h. absurd (omega arith))
      ∙ sym (differ-lists t (p ∷ ps))
      ∙ all-differ t (p ∷ ps)

  stand-and : both (standing t 0 0 (p ∷ ps)) (rows_new t 0 0 [] (p ∷ ps)) ≡ both (first_is_type t (p ∷ ps)) (both (followers_stand t (p ∷ ps)) differ)
  unfolding followers_stand
  stand-and = by-test (standing t 0 0 (p ∷ ps))
      (λ st. ap₂ both st (new-rows st) ∙ sym (ap₂ (λ (x y : Bool). both x (both y differ)) (first-type st) st))
      (λ st. ap (λ (x : Bool). both x (rows_new t 0 0 [] (p ∷ ps))) st
      ∙ sym (ap (λ (x : Bool). both (first_is_type t (p ∷ ps)) (both x differ)) st ∙ never (first_is_type t (p ∷ ps))))

  all_clauses : passes t 0 0 [] (p ∷ ps) ≡ first_pass table_limits t (p ∷ ps)
  unfolding first_pass
  all_clauses =
      passes-split t 0 0 [] (p ∷ ps)
      ∙ ap₂ both (bodies t (p ∷ ps)) stand-and
      ∙ sym (ap (λ (x : Bool). both x (both (every_row (body_formed table_limits.members t (p ∷ ps)) (p ∷ ps))
      (both (first_is_type t (p ∷ ps)) (both (followers_stand t (p ∷ ps)) differ)))) whole)

none_pass : (t : List ℕ) → first_pass table_limits t [] ≡ false
unfolding first_pass whole_rows
none_pass t = refl

pub pass_counts : (t : List ℕ) → pick (goes t 0 0 [] (rows_from table_limits.rows t 0)) (length (rows table_limits.rows t)) 0
    ≡ pick (first_pass table_limits t (rows table_limits.rows t)) (length (rows table_limits.rows t)) 0
unfolding rows passes
pass_counts t = go (rows_from table_limits.rows t 0) refl
  where
    go : (o : Option (List ℕ)) → rows_from table_limits.rows t 0 ≡ o
        → pick (goes t 0 0 [] o) (length (or_none o)) 0 ≡ pick (first_pass table_limits t (or_none o)) (length (or_none o)) 0
    go None e = rw (none_pass t)
    go (Some []) e = rw (none_pass t)
    go (Some (p ∷ ps)) e = ap (λ (x : Bool). pick x (length (p ∷ ps)) 0) (all_clauses t p ps e)

-- ---- a row that follows another, by the places of those before it in an array
module _ (t w gs : List ℕ) (first n p : ℕ) (counted : length gs ≡ n - first) (places : (a : ℕ) → a < length gs → place_in w (first + a) ≡ row_at gs a) where
  names_told : new_name_at t w first n p ≡ all (λ a. no (same_name t (row_at gs a) p)) (length gs)
  unfolding new_name_at differs_at
  names_told =
      ap (all (differs_at t w first p)) (sym counted)
      ∙ all_cong (differs_at t w first p) (λ a. no (same_name t (row_at gs a) p)) (length gs) (λ a l. ap (λ (x : ℕ). no (same_name t x p)) (places a l))

  numbers_told : new_number_at t w first n p ≡ all (λ a. no (same_number t (row_at gs a) p)) (length gs)
  unfolding new_number_at number_differs_at
  numbers_told =
      ap (all (number_differs_at t w first p)) (sym counted)
      ∙ all_cong (number_differs_at t w first p) (λ a. no (same_number t (row_at gs a) p)) (length gs) (λ a l. ap (λ (x : ℕ). no (same_number t x p)) (places a l))

  module _ (k : ℕ) (e : stands_as (kind_at t p) ≡ k) where
    member_told : k ≡ 16 → new_at t w first n p ≡ new_after t k gs p
    unfolding new_at
    member_told h =
        let g : kind_at t p ≡ 18 → ⊥ = λ z. member_not_bit (kind_at t p) (stands-member (kind_at t p) (e ∙ h)) z in
        ap (λ (x : Bool). both (new_name_at t w first n p) (either (no x) (new_number_at t w first n p))) (ne_eqb (kind_at t p) 18 g)
        ∙ both_end (new_name_at t w first n p)
        ∙ names_told
        ∙ sym (new-member t k (row_at gs) p (length gs) h)

    bit_told : k ≡ 18 → new_at t w first n p ≡ new_after t k gs p
    unfolding new_at
    bit_told h =
        ap (λ (x : Bool). both (new_name_at t w first n p) (either (no x) (new_number_at t w first n p)))
        (eq-eqb (kind_at t p) 18 (stands_bit (kind_at t p) (e ∙ h)))
        ∙ ap₂ both names_told numbers_told
        ∙ sym (new_bit t k (row_at gs) p (length gs) h)

    -- no row stands as one with a long name
    pub new_told : is_follower k ≡ true → new_at t w first n p ≡ new_after t k gs p
    new_told f =
        ⊎_elim
        (λ m. ⊎_elim member_told (λ (h : k ≡ 21). absurd (stands-short (kind_at t p) (e ∙ h))) (member-kind k m))
        bit_told
        (member_or_bit k f)
