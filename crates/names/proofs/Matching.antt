-- Pairs one to one, in any order.
use mathlib.Core.Path.{◌≡◌, refl, sym, ap, ap₂, ◌∙◌, subst}
use mathlib.Core.Bool.{Bool, true, false, false≢true}
use Rattle.std.specs.Prelude.{Option, None, Some}
use mathlib.Core.List.{List, [], ◌∷◌, ◌++◌, map}
use Prim.Native.Nat.{ℕ, suc, ◌+◌}
use native.Mathlib.Omega.{arith}
use borrow.Author.Tests.{eq-eqb}
use lib.ListN.{length}
use Rattle.octets.specs.Pick.{pick, both, is_some, consed}
use Rattle.octets.specs.Octets.{same}
use Rattle.octets.proofs.Laws.{both_true}
use Rattle.octets.proofs.TextLaws.{same-is}
use Rattle.names.specs.Compared.{Compared, same_pair, without, others, same_rdn, same_name, turned}

-- ---- one pair taken out
abbrev held : {A : Type 0} → A → Option A → A
held d None = d
held d (Some a) = a

pub none-some : {A : Type 0} (a : A) → None ≡ Some a → ⊥
none-some a e = false≢true (ap is_some e)

pub some_same : {A : Type 0} (a b : A) → Some a ≡ Some b → a ≡ b
some_same a b e = ap (held a) e

pub consed_view : {A : Type 0} (b : A) (o : Option (List A)) (cs : List A) → consed b o ≡ Some cs → (ds : List A) × (o ≡ Some ds) × ((b ∷ ds) ≡ cs)
consed_view b None cs e = absurd (none-some cs e)
consed_view b (Some ds) cs e = (ds, refl, some_same (b ∷ ds) cs e)

pub without-cons : (a b : Compared) (bs : List Compared) → without a (b ∷ bs) ≡ pick (same_pair a b) (Some bs) (consed b (without a bs))
unfolding without
without-cons a b bs = refl

pub without-length : (a : Compared) (bs cs : List Compared) → without a bs ≡ Some cs → length bs ≡ suc (length cs)
unfolding without
without-length a [] cs e = absurd (none-some cs e)
without-length a (b ∷ bs) cs e = go (same_pair a b) (λ ds q. without-length a bs ds q) (sym (without-cons a b bs) ∙ e)
  where
    go : (u : Bool) → ((ds : List Compared) → without a bs ≡ Some ds → length bs ≡ suc (length ds))
        → pick u (Some bs) (consed b (without a bs)) ≡ Some cs → suc (length bs) ≡ suc (length cs)
    go true f q = ap (λ (l : List Compared). suc (length l)) (some_same bs cs q)
    go false f q =
        let w = consed_view b (without a bs) cs q in
        ap suc (f w.0 w.1) ∙ ap (λ (l : List Compared). suc (length l)) w.2

others_view : (f : List Compared → Bool) (o : Option (List Compared)) → others f o ≡ true → (cs : List Compared) × (o ≡ Some cs) × (f cs ≡ true)
others_view f None e = absurd (false≢true e)
others_view f (Some cs) e = (cs, refl, e)

pub rdn_view : (a : Compared) (l bs : List Compared) → same_rdn (a ∷ l) bs ≡ true → (cs : List Compared) × (without a bs ≡ Some cs) × (same_rdn l cs ≡ true)
unfolding same_rdn
rdn_view a l bs e = others_view (same_rdn l) (without a bs) e

-- lists of pairs that are the same have the same length
pub same_length : (l bs : List Compared) → same_rdn l bs ≡ true → length l ≡ length bs
unfolding same_rdn
same_length [] [] e = refl
same_length [] (b ∷ bs) e = absurd (false≢true e)
same_length (a ∷ l) bs e =
    let w = rdn_view a l bs e in
    ap suc (same_length l w.0 w.2) ∙ sym (without-length a bs w.0 w.1)

pub other_length : (l bs : List Compared) → (length l ≡ length bs → ⊥) → false ≡ same_rdn l bs
other_length l bs d = go (same_rdn l bs) refl
  where
    go : (u : Bool) → same_rdn l bs ≡ u → false ≡ u
    go true e = absurd (d (same_length l bs e))
    go false e = refl

-- ---- pairs are the same exactly if they are equal
same_self : (a : List ℕ) → same a a ≡ true
unfolding same
same_self [] = refl
same_self (b ∷ l) = rw (eq-eqb b b refl, same_self l)

pub pair_self : (a : Compared) → same_pair a a ≡ true
pair_self a = rw (same_self a.arcs, same_self a.text)

pub pair-equal : (a b : Compared) → same_pair a b ≡ true → a ≡ b
pair-equal a b e =
    let w = both_true (same a.arcs b.arcs) (same a.text b.text) e in
    ap₂ (λ (x y : List ℕ). record { arcs = x; text = y }) (same-is a.arcs b.arcs w.0) (same-is a.text b.text w.1)

-- ---- one list of pairs is another in some order
-- the second list is the first with a put in at some place
pub data Inserted (a : Compared) : List Compared → List Compared → Type 0 where
  here : {l : List Compared} → Inserted a l (a ∷ l)
  later : {b : Compared} {l m : List Compared} → Inserted a l m → Inserted a (b ∷ l) (b ∷ m)

pub data Permutation : List Compared → List Compared → Type 0 where
  empty : Permutation [] []
  more : {a : Compared} {l m n : List Compared} → Permutation l m → Inserted a m n → Permutation (a ∷ l) n

-- how often a pair stands in a list
abbrev pub once : Bool → ℕ
once u = pick u 1 0

unfoldable pub occurrences : Compared → List Compared → ℕ
occurrences p [] = 0
occurrences p (a ∷ l) = once (same_pair p a) + occurrences p l

-- a pair taken out is one occurrence less of it
without_inserts : (a : Compared) (bs cs : List Compared) → without a bs ≡ Some cs → Inserted a cs bs
unfolding without
without_inserts a [] cs e = absurd (none-some cs e)
without_inserts a (b ∷ bs) cs e = go (same_pair a b) refl (λ ds q. without_inserts a bs ds q) (sym (without-cons a b bs) ∙ e)
  where
    go : (u : Bool) → same_pair a b ≡ u → ((ds : List Compared) → without a bs ≡ Some ds → Inserted a ds bs)
        → pick u (Some bs) (consed b (without a bs)) ≡ Some cs → Inserted a cs (b ∷ bs)
    go true s f q =
        subst (λ (l : List Compared). Inserted a l (b ∷ bs)) (some_same bs cs q)
        (subst (λ (x : Compared). Inserted a bs (x ∷ bs)) (pair-equal a b s) here)
    go false s f q =
        let w = consed_view b (without a bs) cs q in
        subst (λ (l : List Compared). Inserted a l (b ∷ bs)) w.2 (later (f w.0 w.1))

inserted_once : (p a : Compared) (l m : List Compared) → Inserted a l m → occurrences p m ≡ once (same_pair p a) + occurrences p l
unfolding occurrences
inserted_once p a l m here = refl
inserted_once p a l m (later {b} {l = k} {m = n} i) = let e = inserted_once p a k n i in omega arith

without-none : (a : Compared) (bs : List Compared) → without a bs ≡ None → occurrences a bs ≡ 0
unfolding without occurrences
without-none a [] e = refl
without-none a (b ∷ bs) e = go (same_pair a b) (λ q. without-none a bs q) (sym (without-cons a b bs) ∙ e)
  where
    go : (u : Bool) → (without a bs ≡ None → occurrences a bs ≡ 0) → pick u (Some bs) (consed b (without a bs)) ≡ None → once u + occurrences a bs ≡ 0
    go true f q = absurd (none-some bs (sym q))
    go false f q = back (without a bs) q f
      where
        back : (o : Option (List Compared)) → consed b o ≡ None → (o ≡ None → occurrences a bs ≡ 0) → 0 + occurrences a bs ≡ 0
        back None r g = let z = g refl in omega arith
        back (Some ds) r g = absurd (none-some (b ∷ ds) (sym r))

-- ---- the theorem: pairs match one to one exactly if one list is the other in some order, exactly if each pair stands in both as often
pub match_permutes : (l bs : List Compared) → same_rdn l bs ≡ true → Permutation l bs
unfolding same_rdn
match_permutes [] [] e = empty
match_permutes [] (b ∷ bs) e = absurd (false≢true e)
match_permutes (a ∷ l) bs e =
    let w = rdn_view a l bs e in
    more (match_permutes l w.0 w.2) (without_inserts a bs w.0 w.1)

pub permutation_counts : (p : Compared) (l bs : List Compared) → Permutation l bs → occurrences p l ≡ occurrences p bs
unfolding occurrences
permutation_counts p [] [] empty = refl
permutation_counts p [] (_ ∷ _) t = elim t [ ]
permutation_counts p (a ∷ l) bs (more {m = m} t i) =
    let e = permutation_counts p l m t in let f = inserted_once p a m bs i in omega arith

pub counts_match : (l bs : List Compared) → ((p : Compared) → occurrences p l ≡ occurrences p bs) → same_rdn l bs ≡ true
unfolding same_rdn occurrences
counts_match [] [] f = refl
counts_match [] (b ∷ bs) f =
    let e : 0 ≡ once (same_pair b b) + occurrences b bs = f b in
    let q : once (same_pair b b) ≡ 1 = ap once (pair_self b) in
    absurd (omega arith)
counts_match (a ∷ l) bs f = go (without a bs) refl (λ cs g. counts_match l cs g)
  where
    first : once (same_pair a a) ≡ 1
    first = ap once (pair_self a)

    go : (o : Option (List Compared)) → without a bs ≡ o → ((cs : List Compared) → ((p : Compared) → occurrences p l ≡ occurrences p cs) → same_rdn l cs ≡ true)
        → others (λ cs. same_rdn l cs) o ≡ true
    go None e g = let z = without-none a bs e in let q : once (same_pair a a) + occurrences a l ≡ occurrences a bs = f a in absurd (let k = first in omega arith)
    go (Some cs) e g = g cs rest
      where
        rest : (p : Compared) → occurrences p l ≡ occurrences p cs
        rest p =
            let q : once (same_pair p a) + occurrences p l ≡ occurrences p bs = f p in
            let z = inserted_once p a cs bs (without_inserts a bs cs e) in
            omega arith

pub permutation_matches : (l bs : List Compared) → Permutation l bs → same_rdn l bs ≡ true
permutation_matches l bs t = counts_match l bs (λ p. permutation_counts p l bs t)

-- so it is an equivalence
pub counts_permute : (l bs : List Compared) → ((p : Compared) → occurrences p l ≡ occurrences p bs) → Permutation l bs
counts_permute l bs f = match_permutes l bs (counts_match l bs f)

pub permutation_self : (l : List Compared) → Permutation l l
permutation_self l = counts_permute l l (λ p. refl)

pub permutation_back : (l bs : List Compared) → Permutation l bs → Permutation bs l
permutation_back l bs t = counts_permute bs l (λ p. sym (permutation_counts p l bs t))

pub permutation_then : (a b c : List Compared) → Permutation a b → Permutation b c → Permutation a c
permutation_then a b c t u = counts_permute a c (λ p. permutation_counts p a b t ∙ permutation_counts p b c u)

-- ---- the order of either list doesn't matter
both_ways : (u v : Bool) → (u ≡ true → v ≡ true) → (v ≡ true → u ≡ true) → u ≡ v
both_ways true v f g = sym (f refl)
both_ways false true f g = absurd (false≢true (g refl))
both_ways false false f g = refl

pub match_counts : (p : Compared) (l bs : List Compared) → same_rdn l bs ≡ true → occurrences p l ≡ occurrences p bs
match_counts p l bs e = permutation_counts p l bs (match_permutes l bs e)

pub any_order : (a b c : List Compared) → ((p : Compared) → occurrences p b ≡ occurrences p c) → same_rdn a b ≡ same_rdn a c
any_order a b c f =
    both_ways (same_rdn a b) (same_rdn a c)
    (λ e. counts_match a c (λ p. match_counts p a b e ∙ f p))
    (λ e. counts_match a b (λ p. match_counts p a c e ∙ sym (f p)))

pub permuted_same : (a b c : List Compared) → Permutation b c → same_rdn a b ≡ same_rdn a c
permuted_same a b c t = any_order a b c (λ p. permutation_counts p b c t)

occurrences-append : (p : Compared) (l m : List Compared) → occurrences p (l ++ m) ≡ occurrences p l + occurrences p m
unfolding occurrences
occurrences-append p [] m = omega arith
occurrences-append p (a ∷ l) m = let e = occurrences-append p l m in omega arith

occurrences-turned : (p : Compared) (l : List Compared) → occurrences p (turned l) ≡ occurrences p l
unfolding occurrences turned
occurrences-turned p [] = refl
occurrences-turned p (a ∷ l) =
    let e = occurrences-turned p l in
    let q : occurrences p (turned l ++ (a ∷ [])) ≡ occurrences p (turned l) + (once (same_pair p a) + 0) = occurrences-append p (turned l) (a ∷ []) in
    omega arith

pub turned_permutes : (l : List Compared) → Permutation l (turned l)
turned_permutes l = counts_permute l (turned l) (λ p. sym (occurrences-turned p l))

pub turned_same : (a b : List Compared) → same_rdn a (turned b) ≡ same_rdn a b
turned_same a b = any_order a (turned b) b (λ p. occurrences-turned p b)

-- the same of names: each RDN turned, at its place
pub turned-each : (qs rs : List (List Compared)) → same_name qs (map turned rs) ≡ same_name qs rs
unfolding same_name
turned-each [] [] = refl
turned-each [] (r ∷ rs) = refl
turned-each (q ∷ qs) [] = refl
turned-each (q ∷ qs) (r ∷ rs) = ap₂ both (turned_same q r) (turned-each qs rs)
