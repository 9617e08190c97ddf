-- What is read of an assertion within a text p is read so where more octets x follow.
use mathlib.Core.Path.{◌≡◌, refl, sym, ap, ◌∙◌}
use mathlib.Core.Bool.{Bool, true, false, false≢true}
use Rattle.std.specs.Prelude.{Option, None, Some}
use mathlib.Core.List.{List, [], ◌∷◌, ◌++◌}
use Prim.Native.Nat.{ℕ, suc, ◌≤◌, ◌<◌, ◌+◌, ◌-◌}
use native.Mathlib.Omega.{arith}
use borrow.Author.Tests.{eqb-true}
use lib.Dec.{eqb}
use lib.ListN.{length, take, drop, get_or-append}
use lib.Seq.{drop-append-le, take-append-le, get_or-drop}
use Rattle.octets.specs.Pick.{pick, both, bind}
use Rattle.octets.specs.Octets.{octet, part, bytes}
use Rattle.octets.specs.Text.{starts, lead, skip}
use Rattle.octets.specs.Quoted.{closing, closing_at, characters}
use Rattle.octets.proofs.Laws.{both_true, rest-length, octet-inside}
use Rattle.assertion.specs.Spaces.{label_at, mark_at, comma, open_brace}
use Rattle.assertion.specs.Assertion.{Read, read_to, followed, if_labelled, quoted_part, component_at, truth_part, defaults_at}
use Rattle.assertion.specs.Assertion.{is_rule, comma_from, rule_at, value_at, assertion_at}
use Rattle.assertion.specs.ValueText.{ValueText, value_text_at}
use Rattle.assertion.specs.Inner.Work.{rule_up_to, rule_from}
use Rattle.assertion.proofs.Laws.{some_is, none_not, if_some, bind-some, comma-within, closing-within}
use Rattle.assertion.proofs.Progress.{mark-further, label_onward, component-onward, defaults-onward, rule-onward}
use Rattle.quote.specs.Reading.{Opening, opening_at, item_with}

-- ---- words, spaces, places
pub starts_in : (w l x : List ℕ) → starts w l ≡ true → starts w (l ++ x) ≡ true
unfolding starts
starts_in [] l x e = refl
starts_in (a ∷ w) [] x e = absurd (false≢true e)
starts_in (a ∷ w) (b ∷ l) x e = let z = both_true (eqb b a) (starts w l) e in rw (z.0, starts_in w l x z.1)

lead_in : (l x : List ℕ) → lead l < length l → lead (l ++ x) ≡ lead l
unfolding lead
lead_in [] x h = absurd (omega arith)
lead_in (b ∷ l) x h = go (eqb b 32) (lead_in l x) h
  where
    go : (t : Bool) → (lead l < length l → lead (l ++ x) ≡ lead l)
        → pick t (suc (lead l)) 0 < suc (length l) → pick t (suc (lead (l ++ x))) 0 ≡ pick t (suc (lead l)) 0
    go true f h = ap suc (f (omega arith))
    go false f h = refl

comma_in : (l x : List ℕ) (at k : ℕ) → comma_from l at ≡ Some k → comma_from (l ++ x) at ≡ Some k
unfolding comma_from
comma_in [] x at k e = absurd (none_not e)
comma_in (b ∷ l) x at k e = go (eqb b comma) (comma_in l x (at + 1) k) e
  where
    go : (t : Bool) → (comma_from l (at + 1) ≡ Some k → comma_from (l ++ x) (at + 1) ≡ Some k) → pick t (Some at) (comma_from l (at + 1)) ≡ Some k
        → pick t (Some at) (comma_from (l ++ x) (at + 1)) ≡ Some k
    go true f e = e
    go false f e = f e

-- the octet behind the closing quote shows that it is not one of a doubled pair
closing_in : (l x : List ℕ) (at k : ℕ) → closing l at ≡ Some k → k + 1 < at + length l → closing (l ++ x) at ≡ Some k
unfolding closing
closing_in [] x at k e h = absurd (none_not e)
closing_in (b ∷ []) x at k e h = absurd (let z : at ≡ k = (if_some (eqb b 34) at k e).1 in omega arith)
closing_in (b ∷ c ∷ l) x at k e h = go (eqb b 34) (eqb c 34) (closing_in (c ∷ l) x (at + 1) k) (closing_in l x (at + 2) k) e
  where
    go : (t u : Bool) → (closing (c ∷ l) (at + 1) ≡ Some k → k + 1 < at + 1 + suc (length l) → closing (c ∷ (l ++ x)) (at + 1) ≡ Some k)
        → (closing l (at + 2) ≡ Some k → k + 1 < at + 2 + length l → closing (l ++ x) (at + 2) ≡ Some k)
        → pick t (pick u (closing l (at + 2)) (Some at)) (closing (c ∷ l) (at + 1)) ≡ Some k
        → pick t (pick u (closing (l ++ x) (at + 2)) (Some at)) (closing (c ∷ (l ++ x)) (at + 1)) ≡ Some k
    go true true f g e = g e (omega arith)
    go true false f g e = e
    go false u f g e = f e (omega arith)

-- the first octet of a word that stands at a place
starts_first : (b : ℕ) (w s : List ℕ) (at : ℕ) → starts (b ∷ w) (drop at s) ≡ true → octet s at ≡ b
unfolding starts
starts_first b w s at e = go (drop at s) (let z : at + 0 ≡ at = omega arith in get_or-drop at s 0 0 ∙ ap (octet s) z) e
  where
    go : (l : List ℕ) → octet l 0 ≡ octet s at → starts (b ∷ w) l ≡ true → octet s at ≡ b
    go [] q e = absurd (false≢true e)
    go (a ∷ l) q e = sym q ∙ eqb-true a b (both_true (eqb a b) (starts w l) e).0

label_first : (b : ℕ) (w s : List ℕ) (at k : ℕ) → label_at (b ∷ w) s at ≡ Some k → octet s at ≡ b
unfolding label_at
label_first b w s at k e =
    let q = at + length (b ∷ w) in
    let z = if_some (both (starts (b ∷ w) (drop at s)) (eqb (octet s q) 32)) (skip s q) k e in
    starts_first b w s at (both_true (starts (b ∷ w) (drop at s)) (eqb (octet s q) 32) z.0).0

label_other : (b : ℕ) (w s : List ℕ) (at : ℕ) → (octet s at ≡ b → ⊥) → label_at (b ∷ w) s at ≡ None
label_other b w s at n = go (label_at (b ∷ w) s at) refl
  where
    go : (o : Option ℕ) → label_at (b ∷ w) s at ≡ o → o ≡ None
    go None e = refl
    go (Some k) e = absurd (n (label_first b w s at k e))

-- what a part that is read says
read_is : {A : Type 0} (a : A) (k : ℕ) (r : Read A) → read_to a k ≡ Some r → (k ≡ r.after) × (a ≡ r.is)
read_is {A} a k r e = let z = some_is e in (ap (λ (y : Read A). y.after) z, ap (λ (y : Read A). y.is) z)

module _ (p x : List ℕ) where
  octet_in : (i : ℕ) → i < length p → octet (p ++ x) i ≡ octet p i
  octet_in i h = get_or-append p x 0 i h

  rest_in : (i : ℕ) → i ≤ length p → drop i (p ++ x) ≡ drop i p ++ x
  rest_in i h = drop-append-le i p x h

  part_in : (at n : ℕ) → at + n ≤ length p → part (p ++ x) at n ≡ part p at n
  part_in at n h = let l = rest-length p at in ap (take n) (rest_in at (omega arith)) ∙ take-append-le n (drop at p) x (omega arith)

  skip_in : (at : ℕ) → at ≤ length p → skip p at < length p → skip (p ++ x) at ≡ skip p at
  unfolding skip
  skip_in at h l = let r = rest-length p at in rw (rest_in at h, lead_in (drop at p) x (omega arith))

  mark_in : (c at k : ℕ) → 0 < c → mark_at c p at ≡ Some k → k < length p → mark_at c (p ++ x) at ≡ Some k
  unfolding mark_at
  mark_in c at k h e l =
      let z = if_some (eqb (octet p at) c) (skip p (at + 1)) k e in
      let o = eqb-true (octet p at) c z.0 in
      let i = octet-inside p at (omega arith) in
      let j : skip p (at + 1) ≡ k = z.1 in
      rw (octet_in at i, z.0, skip_in (at + 1) (omega arith) (omega arith), z.1)

  label_in : (w : List ℕ) (at k : ℕ) → label_at w p at ≡ Some k → k < length p → label_at w (p ++ x) at ≡ Some k
  unfolding label_at
  label_in w at k e l =
      let q = at + length w in
      let z = if_some (both (starts w (drop at p)) (eqb (octet p q) 32)) (skip p q) k e in
      let y = both_true (starts w (drop at p)) (eqb (octet p q) 32) z.0 in
      let o = eqb-true (octet p q) 32 y.1 in
      let i = octet-inside p q (omega arith) in
      let j : skip p q ≡ k = z.1 in
      rw (rest_in at (omega arith), starts_in w (drop at p) x y.0, octet_in q i, y.1, skip_in q (omega arith) (omega arith), z.1)

  -- ---- parts
  module _ {A : Type 0} where
    followed_in : (at : ℕ) (a : A) (r : Read A) → followed p at a ≡ Some r → r.after < length p → (at < r.after) × (followed (p ++ x) at a ≡ Some r)
    followed_in at a r e l =
        let z = bind-some (mark_at comma p at) (λ k. read_to a k) r e in
        let q = read_is a z.0 r z.1.1 in
        let m = mark-further p at z.0 comma (omega arith) z.1.0 in
        (omega arith, rw (mark_in comma at z.0 (omega arith) z.1.0 (omega arith)) z.1.1)

    -- a part that may be missing: what stands in its place begins with another octet
    labelled_in : (missing : A) (b : ℕ) (w : List ℕ) (f g : ℕ → Option (Read A)) (at : ℕ) (r : Read A) → r.after < length p → (octet p r.after ≡ b → ⊥)
        → ((k : ℕ) → f k ≡ Some r → (k < length p) × (g k ≡ Some r))
        → if_labelled missing at f (label_at (b ∷ w) p at) ≡ Some r → if_labelled missing at g (label_at (b ∷ w) (p ++ x) at) ≡ Some r
    labelled_in missing b w f g at r l n h e = go (label_at (b ∷ w) p at) refl e
      where
        go : (o : Option ℕ) → label_at (b ∷ w) p at ≡ o → if_labelled missing at f o ≡ Some r → if_labelled missing at g (label_at (b ∷ w) (p ++ x) at) ≡ Some r
        go None q e =
            let z : at ≡ r.after = (read_is missing at r e).0 in
            rw (label_other b w (p ++ x) at (λ c. n (ap (octet p) (sym z) ∙ sym (octet_in at (omega arith)) ∙ c))) e
        go (Some k) q e = let y = h k e in rw (label_in (b ∷ w) at k q y.0) y.1

  closing_at_in : (at k : ℕ) → closing_at p at ≡ Some k → k + 1 < length p → closing_at (p ++ x) at ≡ Some k
  unfolding closing_at
  closing_at_in at k e l = go (eqb (octet p at) 34) refl e
    where
      go : (t : Bool) → eqb (octet p at) 34 ≡ t → pick t (closing (drop (at + 1) p) (at + 1)) None ≡ Some k
          → pick (eqb (octet (p ++ x) at) 34) (closing (drop (at + 1) (p ++ x)) (at + 1)) None ≡ Some k
      go true q e =
          let o = eqb-true (octet p at) 34 q in
          let i = octet-inside p at (omega arith) in
          let r = rest-length p (at + 1) in
          rw (octet_in at i, q, rest_in (at + 1) (omega arith)) (closing_in (drop (at + 1) p) x (at + 1) k e (omega arith))
      go false q e = absurd (none_not e)

  quoted_in : (at : ℕ) (r : Read (Option (List ℕ))) → r.after < length p → quoted_part p at ≡ Some r → (at < length p) × (quoted_part (p ++ x) at ≡ Some r)
  unfolding characters
  quoted_in at r l e =
      let z = bind-some (closing_at p at) (λ close. followed p (close + 1) (Some (characters p at close))) r e in
      let c = closing-within p at z.0 z.1.0 in
      let f = followed_in (z.0 + 1) (Some (characters p at z.0)) r z.1.1 l in
      (omega arith, rw (closing_at_in at z.0 z.1.0 (omega arith), part_in (at + 1) (z.0 - (at + 1)) (omega arith)) f.1)

  truth_in : (at : ℕ) (r : Read Bool) → r.after < length p → truth_part p at ≡ Some r → (at < length p) × (truth_part (p ++ x) at ≡ Some r)
  truth_in at r l e = go (starts (bytes "TRUE") (drop at p)) (starts (bytes "FALSE") (drop at p)) refl refl e
    where
      go : (t u : Bool) → starts (bytes "TRUE") (drop at p) ≡ t → starts (bytes "FALSE") (drop at p) ≡ u
          → pick t (followed p (at + 4) true) (pick u (followed p (at + 5) false) None) ≡ Some r → (at < length p) × (truth_part (p ++ x) at ≡ Some r)
      go true u q s e =
          let f = followed_in (at + 4) true r e l in
          (omega arith, rw (rest_in at (omega arith), starts_in (bytes "TRUE") (drop at p) x q) f.1)
      go false true q s e =
          let f = followed_in (at + 5) false r e l in
          (omega arith, rw (not-true s (omega arith), rest_in at (omega arith), starts_in (bytes "FALSE") (drop at p) x s) f.1)
        where
          not-true : starts (bytes "FALSE") (drop at p) ≡ true → at < length p → starts (bytes "TRUE") (drop at (p ++ x)) ≡ false
          not-true s i = is_false_lem (starts (bytes "TRUE") (drop at (p ++ x))) refl
            where
              is_false_lem : (t : Bool) → starts (bytes "TRUE") (drop at (p ++ x)) ≡ t → t ≡ false
              is_false_lem true y = absurd (let a = starts_first 84 (bytes "RUE") (p ++ x) at y in let b = starts_first 70 (bytes "ALSE") p at s in
                  let c = octet_in at i in omega arith)
              is_false_lem false y = refl
      go false false q s e = absurd (none_not e)

  component_in : (at : ℕ) (r : Read (Option (List ℕ))) → r.after < length p → (octet p r.after ≡ 99 → ⊥)
      → component_at p at ≡ Some r → component_at (p ++ x) at ≡ Some r
  unfolding component_at
  component_in at r l n e = labelled_in None 99 (bytes "omponent") (quoted_part p) (quoted_part (p ++ x)) at r l n (λ k. quoted_in k r l) e

  defaults_in : (at : ℕ) (r : Read Bool) → r.after < length p → (octet p r.after ≡ 117 → ⊥) → defaults_at p at ≡ Some r → defaults_at (p ++ x) at ≡ Some r
  unfolding defaults_at
  defaults_in at r l n e = labelled_in true 117 (bytes "seDefaultValues") (truth_part p) (truth_part (p ++ x)) at r l n (λ k. truth_in k r l) e

  rule_in : (at : ℕ) (r : Read (List ℕ)) → r.after < length p → rule_at p at ≡ Some r → rule_at (p ++ x) at ≡ Some r
  unfolding rule_at rule_from
  rule_in at r l e =
      let z = bind-some (label_at (bytes "rule") p at) (λ k. rule_from p k) r e in
      let y = bind-some (comma_from (drop z.0 p) z.0) (rule_up_to p z.0) r z.1.1 in
      let c = comma-within p z.0 y.0 y.1.0 in
      let d : comma_from (drop z.0 (p ++ x)) z.0 ≡ Some y.0
      = ap (λ (w : List ℕ). comma_from w z.0) (rest_in z.0 (omega arith)) ∙ comma_in (drop z.0 p) x z.0 y.0 y.1.0 in
      rw (label_in (bytes "rule") at z.0 z.1.0 (omega arith), d, part_in z.0 (y.0 - z.0) (omega arith))
      (up_to (part p z.0 (y.0 - z.0)) y.0 (is_rule (part p z.0 (y.0 - z.0))) y.1.1)
    where
      up_to : (w : List ℕ) (end : ℕ) (t : Bool) → pick t (followed p end w) None ≡ Some r → pick t (followed (p ++ x) end w) None ≡ Some r
      up_to w end true e = (followed_in end w r e l).1
      up_to w end false e = absurd (none_not e)

-- ---- what a part begins with
rule-first : (s : List ℕ) (at : ℕ) (r : Read (List ℕ)) → rule_at s at ≡ Some r → octet s at ≡ 114
unfolding rule_at rule_from
rule-first s at r e = let z = bind-some (label_at (bytes "rule") s at) (λ k. rule_from s k) r e in label_first 114 (bytes "ule") s at z.0 z.1.0

defaults-first : (s : List ℕ) (at : ℕ) (r : Read Bool) → defaults_at s at ≡ Some r → octet s r.after ≡ 114 → octet s at ≡ 99 → ⊥
unfolding defaults_at
defaults-first s at r e h c = go (label_at (bytes "useDefaultValues") s at) refl e
  where
    go : (o : Option ℕ) → label_at (bytes "useDefaultValues") s at ≡ o → if_labelled true at (truth_part s) o ≡ Some r → ⊥
    go None q e = let z : octet s at ≡ octet s r.after = ap (octet s) (read_is true at r e).0 in omega arith
    go (Some k) q e = let z = label_first 117 (bytes "seDefaultValues") s at k q in omega arith

-- ---- all before the value text
abbrev to_value : List ℕ → Option (List ℕ) → Bool → Read (List ℕ) → Option (Read Opening)
to_value s c d r = bind (label_at (bytes "value") s r.after) (λ v. read_to (record { component = c; defaults = d; rule = r.is }) v)

abbrev to_rule : List ℕ → Option (List ℕ) → Read Bool → Option (Read Opening)
to_rule s c d = bind (rule_at s d.after) (to_value s c d.is)

abbrev to_defaults : List ℕ → Read (Option (List ℕ)) → Option (Read Opening)
to_defaults s c = bind (defaults_at s c.after) (to_rule s c.is)

abbrev to_component : List ℕ → ℕ → Option (Read Opening)
to_component s at = bind (component_at s at) (to_defaults s)

-- the parts that are read, one after the other
record Opened (s : List ℕ) (at : ℕ) (o : Read Opening) : Type 0 where
  place : ℕ
  c : Read (Option (List ℕ))
  d : Read Bool
  r : Read (List ℕ)
  brace : mark_at open_brace s at ≡ Some place
  component : component_at s place ≡ Some c
  defaults : defaults_at s c.after ≡ Some d
  rule : rule_at s d.after ≡ Some r
  value : label_at (bytes "value") s r.after ≡ Some o.after
  parts : record { component = c.is; defaults = d.is; rule = r.is } ≡ o.is

value-place : (s : List ℕ) (c : Option (List ℕ)) (d : Bool) (r : Read (List ℕ)) (o : Read Opening) → to_value s c d r ≡ Some o
    → (label_at (bytes "value") s r.after ≡ Some o.after) × (record { component = c; defaults = d; rule = r.is } ≡ o.is)
value-place s c d r o e =
    let v = bind-some (label_at (bytes "value") s r.after) (λ k. read_to (record { component = c; defaults = d; rule = r.is }) k) o e in
    let z = read_is (record { component = c; defaults = d; rule = r.is }) v.0 o v.1.1 in
    (v.1.0 ∙ ap Some z.0, z.1)

opened : (s : List ℕ) (at : ℕ) (o : Read Opening) → opening_at s at ≡ Some o → Opened s at o
unfolding opening_at
opened s at o e =
    let m = bind-some (mark_at open_brace s at) (to_component s) o e in
    let c = bind-some (component_at s m.0) (to_defaults s) o m.1.1 in
    let d = bind-some (defaults_at s c.0.after) (to_rule s c.0.is) o c.1.1 in
    let r = bind-some (rule_at s d.0.after) (to_value s c.0.is d.0.is) o d.1.1 in
    let v = value-place s c.0.is d.0.is r.0 o r.1.1 in
    record {
      place = m.0;
      c = c.0;
      d = d.0;
      r = r.0;
      brace = m.1.0;
      component = c.1.0;
      defaults = d.1.0;
      rule = r.1.0;
      value = v.0;
      parts = v.1;
    }

opened_in : (p x : List ℕ) (at : ℕ) (o : Read Opening) → o.after < length p → Opened p at o → Opened (p ++ x) at o
opened_in p x at o l v =
    let m = mark-further p at v.place open_brace (omega arith) v.brace in
    let c = component-onward p v.place m.1 v.c v.component in
    let d = defaults-onward p v.c.after c.1 v.d v.defaults in
    let r = rule-onward p v.d.after v.r v.rule in
    let k = label_onward p v.r.after o.after (bytes "value") v.value in
    let f = rule-first p v.d.after v.r v.rule in
    record {
      place = v.place;
      c = v.c;
      d = v.d;
      r = v.r;
      parts = v.parts;
      brace = mark_in p x open_brace at v.place (omega arith) v.brace (omega arith);
      component = component_in p x v.place v.c (omega arith) (defaults-first p v.c.after v.d v.defaults f) v.component;
      defaults = defaults_in p x v.c.after v.d (omega arith) (λ e. omega arith) v.defaults;
      rule = rule_in p x v.d.after v.r (omega arith) v.rule;
      value = label_in p x (bytes "value") v.r.after o.after v.value l;
    }

opened-assertion : (s : List ℕ) (at : ℕ) (o : Read Opening) (v : ValueText) → Opened s at o → value_text_at s o.after ≡ Some v
    → assertion_at s at ≡ read_to (item_with o.is v.text) (v.brace + 1)
unfolding assertion_at value_at
opened-assertion s at o v w e = rw (w.brace, w.component, w.defaults, w.rule, w.value, e, ← w.parts)

-- an assertion whose parts before the value text are read within p
pub assertion_in : (p x : List ℕ) (at : ℕ) (o : Read Opening) (v : ValueText) → o.after < length p → opening_at p at ≡ Some o
    → value_text_at (p ++ x) o.after ≡ Some v
    → assertion_at (p ++ x) at ≡ read_to (item_with o.is v.text) (v.brace + 1)
assertion_in p x at o v l e f = opened-assertion (p ++ x) at o v (opened_in p x at o l (opened p at o e)) f
