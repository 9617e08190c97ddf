-- What is read ends further on, within the text.
use mathlib.Core.Path.{◌≡◌, refl, sym, ap, ◌∙◌}
use mathlib.Core.Bool.{Bool, true, false}
use mathlib.Core.List.{List, [], ◌∷◌}
use Rattle.std.specs.Prelude.{Option, None, Some}
use Prim.Native.Nat.{ℕ, suc, ◌≤◌, ◌<◌, ◌+◌, ◌-◌}
use native.Mathlib.Omega.{arith}
use borrow.Author.Tests.{eqb-true}
use lib.Dec.{eqb}
use lib.ListN.{length, drop}
use Rattle.octets.specs.Pick.{pick, both, bind}
use Rattle.octets.specs.Octets.{octet, part, bytes}
use Rattle.octets.specs.Text.{starts, lead, skip, trimmed}
use Rattle.octets.specs.Quoted.{closing_at, characters}
use Rattle.octets.proofs.Laws.{both_true, rest-length, octet-inside}
use Rattle.assertion.specs.Item.{Item}
use Rattle.assertion.specs.Spaces.{label_at, mark_at, comma, open_brace}
use Rattle.assertion.specs.ValueText.{ValueText, brace_at, not_empty, value_text_at}
use Rattle.assertion.specs.Assertion.{Read, read_to, followed, if_labelled, quoted_part, component_at, truth_part, defaults_at, is_rule, comma_from, rule_at, value_at, assertion_at}
use Rattle.assertion.specs.Inner.Work.{rule_up_to, rule_from, with_value, with_rule, values_at, with_defaults, with_component, parts_at}
use Rattle.assertion.proofs.Laws.{some_is, none_not, if_some, bind-some, brace-within, comma-within, closing-within}

-- ---- spaces
lead_le : (l : List ℕ) → lead l ≤ length l
unfolding lead
lead_le [] = omega arith
lead_le (b ∷ l) = go (eqb b 32) (lead_le l)
  where
    go : (t : Bool) → lead l ≤ length l → pick t (suc (lead l)) 0 ≤ suc (length l)
    go true h = omega arith
    go false h = omega arith

pub skip-from : (s : List ℕ) (at : ℕ) → at ≤ skip s at
unfolding skip
skip-from s at = omega arith

pub skip-to : (s : List ℕ) (at : ℕ) → at ≤ length s → skip s at ≤ length s
unfolding skip
skip-to s at h = omega (arith, lead_le (drop at s), rest-length s at)

-- a place further on, within a text of n octets
abbrev pub Further : ℕ → ℕ → ℕ → Type 0
Further n at q = (at < q) × (q ≤ n)

-- the same place or one further on
abbrev pub Onward : ℕ → ℕ → ℕ → Type 0
Onward n at q = (at ≤ q) × (q ≤ n)

module _ (s : List ℕ) (at p : ℕ) where
  pub mark-further : (c : ℕ) → 0 < c → mark_at c s at ≡ Some p → Further (length s) at p
  unfolding mark_at
  mark-further c h e =
      let z = if_some (eqb (octet s at) c) (skip s (at + 1)) p e in
      let o = eqb-true (octet s at) c z.0 in
      let i = octet-inside s at (omega arith) in
      let k : skip s (at + 1) ≡ p = z.1 in
      (omega (arith, skip-from s (at + 1)), omega (arith, skip-to s (at + 1) (omega arith)))

  pub label_onward : (w : List ℕ) → label_at w s at ≡ Some p → Onward (length s) at p
  unfolding label_at
  label_onward w e =
      let q = at + length w in
      let z = if_some (both (starts w (drop at s)) (eqb (octet s q) 32)) (skip s q) p e in
      let o = eqb-true (octet s q) 32 (both_true (starts w (drop at s)) (eqb (octet s q) 32) z.0).1 in
      let i = octet-inside s q (omega arith) in
      let k : skip s q ≡ p = z.1 in
      (omega (arith, skip-from s q), omega (arith, skip-to s q (omega arith)))

-- ---- parts
module _ {A : Type 0} (s : List ℕ) where
  read-after : (a : A) (p : ℕ) (r : Read A) → read_to a p ≡ Some r → p ≡ r.after
  read-after a p r e = ap (λ (x : Read A). x.after) (some_is e)

  followed-onward : (at : ℕ) (a : A) (r : Read A) → followed s at a ≡ Some r → Onward (length s) at r.after
  followed-onward at a r e =
      let z = bind-some (mark_at comma s at) (λ p. read_to a p) r e in
      let f = mark-further s at z.0 comma (omega arith) z.1.0 in
      let q = read-after a z.0 r z.1.1 in
      (omega arith, omega arith)

  labelled_onward : (missing : A) (w : List ℕ) (at : ℕ) (f : ℕ → Option (Read A)) (r : Read A) → at ≤ length s
      → ((p : ℕ) → f p ≡ Some r → Onward (length s) p r.after)
      → if_labelled missing at f (label_at w s at) ≡ Some r → Onward (length s) at r.after
  labelled_onward missing w at f r h g e = go (label_at w s at) refl e
    where
      go : (o : Option ℕ) → label_at w s at ≡ o → if_labelled missing at f o ≡ Some r → Onward (length s) at r.after
      go None q e = let z = read-after missing at r e in (omega arith, omega arith)
      go (Some p) q e = let l = label_onward s at p w q in let k = g p e in (omega arith, omega arith)

module _ (s : List ℕ) (at : ℕ) where
  quoted-onward : (r : Read (Option (List ℕ))) → quoted_part s at ≡ Some r → Onward (length s) at r.after
  quoted-onward r e =
      let z = bind-some (closing_at s at) (λ close. followed s (close + 1) (Some (characters s at close))) r e in
      let c = closing-within s at z.0 z.1.0 in
      let f = followed-onward s (z.0 + 1) (Some (characters s at z.0)) r z.1.1 in
      (omega arith, omega arith)

  truth-onward : (r : Read Bool) → truth_part s at ≡ Some r → Onward (length s) at r.after
  truth-onward r e = go (starts (bytes "TRUE") (drop at s)) (starts (bytes "FALSE") (drop at s)) e
    where
      go : (t u : Bool) → pick t (followed s (at + 4) true) (pick u (followed s (at + 5) false) None) ≡ Some r → Onward (length s) at r.after
      go true u e = let f = followed-onward s (at + 4) true r e in (omega arith, omega arith)
      go false true e = let f = followed-onward s (at + 5) false r e in (omega arith, omega arith)
      go false false e = absurd (none_not e)

  pub rule-onward : (r : Read (List ℕ)) → rule_at s at ≡ Some r → Onward (length s) at r.after
  unfolding rule_at rule_from
  rule-onward r e =
      let z = bind-some (label_at (bytes "rule") s at) (λ p. rule_from s p) r e in
      let l = label_onward s at z.0 (bytes "rule") z.1.0 in
      let y = bind-some (comma_from (drop z.0 s) z.0) (rule_up_to s z.0) r z.1.1 in
      let c = comma-within s z.0 y.0 y.1.0 in
      let f = up_to z.0 y.0 (is_rule (part s z.0 (y.0 - z.0))) y.1.1 in
      (omega arith, omega arith)
    where
      up_to : (p end : ℕ) (t : Bool) → pick t (followed s end (part s p (end - p))) None ≡ Some r → Onward (length s) end r.after
      up_to p end true e = followed-onward s end (part s p (end - p)) r e
      up_to p end false e = absurd (none_not e)

  pub value-onward : (v : ValueText) → value_at s at ≡ Some v → (at ≤ v.brace) × (v.brace < length s)
  unfolding value_at value_text_at
  value-onward v e =
      let z = bind-some (label_at (bytes "value") s at) (λ p. value_text_at s p) v e in
      let l = label_onward s at z.0 (bytes "value") z.1.0 in
      let y = bind-some (brace_at s z.0) (λ brace. not_empty (trimmed (part s z.0 (brace - z.0))) brace) v z.1.1 in
      let b = brace-within s z.0 y.0 y.1.0 in
      let q = full (trimmed (part s z.0 (y.0 - z.0))) y.0 (eqb (length (trimmed (part s z.0 (y.0 - z.0)))) 0) y.1.1 in
      (omega arith, omega arith)
    where
      full : (text : List ℕ) (brace : ℕ) (t : Bool) → pick t None (Some (record { text = text; brace = brace })) ≡ Some v → brace ≡ v.brace
      full text brace true e = absurd (none_not e)
      full text brace false e = ap (λ (x : ValueText). x.brace) (some_is e)

module _ (s : List ℕ) (at : ℕ) (h : at ≤ length s) where
  pub component-onward : (r : Read (Option (List ℕ))) → component_at s at ≡ Some r → Onward (length s) at r.after
  unfolding component_at
  component-onward r e = labelled_onward s None (bytes "component") at (quoted_part s) r h (λ p f. quoted-onward s p r f) e

  pub defaults-onward : (r : Read Bool) → defaults_at s at ≡ Some r → Onward (length s) at r.after
  unfolding defaults_at
  defaults-onward r e = labelled_onward s true (bytes "useDefaultValues") at (truth_part s) r h (λ p f. truth-onward s p r f) e

-- ---- the assertion
values-further : (s : List ℕ) (c : Option (List ℕ)) (d : Bool) (at : ℕ) (r : Read Item) → values_at s c d at ≡ Some r → Further (length s) at r.after
unfolding values_at
values-further s c d at r e =
    let z = bind-some (rule_at s at) (with_rule s c d) r e in
    let k = rule-onward s at z.0 z.1.0 in
    let y = bind-some (value_at s z.0.after) (with_value c d z.0.is) r z.1.1 in
    let v = value-onward s z.0.after y.0 y.1.0 in
    let q : y.0.brace + 1 ≡ r.after = ap (λ (x : Read Item). x.after) (some_is y.1.1) in
    (omega arith, omega arith)

parts-further : (s : List ℕ) (at : ℕ) (r : Read Item) → at ≤ length s → parts_at s at ≡ Some r → Further (length s) at r.after
unfolding parts_at
parts-further s at r h e =
    let z = bind-some (component_at s at) (with_component s) r e in
    let c = component-onward s at h z.0 z.1.0 in
    let y = bind-some (defaults_at s z.0.after) (with_defaults s z.0.is) r z.1.1 in
    let d = defaults-onward s z.0.after c.1 y.0 y.1.0 in
    let v = values-further s z.0.is y.0.is y.0.after r y.1.1 in
    (omega arith, omega arith)

-- the steps of an assertion are those of its parts
pub assertion_steps : (s : List ℕ) (at : ℕ) → assertion_at s at ≡ bind (mark_at open_brace s at) (parts_at s)
unfolding assertion_at parts_at values_at
assertion_steps s at = refl

pub assertion-further : (s : List ℕ) (at : ℕ) (r : Read Item) → assertion_at s at ≡ Some r → Further (length s) at r.after
assertion-further s at r e =
    let z = bind-some (mark_at open_brace s at) (parts_at s) r (sym (assertion_steps s at) ∙ e) in
    let m = mark-further s at z.0 open_brace (omega arith) z.1.0 in
    let p = parts-further s z.0 r m.1 z.1.1 in
    (omega arith, omega arith)
