-- One lemma for each return and each turn of a loop; its premises are the facts as the code has them.
use Rattle.std.specs.Prelude.{Option}
use mathlib.Core.Path.{◌≡◌, refl, sym, ap, ◌∙◌}
use mathlib.Core.Bool.{Bool, true, false, not}
use mathlib.Core.List.{List, [], ◌∷◌}
use Rattle.std.specs.Prelude.{None, Some}
use Prim.Native.Nat.{ℕ, ◌≤◌, ◌<◌, ◌+◌, ◌-◌}
use native.Mathlib.Omega.{arith}
use borrow.Author.Tests.{eq-eqb, ne_eqb, not-true, not-false}
use lib.Dec.{eqb}
use lib.ListN.{length, drop}
use Rattle.octets.specs.Pick.{pick, no, both, either}
use Rattle.octets.specs.Octets.{octet, part, every, bytes}
use Rattle.octets.specs.Inner.Answers.{between}
use Rattle.octets.specs.Text.{is_digit, is_lower, is_upper, is_letter, is_alnum, starts, skip, trimmed}
use Rattle.octets.specs.Quoted.{closing_at, characters}
use Rattle.octets.proofs.Laws.{rest-cons, rest-none}
use Rattle.assertion.specs.Spaces.{label_at, mark_at}
use Rattle.assertion.specs.ValueText.{brace_from, brace_at, value_text_at}
use Rattle.assertion.specs.Assertion.{read_to, followed, quoted_part, component_at, truth_part, defaults_at, comma_from, is_name_letter, is_rule_name, is_rule, rule_at, value_at, assertion_at}
use Rattle.assertion.specs.Inner.Work.{rule_from, values_at, parts_at}
use Rattle.assertion.specs.Inner.Places.{word_at, within_quotes, component_of, report_component_part, report_defaults_part, report_rule_part, report_value_part, report_assertion}
use Rattle.assertion.specs.declared.Quotes.{Quotes}
use Rattle.assertion.specs.declared.Part.{Part}
use Rattle.assertion.proofs.Laws.{at_place, at_none, starts-fits, word_there, word_not, trimmed-part, brace-within, comma-within, closing-within}
use Rattle.assertion.proofs.Progress.{value-onward, assertion_steps}
use Rattle.assertion.specs.declared.Parts.{Parts}

-- ---- parts of a text
pub quotes_none : (s t : List ℕ) (a b : ℕ) → t ≡ part s a 0 → b ≤ a → t ≡ within_quotes s a b
quotes_none s t a b e h = let z : 0 ≡ b - (a + 1) = omega arith in e ∙ ap (part s (a + 1)) z

-- ---- words, labels and marks
module _ (w s : List ℕ) (at : ℕ) where
  module _ (u : Bool) (e : u ≡ starts w (drop at s)) where
    pub word_none : not u ≡ true → None ≡ word_at w s at
    unfolding word_at
    word_none h = rw (sym e ∙ not-true u h)

    pub word_is : not u ≡ false → Some (at + length w) ≡ word_at w s at
    unfolding word_at
    word_is h = rw (sym e ∙ not-false u h)

    pub word_fits : not u ≡ false → length w ≤ length s - at
    word_fits h = starts-fits w s at (sym e ∙ not-false u h)

  module _ (r : Option ℕ) (e : r ≡ word_at w s at) where
    pub label_none : r ≡ None → None ≡ label_at w s at
    unfolding label_at
    label_none q = rw (word_not w s at r e q)

    module _ (p o : ℕ) (q : r ≡ Some p) (read : o ≡ octet s p) where
      pub label_close : (o ≡ 32 → ⊥) → None ≡ label_at w s at
      unfolding label_at
      label_close n = let z = word_there w s at r e p q in rw (z.0, z.1, ← read, ne_eqb o 32 n)

      pub label_is : (k : ℕ) → o ≡ 32 → k ≡ skip s p → Some k ≡ label_at w s at
      unfolding label_at
      label_is k n f = let z = word_there w s at r e p q in rw (z.0, z.1, ← read, eq-eqb o 32 n, ← f)

module _ (c : ℕ) (s : List ℕ) (at o : ℕ) (read : o ≡ octet s at) where
  pub mark-other : (o ≡ c → ⊥) → None ≡ mark_at c s at
  unfolding mark_at
  mark-other n = rw (← read, ne_eqb _ _ n)

  pub mark-is : (k : ℕ) → o ≡ c → k ≡ skip s (at + 1) → Some k ≡ mark_at c s at
  unfolding mark_at
  mark-is k e f = rw (← read, eq-eqb _ _ e, f)

-- ---- the closing brace: so many are open inside, in quotes or not
abbrev pub Braces : List ℕ → ℕ → ℕ → ℕ → Bool → Type 0
Braces s at i inner quoted = (inner ≤ i) × (brace_from (drop i s) i inner quoted ≡ brace_at s at)

pub brace-start : (s : List ℕ) (at : ℕ) → Braces s at at 0 false
unfolding brace_at
brace-start s at = (omega arith, refl)

not_no : (t : Bool) → not t ≡ no t
not_no true = refl
not_no false = refl

module _ (s : List ℕ) (at i inner : ℕ) (quoted : Bool) (v : Braces s at i inner quoted) where
  pub brace-none : length s ≤ i → None ≡ brace_at s at
  unfolding brace_from
  brace-none h = rw (rest-none s i h) at v.1

  module _ (h : i < length s) where
    brace-here : brace_from (octet s i ∷ drop (i + 1) s) i inner quoted ≡ brace_at s at
    brace-here = rw (rest-cons s i h) at v.1

    pub brace_quote : octet s i ≡ 34 → Braces s at (i + 1) inner (not quoted)
    unfolding brace_from
    brace_quote e = (omega arith, rw (not_no quoted) (rw (eq-eqb _ _ e) at brace-here))

    module _ (n : octet s i ≡ 34 → ⊥) where
      pub brace_hidden : quoted ≡ true → Braces s at (i + 1) inner quoted
      unfolding brace_from
      brace_hidden e = (omega arith, rw e (rw (ne_eqb _ _ n, e) at brace-here))

      pub brace-other : (octet s i ≡ 123 → ⊥) → (octet s i ≡ 125 → ⊥) → Braces s at (i + 1) inner quoted
      unfolding brace_from
      brace-other o m = (omega arith, whichever quoted (rw (ne_eqb _ _ n, ne_eqb _ _ o, ne_eqb _ _ m) at brace-here))
        where
          whichever : (t : Bool) → pick t (brace_from (drop (i + 1) s) (i + 1) inner t) (brace_from (drop (i + 1) s) (i + 1) inner t) ≡ brace_at s at → brace_from (drop (i + 1) s) (i + 1) inner t ≡ brace_at s at
          whichever true e = e
          whichever false e = e

      pub brace-before-both : octet s i < 123 → Braces s at (i + 1) inner quoted
      brace-before-both e = brace-other (λ (z : octet s i ≡ 123). omega arith) (λ (z : octet s i ≡ 125). omega arith)

      module _ (plain : quoted ≡ false) where
        brace-plain : brace_from (octet s i ∷ drop (i + 1) s) i inner false ≡ brace_at s at
        brace-plain = rw plain at brace-here

        pub brace-opens : octet s i ≡ 123 → Braces s at (i + 1) (inner + 1) quoted
        unfolding brace_from
        brace-opens e = (omega arith, rw plain (rw (ne_eqb _ _ n, eq-eqb _ _ e) at brace-plain))

        module _ (o : octet s i ≡ 123 → ⊥) where
          module _ (c : octet s i ≡ 125) where
            pub brace-found : inner ≡ 0 → Some i ≡ brace_at s at
            unfolding brace_from
            brace-found e = rw (ne_eqb _ _ n, ne_eqb _ _ o, eq-eqb _ _ c, eq-eqb inner 0 e) at brace-plain

            pub brace_closes : (inner ≡ 0 → ⊥) → Braces s at (i + 1) (inner - 1) quoted
            unfolding brace_from
            brace_closes e = (omega arith, rw plain (rw (ne_eqb _ _ n, ne_eqb _ _ o, eq-eqb _ _ c, ne_eqb inner 0 e) at brace-plain))

-- ---- the comma
module _ (s : List ℕ) (at i : ℕ) (inv : comma_from (drop i s) i ≡ comma_from (drop at s) at) where
  pub comma-none : length s ≤ i → None ≡ comma_from (drop at s) at
  unfolding comma_from
  comma-none h = rw (rest-none s i h) at inv

  module _ (h : i < length s) where
    comma-here : comma_from (octet s i ∷ drop (i + 1) s) i ≡ comma_from (drop at s) at
    comma-here = sym (ap (λ (l : List ℕ). comma_from l i) (rest-cons s i h)) ∙ inv

    pub comma-found : octet s i ≡ 44 → Some i ≡ comma_from (drop at s) at
    unfolding comma_from
    comma-found e = rw (eq-eqb _ _ e) at comma-here

    pub comma-on : (octet s i ≡ 44 → ⊥) → comma_from (drop (i + 1) s) (i + 1) ≡ comma_from (drop at s) at
    unfolding comma_from
    comma-on e = rw (ne_eqb _ _ e) at comma-here

-- ---- names of rules
pub rule_name_is : (t : List ℕ) → is_rule_name t ≡ both (is_letter (octet t 0)) (every is_name_letter t)
unfolding is_rule_name every is_alnum is_letter is_lower is_upper
rule_name_is [] = refl
rule_name_is (a ∷ l) = go (is_letter a)
  where
    go : (t : Bool) → both t (every is_name_letter l) ≡ both t (both (either (either t (is_digit a)) (eqb a 45)) (every is_name_letter l))
    go true = refl
    go false = refl

-- ---- `component`
module _ (s : List ℕ) (at : ℕ) (r : Option ℕ) (e : r ≡ closing_at s at) where
  pub quoted_open : r ≡ None → None ≡ quoted_part s at
  quoted_open q = rw (at_none r e q)

  module _ (close : ℕ) (q : r ≡ Some close) where
    pub quote_within : (at < close) × (close < length s)
    quote_within = closing-within s at close (at_place r e close q)

    module _ (m : Option ℕ) (f : m ≡ mark_at 44 s (close + 1)) where
      pub quoted-alone : m ≡ None → None ≡ quoted_part s at
      quoted-alone g = rw (at_place r e close q, at_none m f g)

      pub quoted-is : (p : ℕ) → m ≡ Some p → read_to (Some (characters s at close)) p ≡ quoted_part s at
      quoted-is p g = rw (at_place r e close q, at_place m f p g)

module _ (s : List ℕ) (at : ℕ) (r : Option ℕ) where
  module _ (e : r ≡ label_at (bytes "component") s at) where
    pub component_missing : r ≡ None → read_to None at ≡ component_at s at
    unfolding component_at
    component_missing q = rw (at_none r e q)

    pub component-is : (p : ℕ) (c : Option (Option Quotes × ℕ)) → r ≡ Some p → report_component_part s c ≡ quoted_part s p → report_component_part s c ≡ component_at s at
    unfolding component_at
    component-is p c q f = rw (at_place r e p q) f

  -- ---- `useDefaultValues`
  module _ (d : Bool) (e : r ≡ mark_at 44 s at) where
    pub truth-alone : r ≡ None → None ≡ followed s at d
    truth-alone q = rw (at_none r e q)

    pub truth-followed : (p : ℕ) → r ≡ Some p → read_to d p ≡ followed s at d
    truth-followed p q = rw (at_place r e p q)

  module _ (e : r ≡ word_at (bytes "TRUE") s at) where
    pub truth_true : (p : ℕ) (x : Option (Bool × ℕ)) → r ≡ Some p → report_defaults_part x ≡ followed s p true → report_defaults_part x ≡ truth_part s at
    truth_true p x q f = let z = word_there (bytes "TRUE") s at r e p q in rw (z.0, z.1) f

    module _ (q : r ≡ None) (u : Option ℕ) (g : u ≡ word_at (bytes "FALSE") s at) where
      pub truth_false : (p : ℕ) (x : Option (Bool × ℕ)) → u ≡ Some p → report_defaults_part x ≡ followed s p false → report_defaults_part x ≡ truth_part s at
      truth_false p x h f = let z = word_there (bytes "FALSE") s at u g p h in rw (word_not (bytes "TRUE") s at r e q, z.0, z.1) f

      pub truth-none : u ≡ None → None ≡ truth_part s at
      truth-none h = rw (word_not (bytes "TRUE") s at r e q, word_not (bytes "FALSE") s at u g h)

  module _ (e : r ≡ label_at (bytes "useDefaultValues") s at) where
    pub defaults_missing : r ≡ None → read_to true at ≡ defaults_at s at
    unfolding defaults_at
    defaults_missing q = rw (at_none r e q)

    pub defaults-is : (p : ℕ) (x : Option (Bool × ℕ)) → r ≡ Some p → report_defaults_part x ≡ truth_part s p → report_defaults_part x ≡ defaults_at s at
    unfolding defaults_at
    defaults-is p x q f = rw (at_place r e p q) f

  -- ---- `value`
  module _ (e : r ≡ brace_at s at) where
    pub value_open : r ≡ None → None ≡ value_text_at s at
    unfolding value_text_at
    value_open q = rw (at_none r e q)

    module _ (brace : ℕ) (q : r ≡ Some brace) where
      pub value-within : (at ≤ brace) × (brace < length s)
      value-within = brace-within s at brace (at_place r e brace q)

      module _ (t : List ℕ) (n : ℕ) (cut : t ≡ part s at (brace - at)) (long : n ≡ length (trimmed t)) where
        long-part : n ≡ length (trimmed (part s at (brace - at)))
        long-part = long ∙ ap (λ (l : List ℕ). length (trimmed l)) cut

        pub value-fits : n ≤ brace - at
        value-fits = (trimmed-part s at brace n long-part).0

        pub value-empty : n ≡ 0 → None ≡ value_text_at s at
        unfolding value_text_at
        value-empty z = rw (at_place r e brace q, ← long-part, eq-eqb n 0 z)

        pub value-is : (n ≡ 0 → ⊥) → report_value_part s (Some (record { start = at; end = at + n; after = brace })) ≡ value_text_at s at
        unfolding value_text_at
        value-is z = rw (at_place r e brace q, ← long-part, ne_eqb n 0 z, (trimmed-part s at brace n long-part).1)

  module _ (e : r ≡ label_at (bytes "value") s at) where
    pub value-bare : r ≡ None → None ≡ value_at s at
    unfolding value_at
    value-bare q = rw (at_none r e q)

    pub value_labelled : (p : ℕ) (x : Option Part) → r ≡ Some p → report_value_part s x ≡ value_text_at s p → report_value_part s x ≡ value_at s at
    unfolding value_at
    value_labelled p x q f = rw (at_place r e p q) f

-- ---- `rule`
module _ (s : List ℕ) (at : ℕ) (r : Option ℕ) where
  module _ (e : r ≡ comma_from (drop at s) at) where
    pub rule_endless : r ≡ None → None ≡ rule_from s at
    unfolding rule_from
    rule_endless q = rw (at_none r e q)

    module _ (end : ℕ) (q : r ≡ Some end) where
      pub rule-within : (at ≤ end) × (end < length s)
      rule-within = comma-within s at end (at_place r e end q)

      module _ (t : List ℕ) (u : Bool) (cut : t ≡ part s at (end - at)) (rule : u ≡ is_rule t) where
        is-rule : is_rule (part s at (end - at)) ≡ u
        is-rule = sym (rule ∙ ap is_rule cut)

        pub rule-other : not u ≡ true → None ≡ rule_from s at
        unfolding rule_from
        rule-other h = rw (at_place r e end q, is-rule ∙ not-true u h)

        module _ (h : not u ≡ false) (m : Option ℕ) (f : m ≡ mark_at 44 s end) where
          pub rule-alone : m ≡ None → None ≡ rule_from s at
          unfolding rule_from
          rule-alone g = rw (at_place r e end q, is-rule ∙ not-false u h, at_none m f g)

          pub rule-is : (p : ℕ) → m ≡ Some p → report_rule_part s (Some (record { start = at; end = end; after = p })) ≡ rule_from s at
          unfolding rule_from
          rule-is p g = rw (at_place r e end q, is-rule ∙ not-false u h, at_place m f p g)

  module _ (e : r ≡ label_at (bytes "rule") s at) where
    pub rule-bare : r ≡ None → None ≡ rule_at s at
    unfolding rule_at
    rule-bare q = rw (at_none r e q)

    pub rule_labelled : (p : ℕ) (x : Option Part) → r ≡ Some p → report_rule_part s x ≡ rule_from s p → report_rule_part s x ≡ rule_at s at
    unfolding rule_at rule_from
    rule_labelled p x q f = rw (at_place r e p q) f

-- ---- the assertion
pub brace-before : (s : List ℕ) (p : ℕ) (y : Option Part) (v : Part) → report_value_part s y ≡ value_at s p → y ≡ Some v → v.after < length s
brace-before s p y v f g = (value-onward s p (record { text = between s v.start v.end; brace = v.after }) (sym f ∙ ap (report_value_part s) g)).1

module _ (s : List ℕ) (c : Option Quotes) (d : Bool) (at : ℕ) (x : Option Part) (e : report_rule_part s x ≡ rule_at s at) where
  pub values_no_rule : x ≡ None → None ≡ values_at s (component_of s c) d at
  unfolding values_at
  values_no_rule q = let z : rule_at s at ≡ None = sym e ∙ ap (report_rule_part s) q in rw z

  module _ (p : Part) (q : x ≡ Some p) (y : Option Part) (f : report_value_part s y ≡ value_at s p.after) where
    rule-read : rule_at s at ≡ report_rule_part s (Some p)
    rule-read = sym e ∙ ap (report_rule_part s) q

    pub values-no_value : y ≡ None → None ≡ values_at s (component_of s c) d at
    unfolding values_at
    values-no_value g = let z : value_at s p.after ≡ None = sym f ∙ ap (report_value_part s) g in rw (rule-read, z)

    module _ (v : Part) (g : y ≡ Some v) where
      value_read : value_at s p.after ≡ report_value_part s (Some v)
      value_read = sym f ∙ ap (report_value_part s) g

      pub values_are : report_assertion s (Some (record { component = c; defaults = d; rule = p.start; rule_end = p.end; value = v.start; value_end = v.end; after = v.after + 1 })) ≡ values_at s (component_of s c) d at
      unfolding values_at
      values_are = rw (rule-read, value_read)

module _ (s : List ℕ) (at : ℕ) where
  module _ (x : Option (Option Quotes × ℕ)) (e : report_component_part s x ≡ component_at s at) where
    pub parts_no_component : x ≡ None → None ≡ parts_at s at
    unfolding parts_at
    parts_no_component q = let z : component_at s at ≡ None = sym e ∙ ap (report_component_part s) q in rw z

    module _ (c : Option Quotes) (p : ℕ) (q : x ≡ Some (c, p)) (y : Option (Bool × ℕ)) (f : report_defaults_part y ≡ defaults_at s p) where
      component-read : component_at s at ≡ report_component_part s (Some (c, p))
      component-read = sym e ∙ ap (report_component_part s) q

      pub parts_no_defaults : y ≡ None → None ≡ parts_at s at
      unfolding parts_at
      parts_no_defaults g = let z : defaults_at s p ≡ None = sym f ∙ ap report_defaults_part g in rw (component-read, z)

      pub parts_are : (d : Bool) (k : ℕ) (r : Option Parts) → y ≡ Some (d, k) → report_assertion s r ≡ values_at s (component_of s c) d k → report_assertion s r ≡ parts_at s at
      unfolding parts_at
      parts_are d k r g h = let z : defaults_at s p ≡ report_defaults_part (Some (d, k)) = sym f ∙ ap report_defaults_part g in rw (component-read, z) h

  module _ (r : Option ℕ) (e : r ≡ mark_at 123 s at) where
    pub assertion_open : r ≡ None → None ≡ assertion_at s at
    assertion_open q = rw (assertion_steps s at, at_none r e q)

    pub assertion-is : (p : ℕ) (x : Option Parts) → r ≡ Some p → report_assertion s x ≡ parts_at s p → report_assertion s x ≡ assertion_at s at
    assertion-is p x q f = rw (assertion_steps s at, at_place r e p q) f
