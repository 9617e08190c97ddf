-- Quoted strings and characters: one lemma for each return; its premises are the facts as the code has them.
use Rattle.std.specs.Prelude.{Option}
use mathlib.Core.Path.{◌≡◌, refl, sym, ap, ap₂, ◌∙◌}
use mathlib.Core.Bool.{Bool, true, false, not, false≢true}
use Rattle.std.specs.Prelude.{None, Some}
use mathlib.Core.List.{List, [], ◌∷◌}
use Prim.Native.Nat.{ℕ, ◌≤◌, ◌<◌, ◌+◌, ◌-◌, ◌*◌}
use native.Mathlib.Omega.{arith}
use borrow.Author.Tests.{eq-eqb, ne_eqb, eqb-true, eqb-false}
use lib.Dec.{eqb}
use lib.ListN.{length, drop}
use Rattle.octets.specs.Pick.{pick, both, no, is_some}
use Rattle.octets.specs.Octets.{octet, part}
use Rattle.octets.specs.Text.{is_digit, is_hex, hex_value}
use Rattle.octets.specs.Quoted.{closing_at, undoubled, unquoted}
use Rattle.octets.specs.Inner.Answers as answers
use Rattle.octets.proofs.Laws.{rest-cons, rest-none}
use Rattle.octets.proofs.QuotedLaws.{undoubled-nil, undoubled-one, undoubled-two, undoubled-other, unquoted-none, unquoted_longer, unquoted-whole}
use Rattle.strings.specs.Asserted.{text_or, asserted_text}
use Rattle.strings.specs.Inner.Comparing.{octets_of, is_itself, report_octet}
use Rattle.strings.specs.Inner.Escaped.{unescaped_at, unescaped}
use Rattle.strings.specs.declared.Form.{Form}

-- ---- what stands between the quotes
text-none : (t : List ℕ) → unquoted t ≡ None → [] ≡ asserted_text t
unfolding asserted_text
text-none t e = rw e

nothing : (t p : List ℕ) → p ≡ part t 0 0 → unquoted t ≡ None → undoubled p ≡ asserted_text t
nothing t p e h = ap undoubled e ∙ undoubled-nil ∙ text-none t h

module _ (t p : List ℕ) (r : Option ℕ) (told : r ≡ closing_at t 0) where
  pub part_unclosed : r ≡ None → p ≡ part t 0 0 → undoubled p ≡ asserted_text t
  part_unclosed h e = nothing t p e (unquoted-none t (sym told ∙ h))

  module _ (close : ℕ) (h : r ≡ Some close) where
    closed : closing_at t 0 ≡ Some close
    closed = sym told ∙ h

    pub part-past : length t ≤ close → p ≡ part t 0 0 → undoubled p ≡ asserted_text t
    part-past l e = nothing t p e (unquoted_longer t close closed (λ q. omega arith))

    module _ (l : close < length t) where
      pub part_longer : (length t - close ≡ 1 → ⊥) → p ≡ part t 0 0 → undoubled p ≡ asserted_text t
      part_longer n e = nothing t p e (unquoted_longer t close closed (λ q. n (omega arith)))

      module _ (one : length t - close ≡ 1) where
        whole : undoubled (part t 1 (close - 1)) ≡ asserted_text t
        unfolding asserted_text
        whole = let q : close + 1 ≡ length t = omega arith in sym (ap text_or (unquoted-whole t close closed q))

        pub part-empty : close ≡ 0 → p ≡ part t 1 0 → undoubled p ≡ asserted_text t
        part-empty z e = let q : 0 ≡ close - 1 = omega arith in ap undoubled (e ∙ ap (part t 1) q) ∙ whole

        pub part-is : p ≡ part t 1 (close - 1) → undoubled p ≡ asserted_text t
        part-is e = ap undoubled e ∙ whole

-- whether there are any
module _ (t : List ℕ) (r : Option ℕ) (told : r ≡ closing_at t 0) where
  pub is_unclosed : r ≡ None → false ≡ is_some (unquoted t)
  is_unclosed h = rw (unquoted-none t (sym told ∙ h))

  module _ (close : ℕ) (h : r ≡ Some close) where
    is-closed : closing_at t 0 ≡ Some close
    is-closed = sym told ∙ h

    pub is-past : length t ≤ close → false ≡ is_some (unquoted t)
    is-past l = rw (unquoted_longer t close is-closed (λ q. omega arith))

    pub is_whole : close < length t → eqb (length t - close) 1 ≡ is_some (unquoted t)
    is_whole l = go (eqb (length t - close) 1) refl
      where
        go : (u : Bool) → eqb (length t - close) 1 ≡ u → u ≡ is_some (unquoted t)
        go true e = let q : close + 1 ≡ length t = omega (arith, eqb-true (length t - close) 1 e) in rw (unquoted-whole t close is-closed q)
        go false e = rw (unquoted_longer t close is-closed (λ q. eqb-false (length t - close) 1 e (omega arith)))

-- ---- octets of a quoted string
module _ (s : List ℕ) (at : ℕ) (h : at < length s) where
  pub quoted-other : (octet s at ≡ 34 → ⊥) → octet s at ∷ undoubled (drop (at + 1) s) ≡ undoubled (drop at s)
  quoted-other n = sym (undoubled-other (octet s at) (drop (at + 1) s) n) ∙ ap undoubled (sym (rest-cons s at h))

  module _ (quote : octet s at ≡ 34) where
    pub quoted-last : length s - at < 2 → 34 ∷ undoubled (drop (at + 1) s) ≡ undoubled (drop at s)
    quoted-last l =
        let g : length s ≤ at + 1 = omega arith in
        rw (rest-none s (at + 1) g) (ap (λ (x : List ℕ). 34 ∷ x) undoubled-nil ∙ sym (undoubled-one 34)
        ∙ sym (ap undoubled (rest-cons s at h ∙ ap₂ (λ (b : ℕ) (x : List ℕ). b ∷ x) quote (rest-none s (at + 1) g))))

    module _ (l : 2 ≤ length s - at) where
      second : drop (at + 1) s ≡ octet s (at + 1) ∷ drop (at + 2) s
      second =
          let z : at + 1 < length s = omega arith in
          let e : at + 1 + 1 ≡ at + 2 = omega arith in
          rest-cons s (at + 1) z ∙ ap (λ (n : ℕ). octet s (at + 1) ∷ drop n s) e

      two : undoubled (drop at s) ≡ pick (both (eqb 34 34) (eqb (octet s (at + 1)) 34)) (34 ∷ undoubled (drop (at + 2) s))
          (34 ∷ undoubled (octet s (at + 1) ∷ drop (at + 2) s))
      two = ap undoubled (rest-cons s at h ∙ ap₂ (λ (b : ℕ) (x : List ℕ). b ∷ x) quote second) ∙ undoubled-two 34 (octet s (at + 1)) (drop (at + 2) s)

      pub quoted-single : (octet s (at + 1) ≡ 34 → ⊥) → 34 ∷ undoubled (drop (at + 1) s) ≡ undoubled (drop at s)
      quoted-single n = sym (two ∙ rw (ne_eqb (octet s (at + 1)) 34 n) (ap (λ (x : List ℕ). 34 ∷ undoubled x) (sym second)))

      pub quoted-double : octet s (at + 1) ≡ 34 → 34 ∷ undoubled (drop (at + 2) s) ≡ undoubled (drop at s)
      quoted-double e = sym (two ∙ rw (eq-eqb (octet s (at + 1)) 34 e))

-- ---- octets of an escaped string
pub unescaped-nil : unescaped [] ≡ []
unfolding unescaped
unescaped-nil = refl

quote_no_hex : is_hex 34 ≡ false
unfolding is_hex is_digit
quote_no_hex = refl

-- one that is no backslash, and a backslash last or before one octet
pub unescaped-bare : (b : ℕ) (l : List ℕ) → (b ≡ 92 → ⊥) → unescaped (b ∷ l) ≡ b ∷ unescaped l
unfolding unescaped
unescaped-bare b [] n = refl
unescaped-bare b (c ∷ []) n = rw (ne_eqb b 92 n)
unescaped-bare b (c ∷ d ∷ l) n = rw (ne_eqb b 92 n)

module _ (s : List ℕ) (at : ℕ) (h : at < length s) where
  pub escaped-other : (octet s at ≡ 92 → ⊥) → octet s at ∷ unescaped (drop (at + 1) s) ≡ unescaped (drop at s)
  escaped-other n = sym (unescaped-bare (octet s at) (drop (at + 1) s) n) ∙ ap unescaped (sym (rest-cons s at h))

  module _ (backslash : octet s at ≡ 92) where
    pub escaped-last : length s - at ≡ 1 → 92 ∷ unescaped (drop (at + 1) s) ≡ unescaped (drop at s)
    unfolding unescaped
    escaped-last e =
        let None = rest-none s (at + 1) (omega arith) in
        ap (λ (l : List ℕ). 92 ∷ unescaped l) None ∙ sym (ap unescaped (rest-cons s at h ∙ ap₂ (λ (b : ℕ) (l : List ℕ). b ∷ l) backslash None))

    next : 2 ≤ length s - at → drop (at + 1) s ≡ octet s (at + 1) ∷ drop (at + 2) s
    next more = let e : at + 1 + 1 ≡ at + 2 = omega arith in rest-cons s (at + 1) (omega arith) ∙ ap (λ (n : ℕ). octet s (at + 1) ∷ drop n s) e

    pub escaped-one : length s - at ≡ 2 → octet s (at + 1) ∷ unescaped (drop (at + 2) s) ≡ unescaped (drop at s)
    unfolding unescaped
    escaped-one e =
        let None = rest-none s (at + 2) (omega arith) in
        ap (λ (l : List ℕ). octet s (at + 1) ∷ unescaped l) None
        ∙ sym (ap unescaped (rest-cons s at h ∙ ap₂ (λ (b : ℕ) (l : List ℕ). b ∷ l) backslash
        (next (omega arith) ∙ ap (λ (l : List ℕ). octet s (at + 1) ∷ l) None)))

-- a backslash before two octets or more
module _ (s : List ℕ) (at : ℕ) (here : at + 2 < length s) (backslash : octet s at ≡ 92) where
  three : unescaped (drop at s) ≡ unescaped_at 92 (octet s (at + 1)) (octet s (at + 2)) (unescaped (drop (at + 1) s)) (unescaped (drop (at + 2) s))
      (unescaped (drop (at + 3) s))
  unfolding unescaped
  three =
      let e : at + 2 + 1 ≡ at + 3 = omega arith in
      let third = rest-cons s (at + 2) here ∙ ap (λ (n : ℕ). octet s (at + 2) ∷ drop n s) e in
      let second = next s at (omega arith) backslash (omega arith) ∙ ap (λ (l : List ℕ). octet s (at + 1) ∷ l) third in
      ap unescaped (rest-cons s at (omega arith) ∙ ap₂ (λ (b : ℕ) (l : List ℕ). b ∷ l) backslash second)
      ∙ sym (ap₂ (λ (x y : List ℕ). unescaped_at 92 (octet s (at + 1)) (octet s (at + 2)) (unescaped x) (unescaped y) (unescaped (drop (at + 3) s))) second third)

  abbrev c : ℕ
  c = octet s (at + 1)

  abbrev d : ℕ
  d = octet s (at + 2)

  pub pair_quotes : octet s (at + 1) ≡ 34 → octet s (at + 2) ≡ 34 → 34 ∷ unescaped (drop (at + 3) s) ≡ unescaped (drop at s)
  pair_quotes e f = rw (eq-eqb c 34 e, eq-eqb d 34 f) at (sym three)

  pub pair_quote : octet s (at + 1) ≡ 34 → (octet s (at + 2) ≡ 34 → ⊥) → 34 ∷ unescaped (drop (at + 2) s) ≡ unescaped (drop at s)
  pair_quote e f = rw (e, ne_eqb d 34 f, quote_no_hex) at (sym three)

  module _ (u : Bool) (told : u ≡ both (is_hex (octet s (at + 1))) (is_hex (octet s (at + 2)))) (e : octet s (at + 1) ≡ 34 → ⊥) where
    pub pair-hex : (r : ℕ) → u ≡ true → r ≡ hex_value (octet s (at + 1)) * 16 + hex_value (octet s (at + 2))
        → r ∷ unescaped (drop (at + 3) s) ≡ unescaped (drop at s)
    pair-hex r n q = ap (λ (x : ℕ). x ∷ unescaped (drop (at + 3) s)) q ∙ (rw (ne_eqb c 34 e, sym told ∙ n) at (sym three))

    pub pair-other : u ≡ false → octet s (at + 1) ∷ unescaped (drop (at + 2) s) ≡ unescaped (drop at s)
    pair-other n = rw (ne_eqb c 34 e, sym told ∙ n) at (sym three)

-- ---- octets of a string of a form
module _ (s : List ℕ) (form : Form) (at : ℕ) where
  pub octet-end : length s ≤ at → report_octet form s None ≡ octets_of form (drop at s)
  octet-end h = sym (ap (octets_of form) (rest-none s at h) ∙ go form)
    where
      go : (f : Form) → octets_of f [] ≡ []
      go Form.Stored = refl
      go Form.Quoted = undoubled-nil
      go Form.Escaped = unescaped-nil

  pub octet-itself : (u : Bool) → at < length s → u ≡ is_itself form (octet s at) → u ≡ true
      → report_octet form s (Some (octet s at, at + 1)) ≡ octets_of form (drop at s)
  octet-itself u h told e = go form (sym told ∙ e)
    where
      other : (b k : ℕ) → no (eqb b k) ≡ true → b ≡ k → ⊥
      other b k q f = false≢true (sym (ap no (eq-eqb b k f)) ∙ q)

      go : (f : Form) → is_itself f (octet s at) ≡ true → report_octet f s (Some (octet s at, at + 1)) ≡ octets_of f (drop at s)
      go Form.Stored q = sym (rest-cons s at h)
      go Form.Quoted q = quoted-other s at h (other (octet s at) 34 q)
      go Form.Escaped q = escaped-other s at h (other (octet s at) 92 q)

pub not_no : (u : Bool) → not u ≡ no u
not_no true = refl
not_no false = refl
