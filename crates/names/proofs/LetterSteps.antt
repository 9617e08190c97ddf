-- Letters: one lemma for each return; its premises are the facts as the code has them.
use mathlib.Core.Path.{◌≡◌, refl, sym, ap, ap₂, ◌∙◌}
use mathlib.Core.Bool.{Bool, true, false, not}
use mathlib.Core.List.{List, [], ◌∷◌}
use Prim.Native.Nat.{ℕ, ◌≤◌, ◌<◌, ◌+◌, ◌*◌}
use native.Mathlib.Omega.{arith}
use borrow.Author.Tests.{eqb-true, eqb-false, le-leb, lt-leb, leb-true, leb-false, not-true, not-false}
use lib.Dec.{leb, eqb}
use lib.ListN.{length, drop}
use Rattle.octets.specs.Pick.{pick, both}
use Rattle.octets.specs.Octets.{octet}
use Rattle.octets.specs.Text.{is_hex, hex_value}
use Rattle.octets.specs.Quoted.{undoubled}
use Rattle.octets.specs.Inner.Answers.{between}
use Rattle.octets.proofs.Laws.{pick_cases, octet-inside, both_true}
use Rattle.strings.specs.Inner.Escaped.{unescaped}
use Rattle.strings.proofs.Steps.{unescaped-bare}
use Rattle.names.specs.Rfc4514 as rfc
use Rattle.names.specs.Rfc4514.{bare, escaped, wrong, is_special, letters}
use Rattle.names.specs.Inner.Reading.{letters_at, next_place, escaped_at, report_letter, Standing, Stands}
use Rattle.names.specs.declared.Letter.{Letter}
use Rattle.names.proofs.Laws.{special_hex, special_quote, hex_quote, hex_some, string_quote, letters-nil, letters-bare, letters-last}
use Rattle.names.proofs.Laws.{letters_special, letters-hex, letters-wrong, unescaped-other, unescaped_quote, unescaped-double}
use Rattle.names.proofs.Laws.{unescaped-hex, between_cons, between_first, next_other, next_single, next_double, characters-none, characters-cons}
use Rattle.names.proofs.Laws.{next_within, character_first}

-- ---- after a backslash
module _ (p : List ℕ) (at : ℕ) where
  pub escape_end : length p ≤ at → Letter.Wrong ≡ escaped_at p at
  unfolding escaped_at
  escape_end h = rw (le-leb (length p) at h)

  module _ (h : at < length p) (u : Bool) (asked : u ≡ is_special (octet p at)) where
    pub escape_special : (r : ℕ) → u ≡ true → r ≡ next_place p at → Letter.Escaped (octet p at) r ≡ escaped_at p at
    unfolding escaped_at
    escape_special r e q = rw (lt-leb (length p) at h, sym asked ∙ e, q)

    module _ (n : u ≡ false) (d : ℕ) (v : Bool) (told : d ≡ octet p (at + 1)) (tested : v ≡ both (is_hex (octet p at)) (is_hex d)) where
      pair : v ≡ both (is_hex (octet p at)) (is_hex (octet p (at + 1)))
      pair = rw told at tested

      pub escape_wrong : not v ≡ true → Letter.Wrong ≡ escaped_at p at
      unfolding escaped_at
      escape_wrong e = rw (lt-leb (length p) at h, sym asked ∙ n, sym pair ∙ not-true v e)

      pub escape_hex : (x : ℕ) → not v ≡ false → x ≡ hex_value (octet p at) * 16 + hex_value d → Letter.Escaped x (at + 2) ≡ escaped_at p at
      unfolding escaped_at
      escape_hex x e q = rw (lt-leb (length p) at h, sym asked ∙ n, sym pair ∙ not-false v e, q, told)

-- ---- the letter at a place
pub letter-end : (p : List ℕ) (at : ℕ) → length p ≤ at → report_letter p Letter.End ≡ letters_at p at
unfolding letters_at
letter-end p at h = sym (ap letters (characters-none p at h) ∙ letters-nil)

module _ (p : List ℕ) (at : ℕ) (h : at < length p) (r : ℕ) (n : octet p at ≡ 92 → ⊥) (e : r ≡ next_place p at) where
  pub letter-bare : report_letter p (Letter.Bare (octet p at) r) ≡ letters_at p at
  unfolding letters_at
  letter-bare = rw e (sym (ap letters (characters-cons p at h) ∙ letters-bare (octet p at) (undoubled (drop (next_place p at) p)) n))

  pub letter-stands : Standing p at (bare (octet p at)) r
  letter-stands = record {
    beyond = rw e (next_within p at h).0;
    within = rw e (next_within p at h).1;
    octets = λ m end l.
        let q = string_quote (octet p at) m in
        let z : r ≡ at + 1 = e ∙ next_other p at q in
        let k : at < end = omega arith in
        rw z (ap unescaped (between_cons p at end h k) ∙ unescaped-bare (octet p at) (between p (at + 1) end) n);
  }

abbrev Met : List ℕ → ℕ → Letter → Type 0
Met p at r = (report_letter p r ≡ letters_at p at) × Stands p at r

-- an escape: a backslash stands at a place, c and d next to it
module _ (p : List ℕ) (at : ℕ) (h : at < length p) (esc : octet p at ≡ 92) where
  opened : letters_at p at ≡ letters (92 ∷ undoubled (drop (at + 1) p))
  unfolding letters_at
  opened =
      let n : octet p at ≡ 34 → ⊥ = λ e. omega arith in
      ap letters (characters-cons p at h ∙ ap₂ (λ (b k : ℕ). b ∷ undoubled (drop k p)) esc (next_other p at n))

  wrong-end : length p ≤ at + 1 → wrong ∷ [] ≡ letters_at p at
  wrong-end l = sym (opened ∙ ap (λ (s : List ℕ). letters (92 ∷ s)) (characters-none p (at + 1) l) ∙ letters-last)

  module _ (l : at + 1 < length p) where
    abbrev c : ℕ
    c = octet p (at + 1)

    abbrev d : ℕ
    d = octet p (at + 1 + 1)

    letters-two : letters_at p at ≡ letters (92 ∷ c ∷ undoubled (drop (next_place p (at + 1)) p))
    letters-two = opened ∙ ap (λ (s : List ℕ). letters (92 ∷ s)) (characters-cons p (at + 1) l)

    part-two : (end : ℕ) → at + 1 < end → between p at end ≡ 92 ∷ c ∷ between p (at + 1 + 1) end
    part-two end k =
        let j : at < end = omega arith in
        between_cons p at end h j ∙ ap₂ (λ (b : ℕ) (s : List ℕ). b ∷ s) esc (between_cons p (at + 1) end l k)

    part-three : (end : ℕ) → at + 1 + 1 < length p → at + 1 + 1 < end → between p at end ≡ 92 ∷ c ∷ d ∷ between p (at + 1 + 2) end
    part-three end m k =
        let j : at + 1 < end = omega arith in
        let z : at + 1 + 1 + 1 ≡ at + 1 + 2 = omega arith in
        part-two end j ∙ ap (λ (s : List ℕ). 92 ∷ c ∷ s) (between_cons p (at + 1 + 1) end m k ∙ ap (λ (i : ℕ). d ∷ between p i end) z)

    special_letters : is_special c ≡ true → escaped c ∷ letters_at p (next_place p (at + 1)) ≡ letters_at p at
    unfolding letters_at
    special_letters e = sym (letters-two ∙ letters_special c (undoubled (drop (next_place p (at + 1)) p)) e)

    special_octets : is_special c ≡ true → (end : ℕ) → next_place p (at + 1) ≤ end
        → unescaped (between p at end) ≡ c ∷ unescaped (between p (next_place p (at + 1)) end)
    special_octets e end k = go (eqb c 34) (eqb d 34) refl refl
      where
        go : (a b : Bool) → eqb c 34 ≡ a → eqb d 34 ≡ b → unescaped (between p at end) ≡ c ∷ unescaped (between p (next_place p (at + 1)) end)
        go false b f g =
            let n = eqb-false c 34 f in
            let z = next_other p (at + 1) n in
            let j : at + 1 < end = omega arith in
            rw z (ap unescaped (part-two end j) ∙ unescaped-other c (between p (at + 1 + 1) end) n (special_hex c e))
        go true false f g =
            let q = eqb-true c 34 f in
            let n = eqb-false d 34 g in
            let z = next_single p (at + 1) n in
            let j : at + 1 < end = omega arith in
            rw (z, part-two end j, q) (unescaped_quote (between p (at + 1 + 1) end) (between_first p (at + 1 + 1) end 34 (omega arith) n))
        go true true f g =
            let q = eqb-true c 34 f in
            let x = eqb-true d 34 g in
            let z = next_double p (at + 1) q x in
            let m : at + 1 + 1 < length p = octet-inside p (at + 1 + 1) (rw x (omega arith)) in
            let j : at + 1 + 1 < end = omega arith in
            rw (z, part-three end m j, q, x) (unescaped-double (between p (at + 1 + 2) end))

    module _ (e : is_special c ≡ false) where
      next : next_place p (at + 1) ≡ at + 1 + 1
      next = next_other p (at + 1) (special_quote c e)

      pair-wrong : both (is_hex c) (is_hex d) ≡ false → wrong ∷ [] ≡ letters_at p at
      pair-wrong x =
          let f : octet (undoubled (drop (next_place p (at + 1)) p)) 0 ≡ d = character_first p (next_place p (at + 1)) ∙ ap (octet p) next in
          sym (letters-two ∙ letters-wrong c e (undoubled (drop (next_place p (at + 1)) p)) (rw f x))

      module _ (x : both (is_hex c) (is_hex d) ≡ true) where
        digit : is_hex d ≡ true
        digit = (both_true (is_hex c) (is_hex d) x).1

        inside : at + 1 + 1 < length p
        inside = octet-inside p (at + 1 + 1) (hex_some d digit)

        after : next_place p (at + 1 + 1) ≡ at + 1 + 2
        after = let z : at + 1 + 1 + 1 ≡ at + 1 + 2 = omega arith in next_other p (at + 1 + 1) (hex_quote d digit) ∙ z

        pair-letters : escaped (hex_value c * 16 + hex_value d) ∷ letters_at p (at + 1 + 2) ≡ letters_at p at
        unfolding letters_at
        pair-letters =
            sym (letters-two ∙ ap (λ (i : ℕ). letters (92 ∷ c ∷ undoubled (drop i p))) next
            ∙ ap (λ (s : List ℕ). letters (92 ∷ c ∷ s)) (characters-cons p (at + 1 + 1) inside)
            ∙ letters-hex c e d (undoubled (drop (next_place p (at + 1 + 1)) p)) x
            ∙ ap (λ (i : ℕ). escaped (hex_value c * 16 + hex_value d) ∷ letters (undoubled (drop i p))) after)

        pair-octets : (end : ℕ) → at + 1 + 2 ≤ end → unescaped (between p at end) ≡ (hex_value c * 16 + hex_value d) ∷ unescaped (between p (at + 1 + 2) end)
        pair-octets end k =
            let j : at + 1 + 1 < end = omega arith in
            ap unescaped (part-three end inside j) ∙ unescaped-hex c d (between p (at + 1 + 2) end) (special_quote c e) x

    unpaired : is_special c ≡ false → Met p at (pick (both (is_hex c) (is_hex d)) (Letter.Escaped (hex_value c * 16 + hex_value d) (at + 1 + 2)) Letter.Wrong)
    unpaired e =
        pick_cases (Met p at) (both (is_hex c) (is_hex d)) (Letter.Escaped (hex_value c * 16 + hex_value d) (at + 1 + 2)) Letter.Wrong paired
        (λ x. (pair-wrong e x, tt))
      where
        paired : both (is_hex c) (is_hex d) ≡ true → Met p at (Letter.Escaped (hex_value c * 16 + hex_value d) (at + 1 + 2))
        paired x = (pair-letters e x, record { beyond = omega arith; within = omega (arith, inside e x); octets = λ m. pair-octets e x })

    special : is_special c ≡ true → Met p at (Letter.Escaped c (next_place p (at + 1)))
    special e =
        let w = next_within p (at + 1) l in
        (special_letters e, record { beyond = omega (arith, w.0); within = w.1; octets = λ m. special_octets e })

    met : Met p at (escaped_at p (at + 1))
    unfolding escaped_at
    met = rw (lt-leb (length p) (at + 1) l)
        (pick_cases (Met p at) (is_special c) (Letter.Escaped c (next_place p (at + 1)))
        (pick (both (is_hex c) (is_hex d)) (Letter.Escaped (hex_value c * 16 + hex_value d) (at + 1 + 2)) Letter.Wrong) special unpaired)

  escape : Met p at (escaped_at p (at + 1))
  unfolding escaped_at
  escape = go (leb (length p) (at + 1)) refl
    where
      go : (t : Bool) → leb (length p) (at + 1) ≡ t → Met p at (escaped_at p (at + 1))
      go true e = let q = leb-true (length p) (at + 1) e in rw (sym (escape_end p (at + 1) q)) (wrong-end q, tt)
      go false e = met (leb-false (length p) (at + 1) e)

  module _ (r : Letter) (e : r ≡ escaped_at p (at + 1)) where
    pub letter_escape : report_letter p r ≡ letters_at p at
    letter_escape = rw e escape.0

    pub escape_stands : Stands p at r
    escape_stands = rw e escape.1

-- ---- the letters from a place on, by the octet there
module _ (p : List ℕ) (at : ℕ) where
  module _ (h : at < length p) where
    pub letters_bare_at : (octet p at ≡ 92 → ⊥) → letters_at p at ≡ bare (octet p at) ∷ letters_at p (next_place p at)
    letters_bare_at n = sym (letter-bare p at h (next_place p at) n refl)

    pub letters-plain : (octet p at ≡ 92 → ⊥) → (octet p at ≡ 34 → ⊥) → letters_at p at ≡ bare (octet p at) ∷ letters_at p (at + 1)
    letters-plain n m = letters_bare_at n ∙ ap (λ (i : ℕ). bare (octet p at) ∷ letters_at p i) (next_other p at m)

    escape_cases : (P : List rfc.Letter → Type 0) → octet p at ≡ 92 → P (wrong ∷ [])
        → ((c : ℕ) (ls : List rfc.Letter) → P (escaped c ∷ ls)) → P (letters_at p at)
    unfolding escaped_at
    escape_cases P esc w f =
        rw (sym (escape p at h esc).0)
        (pick_cases (λ (r : Letter). P (report_letter p r)) (leb (length p) (at + 1)) Letter.Wrong _ (λ _. w)
        (λ _. pick_cases (λ (r : Letter). P (report_letter p r)) (is_special (octet p (at + 1))) (Letter.Escaped _ _) _ (λ _. f _ _)
        (λ _. pick_cases (λ (r : Letter). P (report_letter p r)) (both (is_hex (octet p (at + 1))) (is_hex (octet p (at + 1 + 1))))
        (Letter.Escaped _ _) Letter.Wrong (λ _. f _ _) (λ _. w))))

  -- what holds of no letters at the end, of an escape, wrong or right, behind a backslash, and of another octet
  pub letters_cases : (P : List rfc.Letter → Type 0) → (length p ≤ at → P []) → (at < length p → octet p at ≡ 92 → P (wrong ∷ []))
      → (at < length p → octet p at ≡ 92 → (c : ℕ) (ls : List rfc.Letter) → P (escaped c ∷ ls))
      → (at < length p → (octet p at ≡ 92 → ⊥) → P (bare (octet p at) ∷ letters_at p (next_place p at))) → P (letters_at p at)
  letters_cases P end w f b = go (leb (length p) at) refl
    where
      inside : (h : at < length p) (t : Bool) → eqb (octet p at) 92 ≡ t → P (letters_at p at)
      inside h true e = let q = eqb-true (octet p at) 92 e in escape_cases h P q (w h q) (f h q)
      inside h false e = let n = eqb-false (octet p at) 92 e in rw (letters_bare_at h n) (b h n)

      go : (t : Bool) → leb (length p) at ≡ t → P (letters_at p at)
      go true e = let h : length p ≤ at = leb-true (length p) at e in rw (sym (letter-end p at h)) (end h)
      go false e = inside (leb-false (length p) at e) (eqb (octet p at) 92) refl
