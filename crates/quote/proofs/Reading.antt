-- The readers of a filter on the quoted form of a text.
use Rattle.std.specs.Prelude.{Result, Ok, Err}
use mathlib.Core.Path.{◌≡◌, refl, sym, ap, subst, ◌∙◌}
use mathlib.Core.Bool.{true, false}
use Rattle.std.specs.Prelude.{Some}
use mathlib.Core.List.{List, [], ◌∷◌, ◌++◌, append_assoc}
use Prim.Native.Nat.{ℕ, zero, suc, ◌<◌, ◌+◌, ◌-◌}
use native.Mathlib.Omega.{arith}
use native.Mathlib.Numerals.{add-one}
use borrow.Author.Tests.{eq-eqb, ne_eqb, eqb-false, le-leb}
use lib.Dec.{eqb}
use lib.ListN.{length, take, drop, replicate, length-append, length-replicate}
use lib.Seq.{drop-append-le, take-append_seam, drop-append_seam, take-append-add, take_at}
use Rattle.octets.specs.Octets.{part, bytes}
use Rattle.octets.specs.Text.{trimmed, starts}
use Rattle.octets.specs.Utf8.{utf8}
use Rattle.octets.specs.Quoted.{closing, closing_at, undoubled, unquoted}
use Rattle.octets.proofs.Laws.{pick_cases}
use Rattle.octets.proofs.QuotedLaws.{undoubled-nil, undoubled-two, undoubled-other, unquoted-whole}
use Rattle.strings.specs.Asserted.{is_text, asserted_text}
use Rattle.assertion.specs.ValueText.{brace_from, brace_at, value_text_at}
use Rattle.assertion.specs.Assertion.{read_to, assertion_at}
use Rattle.filter.specs.Filter.{item}
use Rattle.filter.specs.Parse.{head_at, filter_from, filter_at, whole}
use Rattle.assertion.proofs.Laws.{trimmed-other, starts-fits}
use Rattle.quote.specs.Quote.{doubled, quoted, Quoting, quoting, written, fits, quoted_into, quoted_report}
use Rattle.quote.specs.Reading.{closed_by, Opening, opening_at, item_with, ReadsAs, Reads}
use Rattle.quote.specs.declared.QuoteError.{QuoteError}
use Rattle.quote.proofs.Laws.{by-octets, quoted-is, quoted-length}
use Rattle.quote.proofs.Unicode.{utf8-joined, utf8-quoted, utf8-closed}
use Rattle.quote.proofs.Prefix.{starts_in, assertion_in}

-- ---- the text is read back
undoubled-doubled : (t : List ℕ) → undoubled (doubled t) ≡ t
undoubled-doubled =
    by-octets (λ t d. undoubled d ≡ t) undoubled-nil (λ t d e. undoubled-two 34 34 d ∙ ap (λ (l : List ℕ). 34 ∷ l) e)
    (λ b t d n e. undoubled-other b d n ∙ ap (λ (l : List ℕ). b ∷ l) e)

closing-other : (b : ℕ) (l : List ℕ) (at : ℕ) → (b ≡ 34 → ⊥) → closing (b ∷ l) at ≡ closing l (at + 1)
unfolding closing
closing-other b [] at n = rw (ne_eqb b 34 n)
closing-other b (c ∷ l) at n = rw (ne_eqb b 34 n)

closing-doubled : (t : List ℕ) (at : ℕ) → closing (doubled t ++ (34 ∷ [])) at ≡ Some (at + length (doubled t))
unfolding closing
closing-doubled = by-octets (λ t d. Closes d) (λ at. there (omega arith)) (λ t d f at. f (at + 2) ∙ there (omega arith))
    (λ b t d n f at. closing-other b (d ++ (34 ∷ [])) at n ∙ f (at + 1) ∙ there (omega arith))
  where
    Closes : List ℕ → Type 0
    Closes d = (at : ℕ) → closing (d ++ (34 ∷ [])) at ≡ Some (at + length d)

    there : {a b : ℕ} → a ≡ b → Some a ≡ Some b
    there e = ap Some e

unquoted-quoted : (t : List ℕ) → unquoted (quoted t) ≡ Some t
unfolding quoted closing_at
unquoted-quoted t =
    let z : 1 + length (doubled t) - 1 ≡ length (doubled t) = omega arith in
    unquoted-whole (quoted t) (1 + length (doubled t)) (closing-doubled t 1) (let e = quoted-length t in omega arith)
    ∙ ap (λ (k : ℕ). Some (undoubled (part (quoted t) 1 k))) z
    ∙ ap (λ (l : List ℕ). Some (undoubled l)) (take-append_seam (doubled t) (34 ∷ [])) ∙ ap Some (undoubled-doubled t)

conforms-quoted : (t : List ℕ) → (length t ≡ 0 → ⊥) → is_text (quoted t) ≡ true
unfolding is_text
conforms-quoted t n = rw (unquoted-quoted t) (le-leb 1 (length t) (omega arith))

asserts-quoted : (t : List ℕ) → asserted_text (quoted t) ≡ t
unfolding asserted_text
asserts-quoted t = rw (unquoted-quoted t)

-- ---- the search for the brace passes it
brace-doubled : (t after : List ℕ) (at inner : ℕ) → brace_from (doubled t ++ after) at inner true ≡ brace_from after (at + length (doubled t)) inner true
unfolding brace_from
brace-doubled = by-octets (λ t d. Passed d) (λ after at inner. there after inner (omega arith))
    (λ t d f after at inner. f after (at + 1 + 1) inner ∙ there after inner (omega arith))
    (λ b t d n f after at inner. rw (ne_eqb b 34 n) (f after (at + 1) inner ∙ there after inner (omega arith)))
  where
    Passed : List ℕ → Type 0
    Passed d = (after : List ℕ) (at inner : ℕ) → brace_from (d ++ after) at inner true ≡ brace_from after (at + length d) inner true

    there : (after : List ℕ) (inner : ℕ) {a b : ℕ} → a ≡ b → brace_from after a inner true ≡ brace_from after b inner true
    there after inner e = ap (λ (k : ℕ). brace_from after k inner true) e

brace-quoted : (t after : List ℕ) (at inner : ℕ) → brace_from (quoted t ++ after) at inner false ≡ brace_from after (at + length (quoted t)) inner false
unfolding brace_from quoted
brace-quoted t after at inner =
    let l = quoted-length t in
    let z : at + 1 + length (doubled t) + 1 ≡ at + length (quoted t) = omega arith in
    ap (λ (x : List ℕ). brace_from x (at + 1) inner true) (append_assoc (doubled t) (34 ∷ []) after)
    ∙ brace-doubled t (34 ∷ after) (at + 1) inner ∙ ap (λ (k : ℕ). brace_from after k inner false) z

brace-closed : (spaces : ℕ) (after : List ℕ) (at : ℕ) → brace_from (closed_by spaces after) at 0 false ≡ Some (at + spaces)
unfolding brace_from
brace-closed zero after at = let z : at ≡ at + 0 = omega arith in ap Some z
brace-closed (suc n) after at = let z : at + 1 + n ≡ at + suc n = omega arith in brace-closed n after (at + 1) ∙ ap Some z

-- ---- the value text
trimmed_spaces : (n : ℕ) → trimmed (replicate n 32) ≡ []
unfolding trimmed
trimmed_spaces zero = refl
trimmed_spaces (suc n) = rw (trimmed_spaces n)

trimmed-before : (l : List ℕ) (n : ℕ) → trimmed (l ++ replicate n 32) ≡ trimmed l
unfolding trimmed
trimmed-before [] n = trimmed_spaces n
trimmed-before (b ∷ l) n = rw (trimmed-before l n)

trimmed-quoted : (t : List ℕ) (n : ℕ) → trimmed (quoted t ++ replicate n 32) ≡ quoted t
unfolding quoted
trimmed-quoted t n = trimmed-before (quoted t) n ∙ trimmed-other (34 ∷ doubled t) 34 (λ e. absurd (omega arith))

closed-part : (q after : List ℕ) (n : ℕ) → take (length q + n) (q ++ closed_by n after) ≡ q ++ replicate n 32
closed-part q after n = take-append-add q (closed_by n after) n ∙ ap (λ (l : List ℕ). q ++ l) (take_at (replicate n 32) _ n (length-replicate n 32))

value-quoted : (t before after : List ℕ) (spaces : ℕ)
    → value_text_at (before ++ (quoted t ++ closed_by spaces after)) (length before)
    ≡ Some (record { text = quoted t; brace = length before + (length (quoted t) + spaces) })
unfolding value_text_at brace_at
value-quoted t before after spaces =
    let q = quoted t in
    let at = length before in
    let l = quoted-length t in
    let e : brace_from (q ++ closed_by spaces after) at 0 false ≡ Some (at + (length q + spaces)) = brace-quoted t (closed_by spaces after) at 0
    ∙ brace-closed spaces after (at + length q) ∙ ap Some (let z : at + length q + spaces ≡ at + (length q + spaces) = omega arith in z) in
    let z : at + (length q + spaces) - at ≡ length q + spaces = omega arith in
    let p : trimmed (take (length q + spaces) (q ++ closed_by spaces after)) ≡ q = ap trimmed (closed-part q after spaces) ∙ trimmed-quoted t spaces in
    let m : length q ≡ 0 → ⊥ = λ n. omega arith in
    rw (drop-append_seam before (q ++ closed_by spaces after), e, z, p, ne_eqb (length q) 0 m)

-- ---- the assertion
assertion-quoted : (t before after : List ℕ) (at spaces : ℕ) (o : Opening) → opening_at (before ++ (34 ∷ [])) at ≡ read_to o (length before)
    → assertion_at (before ++ (quoted t ++ closed_by spaces after)) at ≡ read_to (item_with o (quoted t)) (length before + (length (quoted t) + spaces) + 1)
assertion-quoted t before after at spaces o e =
    let x = (doubled t ++ (34 ∷ [])) ++ closed_by spaces after in
    let s : (before ++ (34 ∷ [])) ++ x ≡ before ++ (quoted t ++ closed_by spaces after)
    = append_assoc before (34 ∷ []) x ∙ ap (λ (l : List ℕ). before ++ (l ++ closed_by spaces after)) (sym (quoted-is t)) in
    let f : length before < length (before ++ (34 ∷ [])) = omega (arith, length-append before (34 ∷ [])) in
    rw s at (assertion_in (before ++ (34 ∷ [])) x at (record { is = o; after = length before })
    (record { text = quoted t; brace = length before + (length (quoted t) + spaces) }) f e
    (rw (← s) at (value-quoted t before after spaces)))

item_starts : (before x : List ℕ) (at : ℕ) → starts (bytes "item:") (drop at before) ≡ true → starts (bytes "item:") (drop at (before ++ x)) ≡ true
item_starts before x at e =
    let h = starts-fits (bytes "item:") before at e in
    ap (starts (bytes "item:")) (drop-append-le at before x (omega arith)) ∙ starts_in (bytes "item:") (drop at before) x e

filter-quoted : (t : List ℕ) (n : ℕ) (before after : List ℕ) (at spaces : ℕ) (o : Opening) → starts (bytes "item:") (drop at before) ≡ true
    → opening_at (before ++ (34 ∷ [])) (at + 5) ≡ read_to o (length before)
    → filter_from (suc n) (before ++ (quoted t ++ closed_by spaces after)) at
    ≡ read_to (item (item_with o (quoted t))) (length before + (length (quoted t) + spaces) + 1)
unfolding filter_from head_at
filter-quoted t n before after at spaces o e f =
    rw (item_starts before (quoted t ++ closed_by spaces after) at e, assertion-quoted t before after (at + 5) spaces o f)

module _ (t : List ℕ) (u : utf8 t ≡ true) where
  characters-quoted : (before after : List ℕ) → utf8 before ≡ true → utf8 (before ++ (quoted t ++ after)) ≡ utf8 after
  characters-quoted before after e = utf8-joined before (quoted t ++ after) e ∙ utf8-joined (quoted t) after (utf8-quoted t u)

  alone-quoted : (before : List ℕ) (spaces : ℕ) (o : Opening) → utf8 before ≡ true → starts (bytes "item:") before ≡ true
      → opening_at (before ++ (34 ∷ [])) 5 ≡ read_to o (length before) → whole (before ++ (quoted t ++ closed_by spaces [])) ≡ Some (item (item_with o (quoted t)))
  unfolding whole filter_at
  alone-quoted before spaces o e i f =
      let s = before ++ (quoted t ++ closed_by spaces []) in
      let a = length-append before (quoted t ++ closed_by spaces []) in
      let b = length-append (quoted t) (closed_by spaces []) in
      let c = length-append {A = ℕ} (replicate spaces 32) (125 ∷ []) in
      let d = length-replicate {A = ℕ} spaces 32 in
      let z : length before + (length (quoted t) + spaces) + 1 ≡ length s = omega arith in
      rw (
        characters-quoted before (closed_by spaces []) e,
        utf8-closed spaces,
        add-one (length s),
        filter-quoted t (length s) before [] 0 spaces o i f,
        eq-eqb _ _ z,
      )

pub quoted-reads : (t : List ℕ) → (length t ≡ 0 → ⊥) → utf8 t ≡ true → ReadsAs t (quoted t)
quoted-reads t n u = record {
  back = unquoted-quoted t;
  conforms = conforms-quoted t n;
  asserts = asserts-quoted t;
  passed = brace-quoted t;
  value = value-quoted t;
  assertion = assertion-quoted t;
  filter = filter-quoted t;
  characters = characters-quoted t u;
  alone = alone-quoted t u;
}

-- ---- what was written is read so
abbrev Read : List ℕ → Quoting → Type 0
Read t x = Reads x.answer t x.memory

read_none : (t : List ℕ) (x : Quoting) → ((n : ℕ) → x.answer ≡ Ok n → ⊥) → Read t x
read_none t x f = record { written = λ n e. absurd (f n e) }

read-written : (t room : List ℕ) → (length t ≡ 0 → ⊥) → utf8 t ≡ true → Read t (written t room)
read-written t room m u = record { written = λ n e. let z : n ≡ length (quoted t) = cc in subst (ReadsAs t) (sym (octets n z)) (quoted-reads t m u) }
  where
    octets : (n : ℕ) → n ≡ length (quoted t) → take n (quoted t ++ drop (length (quoted t)) room) ≡ quoted t
    octets n z = take_at (quoted t) (drop (length (quoted t)) room) n (sym z)

report-read : (t room : List ℕ) → Read t (quoted_report t room)
unfolding quoted_report quoted_into
report-read t room =
    pick_cases (Read t) (eqb (length t) 0) _ _ (λ _. read_none t (quoting (Err QuoteError.Empty) room) (λ n e. let z : ◌≡◌ {A = ℕ} 0 1 = cc in omega arith))
    (λ m. pick_cases (Read t) (utf8 t) _ _
    (λ u. pick_cases (Read t) (fits t (length room)) _ _ (λ _. read-written t room (eqb-false (length t) 0 m) u)
    (λ _. read_none t (quoting (Err QuoteError.TooLittleRoom) room) (λ n e. let z : ◌≡◌ {A = ℕ} 0 1 = cc in omega arith)))
    (λ _. read_none t (quoting (Err QuoteError.NotUtf8) room) (λ n e. let z : ◌≡◌ {A = ℕ} 0 1 = cc in omega arith)))

pub reads_report : (t room m : List ℕ) (r : Result ℕ QuoteError) → quoting r m ≡ quoted_report t room → Reads r t m
reads_report t room m r e = subst (Read t) (sym e) (report-read t room)
