-- A name's reader on an attribute type in dotted form.
use mathlib.Core.Path.{◌≡◌, refl, sym, ap, ◌∙◌}
use mathlib.Core.Bool.{Bool, true, false, false≢true}
use Rattle.std.specs.Prelude.{Some}
use mathlib.Core.List.{List, [], ◌∷◌, ◌++◌}
use Prim.Native.Nat.{ℕ, ◌≤◌}
use native.Mathlib.Omega.{arith}
use borrow.Author.Tests.{ne_eqb, eqb-true, le-leb, leb-true}
use lib.Dec.{leb, eqb}
use lib.ListN.{length}
use Rattle.octets.specs.Pick.{pick, both}
use Rattle.octets.specs.Octets.{every}
use Rattle.octets.specs.Text.{within, is_digit, is_number, onto_first, pieces}
use Rattle.octets.proofs.Laws.{both_true}
use Rattle.octets.proofs.TextLaws.{every-nil, every-cons, number-nil, number-cons, pieces-cons, digit_within}
use Rattle.der.specs.Dotted.{every_number, is_dotted, rooted, dotted_arcs}
use Rattle.der.proofs.DottedLaws.{numbers-cons, dotted-pieces}
use Rattle.names.specs.Rfc4514.{letters, type_from}
use Rattle.names.proofs.Laws.{letters-bare}

-- ---- an octet that may stand in a dotted text: from `.` to `9`, so neither `=` nor a backslash
abbrev pub plain : ℕ → Bool
plain b = within 46 57 b

pub plain-within : (b : ℕ) → plain b ≡ true → (46 ≤ b) × (b ≤ 57)
plain-within b e = let w = both_true (leb 46 b) (leb b 57) e in (leb-true 46 b w.0, leb-true b 57 w.1)

digit_plain : (b : ℕ) → is_digit b ≡ true → plain b ≡ true
digit_plain b e = let w = digit_within b e in rw (le-leb 46 b (omega arith), le-leb b 57 (omega arith))

digits-plain : (s : List ℕ) → every is_digit s ≡ true → every plain s ≡ true
unfolding every
digits-plain [] e = refl
digits-plain (b ∷ s) e = let w = both_true (is_digit b) (every is_digit s) e in rw (digit_plain b w.0, digits-plain s w.1)

zero_plain : (b : ℕ) (s : List ℕ) → b ≡ 48 → length s ≡ 0 → every plain (b ∷ s) ≡ true
unfolding every
zero_plain b [] q z = rw q
zero_plain b (c ∷ s) q z = absurd (omega arith)

number-plain : (s : List ℕ) → is_number s ≡ true → every plain s ≡ true
number-plain [] e = absurd (false≢true (sym number-nil ∙ e))
number-plain (b ∷ s) e = go (eqb b 48) refl (sym (number-cons b s) ∙ e)
  where
    go : (u : Bool) → eqb b 48 ≡ u → pick u (eqb (length s) 0) (both (is_digit b) (every is_digit s)) ≡ true → every plain (b ∷ s) ≡ true
    go true q f = zero_plain b s (eqb-true b 48 q) (eqb-true (length s) 0 f)
    go false q f = digits-plain (b ∷ s) (every-cons is_digit b s ∙ f)

-- ---- the pieces of a text
unfoldable all_plain : List (List ℕ) → Bool
all_plain [] = true
all_plain (p ∷ ps) = let r = all_plain ps in both (every plain p) r

numbers-plain : (ps : List (List ℕ)) → every_number ps ≡ true → all_plain ps ≡ true
unfolding all_plain
numbers-plain [] e = refl
numbers-plain (p ∷ ps) e =
    let w = both_true (is_number p) (every_number ps) (sym (numbers-cons p ps) ∙ e) in
    rw (number-plain p w.0, numbers-plain ps w.1)

onto-plain : (b : ℕ) (ps : List (List ℕ)) → all_plain (onto_first b ps) ≡ true → (plain b ≡ true) × (all_plain ps ≡ true)
unfolding all_plain every
onto-plain b [] e = let w = both_true (both (plain b) true) true e in ((both_true (plain b) true w.0).0, refl)
onto-plain b (p ∷ ps) e =
    let w = both_true (both (plain b) (every plain p)) (all_plain ps) e in
    let v = both_true (plain b) (every plain p) w.0 in
    (v.0, rw (v.1, w.1))

first-none : (ps : List (List ℕ)) → all_plain ([] ∷ ps) ≡ true → all_plain ps ≡ true
unfolding all_plain every
first-none ps e = e

pieces-plain : (t : List ℕ) → all_plain (pieces t) ≡ true → every plain t ≡ true
pieces-plain [] e = every-nil plain
pieces-plain (b ∷ s) e = go (λ p. pieces-plain s p) (eqb b 46) refl (sym (ap all_plain (pieces-cons b s)) ∙ e)
  where
    joined : plain b ≡ true → every plain s ≡ true → every plain (b ∷ s) ≡ true
    joined p q = every-cons plain b s ∙ rw (p, q)

    go : (all_plain (pieces s) ≡ true → every plain s ≡ true) → (u : Bool) → eqb b 46 ≡ u
        → all_plain (pick u ([] ∷ pieces s) (onto_first b (pieces s))) ≡ true → every plain (b ∷ s) ≡ true
    go r true q f = joined (ap plain (eqb-true b 46 q)) (r (first-none (pieces s) f))
    go r false q f = let w = onto-plain b (pieces s) f in joined w.0 (r w.1)

pub dotted-plain : (t : List ℕ) → is_dotted t ≡ true → every plain t ≡ true
unfolding dotted_arcs
dotted-plain t e = pieces-plain t (numbers-plain (pieces t) (both_true (every_number (pieces t)) (rooted (dotted_arcs t)) (sym (dotted-pieces t) ∙ e)).0)

-- ---- the type is read up to its `=`
type-from : (t x : List ℕ) → every plain t ≡ true → type_from (letters (t ++ (61 ∷ x))) ≡ Some (record { got = t; rest = letters x })
unfolding type_from
type-from [] x e = rw (letters-bare 61 x (λ q. omega arith))
type-from (b ∷ t) x e =
    let w = both_true (plain b) (every plain t) (sym (every-cons plain b t) ∙ e) in
    let p = plain-within b w.0 in
    rw (letters-bare b (t ++ (61 ∷ x)) (λ q. omega arith), ne_eqb b 61 (λ q. omega arith), type-from t x w.1)

pub type-read : (t x : List ℕ) → is_dotted t ≡ true → type_from (letters (t ++ (61 ∷ x))) ≡ Some (record { got = t; rest = letters x })
type-read t x e = type-from t x (dotted-plain t e)
