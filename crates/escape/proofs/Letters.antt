-- The letters of an escaped text.
use mathlib.Core.Path.{◌≡◌, refl, sym, ap, ◌∙◌}
use mathlib.Core.Bool.{Bool, true, false, false≢true}
use mathlib.Core.List.{List, [], ◌∷◌, ◌++◌, append_assoc, map}
use Prim.Native.Nat.{ℕ}
use borrow.Author.Tests.{ne_eqb, eqb-true}
use lib.Dec.{eqb}
use lib.ListN.{length}
use Rattle.octets.specs.Pick.{pick, both, either, no}
use Rattle.octets.specs.Text.{is_digit, is_hex, hex_value}
use Rattle.octets.specs.Utf8.{utf8}
use Rattle.names.specs.Rfc4514.{Letter, bare, escaped, is_reserved, is_special, letters, ends, up_to_end, from_end, is_string_char}
use Rattle.names.specs.Rfc4514.{may_stand, may_lead, may_trail, octet_of}
use Rattle.names.specs.Rfc4514.{every_letter, leads, trails, is_string}
use Rattle.names.proofs.Laws.{letters-bare, letters_special}
use Rattle.escape.specs.Escape.{always_escaped, edge_escaped, escaped_octet, escaped_from}

-- ---- letters that are escaped
letters-nul : (s : List ℕ) → letters (92 ∷ 48 ∷ 48 ∷ s) ≡ escaped 0 ∷ letters s
unfolding letters is_special is_reserved is_hex is_digit hex_value
letters-nul s = refl

-- those that are always escaped: the backslash and what RFC 4514 calls `escaped`
always-is : (b : ℕ) → always_escaped b ≡ either (eqb b 92) (is_reserved b)
unfolding always_escaped is_reserved
always-is b = go (eqb b 34) (eqb b 43) (eqb b 44) (eqb b 59) (eqb b 60) (eqb b 62) (eqb b 92)
  where
    last : (x y : Bool) → either x y ≡ either y x
    last true true = refl
    last true false = refl
    last false true = refl
    last false false = refl

    over : (x y z : Bool) → either x (either y z) ≡ either y (either x z)
    over true true z = refl
    over true false z = refl
    over false y z = refl

    go : (q p c s l g e : Bool)
        → either q (either p (either c (either s (either l (either g e))))) ≡ either e (either q (either p (either c (either s (either l g)))))
    go true p c s l g e = over true e (either p (either c (either s (either l g))))
    go false true c s l g e = over true e (either c (either s (either l g)))
    go false false true s l g e = over true e (either s (either l g))
    go false false false true l g e = over true e (either l g)
    go false false false false true g e = over true e g
    go false false false false false g e = last g e

-- an octet that is prefixed by a backslash is one that may be
special : (first last : Bool) (b : ℕ) → either (always_escaped b) (edge_escaped first last b) ≡ true → is_special b ≡ true
unfolding edge_escaped is_special
special first last b e = go (either (eqb b 92) (is_reserved b)) (eqb b 32) (eqb b 35) (eqb b 61) (rw (always-is b) at e)
  where
    go : (a sp sh eq : Bool) → either a (pick sp (either first last) (both sh first)) ≡ true → either sp (either sh (either eq a)) ≡ true
    go a true sh eq h = refl
    go a false true eq h = refl
    go a false false true h = refl
    go true false false false h = refl
    go false false false false h = h

-- ---- the letter for an octet
unfoldable pub letter_for : Bool → Bool → ℕ → Letter
letter_for first last b = pick (eqb b 0) (escaped b) (pick (either (always_escaped b) (edge_escaped first last b)) (escaped b) (bare b))

-- an octet that stands for itself
pub record Itself (first last : Bool) (b : ℕ) : Type 0 where
  pub nul : eqb b 0 ≡ false
  pub always : always_escaped b ≡ false
  pub edge : edge_escaped first last b ≡ false

module _ (first last : Bool) (b : ℕ) where
  -- what holds of each way to write an octet and its letter holds of the way taken
  pub by-letter : (P : List ℕ → Letter → Type 0) → (b ≡ 0 → P (92 ∷ 48 ∷ 48 ∷ []) (escaped b)) → (is_special b ≡ true → P (92 ∷ b ∷ []) (escaped b))
      → (Itself first last b → P (b ∷ []) (bare b)) → P (escaped_octet first last b) (letter_for first last b)
  unfolding escaped_octet letter_for
  by-letter P nul pair itself = go (eqb b 0) refl (always_escaped b) refl (edge_escaped first last b) refl
    where
      go : (z : Bool) → eqb b 0 ≡ z → (a : Bool) → always_escaped b ≡ a → (e : Bool) → edge_escaped first last b ≡ e
          → P (pick z (92 ∷ 48 ∷ 48 ∷ []) (pick (either a e) (92 ∷ b ∷ []) (b ∷ []))) (pick z (escaped b) (pick (either a e) (escaped b) (bare b)))
      go true zq a aq e eq = nul (eqb-true b 0 zq)
      go false zq true aq e eq = pair (special first last b (rw aq))
      go false zq false aq true eq = pair (special first last b (rw (aq, eq)))
      go false zq false aq false eq = itself (record { nul = zq; always = aq; edge = eq })

  -- the same of the letter alone
  of-letter : (P : Letter → Type 0) → P (escaped b) → (Itself first last b → P (bare b)) → P (letter_for first last b)
  of-letter P e f = by-letter (λ q l. P l) (λ z. e) (λ z. e) f

-- an octet that isn't always escaped is none of those that are
other : (b k : ℕ) → always_escaped b ≡ false → always_escaped k ≡ true → b ≡ k → ⊥
other b k f g e = false≢true (sym f ∙ ap always_escaped e ∙ g)

backslash : always_escaped 92 ≡ true
unfolding always_escaped
backslash = refl

plus : always_escaped 43 ≡ true
unfolding always_escaped
plus = refl

comma : always_escaped 44 ≡ true
unfolding always_escaped
comma = refl

string_char : (b : ℕ) → eqb b 0 ≡ false → always_escaped b ≡ false → is_string_char b ≡ true
unfolding is_string_char
string_char b n a = ap (λ (u : Bool). no (either u (either (eqb b 92) (is_reserved b)))) n ∙ ap no (sym (always-is b) ∙ a)

lead_char : (last : Bool) (b : ℕ) → edge_escaped true last b ≡ false → may_lead (bare b) ≡ true
unfolding edge_escaped
lead_char last b = go (eqb b 32) (eqb b 35)
  where
    go : (x y : Bool) → pick x true (both y true) ≡ false → no (either x y) ≡ true
    go true y e = sym e
    go false true e = sym e
    go false false e = refl

trail_char : (first : Bool) (b : ℕ) → edge_escaped first true b ≡ false → may_trail (bare b) ≡ true
unfolding edge_escaped
trail_char first b = go (eqb b 32) first (eqb b 35)
  where
    go : (x f y : Bool) → pick x (either f true) (both y f) ≡ false → no x ≡ true
    go true true y e = sym e
    go true false y e = sym e
    go false f y e = refl

module _ (first last : Bool) (b : ℕ) where
  octet-letters : (x : List ℕ) → letters (escaped_octet first last b ++ x) ≡ letter_for first last b ∷ letters x
  octet-letters = by-letter first last b (λ q l. (x : List ℕ) → letters (q ++ x) ≡ l ∷ letters x) (λ z x. rw z (letters-nul x)) (λ s x. letters_special b x s)
      (λ v x. letters-bare b x (other b 92 v.always backslash))

  ends_not : ends (letter_for first last b) ≡ false
  ends_not = of-letter first last b (λ l. ends l ≡ false) refl
      (λ v. rw (ne_eqb b 43 (other b 43 v.always plus), ne_eqb b 44 (other b 44 v.always comma)))

  stands : may_stand (letter_for first last b) ≡ true
  stands = of-letter first last b (λ l. may_stand l ≡ true) refl (λ v. string_char b v.nul v.always)

  octet-of : octet_of (letter_for first last b) ≡ b
  octet-of = of-letter first last b (λ l. octet_of l ≡ b) refl (λ v. refl)

may_lead_lem : (last : Bool) (b : ℕ) → may_lead (letter_for true last b) ≡ true
may_lead_lem last b = of-letter true last b (λ l. may_lead l ≡ true) refl (λ v. lead_char last b v.edge)

may_trail_lem : (first : Bool) (b : ℕ) → may_trail (letter_for first true b) ≡ true
may_trail_lem first b = of-letter first true b (λ l. may_trail l ≡ true) refl (λ v. trail_char first b v.edge)

-- ---- the letters for a text
unfoldable pub letters_for : Bool → List ℕ → List Letter
letters_for first [] = []
letters_for first (b ∷ s) = let r = letters_for false s in letter_for first (eqb (length s) 0) b ∷ r

pub letters-escaped : (t : List ℕ) (first : Bool) (x : List ℕ) → letters (escaped_from first t ++ x) ≡ letters_for first t ++ letters x
unfolding escaped_from letters_for
letters-escaped [] first x = refl
letters-escaped (b ∷ t) first x =
    let last = eqb (length t) 0 in
    ap letters (append_assoc (escaped_octet first last b) (escaped_from false t) x) ∙ octet-letters first last b (escaped_from false t ++ x)
    ∙ ap (λ (ls : List Letter). letter_for first last b ∷ ls) (letters-escaped t false x)

pub up_to-end : (t : List ℕ) (first : Bool) (ls : List Letter) → up_to_end ls ≡ [] → up_to_end (letters_for first t ++ ls) ≡ letters_for first t
unfolding up_to_end letters_for
up_to-end [] first ls e = e
up_to-end (b ∷ t) first ls e = rw (ends_not first (eqb (length t) 0) b, up_to-end t false ls e)

pub from-end : (t : List ℕ) (first : Bool) (ls : List Letter) → from_end ls ≡ ls → from_end (letters_for first t ++ ls) ≡ ls
unfolding from_end letters_for
from-end [] first ls e = e
from-end (b ∷ t) first ls e = rw (ends_not first (eqb (length t) 0) b, from-end t false ls e)

pub octets-back : (t : List ℕ) (first : Bool) → map octet_of (letters_for first t) ≡ t
unfolding letters_for
octets-back [] first = refl
octets-back (b ∷ t) first = rw (octet-of first (eqb (length t) 0) b, octets-back t false)

-- ---- they are a string
every-stands : (t : List ℕ) (first : Bool) → every_letter (letters_for first t) ≡ true
unfolding every_letter letters_for
every-stands [] first = refl
every-stands (b ∷ t) first = rw (stands first (eqb (length t) 0) b, every-stands t false)

first-leads : (t : List ℕ) → leads (letters_for true t) ≡ true
unfolding letters_for
first-leads [] = refl
first-leads (b ∷ t) = may_lead_lem (eqb (length t) 0) b

last-trails : (t : List ℕ) (first : Bool) → trails (letters_for first t) ≡ true
unfolding trails letters_for
last-trails [] first = refl
last-trails (b ∷ []) first = may_trail_lem first b
last-trails (b ∷ c ∷ t) first = last-trails (c ∷ t) false

pub string-escaped : (t : List ℕ) → utf8 t ≡ true → is_string (letters_for true t) ≡ true
unfolding is_string
string-escaped t u = rw (first-leads t, every-stands t true, last-trails t true, octets-back t true, u)
