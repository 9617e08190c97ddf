-- Names built of escaped values are read back.
use mathlib.Core.Path.{◌≡◌, refl, sym, ap, ◌∙◌}
use mathlib.Core.Bool.{Bool, true, false}
use Rattle.std.specs.Prelude.{None, Some}
use mathlib.Core.List.{List, [], ◌∷◌, ◌++◌, append_assoc, append-nil}
use Prim.Native.Nat.{ℕ, zero, suc, ◌≤◌}
use native.Mathlib.Omega.{arith}
use borrow.Author.Tests.{leb-true, eqb-true}
use lib.Dec.{leb, eqb}
use lib.ListN.{length}
use Rattle.octets.specs.Pick.{both, consed}
use Rattle.octets.specs.Utf8.{utf8_from, utf8}
use Rattle.octets.proofs.Laws.{both_true}
use Rattle.der.specs.Dotted.{is_dotted}
use Rattle.der.specs.Names.{most_rdns, most_pairs}
use Rattle.names.specs.Rfc4514.{Letter, Attribute, bare, letters, type_from, attribute_from, is_before, behind, with_first, rdn_from, rdns_from, distinguished_name}
use Rattle.names.proofs.Laws.{letters-bare}
use Rattle.escape.specs.Escape.{escaped_text}
use Rattle.escape.specs.Reading.{ends_value, pair_with}
use Rattle.escape.specs.Building.{pair_text, rdn_text, name_text, every_pair, is_rdn, every_rdn, is_name, ReadBack}
use Rattle.escape.proofs.Types.{dotted-plain}
use Rattle.escape.proofs.Unicode.{utf8-joined, utf8-escaped, utf8-low, utf8-plain}
use Rattle.escape.proofs.Reading.{attribute-escaped}

-- ---- one pair
record Sound (a : Attribute) : Type 0 where
  dotted : is_dotted a.type ≡ true
  valid : utf8 a.value ≡ true

sound : (a : Attribute) (r : List Attribute) → every_pair (a ∷ r) ≡ true → Sound a
unfolding every_pair
sound a r e =
    let w = (both_true (both (is_dotted a.type) (utf8 a.value)) (every_pair r) e).0 in
    let v = both_true (is_dotted a.type) (utf8 a.value) w in
    record { dotted = v.0; valid = v.1 }

others-sound : (a : Attribute) (r : List Attribute) → every_pair (a ∷ r) ≡ true → every_pair r ≡ true
unfolding every_pair
others-sound a r e = (both_true (both (is_dotted a.type) (utf8 a.value)) (every_pair r) e).1

module _ (a : Attribute) (x : List ℕ) where
  pair-before : pair_text a ++ x ≡ pair_with a.type (escaped_text a.value) x
  pair-before = append_assoc a.type (61 ∷ escaped_text a.value) x

  pair_read : Sound a → ends_value x ≡ true → attribute_from (letters (pair_text a ++ x)) ≡ Some (record { got = a; rest = letters x })
  pair_read s e = ap (λ (l : List ℕ). attribute_from (letters l)) pair-before ∙ attribute-escaped a.value x e a.type s.dotted s.valid

  pair-characters : Sound a → utf8 (pair_text a ++ x) ≡ utf8 x
  pair-characters s =
      ap utf8 pair-before ∙ utf8-plain a.type (61 ∷ (escaped_text a.value ++ x)) (dotted-plain a.type s.dotted)
      ∙ utf8-low 61 (escaped_text a.value ++ x) (omega arith) ∙ utf8-joined (escaped_text a.value) x (utf8-escaped a.value ∙ s.valid)

-- ---- an RDN
module _ (most : ℕ) (ls x : List Letter) (a : Attribute) (e : attribute_from ls ≡ Some (record { got = a; rest = x })) where
  rdn-last : is_before 43 x ≡ false → rdn_from (suc most) ls ≡ Some (record { got = a ∷ []; rest = x })
  unfolding rdn_from
  rdn-last f = rw (e, f)

  rdn-more : is_before 43 x ≡ true → rdn_from (suc most) ls ≡ with_first a (rdn_from most (behind x))
  unfolding rdn_from
  rdn-more f = rw (e, f)

-- what may stand behind it: nothing, or a comma and any octets
abbrev ends_rdn : List ℕ → Bool
ends_rdn [] = true
ends_rdn (b ∷ s) = eqb b 44

ends-rdn : (x : List ℕ) → ends_rdn x ≡ true → (ends_value x ≡ true) × (is_before 43 (letters x) ≡ false)
unfolding letters
ends-rdn [] e = (refl, refl)
ends-rdn (b ∷ s) e =
    let q = eqb-true b 44 e in
    (rw q, rw (letters-bare b s (λ z. omega arith), q))

rdn-read : (r : List Attribute) (most : ℕ) (x : List ℕ) → every_pair r ≡ true → 1 ≤ length r → length r ≤ most → ends_rdn x ≡ true
    → rdn_from most (letters (rdn_text r ++ x)) ≡ Some (record { got = r; rest = letters x })
unfolding rdn_text
rdn-read [] most x e h m f = absurd (omega arith)
rdn-read (a ∷ r) zero x e h m f = absurd (omega arith)
rdn-read (a ∷ []) (suc most) x e h m f =
    let w = ends-rdn x f in
    rdn-last most (letters (pair_text a ++ x)) (letters x) a (pair_read a x (sound a [] e) w.0) w.1
rdn-read (a ∷ b ∷ r) (suc most) x e h m f =
    let after = rdn_text (b ∷ r) ++ x in
    let ls = letters (pair_text a ++ (43 ∷ after)) in
    let p : attribute_from ls ≡ Some (record { got = a; rest = letters (43 ∷ after) }) = pair_read a (43 ∷ after) (sound a (b ∷ r) e) refl in
    let q : attribute_from ls ≡ Some (record { got = a; rest = bare 43 ∷ letters after })
    = p ∙ ap (λ (l : List Letter). Some (record { got = a; rest = l })) (letters-bare 43 after (λ z. omega arith)) in
    let i : rdn_from most (letters after) ≡ Some (record { got = b ∷ r; rest = letters x })
    = rdn-read (b ∷ r) most x (others-sound a (b ∷ r) e) (omega arith) (omega arith) f in
    ap (λ (l : List ℕ). rdn_from (suc most) (letters l)) (append_assoc (pair_text a) (43 ∷ rdn_text (b ∷ r)) x)
    ∙ rdn-more most ls (bare 43 ∷ letters after) a q refl ∙ ap (with_first a) i

rdn-characters : (r : List Attribute) (x : List ℕ) → every_pair r ≡ true → utf8 (rdn_text r ++ x) ≡ utf8 x
unfolding rdn_text
rdn-characters [] x e = refl
rdn-characters (a ∷ []) x e = pair-characters a x (sound a [] e)
rdn-characters (a ∷ b ∷ r) x e =
    ap utf8 (append_assoc (pair_text a) (43 ∷ rdn_text (b ∷ r)) x) ∙ pair-characters a (43 ∷ (rdn_text (b ∷ r) ++ x)) (sound a (b ∷ r) e)
    ∙ utf8-low 43 (rdn_text (b ∷ r) ++ x) (omega arith) ∙ rdn-characters (b ∷ r) x (others-sound a (b ∷ r) e)

-- ---- a name
module _ (most : ℕ) (ls x : List Letter) (r : List Attribute) (e : rdn_from most_pairs ls ≡ Some (record { got = r; rest = x })) where
  name-last : is_before 44 x ≡ false → rdns_from (suc most) ls ≡ Some (r ∷ [])
  unfolding rdns_from
  name-last f = rw (e, f)

  name-more : is_before 44 x ≡ true → rdns_from (suc most) ls ≡ consed r (rdns_from most (behind x))
  unfolding rdns_from
  name-more f = rw (e, f)

record Whole (r : List Attribute) : Type 0 where
  pairs : every_pair r ≡ true
  least : 1 ≤ length r
  at_most : length r ≤ most_pairs

whole : (r : List Attribute) (rs : List (List Attribute)) → every_rdn (r ∷ rs) ≡ true → Whole r
unfolding every_rdn
whole r rs e =
    let w = (both_true (is_rdn r) (every_rdn rs) e).0 in
    let v = both_true (every_pair r) (both (leb 1 (length r)) (leb (length r) most_pairs)) w in
    let u = both_true (leb 1 (length r)) (leb (length r) most_pairs) v.1 in
    record { pairs = v.0; least = leb-true 1 (length r) u.0; at_most = leb-true (length r) most_pairs u.1 }

others-whole : (r : List Attribute) (rs : List (List Attribute)) → every_rdn (r ∷ rs) ≡ true → every_rdn rs ≡ true
unfolding every_rdn
others-whole r rs e = (both_true (is_rdn r) (every_rdn rs) e).1

whole-read : (r : List Attribute) (x : List ℕ) → Whole r → ends_rdn x ≡ true
    → rdn_from most_pairs (letters (rdn_text r ++ x)) ≡ Some (record { got = r; rest = letters x })
whole-read r x w f = rdn-read r most_pairs x w.pairs w.least w.at_most f

names-read : (rs : List (List Attribute)) (most : ℕ) → every_rdn rs ≡ true → 1 ≤ length rs → length rs ≤ most
    → rdns_from most (letters (name_text rs)) ≡ Some rs
unfolding name_text letters
names-read [] most e h m = absurd (omega arith)
names-read (r ∷ rs) zero e h m = absurd (omega arith)
names-read (r ∷ []) (suc most) e h m =
    let p = whole-read r [] (whole r [] e) refl in
    ap (λ (l : List ℕ). rdns_from (suc most) (letters l)) (sym (append-nil (rdn_text r))) ∙ name-last most (letters (rdn_text r ++ [])) [] r p refl
names-read (r ∷ q ∷ rs) (suc most) e h m =
    let x = name_text (q ∷ rs) in
    let ls = letters (rdn_text r ++ (44 ∷ x)) in
    let p : rdn_from most_pairs ls ≡ Some (record { got = r; rest = bare 44 ∷ letters x })
    = whole-read r (44 ∷ x) (whole r (q ∷ rs) e) refl
    ∙ ap (λ (l : List Letter). Some (record { got = r; rest = l })) (letters-bare 44 x (λ z. omega arith)) in
    let i : rdns_from most (letters x) ≡ Some (q ∷ rs) = names-read (q ∷ rs) most (others-whole r (q ∷ rs) e) (omega arith) (omega arith) in
    name-more most ls (bare 44 ∷ letters x) r p refl ∙ ap (consed r) i

names-characters : (rs : List (List Attribute)) → every_rdn rs ≡ true → utf8 (name_text rs) ≡ true
unfolding name_text utf8 utf8_from
names-characters [] e = refl
names-characters (r ∷ []) e = ap utf8 (sym (append-nil (rdn_text r))) ∙ rdn-characters r [] (whole r [] e).pairs
names-characters (r ∷ q ∷ rs) e =
    rdn-characters r (44 ∷ name_text (q ∷ rs)) (whole r (q ∷ rs) e).pairs ∙ utf8-low 44 (name_text (q ∷ rs)) (omega arith)
    ∙ names-characters (q ∷ rs) (others-whole r (q ∷ rs) e)

-- no text is no RDN
never-empty : (most : ℕ) → rdns_from (suc most) [] ≡ None
unfolding rdns_from rdn_from attribute_from type_from
never-empty most = refl

some_text_lem : (s : List ℕ) (rs : List (List Attribute)) → rdns_from most_rdns (letters s) ≡ Some rs → distinguished_name s ≡ Some rs
unfolding letters
some_text_lem [] rs e = absurd (let n = never-empty 15 in let z : ◌≡◌ {A = ℕ} 0 1 = cc in omega arith)
some_text_lem (b ∷ s) rs e = e

name_built : (rs : List (List Attribute)) → every_rdn rs ≡ true → length rs ≤ most_rdns → distinguished_name (name_text rs) ≡ Some rs
unfolding name_text
name_built [] e m = refl
name_built (r ∷ rs) e m = some_text_lem (name_text (r ∷ rs)) (r ∷ rs) (names-read (r ∷ rs) most_rdns e (omega arith) m)

pub read_back_lem : (rs : List (List Attribute)) → is_name rs ≡ true → ReadBack rs
read_back_lem rs e =
    let w = both_true (every_rdn rs) (leb (length rs) most_rdns) e in
    record { name = name_built rs w.0 (leb-true (length rs) most_rdns w.1); characters = names-characters rs w.0 }
