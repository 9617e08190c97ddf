-- RDNs and names: laws of what comes after an attribute or an RDN, then one lemma for each return and each turn; its premises are the facts as the code has
-- them.
use mathlib.Core.Path.{◌≡◌, refl, sym, ap, ◌∙◌}
use mathlib.Core.Bool.{Bool, true, false}
use Rattle.std.specs.Prelude.{Option, None, Some}
use mathlib.Core.List.{List, [], ◌∷◌}
use Prim.Native.Nat.{ℕ, suc, ◌≤◌, ◌<◌, ◌+◌, ◌-◌}
use native.Mathlib.Omega.{arith}
use borrow.Author.Tests.{eq-eqb, ne_eqb, le-leb, lt-leb}
use lib.Dec.{leb, eqb}
use lib.ListN.{length}
use Rattle.octets.specs.Pick.{pick, bind, consed, is_some}
use Rattle.octets.specs.Octets.{octet}
use Rattle.octets.specs.Quoted.{undoubled}
use Rattle.octets.proofs.Laws.{octet-past, octet-inside}
use Rattle.octets.proofs.QuotedLaws.{undoubled-nil}
use Rattle.der.specs.Names.{most_rdns, most_pairs}
use Rattle.names.specs.Rfc4514 as rfc
use Rattle.names.specs.Rfc4514.{Read, letters, with_first, attribute_from, is_before, behind, rdn_from, rdns_from, distinguished_name}
use Rattle.names.specs.Rfc4514.{if_ended, alone, relative_distinguished_name}
use Rattle.names.specs.Inner.Reading.{letters_at, report_attribute, rest_of, report_rest}
use Rattle.names.specs.declared.Attribute.{Attribute}
use Rattle.names.proofs.Laws.{characters-cons}
use Rattle.names.proofs.LetterSteps.{letters-plain, letters_cases}

-- ---- the sign after what was read
module _ (p : List ℕ) (at b : ℕ) (some-sign : 0 < b) (bare-sign : b ≡ 92 → ⊥) where
  pub before-is : is_before b (letters_at p at) ≡ eqb (octet p at) b
  before-is =
      letters_cases p at (λ (ls : List rfc.Letter). is_before b ls ≡ eqb (octet p at) b)
      (λ h. sym (ne_eqb (octet p at) b (λ q. omega (arith, octet-past p at h)))) (λ _ q. other q) (λ _ q c ls. other q) (λ _ _. refl)
    where
      other : octet p at ≡ 92 → false ≡ eqb (octet p at) b
      other q = sym (ne_eqb (octet p at) b (λ z. bare-sign (sym z ∙ q)))

  pub behind-is : (b ≡ 34 → ⊥) → octet p at ≡ b → behind (letters_at p at) ≡ letters_at p (at + 1)
  behind-is n e =
      let h : at < length p = octet-inside p at (omega arith) in
      rw (letters-plain p at h (λ q. bare-sign (sym e ∙ q)) (λ q. n (sym e ∙ q)))

-- ---- RDNs
-- the letters after an RDN, from those after its first attribute
abbrev after_first : ℕ → List rfc.Letter → Option (List rfc.Letter)
after_first most ls = pick (is_before 43 ls) (rest_of (rdn_from most (behind ls))) (Some ls)

rest-first : (a : rfc.Attribute) (o : Option (Read (List rfc.Attribute))) → rest_of (with_first a o) ≡ rest_of o
rest-first a None = refl
rest-first a (Some r) = refl

rdn-step : (most : ℕ) (ls : List rfc.Letter) → rest_of (rdn_from (suc most) ls) ≡ bind (rest_of (attribute_from ls)) (after_first most)
unfolding rdn_from
rdn-step most ls = go (attribute_from ls)
  where
    choose : (a : Read rfc.Attribute) (t : Bool)
        → rest_of (pick t (with_first a.got (rdn_from most (behind a.rest))) (Some (record { got = a.got ∷ []; rest = a.rest })))
        ≡ pick t (rest_of (rdn_from most (behind a.rest))) (Some a.rest)
    choose a true = rest-first a.got (rdn_from most (behind a.rest))
    choose a false = refl

    go : (o : Option (Read rfc.Attribute)) → rest_of (bind o (λ a. pick (is_before 43 a.rest) (with_first a.got (rdn_from most (behind a.rest)))
        (Some (record { got = a.got ∷ []; rest = a.rest })))) ≡ bind (rest_of o) (after_first most)
    go None = refl
    go (Some a) = choose a (is_before 43 a.rest)

-- the loop: it is at place i, and so many attributes may come
module _ (p : List ℕ) (at i left : ℕ) (inv : rest_of (rdn_from left (letters_at p i)) ≡ rest_of (rdn_from most_pairs (letters_at p at))) where
  pub rdn-over : left ≤ 0 → report_rest p None ≡ rest_of (rdn_from most_pairs (letters_at p at))
  unfolding rdn_from
  rdn-over h = let z : left ≡ 0 = omega arith in rw z at inv

  module _ (h : 0 < left) (r : Option Attribute) (told : report_attribute p i r ≡ attribute_from (letters_at p i)) where
    next : bind (rest_of (report_attribute p i r)) (after_first (left - 1)) ≡ rest_of (rdn_from most_pairs (letters_at p at))
    next =
        let z : left ≡ suc (left - 1) = omega arith in
        ap (λ (o : Option (Read rfc.Attribute)). bind (rest_of o) (after_first (left - 1))) told ∙ sym (rdn-step (left - 1) (letters_at p i))
        ∙ ap (λ (n : ℕ). rest_of (rdn_from n (letters_at p i))) (sym z) ∙ inv

    pub rdn-none : r ≡ None → report_rest p None ≡ rest_of (rdn_from most_pairs (letters_at p at))
    rdn-none e = rw e at next

    module _ (a : Attribute) (b : ℕ) (e : r ≡ Some a) (sign : b ≡ octet p a.end) where
      after : pick (eqb b 43) (rest_of (rdn_from (left - 1) (behind (letters_at p a.end)))) (Some (letters_at p a.end))
          ≡ rest_of (rdn_from most_pairs (letters_at p at))
      after =
          rw (sign, sym (before-is p a.end 43 (omega arith) (λ q. omega arith)))
          (sym (ap (λ (x : Option Attribute). bind (rest_of (report_attribute p i x)) (after_first (left - 1))) e) ∙ next)

      pub rdn-done : (b ≡ 43 → ⊥) → report_rest p (Some a.end) ≡ rest_of (rdn_from most_pairs (letters_at p at))
      rdn-done n = rw (ne_eqb b 43 n) at after

      pub rdn-more : (n : ℕ) → n ≡ left - 1 → b ≡ 43 → rest_of (rdn_from n (letters_at p (a.end + 1))) ≡ rest_of (rdn_from most_pairs (letters_at p at))
      rdn-more n f q =
          rw (f, sym (behind-is p a.end 43 (omega arith) (λ z. omega arith) (λ z. omega arith) (sym sign ∙ q)))
          (rw (eq-eqb b 43 q) at after)

-- one RDN alone
module _ (p : List ℕ) (r : Option ℕ) (told : report_rest p r ≡ rest_of (rdn_from most_pairs (letters_at p 0))) where
  alone_law : is_some (relative_distinguished_name (undoubled p)) ≡ is_some (bind (rest_of (rdn_from most_pairs (letters_at p 0))) (if_ended []))
  unfolding relative_distinguished_name letters_at
  alone_law = go (rdn_from most_pairs (letters (undoubled p)))
    where
      ended : (l : List rfc.Attribute) (ls : List rfc.Letter) → is_some (if_ended l ls) ≡ is_some (if_ended [] ls)
      ended l [] = refl
      ended l (x ∷ ls) = refl

      go : (o : Option (Read (List rfc.Attribute))) → is_some (alone o) ≡ is_some (bind (rest_of o) (if_ended []))
      go None = refl
      go (Some x) = ended x.got x.rest

  by_end : is_some (bind (report_rest p r) (if_ended [])) ≡ is_some (relative_distinguished_name (undoubled p))
  by_end = ap (λ (o : Option (List rfc.Letter)). is_some (bind o (if_ended []))) told ∙ sym alone_law

  pub alone-none : r ≡ None → false ≡ is_some (relative_distinguished_name (undoubled p))
  alone-none e = rw e at by_end

  pub alone-is : (end : ℕ) → r ≡ Some end → leb (length p) end ≡ is_some (relative_distinguished_name (undoubled p))
  alone-is end e = ended ∙ (rw e at by_end)
    where
      inside : end < length p → leb (length p) end ≡ false
      inside h = lt-leb (length p) end h

      ended : leb (length p) end ≡ is_some (if_ended [] (letters_at p end))
      ended =
          letters_cases p end (λ (ls : List rfc.Letter). leb (length p) end ≡ is_some (if_ended [] ls)) (λ h. le-leb (length p) end h)
          (λ h _. inside h) (λ h _ c ls. inside h) (λ h _. inside h)

-- ---- names
-- whether a name conforms, from the letters after its first RDN
abbrev conforms : ℕ → Option (List rfc.Letter) → Bool
conforms most None = false
conforms most (Some ls) = pick (is_before 44 ls) (is_some (rdns_from most (behind ls))) true

rdns-step : (most : ℕ) (ls : List rfc.Letter) → is_some (rdns_from (suc most) ls) ≡ conforms most (rest_of (rdn_from most_pairs ls))
unfolding rdns_from
rdns-step most ls = go (rdn_from most_pairs ls)
  where
    some_consed : (a : List rfc.Attribute) (o : Option (List (List rfc.Attribute))) → is_some (consed a o) ≡ is_some o
    some_consed a None = refl
    some_consed a (Some l) = refl

    choose : (r : Read (List rfc.Attribute)) (t : Bool) → is_some (pick t (consed r.got (rdns_from most (behind r.rest))) (Some (r.got ∷ [])))
        ≡ pick t (is_some (rdns_from most (behind r.rest))) true
    choose r true = some_consed r.got (rdns_from most (behind r.rest))
    choose r false = refl

    go : (o : Option (Read (List rfc.Attribute)))
        → is_some (bind o (λ r. pick (is_before 44 r.rest) (consed r.got (rdns_from most (behind r.rest))) (Some (r.got ∷ []))))
        ≡ conforms most (rest_of o)
    go None = refl
    go (Some r) = choose r (is_before 44 r.rest)

pub name-empty : (p : List ℕ) → length p ≡ 0 → true ≡ is_some (distinguished_name (undoubled p))
name-empty [] e = rw undoubled-nil
name-empty (b ∷ s) e = absurd (omega arith)

pub name-start : (p : List ℕ) → (length p ≡ 0 → ⊥) → is_some (rdns_from most_rdns (letters_at p 0)) ≡ is_some (distinguished_name (undoubled p))
unfolding letters_at
name-start p n = let h : 0 < length p = omega (arith, n) in rw (characters-cons p 0 h)

-- the loop: it is at place i, and so many RDNs may come
module _ (p : List ℕ) (i left : ℕ) (inv : is_some (rdns_from left (letters_at p i)) ≡ is_some (distinguished_name (undoubled p))) where
  pub name-over : left ≤ 0 → false ≡ is_some (distinguished_name (undoubled p))
  unfolding rdns_from
  name-over h = let z : left ≡ 0 = omega arith in rw z at inv

  module _ (h : 0 < left) (r : Option ℕ) (told : report_rest p r ≡ rest_of (rdn_from most_pairs (letters_at p i))) where
    name_next : conforms (left - 1) (report_rest p r) ≡ is_some (distinguished_name (undoubled p))
    name_next =
        let z : left ≡ suc (left - 1) = omega arith in
        ap (conforms (left - 1)) told ∙ sym (rdns-step (left - 1) (letters_at p i)) ∙ ap (λ (n : ℕ). is_some (rdns_from n (letters_at p i))) (sym z) ∙ inv

    pub name-none : r ≡ None → false ≡ is_some (distinguished_name (undoubled p))
    name-none e = rw e at name_next

    module _ (end b : ℕ) (e : r ≡ Some end) (sign : b ≡ octet p end) where
      name-after : pick (eqb b 44) (is_some (rdns_from (left - 1) (behind (letters_at p end)))) true ≡ is_some (distinguished_name (undoubled p))
      name-after =
          rw (sign, sym (before-is p end 44 (omega arith) (λ q. omega arith)))
          (sym (ap (λ (x : Option ℕ). conforms (left - 1) (report_rest p x)) e) ∙ name_next)

      pub name_done : (b ≡ 44 → ⊥) → true ≡ is_some (distinguished_name (undoubled p))
      name_done n = rw (ne_eqb b 44 n) at name-after

      pub name-more : (n : ℕ) → n ≡ left - 1 → b ≡ 44 → is_some (rdns_from n (letters_at p (end + 1))) ≡ is_some (distinguished_name (undoubled p))
      name-more n f q =
          rw (f, sym (behind-is p end 44 (omega arith) (λ z. omega arith) (λ z. omega arith) (sym sign ∙ q)))
          (rw (eq-eqb b 44 q) at name-after)
