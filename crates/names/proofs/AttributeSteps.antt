-- Attributes: laws of dotted types, then one lemma for each return and each turn; its premises are the facts as the code has them.
use mathlib.Core.Path.{◌≡◌, refl, sym, ap, ◌∙◌}
use mathlib.Core.Bool.{Bool, true, false, not, false≢true}
use Rattle.std.specs.Prelude.{Option, None, Some}
use mathlib.Core.List.{List, [], ◌∷◌}
use Prim.Native.Nat.{ℕ, ◌≤◌, ◌<◌, ◌+◌}
use native.Mathlib.Omega.{arith}
use borrow.Author.Tests.{ne_eqb, eqb-true, not-true, not-false}
use lib.Dec.{eqb}
use lib.ListN.{length}
use Rattle.octets.specs.Pick.{pick, both, either, bind}
use Rattle.octets.specs.Octets.{octet, every}
use Rattle.octets.specs.Text.{is_digit, is_number, pieces, onto_first}
use Rattle.octets.specs.Inner.Answers.{between}
use Rattle.octets.proofs.Laws.{both_true}
use Rattle.octets.proofs.TextLaws.{every-nil}
use Rattle.der.specs.Dotted.{every_number, is_dotted, rooted, dotted_arcs}
use Rattle.names.specs.Rfc4514 as rfc
use Rattle.names.specs.Rfc4514.{Read, bare, escaped, wrong, up_to_end, from_end, is_string, with_first, type_from, with_value, attribute_from}
use Rattle.names.specs.Inner.Reading.{letters_at, next_place, read, value_octets, value_from, report_value, UpTo, ValuePlaces}
use Rattle.names.specs.Inner.Reading.{is_type_octet, plain_type, report_type, Before, TypePlaces, report_attribute, Rising}
use Rattle.names.proofs.Laws.{between_cons, between_none}
use Rattle.names.proofs.LetterSteps.{letter-end, letters-plain, letters_cases}

-- ---- a dotted text has full stops and digits only
number_digits : (s : List ℕ) → is_number s ≡ true → every is_digit s ≡ true
unfolding is_number every is_digit
number_digits [] e = absurd (false≢true e)
number_digits (b ∷ s) e = go (eqb b 48) refl e
  where
    alone : (r : List ℕ) → eqb (length r) 0 ≡ true → every is_digit r ≡ true
    alone [] q = refl
    alone (c ∷ r) q = absurd (let z = eqb-true (length (c ∷ r)) 0 q in omega arith)

    go : (t : Bool) → eqb b 48 ≡ t → pick t (eqb (length s) 0) (every is_digit (b ∷ s)) ≡ true → every is_digit (b ∷ s) ≡ true
    go true q h = rw (eqb-true b 48 q) (alone s h)
    go false q h = h

every_piece : List (List ℕ) → Bool
every_piece [] = true
every_piece (q ∷ qs) = let r = every_piece qs in both (every is_digit q) r

numbers-digits : (qs : List (List ℕ)) → every_number qs ≡ true → every_piece qs ≡ true
unfolding every_number every_piece
numbers-digits [] e = refl
numbers-digits (q ∷ qs) e = let w = both_true (is_number q) (every_number qs) e in rw (number_digits q w.0, numbers-digits qs w.1)

pieces-plain : (s : List ℕ) → every_piece (pieces s) ≡ true → every is_type_octet s ≡ true
unfolding pieces every every_piece
pieces-plain [] e = refl
pieces-plain (b ∷ s) e = go (eqb b 46) (pieces s) (pieces-plain s) e
  where
    go : (t : Bool) (qs : List (List ℕ)) → (every_piece qs ≡ true → every is_type_octet s ≡ true) → every_piece (pick t ([] ∷ qs) (onto_first b qs)) ≡ true
        → both (either t (is_digit b)) (every is_type_octet s) ≡ true
    go true qs f h = f h
    go false [] f h = let w = both_true (is_digit b) true (both_true (both (is_digit b) true) true h).0 in rw w.0 (f refl)
    go false (q ∷ qs) f h =
        let w = both_true (both (is_digit b) (every is_digit q)) (every_piece qs) h in
        let v = both_true (is_digit b) (every is_digit q) w.0 in
        rw v.0 (f (rw v.1 w.1))

dotted-plain : (s : List ℕ) → is_dotted s ≡ true → every is_type_octet s ≡ true
unfolding is_dotted
dotted-plain s e = pieces-plain s (numbers-digits (pieces s) (both_true (every_number (pieces s)) (rooted (dotted_arcs s)) e).0)

-- ---- types
plain_with : (b : ℕ) (o : Option (Read (List ℕ))) → is_type_octet b ≡ true → plain_type (with_first b o) ≡ with_first b (plain_type o)
unfolding every
plain_with b None e = refl
plain_with b (Some t) e = rw e (go (every is_type_octet t.got))
  where
    go : (u : Bool) → pick u (Some (record { got = b ∷ t.got; rest = t.rest })) None ≡ with_first b (pick u (Some t) None)
    go true = refl
    go false = refl

plain-without : (b : ℕ) (o : Option (Read (List ℕ))) → is_type_octet b ≡ false → plain_type (with_first b o) ≡ None
unfolding every
plain-without b None e = refl
plain-without b (Some t) e = rw e

type-nil : type_from [] ≡ None
unfolding type_from
type-nil = refl

type-other : (b : ℕ) (ls : List rfc.Letter) → (b ≡ 61 → ⊥) → type_from (bare b ∷ ls) ≡ with_first b (type_from ls)
unfolding type_from
type-other b ls n = rw (ne_eqb b 61 n)

type_equals : (ls : List rfc.Letter) → type_from (bare 61 ∷ ls) ≡ read [] ls
unfolding type_from
type_equals ls = refl

type-wrong : type_from (wrong ∷ []) ≡ None
unfolding type_from
type-wrong = refl

type-escaped : (c : ℕ) (ls : List rfc.Letter) → type_from (escaped c ∷ ls) ≡ None
unfolding type_from
type-escaped c ls = refl

-- an octet of a dotted text is no backslash and no quote
module _ (b : ℕ) (e : is_type_octet b ≡ true) where
  no_backslash : b ≡ 92 → ⊥
  unfolding is_digit
  no_backslash q = false≢true (rw q at e)

  no_quote_lem : b ≡ 34 → ⊥
  unfolding is_digit
  no_quote_lem q = false≢true (rw q at e)

-- ---- the loop: it is at place i, and the type starts at place at
pub record Typed (p : List ℕ) (at i : ℕ) : Type 0 where
  pub from : at ≤ i
  pub on : (r : Option ℕ) → TypePlaces i (length p) r → report_type p i r ≡ plain_type (type_from (letters_at p i))
      → report_type p at r ≡ plain_type (type_from (letters_at p at))

module _ (p : List ℕ) (at i : ℕ) (inv : Typed p at i) where
  typeless : plain_type (type_from (letters_at p i)) ≡ None → report_type p at None ≡ plain_type (type_from (letters_at p at))
  typeless e = inv.on None tt (sym e)

  pub type-over : length p ≤ i → report_type p at None ≡ plain_type (type_from (letters_at p at))
  type-over h = typeless (ap (λ (ls : List rfc.Letter). plain_type (type_from ls)) (sym (letter-end p i h)) ∙ ap plain_type type-nil)

  module _ (h : i < length p) where
    pub type-places : TypePlaces at (length p) (Some i)
    type-places = record { from = inv.from; before = h }

    pub type-found : octet p i ≡ 61 → report_type p at (Some i) ≡ plain_type (type_from (letters_at p at))
    type-found e = inv.on (Some i) (record { from = omega arith; before = h }) (rw (between_none p i) (sym here))
      where
        empty : (ls : List rfc.Letter) → plain_type (read [] ls) ≡ read [] ls
        empty ls = rw (every-nil is_type_octet)

        here : plain_type (type_from (letters_at p i)) ≡ read [] (letters_at p (i + 1))
        here =
            ap (λ (ls : List rfc.Letter). plain_type (type_from ls))
            (letters-plain p i h (λ q. omega arith) (λ q. omega arith) ∙ ap (λ (b : ℕ). bare b ∷ letters_at p (i + 1)) e)
            ∙ ap plain_type (type_equals (letters_at p (i + 1))) ∙ empty (letters_at p (i + 1))

    module _ (n : octet p i ≡ 61 → ⊥) (u : Bool) (asked : u ≡ is_type_octet (octet p i)) where
      pub type-none : not u ≡ true → report_type p at None ≡ plain_type (type_from (letters_at p at))
      type-none e =
          typeless (letters_cases p i (λ (ls : List rfc.Letter). plain_type (type_from ls) ≡ None) (λ _. ap plain_type type-nil)
          (λ _ _. ap plain_type type-wrong) (λ _ _ c ls. ap plain_type (type-escaped c ls))
          (λ _ _. ap plain_type (type-other (octet p i) (letters_at p (next_place p i)) n)
          ∙ plain-without (octet p i) (type_from (letters_at p (next_place p i))) (sym asked ∙ not-true u e)))

      pub type-on : not u ≡ false → Typed p at (i + 1)
      type-on e = let f = inv.from in record { from = omega arith; on = λ r b q. inv.on r (lower r b) (step r b q) }
        where
          plain : is_type_octet (octet p i) ≡ true
          plain = sym asked ∙ not-false u e

          lower : (r : Option ℕ) → TypePlaces (i + 1) (length p) r → TypePlaces i (length p) r
          lower None b = tt
          lower (Some k) b = let f = b.from in record { from = omega arith; before = b.before }

          report : (r : Option ℕ) → TypePlaces (i + 1) (length p) r → report_type p i r ≡ with_first (octet p i) (report_type p (i + 1) r)
          report None b = refl
          report (Some k) b =
              let f = b.from in
              let l : i < k = omega arith in
              ap (λ (s : List ℕ). read s (letters_at p (k + 1))) (between_cons p i k h l)

          here : plain_type (type_from (letters_at p i)) ≡ with_first (octet p i) (plain_type (type_from (letters_at p (i + 1))))
          here =
              ap (λ (ls : List rfc.Letter). plain_type (type_from ls)) (letters-plain p i h (no_backslash (octet p i) plain) (no_quote_lem (octet p i) plain))
              ∙ ap plain_type (type-other (octet p i) (letters_at p (i + 1)) n) ∙ plain_with (octet p i) (type_from (letters_at p (i + 1))) plain

          step : (r : Option ℕ) → TypePlaces (i + 1) (length p) r → report_type p (i + 1) r ≡ plain_type (type_from (letters_at p (i + 1)))
              → report_type p i r ≡ plain_type (type_from (letters_at p i))
          step r b q = report r b ∙ ap (with_first (octet p i)) q ∙ sym here

-- ---- attributes
abbrev with_type : List ℕ → Option (Read (List ℕ)) → Option (Read rfc.Attribute)
with_type t None = None
with_type t (Some v) = Some (record { got = record { type = t; value = v.got }; rest = v.rest })

value_law : (t : Read (List ℕ)) → with_value t ≡ pick (is_dotted t.got) (with_type t.got (value_from t.rest)) None
unfolding value_from
value_law t = go (is_dotted t.got) (is_string (up_to_end t.rest))
  where
    go : (d s : Bool) → pick (both d s) (Some (record { got = record { type = t.got; value = value_octets t.rest }; rest = from_end t.rest })) None
        ≡ pick d (with_type t.got (pick s (read (value_octets t.rest) (from_end t.rest)) None)) None
    go true true = refl
    go true false = refl
    go false s = refl

undotted : (t : Read (List ℕ)) → every is_type_octet t.got ≡ false → with_value t ≡ None
undotted t e = value_law t ∙ go (is_dotted t.got) (dotted-plain t.got)
  where
    go : (d : Bool) → (d ≡ true → every is_type_octet t.got ≡ true) → pick d (with_type t.got (value_from t.rest)) None ≡ None
    go true f = absurd (false≢true (sym e ∙ f refl))
    go false f = refl

attribute_law : (ls : List rfc.Letter) → attribute_from ls ≡ bind (plain_type (type_from ls)) with_value
unfolding attribute_from
attribute_law ls = go (type_from ls)
  where
    go : (o : Option (Read (List ℕ))) → bind o with_value ≡ bind (plain_type o) with_value
    go None = refl
    go (Some t) = choose (every is_type_octet t.got) (undotted t)
      where
        choose : (u : Bool) → (u ≡ false → with_value t ≡ None) → with_value t ≡ bind (pick u (Some t) None) with_value
        choose true f = refl
        choose false f = f refl

module _ (p : List ℕ) (at : ℕ) (r : Option ℕ) (told : report_type p at r ≡ plain_type (type_from (letters_at p at))) where
  attribute-by : attribute_from (letters_at p at) ≡ bind (report_type p at r) with_value
  attribute-by = attribute_law (letters_at p at) ∙ ap (λ (o : Option (Read (List ℕ))). bind o with_value) (sym told)

  pub attribute_typeless : r ≡ None → report_attribute p at None ≡ attribute_from (letters_at p at)
  attribute_typeless e = sym (attribute-by ∙ rw e)

  module _ (equals : ℕ) (e : r ≡ Some equals) (t : List ℕ) (u : Bool) (part : t ≡ between p at equals) (asked : u ≡ is_dotted t) where
    here : attribute_from (letters_at p at) ≡ pick u (with_type (between p at equals) (value_from (letters_at p (equals + 1)))) None
    here = attribute-by ∙ ap (λ (x : Option ℕ). bind (report_type p at x) with_value) e
        ∙ value_law (record { got = between p at equals; rest = letters_at p (equals + 1) }) ∙ rw (asked, part)

    pub attribute_undotted : not u ≡ true → report_attribute p at None ≡ attribute_from (letters_at p at)
    attribute_undotted h = sym (here ∙ rw (not-true u h))

    module _ (h : not u ≡ false) (v : Option ℕ) (value : report_value p (equals + 1) v ≡ value_from (letters_at p (equals + 1))) where
      there : attribute_from (letters_at p at) ≡ with_type (between p at equals) (report_value p (equals + 1) v)
      there = here ∙ rw (not-false u h, value)

      pub attribute_valueless : v ≡ None → report_attribute p at None ≡ attribute_from (letters_at p at)
      attribute_valueless q = sym (there ∙ rw q)

      pub attribute-is : (end : ℕ) → v ≡ Some end
          → report_attribute p at (Some (record { equals = equals; end = end })) ≡ attribute_from (letters_at p at)
      attribute-is end q = sym (there ∙ rw q)

module _ (p : List ℕ) (at equals : ℕ) (r : Option ℕ) (places : TypePlaces at (length p) r) (e : r ≡ Some equals) where
  equals_places : Before at (length p) equals
  equals_places = rw e at places

  pub attribute-places : (end : ℕ) (v : Option ℕ) → ValuePlaces (equals + 1) (length p) v → v ≡ Some end
      → Rising at (length p) (record { equals = equals; end = end })
  attribute-places end v ended q =
      let b = equals_places in
      let w : UpTo (equals + 1) (length p) end = rw q at ended in
      let l = w.from in
      record { from = b.from; before = omega arith; up_to = w.up_to }
