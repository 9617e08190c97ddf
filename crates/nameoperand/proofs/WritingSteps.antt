-- Writing RDNs and names: laws of one attribute and one RDN more, then one lemma for each need.
use mathlib.Core.Path.{◌≡◌, refl, sym, ap, ap₂, ◌∙◌, subst}
use mathlib.Core.Bool.{Bool, true, false, false≢true}
use Rattle.std.specs.Prelude.{Option, None, Some}
use Rattle.std.proofs.lemmas.Option.{none-some}
use mathlib.Core.List.{List, [], ◌∷◌, ◌++◌, append_assoc, append-nil, map}
use Prim.Native.Nat.{ℕ, zero, suc, ◌≤◌, ◌<◌, ◌+◌, ◌-◌, ◌*◌}
use native.Mathlib.Omega.{arith}
use native.Mathlib.Numerals.{add-one}
use borrow.Author.Tests.{eq-eqb, ne_eqb}
use lib.Dec.{eqb}
use lib.ListN.{length, take, set, length-set}
use lib.Seq.{take-suc-set}
use Rattle.octets.specs.Pick.{pick, both, bind, consed, is_some}
use Rattle.octets.specs.Octets.{octet}
use Rattle.octets.specs.Text.{is_number, decimal_from, onto_first, pieces}
use Rattle.octets.specs.Quoted.{undoubled}
use Rattle.octets.specs.Inner.Answers.{between}
use Rattle.octets.proofs.Laws.{octet-inside}
use Rattle.octets.proofs.QuotedLaws.{undoubled-nil}
use Rattle.der.specs.Dotted.{every_number, rooted, is_dotted}
use Rattle.der.proofs.DottedLaws.{dotted-pieces}
use Rattle.der.specs.Names.{most_rdns, most_pairs}
use Rattle.strings.specs.Inner.Escaped.{unescaped}
use Rattle.names.specs.Rfc4514 as rfc
use Rattle.names.specs.Rfc4514.{Read, letters, with_first, with_value, is_string, up_to_end, attribute_from, is_before, behind, rdn_from, rdns_from, distinguished_name}
use Rattle.names.specs.Rfc4514.{type_from, if_ended, alone, relative_distinguished_name}
use Rattle.names.specs.Inner.Reading.{letters_at, report_attribute, Rising, AttributePlaces}
use Rattle.names.specs.Inner.Operand.{attribute_octets, attributes_octets, rdn_octets, name_octets, or_none}
use Rattle.names.specs.declared.Attribute.{Attribute}
use Rattle.names.proofs.Laws.{characters-cons}
use Rattle.names.proofs.NameSteps.{before-is, behind-is}
use Rattle.nameoperand.specs.Inner.Writing.{RdnWritten}
use Rattle.nameoperand.specs.declared.Written.{Written}
use Rattle.nameoperand.proofs.Steps.{between-length}

-- ---- an attribute type has three octets at least
abbrev good_pieces : List (List ℕ) → Bool
good_pieces ps = both (every_number ps) (rooted (map (decimal_from 0) ps))

bad : (x : Bool) → both x false ≡ true → ⊥
bad true e = false≢true e
bad false e = false≢true e

dotted-long : (t : List ℕ) → good_pieces (pieces t) ≡ true → 3 ≤ length t
unfolding every_number pieces is_number
dotted-long [] e = absurd (false≢true e)
dotted-long (a ∷ []) e = absurd (go (eqb a 46) e)
  where
    go : (u : Bool) → good_pieces (pick u ([] ∷ [] ∷ []) ((a ∷ []) ∷ [])) ≡ true → ⊥
    go true q = false≢true q
    go false q = bad (every_number ((a ∷ []) ∷ [])) q
dotted-long (a ∷ b ∷ []) e = absurd (go (eqb a 46) (eqb b 46) e)
  where
    go : (u v : Bool)
        → good_pieces (pick u ([] ∷ pick v ([] ∷ [] ∷ []) ((b ∷ []) ∷ [])) (onto_first a (pick v ([] ∷ [] ∷ []) ((b ∷ []) ∷ [])))) ≡ true → ⊥
    go true v q = false≢true q
    go false true q = wrong (is_number (a ∷ [])) q
      where
        wrong : (x : Bool) → both (both x (both false true)) (rooted (map (decimal_from 0) ((a ∷ []) ∷ [] ∷ []))) ≡ true → ⊥
        wrong true r = false≢true r
        wrong false r = false≢true r
    go false false q = bad (every_number ((a ∷ b ∷ []) ∷ [])) q
dotted-long (a ∷ b ∷ c ∷ t) e = omega arith

abbrev type_or : Option (Read rfc.Attribute) → List ℕ
type_or None = []
type_or (Some a) = a.got.type

type-dotted : (ls : List rfc.Letter) (a : rfc.Attribute) (rest : List rfc.Letter)
    → attribute_from ls ≡ Some (record { got = a; rest = rest }) → is_dotted a.type ≡ true
unfolding attribute_from
type-dotted ls a rest = go (type_from ls)
  where
    go : (o : Option (Read (List ℕ))) → bind o with_value ≡ Some (record { got = a; rest = rest }) → is_dotted a.type ≡ true
    go None e = absurd (none-some _ e)
    go (Some t) e = tested (is_dotted t.got) refl (is_string (up_to_end t.rest)) e
      where
        tested : (u : Bool) → is_dotted t.got ≡ u → (v : Bool)
            → pick {A = Option (Read rfc.Attribute)} (both u v)
            (Some (record { got = record { type = t.got; value = map rfc.octet_of (up_to_end t.rest) }; rest = rfc.from_end t.rest })) None
            ≡ Some (record { got = a; rest = rest }) → is_dotted a.type ≡ true
        tested true q true f = ap is_dotted (sym (ap type_or f)) ∙ q
        tested true q false f = absurd (none-some _ f)
        tested false q v f = absurd (none-some _ f)

pub type-long : (p : List ℕ) (at : ℕ) (r : Option Attribute) (a : Attribute)
    → report_attribute p at r ≡ attribute_from (letters_at p at) → AttributePlaces at (length p) r
    → r ≡ Some a → at + 3 ≤ a.equals
type-long p at r a told places e =
    let rises : Rising at (length p) a = subst (AttributePlaces at (length p)) e places in
    let long = dotted-long (between p at a.equals) (sym (dotted-pieces (between p at a.equals))
    ∙ type-dotted (letters_at p at) (record { type = between p at a.equals; value = unescaped (between p (a.equals + 1) a.end) })
    (letters_at p a.end) (sym (rw e at told))) in
    omega (arith, long, between-length p at a.equals (omega (arith, rises.before, rises.up_to)), rises.from)

-- ---- one attribute more
abbrev read_as : {A : Type 0} → A → List rfc.Letter → Option (Read A)
read_as a rest = Some (record { got = a; rest = rest })

-- the attributes behind the first, where a plus sign stands between
pub record Behind (most : ℕ) (ls : List rfc.Letter) (a : rfc.Attribute) (l : List rfc.Attribute) (rest : List rfc.Letter) : Type 0 where
  pub others : List rfc.Attribute
  pub is : l ≡ a ∷ others
  pub read : rdn_from most ls ≡ read_as others rest

abbrev got_or : {A : Type 0} → Option (Read (List A)) → List A
got_or None = []
got_or (Some r) = r.got

abbrev rest_or : {A : Type 0} → Option (Read A) → List rfc.Letter
rest_or None = []
rest_or (Some r) = r.rest

module _ (most : ℕ) (ls : List rfc.Letter) (a : rfc.Attribute) (after : List rfc.Letter) (l : List rfc.Attribute) (rest : List rfc.Letter)
    (first : attribute_from ls ≡ read_as a after) (e : rdn_from (suc most) ls ≡ read_as l rest) where
  choice : pick (is_before 43 after) (with_first a (rdn_from most (behind after))) (read_as (a ∷ []) after) ≡ read_as l rest
  unfolding rdn_from
  choice = rw first at e

  more : is_before 43 after ≡ true → Behind most (behind after) a l rest
  more q = go (rdn_from most (behind after)) refl (rw q at choice)
    where
      go : (o : Option (Read (List rfc.Attribute))) → rdn_from most (behind after) ≡ o → with_first a o ≡ read_as l rest → Behind most (behind after) a l rest
      go None f g = absurd (none-some _ g)
      go (Some r) f g = record { others = r.got; is = sym (ap got_or g); read = f ∙ ap (λ (x : List rfc.Letter). read_as r.got x) (ap rest_or g) }

  alone-is : is_before 43 after ≡ false → l ≡ a ∷ []
  alone-is q = sym (ap got_or (rw q at choice))

  alone_rest : is_before 43 after ≡ false → after ≡ rest
  alone_rest q = ap rest_or (rw q at choice)

some_left : (most : ℕ) (ls : List rfc.Letter) (l : List rfc.Attribute) (rest : List rfc.Letter) → rdn_from most ls ≡ read_as l rest → 0 < most
unfolding rdn_from
some_left zero ls l rest e = absurd (none-some _ e)
some_left (suc most) ls l rest e = omega arith

-- ---- the attributes of an RDN: `count` of them stand in the memory up to n, and what is left from place `at` on is known
pub record Writing (p : List ℕ) (first from : ℕ) (m₀ : List ℕ) (at n count : ℕ) (m : List ℕ) : Type 0 where
  pub long : length m ≡ 5120
  pub behind : 2 * n ≤ 5 * at
  pub begun : first ≤ at
  pub few : count < 4
  pub left : List rfc.Attribute
  pub rest : List rfc.Letter
  pub read : rdn_from (most_pairs - count) (letters_at p at) ≡ read_as left rest
  pub whole : List rfc.Attribute
  pub all : rdn_from most_pairs (letters_at p first) ≡ read_as whole rest
  pub octets : take n m ++ attributes_octets left ≡ take from m₀ ++ attributes_octets whole
  pub number : count + length left ≡ length whole

pub writing_start : (p : List ℕ) (first from : ℕ) (m : List ℕ) → length m ≡ 5120 → 2 * from ≤ 5 * first → is_some (rdn_from most_pairs (letters_at p first)) ≡ true
    → Writing p first from m first from 0 m
writing_start p first from m l b h = go (rdn_from most_pairs (letters_at p first)) refl h
  where
    go : (o : Option (Read (List rfc.Attribute))) → rdn_from most_pairs (letters_at p first) ≡ o → is_some o ≡ true → Writing p first from m first from 0 m
    go None e q = absurd (false≢true q)
    go (Some r) e q = record {
      long = l;
      behind = b;
      begun = omega arith;
      few = omega arith;
      left = r.got;
      rest = r.rest;
      read = e;
      whole = r.got;
      all = e;
      octets = refl;
      number = omega arith;
    }

module _ (p : List ℕ) (first from : ℕ) (m₀ : List ℕ) (at n count : ℕ) (m : List ℕ) (v : Writing p first from m₀ at n count m) (r : Option Attribute)
    (told : report_attribute p at r ≡ attribute_from (letters_at p at)) where
  abbrev most : ℕ
  most = most_pairs - (count + 1)

  left_is : most_pairs - count ≡ suc most
  left_is = let f = v.few in omega arith

  read-on : rdn_from (suc most) (letters_at p at) ≡ read_as v.left v.rest
  read-on = ap (λ (k : ℕ). rdn_from k (letters_at p at)) (sym left_is) ∙ v.read

  -- an attribute is there
  pub writing_none : (x : Written) → r ≡ None → RdnWritten p first from m₀ x m
  unfolding rdn_from
  writing_none x e = absurd (none-some _ (ap (λ (o : Option (Read rfc.Attribute)). bind o (λ a.
      pick (is_before 43 a.rest) (with_first a.got (rdn_from most (behind a.rest))) (Some (record { got = a.got ∷ []; rest = a.rest }))))
      (sym (ap (report_attribute p at) e) ∙ told) ∙ read-on))

  pub writing_long : length m ≡ 5120
  writing_long = v.long

  pub writing_behind : 2 * n ≤ 5 * at
  writing_behind = v.behind

  pub count_fits : count + 1 < 18446744073709551616
  count_fits = omega (arith, v.few)

  module _ (a : Attribute) (e : r ≡ Some a) where
    abbrev this : rfc.Attribute
    this = record { type = between p at a.equals; value = unescaped (between p (a.equals + 1) a.end) }

    this-read : attribute_from (letters_at p at) ≡ read_as this (letters_at p a.end)
    this-read = sym told ∙ ap (report_attribute p at) e

    module _ (places : AttributePlaces at (length p) r) where
      rising : Rising at (length p) a
      rising = subst (AttributePlaces at (length p)) e places

      pub value-behind : a.equals < a.end
      value-behind = rising.before

      pub value-within : a.end ≤ length p
      value-within = rising.up_to

      module _ (b : ℕ) (sign : b ≡ octet p a.end) (n₁ : ℕ) (m₁ : List ℕ) (written : take n₁ m₁ ≡ take n m ++ attribute_octets this)
          (bound : 2 * n₁ + 6 ≤ 5 * a.end) where
        before : is_before 43 (letters_at p a.end) ≡ eqb b 43
        before = before-is p a.end 43 (omega arith) (λ q. omega arith) ∙ ap (λ (x : ℕ). eqb x 43) (sym sign)

        module _ (q : b ≡ 43 → ⊥) where
          last : v.left ≡ this ∷ []
          last = alone-is most (letters_at p at) this (letters_at p a.end) v.left v.rest this-read read-on (before ∙ ne_eqb b 43 q)

          pub count_room : length p ≤ 2048 → n₁ < 5120
          count_room short = omega (arith, rising.up_to)

          pub count_small : count + 1 < 256
          count_small = omega (arith, v.few)

          pub writing_done : (n₂ : ℕ) (m₂ : List ℕ) → take n₂ m₂ ≡ take n₁ m₁ ++ ((count + 1) ∷ []) → n₂ ≡ n₁ + 1 → length m₂ ≡ 5120
              → RdnWritten p first from m₀ (record { end = a.end; place = n₂ }) m₂
          unfolding attributes_octets
          writing_done n₂ m₂ f g l = record {
            long = l;
            rdn = v.whole;
            read = v.all ∙ ap (λ (x : List rfc.Letter). read_as v.whole x)
                (sym (alone_rest most (letters_at p at) this (letters_at p a.end) v.left v.rest this-read read-on (before ∙ ne_eqb b 43 q)));
            octets = f ∙ ap₂ (λ (x : List ℕ) (k : ℕ). x ++ (k ∷ []))
                (written ∙ ap (λ (x : List ℕ). take n m ++ x) (sym (append-nil (attribute_octets this)))
                ∙ ap (λ (x : List rfc.Attribute). take n m ++ attributes_octets x) (sym last) ∙ v.octets)
                (omega (arith, v.number, ap length last)) ∙ append_assoc (take from m₀) (attributes_octets v.whole) (length v.whole ∷ []);
            on = omega (arith, v.begun, rising.from, rising.before);
            within = rising.up_to;
            most = omega arith;
          }

        module _ (q : b ≡ 43) where
          others_are : Behind most (behind (letters_at p a.end)) this v.left v.rest
          others_are = more_of (before ∙ eq-eqb b 43 q)
            where
              more_of : is_before 43 (letters_at p a.end) ≡ true → Behind most (behind (letters_at p a.end)) this v.left v.rest
              more_of = more most (letters_at p at) this (letters_at p a.end) v.left v.rest this-read read-on

          inside : a.end < length p
          inside = octet-inside p a.end (omega arith)

          pub writing_on : length p < 18446744073709551616 → a.end + 1 < 18446744073709551616
          writing_on fits = omega (arith, inside)

          pub writing_falls : length p - (a.end + 1) < length p - at
          writing_falls = omega (arith, inside, rising.from, rising.before)

          pub writing_more : length m₁ ≡ 5120 → Writing p first from m₀ (a.end + 1) n₁ (count + 1) m₁
          unfolding attributes_octets
          writing_more l = record {
            long = l;
            behind = omega arith;
            begun = omega (arith, v.begun, rising.from, rising.before);
            few = omega (arith, some_left most (behind (letters_at p a.end)) others_are.others v.rest others_are.read);
            left = others_are.others;
            rest = v.rest;
            read = ap (rdn_from most) (sym (behind-is p a.end 43 (omega arith) (λ z. omega arith) (λ z. omega arith) (sym sign ∙ q))) ∙ others_are.read;
            whole = v.whole;
            all = v.all;
            octets = ap (λ (x : List ℕ). x ++ attributes_octets others_are.others) written
                ∙ append_assoc (take n m) (attribute_octets this) (attributes_octets others_are.others)
                ∙ ap (λ (x : List rfc.Attribute). take n m ++ attributes_octets x) (sym others_are.is) ∙ v.octets;
            number = omega (arith, v.number, ap length others_are.is);
          }

-- ---- the number of an RDN's attributes
pub count-written : (m : List ℕ) (n k : ℕ) → length m ≡ 5120 → n < 5120 → take (n + 1) (set m n k) ≡ take n m ++ (k ∷ [])
count-written m n k l h = ap (λ (y : ℕ). take y (set m n k)) (add-one n) ∙ take-suc-set m n k (omega arith)

pub count_long : (m : List ℕ) (n k : ℕ) → length m ≡ 5120 → length (set m n k) ≡ 5120
count_long m n k l = length-set m n k ∙ l

-- ---- one RDN
module _ (p m₀ m : List ℕ) (r : Written) (v : RdnWritten p 0 0 m₀ r m) where
  pub single-long : length m ≡ 5120
  single-long = v.long

  pub single-written : is_some (relative_distinguished_name (undoubled p)) ≡ true
      → take r.place m ≡ rdn_octets (or_none (relative_distinguished_name (undoubled p)))
  unfolding relative_distinguished_name letters_at
  single-written h = v.octets ∙ ap (λ (l : List rfc.Attribute). rdn_octets l) (go (letters_at p r.end) v.read (rw v.read at h))
    where
      go : (ls : List rfc.Letter) → rdn_from most_pairs (letters (undoubled p)) ≡ read_as v.rdn ls → is_some (if_ended v.rdn ls) ≡ true
          → v.rdn ≡ or_none (alone (rdn_from most_pairs (letters (undoubled p))))
      go [] e q = rw e
      go (l ∷ ls) e q = absurd (false≢true q)

pub single-read : (p : List ℕ) → is_some (relative_distinguished_name (undoubled p)) ≡ true → is_some (rdn_from most_pairs (letters_at p 0)) ≡ true
unfolding relative_distinguished_name letters_at
single-read p h = go (rdn_from most_pairs (letters (undoubled p))) h
  where
    go : (o : Option (Read (List rfc.Attribute))) → is_some (alone o) ≡ true → is_some o ≡ true
    go None e = e
    go (Some r) e = refl

-- ---- a name: what is left from place `at` on is known
pub record Naming (p : List ℕ) (at n : ℕ) (m : List ℕ) : Type 0 where
  pub long : length m ≡ 5120
  pub behind : 2 * n ≤ 5 * at
  pub most : ℕ
  pub left : List (List rfc.Attribute)
  pub read : rdns_from most (letters_at p at) ≡ Some left
  pub octets : take n m ++ name_octets left ≡ name_octets (or_none (distinguished_name (undoubled p)))

whole-name : (p : List ℕ) → (length p ≡ 0 → ⊥) → rdns_from most_rdns (letters_at p 0) ≡ distinguished_name (undoubled p)
unfolding letters_at
whole-name p n = let h : 0 < length p = omega (arith, n) in rw (characters-cons p 0 h)

pub naming_none : (p m : List ℕ) → length p ≡ 0 → take 0 m ≡ name_octets (or_none (distinguished_name (undoubled p)))
unfolding name_octets
naming_none [] m e = rw undoubled-nil
naming_none (b ∷ s) m e = absurd (omega arith)

pub naming_start : (p m : List ℕ) → (length p ≡ 0 → ⊥) → length m ≡ 5120 → is_some (distinguished_name (undoubled p)) ≡ true → Naming p 0 0 m
naming_start p m n l h = go (distinguished_name (undoubled p)) refl h
  where
    go : (o : Option (List (List rfc.Attribute))) → distinguished_name (undoubled p) ≡ o → is_some o ≡ true → Naming p 0 0 m
    go None e q = absurd (false≢true q)
    go (Some rs) e q = record {
      long = l;
      behind = omega arith;
      most = most_rdns;
      left = rs;
      read = whole-name p n ∙ e;
      octets = ap (λ (o : Option (List (List rfc.Attribute))). name_octets (or_none o)) (sym e);
    }

abbrev first_or : Option (List (List rfc.Attribute)) → List (List rfc.Attribute)
first_or None = []
first_or (Some l) = l

-- the RDNs behind the first, where a comma stands between
record Following (most : ℕ) (ls : List rfc.Letter) (r : List rfc.Attribute) (left : List (List rfc.Attribute)) : Type 0 where
  pub others : List (List rfc.Attribute)
  pub is : left ≡ r ∷ others
  pub read : rdns_from most ls ≡ Some others

module _ (p : List ℕ) (at n : ℕ) (m : List ℕ) (v : Naming p at n m) where
  pub naming_long : length m ≡ 5120
  naming_long = v.long

  pub naming_behind : 2 * n ≤ 5 * at
  naming_behind = v.behind

  abbrev further : ℕ → Read (List rfc.Attribute) → Option (List (List rfc.Attribute))
  further k r = pick (is_before 44 r.rest) (consed r.got (rdns_from k (behind r.rest))) (Some (r.got ∷ []))

  -- an RDN is there
  one-read : (k : ℕ) → rdns_from k (letters_at p at) ≡ Some v.left → bind (rdn_from most_pairs (letters_at p at)) (further (k - 1)) ≡ Some v.left
  unfolding rdns_from
  one-read zero e = absurd (none-some _ e)
  one-read (suc k) e = let z : suc k - 1 ≡ k = omega arith in ap (λ (y : ℕ). bind (rdn_from most_pairs (letters_at p at)) (further y)) z ∙ e

  pub naming_read : is_some (rdn_from most_pairs (letters_at p at)) ≡ true
  naming_read = go (rdn_from most_pairs (letters_at p at)) (one-read v.most v.read)
    where
      go : (o : Option (Read (List rfc.Attribute))) → bind o (further (v.most - 1)) ≡ Some v.left → is_some o ≡ true
      go None e = absurd (none-some _ e)
      go (Some r) e = refl

  module _ (r : Written) (m₁ : List ℕ) (w : RdnWritten p at n m r m₁) (b : ℕ) (sign : b ≡ octet p r.end) where
    after : pick (eqb b 44) (consed w.rdn (rdns_from (v.most - 1) (behind (letters_at p r.end)))) (Some (w.rdn ∷ [])) ≡ Some v.left
    after =
        rw (sign, sym (before-is p r.end 44 (omega arith) (λ q. omega arith)))
        (sym (ap (λ (o : Option (Read (List rfc.Attribute))). bind o (further (v.most - 1))) w.read) ∙ one-read v.most v.read)

    pub naming_kept : length m₁ ≡ 5120
    naming_kept = w.long

    pub naming_done : (b ≡ 44 → ⊥) → take r.place m₁ ≡ name_octets (or_none (distinguished_name (undoubled p)))
    unfolding name_octets
    naming_done q =
        let last : w.rdn ∷ [] ≡ v.left = ap first_or (rw (ne_eqb b 44 q) at after) in
        w.octets ∙ ap (λ (x : List ℕ). take n m ++ x) (sym (append-nil (rdn_octets w.rdn)))
        ∙ ap (λ (x : List (List rfc.Attribute)). take n m ++ name_octets x) last ∙ v.octets

    module _ (q : b ≡ 44) where
      inside-name : r.end < length p
      inside-name = octet-inside p r.end (omega arith)

      pub naming_on : length p < 18446744073709551616 → r.end + 1 < 18446744073709551616
      naming_on fits = omega (arith, inside-name)

      pub naming_falls : length p - (r.end + 1) < length p - at
      naming_falls = omega (arith, inside-name, w.on)

      following : Following (v.most - 1) (behind (letters_at p r.end)) w.rdn v.left
      following = go (rdns_from (v.most - 1) (behind (letters_at p r.end))) refl (rw (eq-eqb b 44 q) at after)
        where
          go : (o : Option (List (List rfc.Attribute))) → rdns_from (v.most - 1) (behind (letters_at p r.end)) ≡ o → consed w.rdn o ≡ Some v.left
              → Following (v.most - 1) (behind (letters_at p r.end)) w.rdn v.left
          go None e f = absurd (none-some _ f)
          go (Some l) e f = record { others = l; is = sym (ap first_or f); read = e }

      pub naming_more : Naming p (r.end + 1) r.place m₁
      unfolding name_octets
      naming_more = record {
        long = w.long;
        behind = omega (arith, w.most);
        most = v.most - 1;
        left = following.others;
        read = ap (rdns_from (v.most - 1)) (sym (behind-is p r.end 44 (omega arith) (λ z. omega arith) (λ z. omega arith) (sym sign ∙ q))) ∙ following.read;
        octets = ap (λ (x : List ℕ). x ++ name_octets following.others) w.octets
            ∙ append_assoc (take n m) (rdn_octets w.rdn) (name_octets following.others)
            ∙ ap (λ (x : List (List rfc.Attribute)). take n m ++ name_octets x) (sym following.is) ∙ v.octets;
      }
