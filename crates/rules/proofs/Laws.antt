-- What the steps and the layers above use: the rule for the type of a row by the row, and what a text asserts.
use mathlib.Core.Path.{◌≡◌, refl, sym, ap, ap₂, subst, ◌∙◌}
use mathlib.Core.Bool.{Bool, true, false, false≢true}
use Rattle.std.specs.Prelude.{Option, None, Some}
use mathlib.Core.List.{List}
use Prim.Native.Nat.{ℕ, zero, suc, ◌<◌, ◌+◌}
use native.Mathlib.Omega.{arith}
use native.Mathlib.Nat.{add-zero}
use borrow.Author.Tests.{ne_eqb, eqb-true}
use lib.Dec.{eqb}
use lib.ListN.{length}
use Rattle.octets.specs.Pick.{pick, both, either, all, bind, is_some}
use Rattle.octets.specs.Quoted.{unquoted}
use Rattle.octets.proofs.Laws.{all_none}
use Rattle.octets.proofs.TextLaws.{all_suc}
use Rattle.der.specs.Kind.{is_string}
use Rattle.der.proofs.MeaningLaws.{string_kinds}
use Rattle.rows.specs.Paper.{table_limits}
use Rattle.rows.specs.Row.{row_at, kind_at, named_at, mode_at, number_at, is_list, members_at}
use Rattle.rows.proofs.KindLaws.{list_kinds}
use Rattle.types.specs.Types.{untagged, explicit, implicit, Ty, Members, tagging_of, members_from, typed, type_from}
use Rattle.types.proofs.TypeCases.{tagging_cases, member-tagging, members-none, members-more, typed_cases}
use Rattle.table.specs.Inner.Rows.{table_rows, place_at, type_at, members_after, member_kind_at}
use Rattle.table.specs.Inner.Words.{Worded}
use Rattle.reference.specs.Allowed.{Target, of_type}
use Rattle.rules.specs.Rule.{Syntax, booleans, integers, object_identifiers, octet_strings, bit_strings, strings, times, names, rdns, Rule, present, equal, less, Known}
use Rattle.rules.specs.Rule.{rule_of}
use Rattle.rules.specs.Suits.{suits_kind, is_untagged, is_string_type, all_strings, suits_target, suits}
use Rattle.times.specs.Asserted.{asserted_time}
use Rattle.names.specs.Compared.{Compared, asserted_name, asserted_rdn}
use Rattle.der.specs.declared.Time.{Time}
use Rattle.rules.specs.Asserted.{Asserted, time, name, rdn, names_at, asserted_bits_by, asserted_in, asserted_of}
use Rattle.rules.specs.RuleFor.{comparison, if_for, rule_for}
use Rattle.rules.specs.Inner.Answers.{of_bits, read_by_target, conforms_to, conforms, time_or, name_or, rdn_or, said_in, said, string_row}

-- ---- tests in a row, from the first and from the last
front : (ℕ → Bool) → ℕ → ℕ → Bool
front g a zero = true
front g a (suc n) = both (g a) (front g (a + 1) n)

swap : (x y z : Bool) → both x (both y z) ≡ both y (both x z)
swap true y z = refl
swap false true z = refl
swap false false z = refl

front_last : (g : ℕ → Bool) (a n : ℕ) → front g a (suc n) ≡ both (g (a + n)) (front g a n)
unfolding front
front_last g a zero = ap (λ (x : ℕ). both (g x) true) (sym (add-zero a))
front_last g a (suc n) =
    let e : a + 1 + n ≡ a + suc n = omega arith in
    ap (both (g a)) (front_last g (a + 1) n ∙ ap (λ (x : ℕ). both (g x) (front g (a + 1) n)) e) ∙ swap (g a) (g (a + suc n)) (front g (a + 1) n)

all_front : (g h : ℕ → Bool) (a n : ℕ) → ((j : ℕ) → h j ≡ g (a + j)) → all h n ≡ front g a n
unfolding front
all_front g h a zero e = all_none h
all_front g h a (suc n) e = all_suc h n ∙ ap₂ both (e n) (all_front g h a n e) ∙ sym (front_last g a n)

-- ---- types by their kind
no_string_12 : is_string 12 ≡ false
no_string_12 = string_kinds 12

no_string_13 : is_string 13 ≡ false
no_string_13 = string_kinds 13

no_string_14 : is_string 14 ≡ false
no_string_14 = string_kinds 14

no_string_15 : is_string 15 ≡ false
no_string_15 = string_kinds 15

lists : (k : ℕ) (P : ℕ → Type 0) → is_list k ≡ true → P 14 → P 15 → P k
lists k P e a b = go (eqb k 14) (eqb k 15) refl refl (sym (list_kinds k) ∙ e)
  where
    go : (x y : Bool) → eqb k 14 ≡ x → eqb k 15 ≡ y → either x y ≡ true → P k
    go true y p q h = subst P (sym (eqb-true k 14 p)) a
    go false true p q h = subst P (sym (eqb-true k 15 q)) b
    go false false p q h = absurd (false≢true h)

typed-string : (t s : List ℕ) (i : ℕ) (e : Ty) (ms : Members) → is_string_type (typed t s i e ms) ≡ is_string (kind_at t (row_at s i))
typed-string t s i e ms =
    typed_cases t s i e ms (λ (y : Ty). is_string_type y ≡ is_string (kind_at t (row_at s i)))
    (λ h. sym (ap is_string h ∙ no_string_12)) (λ h. sym (ap is_string h ∙ no_string_13))
    (λ h. lists (kind_at t (row_at s i)) (λ (x : ℕ). false ≡ is_string x) h (sym no_string_14) (sym no_string_15)) (λ _ _ _. refl)

suits_12 : (x : Syntax) → suits_kind x 12 ≡ false
suits_12 booleans = refl
suits_12 integers = refl
suits_12 object_identifiers = refl
suits_12 octet_strings = refl
suits_12 bit_strings = refl
suits_12 (strings fold) = no_string_12
suits_12 times = refl
suits_12 names = refl
suits_12 rdns = refl

suits_14 : (x : Syntax) → suits_kind x 14 ≡ false
suits_14 booleans = refl
suits_14 integers = refl
suits_14 object_identifiers = refl
suits_14 octet_strings = refl
suits_14 bit_strings = refl
suits_14 (strings fold) = no_string_14
suits_14 times = refl
suits_14 names = refl
suits_14 rdns = refl

suits_15 : (x : Syntax) → suits_kind x 15 ≡ false
suits_15 booleans = refl
suits_15 integers = refl
suits_15 object_identifiers = refl
suits_15 octet_strings = refl
suits_15 bit_strings = refl
suits_15 (strings fold) = no_string_15
suits_15 times = refl
suits_15 names = refl
suits_15 rdns = refl

typed-suits : (x : Syntax) (t s : List ℕ) (i : ℕ) (e : Ty) (ms : Members)
    → suits_target x (of_type (typed t s i e ms)) ≡ pick (eqb (kind_at t (row_at s i)) 13) (both (suits_kind x 8) (all_strings ms)) (suits_kind x (kind_at t (row_at s i)))
unfolding suits_target
typed-suits x t s i e ms =
    typed_cases t s i e ms (λ (y : Ty). suits_target x (of_type y) ≡ pick (eqb (kind_at t (row_at s i)) 13) (both (suits_kind x 8) (all_strings ms)) (suits_kind x (kind_at t (row_at s i))))
    (λ h. rw h (sym (suits_12 x))) (λ h. rw h)
    (λ h. lists (kind_at t (row_at s i)) (λ (y : ℕ). false ≡ pick (eqb y 13) (both (suits_kind x 8) (all_strings ms)) (suits_kind x y)) h (sym (suits_14 x)) (sym (suits_15 x)))
    (λ _ n _. rw (ne_eqb (kind_at t (row_at s i)) 13 n))

untagged-mode : (mode n : ℕ) → is_untagged (tagging_of mode n) ≡ eqb mode 0
untagged-mode mode n = ap is_untagged (tagging_cases mode n) ∙ go (eqb mode 0) (eqb mode 1)
  where
    go : (x y : Bool) → is_untagged (pick x untagged (pick y (explicit n) (implicit n))) ≡ x
    go true y = refl
    go false true = refl
    go false false = refl

-- ---- the rule for the type of a row of an admitted table, by the row
module _ (t w : List ℕ) (ok : Worded t w) where
  string_at : ℕ → Bool
  string_at a = both (eqb (mode_at t (place_at t a)) 0) (is_string (member_kind_at t a))

  string-type : (r : ℕ) → r < length (table_rows t) → is_string_type (type_at t r) ≡ is_string (kind_at t (place_at t r))
  string-type r h = ap is_string_type (ok.ready.sound.step r h) ∙ typed-string t (table_rows t) r (type_at t (named_at t (place_at t r))) (members_after t r)

  string-rows : (n a : ℕ) → ((j : ℕ) → j < n → named_at t (place_at t (a + j)) < length (table_rows t)) → all_strings (members_from (type_from table_limits.chain t (table_rows t)) t (table_rows t) a n) ≡ front string_at a n
  unfolding all_strings front string_at
  string-rows zero a h = ap all_strings (members-none (type_from table_limits.chain t (table_rows t)) t (table_rows t) a)
  string-rows (suc n) a h =
      let z : a + 0 ≡ a = omega arith in
      let first : named_at t (place_at t a) < length (table_rows t) = subst (λ (x : ℕ). named_at t (place_at t x) < length (table_rows t)) z (h 0 (omega arith)) in
      ap all_strings (members-more (type_from table_limits.chain t (table_rows t)) t (table_rows t) a n)
      ∙ ap₂ both
      (ap₂ both (ap is_untagged (member-tagging t a (place_at t a)) ∙ untagged-mode (mode_at t (place_at t a)) (number_at t (place_at t a))) (string-type (named_at t (place_at t a)) first))
      (string-rows n (a + 1) (λ j d. let e : a + suc j ≡ a + 1 + j = omega arith in subst (λ (x : ℕ). named_at t (place_at t x) < length (table_rows t)) e (h (suc j) (omega arith))))

  module _ (i : ℕ) (here : i < length (table_rows t)) where
    alternatives : all (string_row t i) (members_at t (place_at t i)) ≡ all_strings (members_after t i)
    unfolding string_row string_at
    alternatives =
        all_front string_at (string_row t i) (i + 1) (members_at t (place_at t i)) (λ j. refl)
        ∙ sym (string-rows (members_at t (place_at t i)) (i + 1) (λ j d. (ok.ready.sound.later.of-member i here j d).1))

    pub suits_syntax : (x : Syntax) → pick (eqb (kind_at t (place_at t i)) 13) (both (suits_kind x 8) (all (string_row t i) (members_at t (place_at t i)))) (suits_kind x (kind_at t (place_at t i)))
        ≡ suits_target x (of_type (type_at t i))
    suits_syntax x =
        ap (λ (y : Bool). pick (eqb (kind_at t (place_at t i)) 13) (both (suits_kind x 8) y) (suits_kind x (kind_at t (place_at t i)))) alternatives
        ∙ sym (typed-suits x t (table_rows t) i (type_at t (named_at t (place_at t i))) (members_after t i))
        ∙ ap (λ (y : Ty). suits_target x (of_type y)) (sym (ok.ready.sound.step i here))

-- ---- what a text asserts: nothing where it doesn't conform, whatever the reference leads to
asserted_in_lem : (x : Syntax) (g : Target) (t : List ℕ) → of_bits x ≡ false → asserted_in x g t ≡ pick (conforms_to x t) (Some (said_in x t)) None
unfolding asserted_in conforms_to said_in
asserted_in_lem booleans g t n = refl
asserted_in_lem integers g t n = refl
asserted_in_lem object_identifiers g t n = refl
asserted_in_lem octet_strings g t n = refl
asserted_in_lem bit_strings g t n = absurd (false≢true (sym n))
asserted_in_lem (strings fold) g t n = refl
asserted_in_lem times g t n = go (asserted_time t)
  where
    go : (o : Option Time) → bind o (λ u. Some (time u)) ≡ pick (is_some o) (Some (time_or o)) None
    go None = refl
    go (Some u) = refl
asserted_in_lem names g t n = go (bind (unquoted t) asserted_name)
  where
    go : (o : Option (List (List Compared))) → bind o (λ m. Some (name m)) ≡ pick (is_some o) (Some (name_or o)) None
    go None = refl
    go (Some m) = refl
asserted_in_lem rdns g t n = go (bind (unquoted t) asserted_rdn)
  where
    go : (o : Option (List Compared)) → bind o (λ l. Some (rdn l)) ≡ pick (is_some o) (Some (rdn_or o)) None
    go None = refl
    go (Some l) = refl

pub asserted-is : (r : Rule) (g : Target) (t : List ℕ) → read_by_target r ≡ false → asserted_of r g t ≡ pick (conforms r t) (Some (said r t)) None
unfolding asserted_of conforms said read_by_target
asserted-is present g t n = refl
asserted-is (equal x) g t n = asserted_in_lem x g t n
asserted-is (less x) g t n = asserted_in_lem x g t n

-- of a rule of bits, by the names there
asserted-bits : (x : Syntax) (g : Target) (t : List ℕ) → of_bits x ≡ true → asserted_in x g t ≡ asserted_bits_by (names_at g) t
unfolding asserted_in
asserted-bits booleans g t b = absurd (false≢true b)
asserted-bits integers g t b = absurd (false≢true b)
asserted-bits object_identifiers g t b = absurd (false≢true b)
asserted-bits octet_strings g t b = absurd (false≢true b)
asserted-bits bit_strings g t b = refl
asserted-bits (strings fold) g t b = absurd (false≢true b)
asserted-bits times g t b = absurd (false≢true b)
asserted-bits names g t b = absurd (false≢true b)
asserted-bits rdns g t b = absurd (false≢true b)

pub asserted_by_names : (r : Rule) (g : Target) (t : List ℕ) → read_by_target r ≡ true → asserted_of r g t ≡ asserted_bits_by (names_at g) t
unfolding asserted_of read_by_target
asserted_by_names present g t b = absurd (false≢true b)
asserted_by_names (equal x) g t b = asserted-bits x g t b
asserted_by_names (less x) g t b = asserted-bits x g t b

-- ---- the rule of an assertion is for the target, and the value text conforms
module _ (ks : List Known) (g : Target) (rule value : List ℕ) where
  pub rule_for-none : rule_of ks rule ≡ None → rule_for ks g rule value ≡ None
  unfolding rule_for
  rule_for-none e = rw e

  if_for_lem : (r : Rule) → read_by_target r ≡ false → if_for g value r ≡ pick (both (suits r g) (conforms r value)) (Some (comparison r (said r value))) None
  if_for_lem r n = ap (λ (o : Option Asserted). pick (suits r g) (bind o (λ a. Some (comparison r a))) None) (asserted-is r g value n)
      ∙ go (suits r g) (conforms r value)
    where
      go : (a b : Bool) → pick a (bind (pick b (Some (said r value)) None) (λ y. Some (comparison r y))) None ≡ pick (both a b) (Some (comparison r (said r value))) None
      go true true = refl
      go true false = refl
      go false b = refl

  pub rule_for-known : (r : Rule) → rule_of ks rule ≡ Some r → rule_for ks g rule value ≡ if_for g value r
  unfolding rule_for
  rule_for-known r e = rw e

  pub rule_for-is : (r : Rule) → read_by_target r ≡ false → rule_of ks rule ≡ Some r
      → rule_for ks g rule value ≡ pick (both (suits r g) (conforms r value)) (Some (comparison r (said r value))) None
  rule_for-is r n e = rule_for-known r e ∙ if_for_lem r n
