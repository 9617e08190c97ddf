-- The test of a rule of bits accepts what the rule accepts, and there is none where the text asserts nothing.
use mathlib.Core.Path.{◌≡◌, refl, ap, ◌∙◌}
use mathlib.Core.Bool.{Bool, true, false, false≢true}
use Rattle.std.specs.Prelude.{Option, None, Some}
use mathlib.Core.List.{List}
use Prim.Native.Nat.{ℕ, ◌≤◌}
use native.Mathlib.Omega.{arith}
use borrow.Author.Tests.{le-leb, ne_eqb}
use lib.ListN.{length}
use lib.Seq.{take-length}
use Rattle.octets.specs.Pick.{pick, no, bind}
use Rattle.octets.specs.Octets.{part, same}
use Rattle.der.specs.Meaning.{bits_of}
use Rattle.digits.specs.Asserted.{digits, is_bit_text, is_bits, hex_bits, text_bits, asserted_bits}
use Rattle.digits.specs.Named.{trimmed}
use Rattle.digits.specs.Inner.Answers.{bits_in}
use Rattle.digits.specs.Inner.Significant.{significant}
use Rattle.digits.proofs.SignificantLaws.{significant-bits}
use Rattle.types.specs.Types.{NamedBit, Ty, basic, sequence, choice, list_of, Members}
use Rattle.reference.specs.Allowed.{Target, of_type, of_count}
use Rattle.bitnames.specs.Names as bitnames
use Rattle.rules.specs.Rule.{booleans, integers, object_identifiers, octet_strings, bit_strings, strings, times, names, rdns, Rule, present, equal, less}
use Rattle.rules.specs.Suits.{suits_target, suits}
use Rattle.rules.specs.Asserted.{Asserted, bits, named_bits, asserted_bits_by}
use Rattle.rules.specs.Accepts.{is_equal, is_less, accepts_contents}
use Rattle.rules.specs.Inner.Answers.{read_by_target}
use Rattle.plan.specs.Inner.Test.{Test, accepted, equal_test, less_test, test_for, of_rule, bits_test_by}

-- of both rules on bits
both_rules : (P : Rule → Type 0) → P (equal bit_strings) → P (less bit_strings) → (r : Rule) → read_by_target r ≡ true → P r
unfolding read_by_target
both_rules P e l present h = absurd (false≢true h)
both_rules P e l (equal booleans) h = absurd (false≢true h)
both_rules P e l (equal integers) h = absurd (false≢true h)
both_rules P e l (equal object_identifiers) h = absurd (false≢true h)
both_rules P e l (equal octet_strings) h = absurd (false≢true h)
both_rules P e l (equal bit_strings) h = e
both_rules P e l (equal (strings fold)) h = absurd (false≢true h)
both_rules P e l (equal times) h = absurd (false≢true h)
both_rules P e l (equal names) h = absurd (false≢true h)
both_rules P e l (equal rdns) h = absurd (false≢true h)
both_rules P e l (less booleans) h = absurd (false≢true h)
both_rules P e l (less integers) h = absurd (false≢true h)
both_rules P e l (less object_identifiers) h = absurd (false≢true h)
both_rules P e l (less octet_strings) h = absurd (false≢true h)
both_rules P e l (less bit_strings) h = l
both_rules P e l (less (strings fold)) h = absurd (false≢true h)
both_rules P e l (less times) h = absurd (false≢true h)
both_rules P e l (less names) h = absurd (false≢true h)
both_rules P e l (less rdns) h = absurd (false≢true h)

-- they are for BIT STRING alone, with names or without
bits_suit : (g : Target) → suits_target bit_strings g ≡ false → (r : Rule) → read_by_target r ≡ true → suits r g ≡ false
unfolding suits
bits_suit g e = both_rules (λ (r : Rule). suits r g ≡ false) e e

pub bits_no_sequence : (r : Rule) → read_by_target r ≡ true → (ms : Members) → suits r (of_type (sequence ms)) ≡ false
unfolding suits_target
bits_no_sequence r h ms = bits_suit (of_type (sequence ms)) refl r h

pub bits_no_choice : (r : Rule) → read_by_target r ≡ true → (ms : Members) → suits r (of_type (choice ms)) ≡ false
unfolding suits_target
bits_no_choice r h ms = bits_suit (of_type (choice ms)) refl r h

pub bits_no_list : (r : Rule) → read_by_target r ≡ true → (k : ℕ) (ty : Ty) → suits r (of_type (list_of k ty)) ≡ false
unfolding suits_target
bits_no_list r h k ty = bits_suit (of_type (list_of k ty)) refl r h

pub bits_no_count : (r : Rule) → read_by_target r ≡ true → suits r of_count ≡ false
unfolding suits_target
bits_no_count r h = bits_suit of_count refl r h

-- nor for the types that have defaults
pub bits-no_default : (r : Rule) → read_by_target r ≡ true → (k : ℕ) (ns : List NamedBit) → k ≤ 3 → suits r (of_type (basic k ns)) ≡ false
unfolding suits_target
bits-no_default r h k ns l = bits_suit (of_type (basic k ns)) (rw (ne_eqb k 7 (λ z. omega arith), ne_eqb k 17 (λ z. omega arith))) r h

-- a test with an operand accepts the contents that a rule accepts with what is asserted
pub record Accepting (r : Rule) (x : List ℕ) (test : Test) (a : Asserted) : Type 0 where
  pub contents : (c : List ℕ) → length c ≤ 65536 → accepted test x c ≡ accepts_contents r a c

abbrev pub Agree : Rule → List ℕ → Option Test → Option Asserted → Type 0
Agree r x None None = Unit {0}
Agree r x None (Some a) = ⊥
Agree r x (Some test) None = ⊥
Agree r x (Some test) (Some a) = Accepting r x test a

-- the bits of digits
bits_in_lem : (x : List ℕ) → bits_in (no (is_bit_text x)) (digits x) ≡ asserted_bits x
unfolding asserted_bits
bits_in_lem x = go (is_bit_text x)
  where
    go : (u : Bool) → bits_in (no u) (digits x) ≡ pick u (text_bits (digits x)) (hex_bits (digits x))
    go true = refl
    go false = refl

module _ (x : List ℕ) where
  equal-plain : Accepting (equal bit_strings) x (equal_test bit_strings x) (bits (asserted_bits x))
  unfolding accepted equal_test accepts_contents is_equal
  equal-plain = record { contents = λ c n. rw (le-leb (length c) 65536 n) (ap (same (bits_of c)) (bits_in_lem x)) }

  less-plain : Accepting (less bit_strings) x (less_test bit_strings x) (bits (asserted_bits x))
  unfolding accepted less_test accepts_contents is_less
  less-plain = record { contents = λ c n. refl }

  -- as many of the digits as the plan counts
  abbrev count : ℕ
  count = significant (length (digits x)) (digits x)

  counted-bits : trimmed (bits_in (no (is_bit_text x)) (part (digits x) 0 count)) ≡ trimmed (asserted_bits x)
  counted-bits =
      significant-bits (no (is_bit_text x)) (digits x) (length (digits x)) (omega arith)
      ∙ ap (λ (l : List ℕ). trimmed (bits_in (no (is_bit_text x)) l)) (take-length (digits x))
      ∙ ap trimmed (bits_in_lem x)

  equal-named : Accepting (equal bit_strings) x (Test.named_bits (no (is_bit_text x)) count) (named_bits (asserted_bits x))
  unfolding accepted accepts_contents is_equal
  equal-named = record { contents = λ c n. rw (le-leb (length c) 65536 n) (ap (same (trimmed (bits_of c))) counted-bits) }

  equal-listed : (l : List ℕ) → Accepting (equal bit_strings) x (Test.listed l) (named_bits l)
  unfolding accepted accepts_contents is_equal
  equal-listed l = record { contents = λ c n. rw (le-leb (length c) 65536 n) }

  less-named : (l : List ℕ) → Accepting (less bit_strings) x Test.no_value (named_bits l)
  unfolding accepted accepts_contents is_less
  less-named l = record { contents = λ c n. refl }

  plain-agree : (r : Rule) → read_by_target r ≡ true → Agree r x (bits_test_by r None x) (asserted_bits_by None x)
  unfolding bits_test_by asserted_bits_by test_for
  plain-agree = both_rules (λ (r : Rule). Agree r x (pick (is_bits x) (Some (test_for r x)) None) (pick (is_bits x) (Some (bits (asserted_bits x))) None))
      (go (is_bits x)) (go_less (is_bits x))
    where
      go : (u : Bool) → Agree (equal bit_strings) x (pick u (Some (equal_test bit_strings x)) None) (pick u (Some (bits (asserted_bits x))) None)
      go true = equal-plain
      go false = tt

      go_less : (u : Bool) → Agree (less bit_strings) x (pick u (Some (less_test bit_strings x)) None) (pick u (Some (bits (asserted_bits x))) None)
      go_less true = less-plain
      go_less false = tt

  named-agree : (ns : List NamedBit) (r : Rule) → read_by_target r ≡ true → Agree r x (bits_test_by r (Some ns) x) (asserted_bits_by (Some ns) x)
  unfolding bits_test_by asserted_bits_by
  named-agree ns = both_rules
      (λ (r : Rule). Agree r x (pick (is_bits x) (Some (of_rule r (Test.named_bits (no (is_bit_text x)) count)))
      (bind (bitnames.listed_bits ns x) (λ l. Some (of_rule r (Test.listed l)))))
      (pick (is_bits x) (Some (named_bits (asserted_bits x))) (bind (bitnames.listed_bits ns x) (λ l. Some (named_bits l)))))
      (go (is_bits x) (bitnames.listed_bits ns x)) (go_less (is_bits x) (bitnames.listed_bits ns x))
    where
      go : (u : Bool) (o : Option (List ℕ))
          → Agree (equal bit_strings) x (pick u (Some (Test.named_bits (no (is_bit_text x)) count)) (bind o (λ l. Some (Test.listed l))))
          (pick u (Some (named_bits (asserted_bits x))) (bind o (λ l. Some (named_bits l))))
      go true o = equal-named
      go false None = tt
      go false (Some l) = equal-listed l

      go_less : (u : Bool) (o : Option (List ℕ)) → Agree (less bit_strings) x (pick u (Some Test.no_value) (bind o (λ l. Some Test.no_value)))
          (pick u (Some (named_bits (asserted_bits x))) (bind o (λ l. Some (named_bits l))))
      go_less true o = less-named (asserted_bits x)
      go_less false None = tt
      go_less false (Some l) = less-named l

  pub bits-agree : (r : Rule) → read_by_target r ≡ true → (ns : Option (List NamedBit)) → Agree r x (bits_test_by r ns x) (asserted_bits_by ns x)
  bits-agree r h None = plain-agree r h
  bits-agree r h (Some ns) = named-agree ns r h
