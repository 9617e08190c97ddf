-- The test of a rule of bits on the type of a row: one lemma for each return, its premises as the code has them.
use mathlib.Core.Path.{◌≡◌, refl, sym, ap, ◌∙◌}
use mathlib.Core.Bool.{Bool, true, false, not}
use Rattle.std.specs.Prelude.{Option, None, Some}
use mathlib.Core.List.{List}
use Prim.Native.Nat.{ℕ, ◌<◌}
use native.Mathlib.Omega.{arith}
use borrow.Author.Tests.{not-true, not-false, ne_eqb}
use lib.Dec.{eqb}
use lib.ListN.{length}
use Rattle.octets.specs.Pick.{pick, bind}
use Rattle.digits.specs.Asserted.{digits, is_hex_string, is_bit_text, is_bits}
use Rattle.digits.specs.Inner.Significant.{significant}
use Rattle.rows.specs.Row.{kind_at, is_list, named_at}
use Rattle.rows.proofs.KindLaws.{list_kinds}
use Rattle.types.specs.Types.{NamedBit, Ty}
use Rattle.types.proofs.TypeCases.{typed_cases, typed_basic}
use Rattle.table.specs.Inner.Rows.{table_rows, place_at, type_at, members_after}
use Rattle.table.specs.Inner.Words.{Worded}
use Rattle.reference.specs.Allowed.{of_type}
use Rattle.bitnames.specs.Names.{listed_bits}
use Rattle.bitnames.specs.Inner.Sets.{names_after, report_set}
use Rattle.rules.specs.Rule as rules
use Rattle.rules.specs.Suits.{suits}
use Rattle.rules.specs.Asserted.{names_at}
use Rattle.plan.specs.Inner.Test.{Test, test_for, test_of, of_rule, bits_test_by, bits_test, report_test, report_bits}
use Rattle.plan.specs.declared.TestNumbers.{TestNumbers}

-- ---- with names
module _ (r : rules.Rule) (names : List NamedBit) (x : List ℕ) (u : Bool) (binary : u ≡ is_bit_text x) where
  counted : (d : List ℕ) (n : ℕ) → d ≡ digits x → n ≡ significant (length d) d → n ≡ significant (length (digits x)) (digits x)
  counted d n inside count = count ∙ ap (λ (y : List ℕ). significant (length y) y) inside

  pub names_binary : (b : TestNumbers) (d : List ℕ) (n : ℕ) → u ≡ true → d ≡ digits x → n ≡ significant (length d) d
      → report_test b ≡ of_rule r (test_of 20 n) → Some (report_test b) ≡ bits_test_by r (Some names) x
  unfolding bits_test_by is_bits test_of
  names_binary b d n h inside count e = rw (sym binary ∙ h, ← counted d n inside count) (ap Some e)

  module _ (h : u ≡ false) (v : Bool) (hexadecimal : v ≡ is_hex_string x) where
    pub names_hexadecimal : (b : TestNumbers) (d : List ℕ) (n : ℕ) → v ≡ true → d ≡ digits x → n ≡ significant (length d) d
        → report_test b ≡ of_rule r (test_of 19 n) → Some (report_test b) ≡ bits_test_by r (Some names) x
    unfolding bits_test_by is_bits test_of
    names_hexadecimal b d n g inside count e = rw (sym binary ∙ h, sym hexadecimal ∙ g, ← counted d n inside count) (ap Some e)

    module _ (g : v ≡ false) (s : Option ℕ) (told : report_set s ≡ listed_bits names x) where
      by-list : bits_test_by r (Some names) x ≡ bind (report_set s) (λ l. Some (of_rule r (Test.listed l)))
      unfolding bits_test_by is_bits
      by-list = rw (sym binary ∙ h, sym hexadecimal ∙ g, ← told)

      pub names-listed : (b : TestNumbers) (m : ℕ) → s ≡ Some m → report_test b ≡ of_rule r (test_of 21 m) → Some (report_test b) ≡ bits_test_by r (Some names) x
      unfolding test_of
      names-listed b m q e = ap Some e ∙ sym (by-list ∙ ap (λ (y : Option ℕ). bind (report_set y) (λ l. Some (of_rule r (Test.listed l)))) q)

      pub names-none : s ≡ None → None ≡ bits_test_by r (Some names) x
      names-none q = sym (by-list ∙ ap (λ (y : Option ℕ). bind (report_set y) (λ l. Some (of_rule r (Test.listed l)))) q)

-- ---- without names
module _ (r : rules.Rule) (x : List ℕ) (u : Bool) (told : u ≡ is_bits x) where
  pub digits-none : not u ≡ true → None ≡ bits_test_by r None x
  unfolding bits_test_by
  digits-none h = rw (sym told ∙ not-true u h)

  pub digits_some : (test : TestNumbers) → not u ≡ false → report_test test ≡ test_for r x → Some (report_test test) ≡ bits_test_by r None x
  unfolding bits_test_by
  digits_some test h e = rw (sym told ∙ not-false u h) (ap Some e)

-- ---- by the row
module _ (t w : List ℕ) (row : ℕ) (ok : Worded t w) (here : row < length (table_rows t)) where
  abbrev element : Ty
  element = type_at t (named_at t (place_at t row))

  -- the names at the type of a row
  names-here : kind_at t (place_at t row) ≡ 17 → names_at (of_type (type_at t row)) ≡ Some (names_after t row)
  names-here k =
      ap (λ (y : Ty). names_at (of_type y)) (ok.ready.sound.step row here
      ∙ typed_basic t (table_rows t) row element (members_after t row) (λ z. omega (arith, sym k ∙ z)) (λ z. omega (arith, sym k ∙ z)) no-list)
      ∙ ap (λ (y : ℕ). pick (eqb y 17) (Some (names_after t row)) None) k
    where
      no-list : is_list (kind_at t (place_at t row)) ≡ false
      no-list = list_kinds (kind_at t (place_at t row)) ∙ rw k

  names_elsewhere : (kind_at t (place_at t row) ≡ 17 → ⊥) → names_at (of_type (type_at t row)) ≡ None
  names_elsewhere n =
      ap (λ (y : Ty). names_at (of_type y)) (ok.ready.sound.step row here)
      ∙ typed_cases t (table_rows t) row element (members_after t row) (λ (y : Ty). names_at (of_type y) ≡ None) (λ _. refl) (λ _. refl) (λ _. refl)
      (λ _ _ _. rw (ne_eqb (kind_at t (place_at t row)) 17 n))

  module _ (r : rules.Rule) (x : List ℕ) (u : Bool) (told : u ≡ suits r (of_type (type_at t row))) where
    pub at_unsuited : not u ≡ true → None ≡ bits_test r (of_type (type_at t row)) x
    unfolding bits_test
    at_unsuited h = rw (sym told ∙ not-true u h)

    module _ (h : not u ≡ false) (k : ℕ) (kind : k ≡ kind_at t (place_at t row)) (b : Option TestNumbers) where
      pub at_names : k ≡ 17 → report_bits b ≡ bits_test_by r (Some (names_after t row)) x → report_bits b ≡ bits_test r (of_type (type_at t row)) x
      unfolding bits_test
      at_names e q = rw (sym told ∙ not-false u h) (q ∙ ap (λ (o : Option (List NamedBit)). bits_test_by r o x) (sym (names-here (sym kind ∙ e))))

      pub at-digits : (k ≡ 17 → ⊥) → report_bits b ≡ bits_test_by r None x → report_bits b ≡ bits_test r (of_type (type_at t row)) x
      unfolding bits_test
      at-digits e q = rw (sym told ∙ not-false u h) (q ∙ ap (λ (o : Option (List NamedBit)). bits_test_by r o x) (sym (names_elsewhere (λ z. e (kind ∙ z)))))
