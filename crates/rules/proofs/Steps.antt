-- Value texts of names, and the type of a row.
use mathlib.Core.Path.{◌≡◌, refl, sym, ap, ◌∙◌}
use mathlib.Core.Bool.{Bool, true, false, false≢true}
use Rattle.std.specs.Prelude.{Option, None, Some}
use mathlib.Core.List.{List, map}
use Prim.Native.Nat.{ℕ, ◌<◌, ◌+◌}
use borrow.Author.Tests.{eq-eqb, ne_eqb}
use lib.Dec.{leb, eqb}
use lib.ListN.{length}
use Rattle.octets.specs.Pick.{pick, both, all, bind, is_some}
use Rattle.octets.specs.Quoted.{undoubled, unquoted}
use Rattle.der.specs.Kind.{is_string}
use Rattle.der.proofs.MeaningLaws.{string_kinds}
use Rattle.strings.specs.Asserted.{text_or, asserted_text}
use Rattle.names.specs.Rfc4514.{distinguished_name, relative_distinguished_name}
use Rattle.names.specs.Compared.{asserted, turned, mapped, asserted_name, asserted_rdn}
use Rattle.rows.specs.Row.{kind_at, mode_at, members_at}
use Rattle.table.specs.Inner.Rows.{table_rows, place_at, type_at, member_kind_at}
use Rattle.table.specs.Inner.Words.{Worded}
use Rattle.reference.specs.Allowed.{of_type}
use Rattle.rules.specs.Suits.{suits_kind, suits_target}
use Rattle.rules.specs.Inner.Answers.{syntax_of, string_row}
use Rattle.rules.specs.declared.Syntax as syntax
use Rattle.rules.proofs.Laws.{suits_syntax}

-- ---- conforming
-- a quoted name, and a quoted RDN
module _ {A : Type 0} (t : List ℕ) (f : List ℕ → Option A) (u : Bool) (told : u ≡ is_some (unquoted t)) where
  name-quoted : (p : List ℕ) (r : Bool) → u ≡ true → undoubled p ≡ asserted_text t → r ≡ is_some (f (undoubled p)) → r ≡ is_some (bind (unquoted t) f)
  unfolding asserted_text
  name-quoted p r h e q = go (unquoted t) (sym told ∙ h) e
    where
      go : (o : Option (List ℕ)) → is_some o ≡ true → undoubled p ≡ text_or o → r ≡ is_some (bind o f)
      go None n w = absurd (false≢true n)
      go (Some s) n w = q ∙ ap (λ (y : List ℕ). is_some (f y)) w

is_mapped : {A B : Type 0} (f : A → B) (o : Option A) → is_some (mapped f o) ≡ is_some o
is_mapped f None = refl
is_mapped f (Some a) = refl

module _ (t : List ℕ) (u : Bool) (told : u ≡ is_some (unquoted t)) (p : List ℕ) (r : Bool) (h : u ≡ true) (e : undoubled p ≡ asserted_text t) where
  pub name-is : r ≡ is_some (distinguished_name (undoubled p)) → r ≡ is_some (bind (unquoted t) asserted_name)
  unfolding asserted_name
  name-is q = name-quoted t asserted_name u told p r h e
      (q ∙ sym (is_mapped (λ rs. turned (map (map asserted) rs)) (distinguished_name (undoubled p))))

  pub rdn-is : r ≡ is_some (relative_distinguished_name (undoubled p)) → r ≡ is_some (bind (unquoted t) asserted_rdn)
  unfolding asserted_rdn
  rdn-is q = name-quoted t asserted_rdn u told p r h e (q ∙ sym (is_mapped (map asserted) (relative_distinguished_name (undoubled p))))

-- ---- which rule is for which type
pub string-is : (k : ℕ) (r : Bool) → r ≡ both (leb 8 k) (leb k 10) → r ≡ is_string k
string-is k r e = e ∙ sym (string_kinds k)

module _ (t : List ℕ) (i j p m : ℕ) (place : p ≡ place_at t (i + 1 + j)) (mode : m ≡ mode_at t p) where
  tag : m ≡ mode_at t (place_at t (i + 1 + j))
  tag = mode ∙ ap (mode_at t) place

  pub row-tagged : (m ≡ 0 → ⊥) → eqb m 0 ≡ string_row t i j
  unfolding string_row
  row-tagged n = ne_eqb m 0 n ∙ rw (ne_eqb (mode_at t (place_at t (i + 1 + j))) 0 (λ e. n (tag ∙ e)))

  pub row-string : (k : ℕ) (r : Bool) → m ≡ 0 → k ≡ member_kind_at t (i + 1 + j) → r ≡ is_string k → r ≡ string_row t i j
  unfolding string_row
  row-string k r z ek e = rw (eq-eqb (mode_at t (place_at t (i + 1 + j))) 0 (sym tag ∙ z)) (e ∙ ap is_string ek)

module _ (x : syntax.Syntax) (t w : List ℕ) (i k : ℕ) (ok : Worded t w) (in_rows : i < length (table_rows t)) (here : k ≡ kind_at t (place_at t i)) where
  abbrev By : Bool → Bool → Bool
  By c b = pick c (both (suits_kind (syntax_of x) 8) b) (suits_kind (syntax_of x) (kind_at t (place_at t i)))

  by_row : (r : Bool) → r ≡ By (eqb (kind_at t (place_at t i)) 13) (all (string_row t i) (members_at t (place_at t i))) → r ≡ suits_target (syntax_of x) (of_type (type_at t i))
  by_row r e = e ∙ suits_syntax t w ok i in_rows (syntax_of x)

  pub suits_basic : (r : Bool) → (k ≡ 13 → ⊥) → r ≡ suits_kind (syntax_of x) k → r ≡ suits_target (syntax_of x) (of_type (type_at t i))
  suits_basic r n e = by_row r (rw (ne_eqb (kind_at t (place_at t i)) 13 (λ q. n (here ∙ q))) (e ∙ ap (suits_kind (syntax_of x)) here))

  module _ (u : Bool) (c : k ≡ 13) (told : u ≡ suits_kind (syntax_of x) 8) where
    pub suits-other : u ≡ false → u ≡ suits_target (syntax_of x) (of_type (type_at t i))
    suits-other q = q ∙ by_row false (rw (eq-eqb (kind_at t (place_at t i)) 13 (sym here ∙ c), sym told ∙ q))

    pub suits-choice : (r : Bool) (n : ℕ) → u ≡ true → n ≡ members_at t (place_at t i) → r ≡ all (string_row t i) n → r ≡ suits_target (syntax_of x) (of_type (type_at t i))
    suits-choice r n q m e = by_row r (rw (eq-eqb (kind_at t (place_at t i)) 13 (sym here ∙ c), sym told ∙ q) (e ∙ ap (all (string_row t i)) m))
