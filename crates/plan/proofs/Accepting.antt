-- A plan's test with the operand of a conforming text lets pass what the rule accepts: contents that the check of a value lets through, of a type that the
-- rule is for, and counts.
use mathlib.Core.Path.{◌≡◌, refl, sym, ap, ◌∙◌, subst}
use mathlib.Core.Logic.{◌⊎◌, inl, inr}
use mathlib.Core.Bool.{Bool, true, false, false≢true}
use Rattle.std.specs.Prelude.{Option, None, Some}
use mathlib.Core.List.{List, map}
use Prim.Native.Nat.{ℕ, ◌≤◌, ◌<◌}
use native.Mathlib.Omega.{arith}
use borrow.Author.Tests.{eqb-true, le-leb, lt-ltb}
use lib.ListN.{length}
use Rattle.octets.specs.Pick.{pick, no, bind, is_some}
use Rattle.octets.specs.Octets.{same, bytes}
use Rattle.octets.specs.Quoted.{undoubled, unquoted}
use Rattle.octets.proofs.Laws.{both_true}
use Rattle.der.specs.Kind as kind
use Rattle.der.specs.Contents.{legal_oid}
use Rattle.der.specs.Legal.{legal}
use Rattle.der.specs.Meaning.{plus, same_whole, less_whole, integer_of, boolean_of, arcs_of, bits_of}
use Rattle.der.specs.Dotted.{dotted_arcs}
use Rattle.der.proofs.Laws.{integer-octets, legal-integer}
use Rattle.der.proofs.MeaningLaws.{string_kinds}
use Rattle.dotted.specs.Inner.Stored.{fitting}
use Rattle.dotted.proofs.StoredLaws.{unfit_differs}
use Rattle.integers.specs.Asserted.{is_integer, asserted_integer}
use Rattle.integers.specs.Inner.Bounds.{fits, lifted, bound_of, same_bound, less_bound}
use Rattle.integers.proofs.Bounds.{same-lifted, less-lifted, count_fits}
use Rattle.digits.specs.Asserted.{digits, is_bit_text, hex_bits, text_bits, asserted_octets, asserted_bits}
use Rattle.digits.specs.Inner.Answers.{bits_in}
use Rattle.strings.specs.Asserted.{text_or, asserted_text}
use Rattle.strings.specs.Prepared.{prepared}
use Rattle.strings.specs.Inner.Comparing.{folded, is_plain}
use Rattle.strings.proofs.Preparing.{folded-prepared, plain_folds, plain-same, not_plain}
use Rattle.times.specs.Asserted.{asserted_time}
use Rattle.times.proofs.Laws.{time-asserted, time-part}
use Rattle.names.specs.Rfc4514.{Attribute, distinguished_name, relative_distinguished_name}
use Rattle.names.specs.Compared.{Compared, asserted, same_rdn, same_name, stored_rdn, stored_name, turned, mapped, asserted_name, asserted_rdn}
use Rattle.names.specs.Inner.Operand.{rdn_octets, name_octets, or_none, operand_rdn, operand_name}
use Rattle.names.proofs.OperandLaws.{few-asserted, rdn_by_operand, name_by_operand}
use Rattle.types.specs.Types.{NamedBit, Ty, basic, sequence, choice, list_of, Members}
use Rattle.reference.specs.Allowed.{of_type, of_count}
use Rattle.rules.specs.Rule.{Syntax, booleans, integers, object_identifiers, octet_strings, bit_strings, strings, times, names, rdns, Rule, present, equal, less}
use Rattle.rules.specs.Suits.{suits_kind, all_strings, suits_target, suits}
use Rattle.rules.specs.Accepts.{is_equal, is_less, accepts_contents, accepts_count}
use Rattle.rules.specs.Inner.Answers.{conforms_to, conforms, name_or, rdn_or, said_in, said}
use Rattle.plan.specs.Inner.Test.{Test, integer_is, accepted, accepted_count, equal_test, less_test, test_for}
use Rattle.plan.specs.Inner.Operand.{syntax_form, form_of, prepared_operand, operand_in, operand_of, PartIn, Part, stands_in, stands}
use Rattle.plan.specs.declared.Form.{Form}

-- ---- the operand of strings
plain-operand : (fold : Bool) (p s : List ℕ) → is_plain true p ≡ true → p ≡ s → p ≡ prepared_operand fold s
unfolding prepared_operand
plain-operand fold p s e w = rw (ap (is_plain true) (sym w) ∙ e) w

other-operand : (fold : Bool) (p s : List ℕ) → is_plain true p ≡ false → undoubled p ≡ s → prepared fold (undoubled p) ≡ prepared_operand fold s
unfolding prepared_operand
other-operand fold p s e w = rw (ap (is_plain true) (sym w) ∙ not_plain true p e) (ap (prepared fold) w)

operand_folds : (fold : Bool) (s : List ℕ) → folded fold (prepared_operand fold s) ≡ prepared fold s
unfolding prepared_operand
operand_folds fold s = go (is_plain true s) refl
  where
    go : (u : Bool) → is_plain true s ≡ u → folded fold (pick u s (prepared fold s)) ≡ prepared fold s
    go true e = plain_folds fold s e
    go false e = folded-prepared fold s

-- ---- the operand
is_mapped : {A B : Type 0} (f : A → B) (o : Option A) → is_some (mapped f o) ≡ is_some o
is_mapped f None = refl
is_mapped f (Some a) = refl

abbrev is_name : Form → Bool
is_name Form.Whole = false
is_name Form.Quoted = false
is_name (Form.Prepared fold) = false
is_name Form.Name = true
is_name Form.Rdn = false

abbrev is_rdn : Form → Bool
is_rdn Form.Whole = false
is_rdn Form.Quoted = false
is_rdn (Form.Prepared fold) = false
is_rdn Form.Name = false
is_rdn Form.Rdn = true

module _ (t p : List ℕ) where
  stands_in_lem : (s : Syntax) → conforms_to s t ≡ true → PartIn (syntax_form s) t p → stands_in (syntax_form s) p ≡ true → p ≡ operand_in (syntax_form s) t
  unfolding conforms_to
  stands_in_lem booleans h w e = w
  stands_in_lem integers h w e = w
  stands_in_lem object_identifiers h w e = w
  stands_in_lem octet_strings h w e = w
  stands_in_lem bit_strings h w e = w
  stands_in_lem (strings fold) h w e = plain-operand fold p (asserted_text t) e (sym (plain-same p e) ∙ w)
  stands_in_lem times h w e = time-part t p w h
  stands_in_lem names h w e = absurd (false≢true e)
  stands_in_lem rdns h w e = absurd (false≢true e)

  -- the part of a conforming text, where it is the operand as it stands
  pub operand-stands : (r : Rule) → conforms r t ≡ true → Part r t p → stands r p ≡ true → p ≡ operand_of r t
  unfolding Part stands operand_of conforms
  operand-stands present h w e = w
  operand-stands (equal s) h w e = stands_in_lem s h w e
  operand-stands (less s) h w e = stands_in_lem s h w e

  -- and where it isn't: f is the form of its operand
  module _ (r : Rule) (f : Form) (told : f ≡ form_of r) where
    pub stands_already : (x : List ℕ) → (f ≡ Form.Whole) ⊎ (f ≡ Form.Quoted) → stands r p ≡ false → x ≡ operand_of r t
    unfolding stands
    stands_already x (inl h) e = absurd (false≢true (sym e ∙ ap (λ (y : Form). stands_in y p) (sym told ∙ h)))
    stands_already x (inr h) e = absurd (false≢true (sym e ∙ ap (λ (y : Form). stands_in y p) (sym told ∙ h)))

    pub operand-prepared : (fold : Bool) (x : List ℕ) → f ≡ Form.Prepared fold → Part r t p → stands r p ≡ false → x ≡ prepared fold (undoubled p) → x ≡ operand_of r t
    unfolding Part stands operand_of
    operand-prepared fold x h w e q =
        q ∙ other-operand fold p (asserted_text t) (ap (λ (y : Form). stands_in y p) (sym h ∙ told) ∙ e) (subst (λ (y : Form). PartIn y t p) (sym told ∙ h) w)
        ∙ ap (λ (y : Form). operand_in y t) (sym h ∙ told)

    pub operand-named : (x : List ℕ) → f ≡ Form.Name → Part r t p → x ≡ name_octets (or_none (distinguished_name (undoubled p))) → x ≡ operand_of r t
    unfolding Part operand_of
    operand-named x h w q =
        q ∙ ap (λ (s : List ℕ). name_octets (or_none (distinguished_name s))) (subst (λ (y : Form). PartIn y t p) (sym told ∙ h) w)
        ∙ ap (λ (y : Form). operand_in y t) (sym h ∙ told)

    pub operand-single : (x : List ℕ) → f ≡ Form.Rdn → Part r t p → x ≡ rdn_octets (or_none (relative_distinguished_name (undoubled p))) → x ≡ operand_of r t
    unfolding Part operand_of
    operand-single x h w q =
        q ∙ ap (λ (s : List ℕ). rdn_octets (or_none (relative_distinguished_name s))) (subst (λ (y : Form). PartIn y t p) (sym told ∙ h) w)
        ∙ ap (λ (y : Form). operand_in y t) (sym h ∙ told)

  -- a conforming text of a rule of names is one that is read
  name-read : (o : Option (List ℕ)) → is_some (bind o asserted_name) ≡ true → undoubled p ≡ text_or o → is_some (distinguished_name (undoubled p)) ≡ true
  unfolding asserted_name
  name-read None h w = absurd (false≢true h)
  name-read (Some s) h w = ap (λ (y : List ℕ). is_some (distinguished_name y)) w ∙ sym (is_mapped (λ rs. turned (map (map asserted) rs)) (distinguished_name s)) ∙ h

  rdn-read : (o : Option (List ℕ)) → is_some (bind o asserted_rdn) ≡ true → undoubled p ≡ text_or o → is_some (relative_distinguished_name (undoubled p)) ≡ true
  unfolding asserted_rdn
  rdn-read None h w = absurd (false≢true h)
  rdn-read (Some s) h w = ap (λ (y : List ℕ). is_some (relative_distinguished_name y)) w ∙ sym (is_mapped (map asserted) (relative_distinguished_name s)) ∙ h

  read_in : (s : Syntax) → is_name (syntax_form s) ≡ true → conforms_to s t ≡ true → undoubled p ≡ asserted_text t → is_some (distinguished_name (undoubled p)) ≡ true
  unfolding conforms_to asserted_text
  read_in booleans h c w = absurd (false≢true h)
  read_in integers h c w = absurd (false≢true h)
  read_in object_identifiers h c w = absurd (false≢true h)
  read_in octet_strings h c w = absurd (false≢true h)
  read_in bit_strings h c w = absurd (false≢true h)
  read_in (strings fold) h c w = absurd (false≢true h)
  read_in times h c w = absurd (false≢true h)
  read_in names h c w = name-read (unquoted t) c w
  read_in rdns h c w = absurd (false≢true h)

  single_in : (s : Syntax) → is_rdn (syntax_form s) ≡ true → conforms_to s t ≡ true → undoubled p ≡ asserted_text t
      → is_some (relative_distinguished_name (undoubled p)) ≡ true
  unfolding conforms_to asserted_text
  single_in booleans h c w = absurd (false≢true h)
  single_in integers h c w = absurd (false≢true h)
  single_in object_identifiers h c w = absurd (false≢true h)
  single_in octet_strings h c w = absurd (false≢true h)
  single_in bit_strings h c w = absurd (false≢true h)
  single_in (strings fold) h c w = absurd (false≢true h)
  single_in times h c w = absurd (false≢true h)
  single_in names h c w = absurd (false≢true h)
  single_in rdns h c w = rdn-read (unquoted t) c w

  module _ (r : Rule) (f : Form) (told : f ≡ form_of r) (conforming : conforms r t ≡ true) (w : Part r t p) where
    pub name-conforms : f ≡ Form.Name → is_some (distinguished_name (undoubled p)) ≡ true
    unfolding Part conforms
    name-conforms h = go r (ap is_name (sym told ∙ h)) conforming (subst (λ (y : Form). PartIn y t p) (sym told ∙ h) w)
      where
        go : (q : Rule) → is_name (form_of q) ≡ true → conforms q t ≡ true → undoubled p ≡ asserted_text t → is_some (distinguished_name (undoubled p)) ≡ true
        go present n c u = absurd (false≢true n)
        go (equal s) n c u = read_in s n c u
        go (less s) n c u = read_in s n c u

    pub rdn-conforms : f ≡ Form.Rdn → is_some (relative_distinguished_name (undoubled p)) ≡ true
    unfolding Part conforms
    rdn-conforms h = go r (ap is_rdn (sym told ∙ h)) conforming (subst (λ (y : Form). PartIn y t p) (sym told ∙ h) w)
      where
        go : (q : Rule) → is_rdn (form_of q) ≡ true → conforms q t ≡ true → undoubled p ≡ asserted_text t → is_some (relative_distinguished_name (undoubled p)) ≡ true
        go present n c u = absurd (false≢true n)
        go (equal s) n c u = single_in s n c u
        go (less s) n c u = single_in s n c u

-- ---- contents
module _ (t c : List ℕ) where
  boolean-same : accepted (equal_test booleans t) t c ≡ is_equal (said_in booleans t) c
  unfolding accepted equal_test is_equal said_in
  boolean-same = go (same t (bytes "TRUE")) (boolean_of c)
    where
      go : (u b : Bool) → pick u b (no b) ≡ pick b u (no u)
      go true true = refl
      go true false = refl
      go false true = refl
      go false false = refl

  integer-by : (told otherwise : Bool) → legal kind.integer c ≡ true → (fits (integer_of c) ≡ true → told ≡ otherwise) → integer_is told otherwise c ≡ otherwise
  unfolding integer_is
  integer-by told otherwise l h =
      let o = integer-octets c (sym (legal-integer c) ∙ l) in
      rw (le-leb 1 (length c) o.0, le-leb (length c) 8 o.1) (go (fits (integer_of c)) h)
    where
      go : (u : Bool) → (u ≡ true → told ≡ otherwise) → pick u told otherwise ≡ otherwise
      go true f = f refl
      go false f = refl

  integer-same : legal kind.integer c ≡ true → is_integer t ≡ true → accepted (equal_test integers t) t c ≡ is_equal (said_in integers t) c
  unfolding accepted equal_test is_equal said_in
  integer-same l h =
      integer-by (same_bound (lifted (integer_of c)) (bound_of (asserted_integer t))) (same_whole (integer_of c) (asserted_integer t)) l
      (λ f. same-lifted (integer_of c) t (lifted (integer_of c)) (bound_of (asserted_integer t)) refl f refl h)

  integer-less : legal kind.integer c ≡ true → accepted (less_test integers t) t c ≡ is_less (said_in integers t) c
  unfolding accepted less_test is_less said_in
  integer-less l =
      integer-by (less_bound (lifted (integer_of c)) (bound_of (asserted_integer t))) (less_whole (integer_of c) (asserted_integer t)) l
      (λ f. less-lifted (integer_of c) t (lifted (integer_of c)) (bound_of (asserted_integer t)) refl f refl)

  legal-oid : legal kind.object_identifier c ≡ legal_oid c
  unfolding legal
  legal-oid = refl

  arcs-same : legal kind.object_identifier c ≡ true → accepted (equal_test object_identifiers t) t c ≡ is_equal (said_in object_identifiers t) c
  unfolding accepted equal_test is_equal said_in
  arcs-same l = go (fitting 33 (dotted_arcs t)) refl
    where
      go : (u : Bool) → fitting 33 (dotted_arcs t) ≡ u → accepted (pick u Test.arcs Test.no_value) t c ≡ same (arcs_of c) (dotted_arcs t)
      go true e = refl
      go false e = sym (unfit_differs c t (sym legal-oid ∙ l) e)

  bits-same : length c ≤ 65536 → accepted (equal_test bit_strings t) t c ≡ is_equal (said_in bit_strings t) c
  unfolding accepted equal_test is_equal said_in asserted_bits
  bits-same n = rw (le-leb (length c) 65536 n) (go (is_bit_text t))
    where
      go : (u : Bool) → same (bits_of c) (bits_in (no u) (digits t)) ≡ same (bits_of c) (pick u (text_bits (digits t)) (hex_bits (digits t)))
      go true = refl
      go false = refl

  string-same : (fold : Bool) (x : List ℕ) → x ≡ prepared_operand fold (asserted_text t) → accepted (equal_test (strings fold) x) x c ≡ is_equal (said_in (strings fold) t) c
  unfolding accepted equal_test is_equal said_in
  string-same fold x e = ap (same (prepared fold c)) (ap (folded fold) e ∙ operand_folds fold (asserted_text t))

  time-same : is_some (asserted_time t) ≡ true → accepted (equal_test times (asserted_text t)) (asserted_text t) c ≡ is_equal (said_in times t) c
  unfolding accepted equal_test is_equal said_in
  time-same h = rw (time-asserted t h)

  time-less : is_some (asserted_time t) ≡ true → accepted (less_test times (asserted_text t)) (asserted_text t) c ≡ is_less (said_in times t) c
  unfolding accepted less_test is_less said_in
  time-less h = rw (time-asserted t h)

  -- names and RDNs, as they are read of their operands
  name-same : is_some (bind (unquoted t) asserted_name) ≡ true
      → accepted (equal_test names (operand_in Form.Name t)) (operand_in Form.Name t) c ≡ is_equal (said_in names t) c
  unfolding accepted equal_test is_equal said_in asserted_text asserted_name
  name-same = quoted (unquoted t)
    where
      read : (o : Option (List (List Attribute))) → ((rs : List (List Attribute)) → o ≡ Some rs → length rs ≤ 16)
          → is_some (mapped (λ rs. turned (map (map asserted) rs)) o) ≡ true
          → same_name (stored_name c) (operand_name (name_octets (or_none o))) ≡ is_equal (name_or (mapped (λ rs. turned (map (map asserted) rs)) o)) c
      read None few h = absurd (false≢true h)
      read (Some rs) few h = name_by_operand (stored_name c) rs (omega (arith, few rs refl))

      quoted : (o : Option (List ℕ)) → is_some (bind o asserted_name) ≡ true
          → same_name (stored_name c) (operand_name (name_octets (or_none (distinguished_name (text_or o))))) ≡ is_equal (name_or (bind o asserted_name)) c
      quoted None h = absurd (false≢true h)
      quoted (Some s) h = read (distinguished_name s) (few-asserted s) h

  rdn-same : is_some (bind (unquoted t) asserted_rdn) ≡ true → accepted (equal_test rdns (operand_in Form.Rdn t)) (operand_in Form.Rdn t) c ≡ is_equal (said_in rdns t) c
  unfolding accepted equal_test is_equal said_in asserted_text asserted_rdn
  rdn-same = quoted (unquoted t)
    where
      read : (o : Option (List Attribute)) → is_some (mapped (map asserted) o) ≡ true
          → same_rdn (stored_rdn c) (operand_rdn (rdn_octets (or_none o))) ≡ is_equal (rdn_or (mapped (map asserted) o)) c
      read None h = absurd (false≢true h)
      read (Some l) h = rdn_by_operand (stored_rdn c) l

      quoted : (o : Option (List ℕ)) → is_some (bind o asserted_rdn) ≡ true
          → same_rdn (stored_rdn c) (operand_rdn (rdn_octets (or_none (relative_distinguished_name (text_or o))))) ≡ is_equal (rdn_or (bind o asserted_rdn)) c
      quoted None h = absurd (false≢true h)
      quoted (Some s) h = read (relative_distinguished_name s) h

  octets-same : accepted (equal_test octet_strings t) t c ≡ is_equal (said_in octet_strings t) c
  unfolding accepted equal_test is_equal said_in asserted_octets
  octets-same = refl

  octets-less : accepted (less_test octet_strings t) t c ≡ is_less (said_in octet_strings t) c
  unfolding accepted less_test is_less said_in asserted_octets
  octets-less = refl

  basic_same : (s : Syntax) (k : ℕ) → suits_kind s k ≡ true → conforms_to s t ≡ true → legal k c ≡ true → length c ≤ 65536
      → accepted (equal_test s (operand_in (syntax_form s) t)) (operand_in (syntax_form s) t) c ≡ is_equal (said_in s t) c
  unfolding conforms_to
  basic_same booleans k h f l n = boolean-same
  basic_same integers k h f l n = integer-same (subst (λ (y : ℕ). legal y c ≡ true) (eqb-true k kind.integer h) l) f
  basic_same object_identifiers k h f l n = arcs-same (subst (λ (y : ℕ). legal y c ≡ true) (eqb-true k kind.object_identifier h) l)
  basic_same octet_strings k h f l n = octets-same
  basic_same bit_strings k h f l n = bits-same n
  basic_same (strings fold) k h f l n = string-same fold (prepared_operand fold (asserted_text t)) refl
  basic_same times k h f l n = time-same f
  basic_same names k h f l n = name-same f
  basic_same rdns k h f l n = rdn-same f

  basic_less : (s : Syntax) (k : ℕ) → suits_kind s k ≡ true → conforms_to s t ≡ true → legal k c ≡ true
      → accepted (less_test s (operand_in (syntax_form s) t)) (operand_in (syntax_form s) t) c ≡ is_less (said_in s t) c
  unfolding conforms_to accepted less_test is_less said_in
  basic_less booleans k h f l = refl
  basic_less integers k h f l = integer-less (subst (λ (y : ℕ). legal y c ≡ true) (eqb-true k kind.integer h) l)
  basic_less object_identifiers k h f l = refl
  basic_less octet_strings k h f l = octets-less
  basic_less bit_strings k h f l = refl
  basic_less (strings fold) k h f l = refl
  basic_less times k h f l = time-less f
  basic_less names k h f l = go (bind (unquoted t) asserted_name)
    where
      go : (o : Option (List (List Compared))) → false ≡ is_less (name_or o) c
      go None = refl
      go (Some n) = refl
  basic_less rdns k h f l = go (bind (unquoted t) asserted_rdn)
    where
      go : (o : Option (List Compared)) → false ≡ is_less (rdn_or o) c
      go None = refl
      go (Some n) = refl

  -- of a basic type that the rule is for
  pub basic_passes : (r : Rule) (k : ℕ) (ns : List NamedBit) → suits r (of_type (basic k ns)) ≡ true → conforms r t ≡ true → legal k c ≡ true
      → length c ≤ 65536
      → accepted (test_for r (operand_of r t)) (operand_of r t) c ≡ accepts_contents r (said r t) c
  unfolding suits suits_target conforms test_for operand_of accepts_contents said accepted
  basic_passes present k ns h f l n = refl
  basic_passes (equal s) k ns h f l n = basic_same s k h f l n
  basic_passes (less s) k ns h f l n = basic_less s k h f l

  choice-same : (s : Syntax) → suits_kind s kind.utf8_string ≡ true → accepted (equal_test s (operand_in (syntax_form s) t)) (operand_in (syntax_form s) t) c ≡ is_equal (said_in s t) c
  choice-same booleans h = absurd (false≢true h)
  choice-same integers h = absurd (false≢true h)
  choice-same object_identifiers h = absurd (false≢true h)
  choice-same octet_strings h = absurd (false≢true h)
  choice-same bit_strings h = absurd (false≢true h)
  choice-same (strings fold) h = string-same fold (prepared_operand fold (asserted_text t)) refl
  choice-same times h = absurd (false≢true h)
  choice-same names h = absurd (false≢true h)
  choice-same rdns h = absurd (false≢true h)

  choice-less : (s : Syntax) → suits_kind s kind.utf8_string ≡ true → accepted (less_test s (operand_in (syntax_form s) t)) (operand_in (syntax_form s) t) c ≡ is_less (said_in s t) c
  unfolding accepted less_test is_less said_in
  choice-less booleans h = absurd (false≢true h)
  choice-less integers h = absurd (false≢true h)
  choice-less object_identifiers h = absurd (false≢true h)
  choice-less octet_strings h = absurd (false≢true h)
  choice-less bit_strings h = absurd (false≢true h)
  choice-less (strings fold) h = refl
  choice-less times h = absurd (false≢true h)
  choice-less names h = absurd (false≢true h)
  choice-less rdns h = absurd (false≢true h)

  -- of any other type: a CHOICE of strings; presentMatch alone is for a SEQUENCE and for a list
  pub choice-passes : (r : Rule) (ms : Members) → suits r (of_type (choice ms)) ≡ true → accepted (test_for r (operand_of r t)) (operand_of r t) c ≡ accepts_contents r (said r t) c
  unfolding suits suits_target test_for operand_of accepts_contents said accepted
  choice-passes present ms h = refl
  choice-passes (equal s) ms h = choice-same s (both_true (suits_kind s kind.utf8_string) (all_strings ms) h).0
  choice-passes (less s) ms h = choice-less s (both_true (suits_kind s kind.utf8_string) (all_strings ms) h).0

  pub sequence-passes : (r : Rule) (ms : Members) → suits r (of_type (sequence ms)) ≡ true → accepted (test_for r (operand_of r t)) (operand_of r t) c ≡ accepts_contents r (said r t) c
  unfolding suits suits_target test_for accepts_contents accepted
  sequence-passes present ms h = refl
  sequence-passes (equal s) ms h = absurd (false≢true h)
  sequence-passes (less s) ms h = absurd (false≢true h)

  pub list-passes : (r : Rule) (k : ℕ) (ty : Ty) → suits r (of_type (list_of k ty)) ≡ true → accepted (test_for r (operand_of r t)) (operand_of r t) c ≡ accepts_contents r (said r t) c
  unfolding suits suits_target test_for accepts_contents accepted
  list-passes present k ty h = refl
  list-passes (equal s) k ty h = absurd (false≢true h)
  list-passes (less s) k ty h = absurd (false≢true h)

-- ---- counts
module _ (t : List ℕ) (n : ℕ) (small : n < 9223372036854775808) where
  count_same : (s : Syntax) → suits_kind s kind.integer ≡ true → conforms_to s t ≡ true → accepted_count (equal_test s (operand_in (syntax_form s) t)) n ≡ accepts_count (equal s) (said_in s t) n
  unfolding conforms_to accepted_count equal_test accepts_count said_in
  count_same booleans h f = absurd (false≢true h)
  count_same integers h f =
      rw (lt-ltb n 9223372036854775808 small) (same-lifted (plus n) t (lifted (plus n)) (bound_of (asserted_integer t)) refl (count_fits n small) refl f)
  count_same object_identifiers h f = absurd (false≢true h)
  count_same octet_strings h f = absurd (false≢true h)
  count_same bit_strings h f = absurd (false≢true h)
  count_same (strings fold) h f = absurd (false≢true (sym (string_kinds kind.integer) ∙ h))
  count_same times h f = absurd (false≢true h)
  count_same names h f = absurd (false≢true h)
  count_same rdns h f = absurd (false≢true h)

  count_less : (s : Syntax) → suits_kind s kind.integer ≡ true → accepted_count (less_test s (operand_in (syntax_form s) t)) n ≡ accepts_count (less s) (said_in s t) n
  unfolding accepted_count less_test accepts_count said_in
  count_less booleans h = absurd (false≢true h)
  count_less integers h =
      rw (lt-ltb n 9223372036854775808 small) (less-lifted (plus n) t (lifted (plus n)) (bound_of (asserted_integer t)) refl (count_fits n small) refl)
  count_less object_identifiers h = absurd (false≢true h)
  count_less octet_strings h = absurd (false≢true h)
  count_less bit_strings h = absurd (false≢true h)
  count_less (strings fold) h = absurd (false≢true (sym (string_kinds kind.integer) ∙ h))
  count_less times h = absurd (false≢true h)
  count_less names h = absurd (false≢true h)
  count_less rdns h = absurd (false≢true h)

  pub count-passes : (r : Rule) → suits r of_count ≡ true → conforms r t ≡ true → accepted_count (test_for r (operand_of r t)) n ≡ accepts_count r (said r t) n
  unfolding suits suits_target conforms test_for operand_of accepted_count accepts_count said
  count-passes present h f = refl
  count-passes (equal s) h f = count_same s h f
  count-passes (less s) h f = count_less s h
