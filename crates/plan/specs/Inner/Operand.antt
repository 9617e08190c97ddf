-- The operand of a rule: what the comparisons of its tests read of a value text. Of strings what stands between the quotes, where it is plain (as prepared but
-- for folding), else that as prepared; of times what stands between the quotes; of names octets that are made of it (names/specs/Inner/Operand); of the others
-- the text.
use Rattle.std.specs.Prelude.{ℕ, ◌≡◌, Bool, true, false, List}
use Rattle.octets.specs.Quoted.{undoubled}
use Rattle.octets.specs.Pick.{pick}
use Rattle.strings.specs.Asserted.{asserted_text}
use Rattle.strings.specs.Prepared.{prepared}
use Rattle.strings.specs.Inner.Comparing.{is_plain}
use Rattle.names.specs.Rfc4514.{distinguished_name, relative_distinguished_name}
use Rattle.names.specs.Inner.Operand.{rdn_octets, name_octets, or_none}
use Rattle.rules.specs.Rule.{Syntax, booleans, integers, object_identifiers, octet_strings, bit_strings, strings, times, names, rdns, Rule, present, equal, less}
use Rattle.plan.specs.declared.Form.{Form}

abbrev pub syntax_form : Syntax → Form
syntax_form booleans = Form.Whole
syntax_form integers = Form.Whole
syntax_form object_identifiers = Form.Whole
syntax_form octet_strings = Form.Whole
syntax_form bit_strings = Form.Whole
syntax_form (strings fold) = Form.Prepared fold
syntax_form times = Form.Quoted
syntax_form names = Form.Name
syntax_form rdns = Form.Rdn

abbrev pub form_of : Rule → Form
form_of present = Form.Whole
form_of (equal s) = syntax_form s
form_of (less s) = syntax_form s

unfoldable pub prepared_operand : Bool → List ℕ → List ℕ
prepared_operand fold s = pick (is_plain true s) s (prepared fold s)

abbrev pub operand_in : Form → List ℕ → List ℕ
operand_in Form.Whole t = t
operand_in Form.Quoted t = asserted_text t
operand_in (Form.Prepared fold) t = prepared_operand fold (asserted_text t)
operand_in Form.Name t = name_octets (or_none (distinguished_name (asserted_text t)))
operand_in Form.Rdn t = rdn_octets (or_none (relative_distinguished_name (asserted_text t)))

unfoldable pub operand_of : Rule → List ℕ → List ℕ
operand_of r t = operand_in (form_of r) t

-- the part p of a text t that an operand is made of
abbrev pub PartIn : Form → List ℕ → List ℕ → Type 0
PartIn Form.Whole t p = p ≡ t
PartIn Form.Quoted t p = undoubled p ≡ asserted_text t
PartIn (Form.Prepared fold) t p = undoubled p ≡ asserted_text t
PartIn Form.Name t p = undoubled p ≡ asserted_text t
PartIn Form.Rdn t p = undoubled p ≡ asserted_text t

unfoldable pub Part : Rule → List ℕ → List ℕ → Type 0
Part r t p = PartIn (form_of r) t p

-- it is the operand as it stands
abbrev pub stands_in : Form → List ℕ → Bool
stands_in Form.Whole p = true
stands_in Form.Quoted p = true
stands_in (Form.Prepared fold) p = is_plain true p
stands_in Form.Name p = false
stands_in Form.Rdn p = false

unfoldable pub stands : Rule → List ℕ → Bool
stands r p = stands_in (form_of r) p
