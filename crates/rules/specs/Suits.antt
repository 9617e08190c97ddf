-- Rules: which rule is for which type ("on"). The count is an INTEGER.
use Rattle.std.specs.Prelude.{ℕ, Bool, true, false, eqb}
use Rattle.octets.specs.Pick.{both, either}
use Rattle.der.specs.Kind as kind
use Rattle.der.specs.Kind.{is_string}
use Rattle.types.specs.Types.{Tagging, untagged, explicit, implicit, Ty, basic, sequence, choice, list_of, Members, no_more, more}
use Rattle.reference.specs.Allowed.{Target, of_type, of_count}
use Rattle.rules.specs.Rule.{Syntax, booleans, integers, object_identifiers, octet_strings, bit_strings, strings, times, names, rdns}
use Rattle.rules.specs.Rule.{Rule, present, equal, less}

abbrev pub suits_kind : Syntax → ℕ → Bool
suits_kind booleans k = eqb k kind.boolean
suits_kind integers k = eqb k kind.integer
suits_kind object_identifiers k = eqb k kind.object_identifier
suits_kind octet_strings k = eqb k kind.octet_string
suits_kind bit_strings k = either (eqb k kind.bit_string) (eqb k kind.named_bit_string)
suits_kind (strings fold) k = is_string k
suits_kind times k = eqb k kind.generalized_time
suits_kind names k = eqb k kind.rdn_sequence
suits_kind rdns k = eqb k kind.rdn

-- "CHOICE of untagged string rows"
abbrev pub is_untagged : Tagging → Bool
is_untagged untagged = true
is_untagged (explicit n) = false
is_untagged (implicit n) = false

abbrev pub is_string_type : Ty → Bool
is_string_type (basic k ns) = is_string k
is_string_type (sequence ms) = false
is_string_type (choice ms) = false
is_string_type (list_of k ty) = false

unfoldable pub all_strings : Members → Bool
all_strings no_more = true
all_strings (more m ty ms) = let r = all_strings ms in both (both (is_untagged m.tagging) (is_string_type ty)) r

-- a CHOICE of strings takes the rules that UTF8String takes
unfoldable pub suits_target : Syntax → Target → Bool
suits_target s (of_type (basic k ns)) = suits_kind s k
suits_target s (of_type (sequence ms)) = false
suits_target s (of_type (choice ms)) = both (suits_kind s kind.utf8_string) (all_strings ms)
suits_target s (of_type (list_of k ty)) = false
suits_target s of_count = suits_kind s kind.integer

-- the rule is for the target
unfoldable pub suits : Rule → Target → Bool
suits present g = true
suits (equal s) g = suits_target s g
suits (less s) g = suits_target s g
