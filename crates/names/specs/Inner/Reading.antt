-- What the code's answers say of a name that stands between quotes.
use Rattle.std.specs.Prelude.{ℕ, ◌≤◌, ◌<◌, ◌+◌, ◌*◌, ◌≡◌, Bool, true, false, List, [], ◌∷◌, map, leb, eqb, length, drop}
use Rattle.std.specs.Prelude.{Option, None, Some}
use Rattle.octets.specs.Pick.{pick, both, either, no}
use Rattle.octets.specs.Octets.{octet, every}
use Rattle.octets.specs.Text.{is_digit, is_hex, hex_value}
use Rattle.octets.specs.Utf8.{after, may_end}
use Rattle.octets.specs.Quoted.{undoubled}
use Rattle.octets.specs.Inner.Answers.{between}
use Rattle.strings.specs.Inner.Escaped.{unescaped}
use Rattle.names.specs.Rfc4514 as rfc
use Rattle.names.specs.Rfc4514.{Read, is_special, letters, ends, up_to_end, from_end, may_stand, may_lead, may_trail, octet_of, is_string}
use Rattle.names.specs.declared.Letter.{Letter}
use Rattle.names.specs.declared.Attribute.{Attribute}

-- ---- letters by their places
-- the letters from a place on
unfoldable pub letters_at : List ℕ → ℕ → List rfc.Letter
letters_at p at = letters (undoubled (drop at p))

-- the place after the character at a place
unfoldable pub next_place : List ℕ → ℕ → ℕ
next_place p at = pick (both (eqb (octet p at) 34) (eqb (octet p (at + 1)) 34)) (at + 2) (at + 1)

-- the letter whose backslash stands before a place
unfoldable pub escaped_at : List ℕ → ℕ → Letter
escaped_at p at =
    pick (leb (length p) at) Letter.Wrong
    (pick (is_special (octet p at)) (Letter.Escaped (octet p at) (next_place p at))
    (pick (both (is_hex (octet p at)) (is_hex (octet p (at + 1)))) (Letter.Escaped (hex_value (octet p at) * 16 + hex_value (octet p (at + 1))) (at + 2))
    Letter.Wrong))

abbrev pub report_letter : List ℕ → Letter → List rfc.Letter
report_letter p Letter.End = []
report_letter p Letter.Wrong = rfc.wrong ∷ []
report_letter p (Letter.Bare b after) = rfc.bare b ∷ letters_at p after
report_letter p (Letter.Escaped b after) = rfc.escaped b ∷ letters_at p after

-- a letter that stands from a place up to another, and the octet of a value that it is
pub record Standing (p : List ℕ) (at : ℕ) (l : rfc.Letter) (after : ℕ) : Type 0 where
  pub beyond : at < after
  pub within : after ≤ length p
  pub octets : may_stand l ≡ true → (end : ℕ) → after ≤ end → unescaped (between p at end) ≡ octet_of l ∷ unescaped (between p after end)

abbrev pub Stands : List ℕ → ℕ → Letter → Type 0
Stands p at Letter.End = Unit {0}
Stands p at Letter.Wrong = Unit {0}
Stands p at (Letter.Bare b after) = Standing p at (rfc.bare b) after
Stands p at (Letter.Escaped b after) = Standing p at (rfc.escaped b) after

-- octets that were read, and the letters after them
abbrev pub read : List ℕ → List rfc.Letter → Option (Read (List ℕ))
read s ls = Some (record { got = s; rest = ls })

-- ---- values
-- a letter may stand in a value, as its first or later
abbrev pub stands_as : Bool → rfc.Letter → Bool
stands_as first l = both (may_stand l) (either (no first) (may_lead l))

-- what is asked of the letters that are left: they are the first or later, those before may be the last (`trailing`), and what may come next in UTF-8
unfoldable pub string_from : Bool → Bool → Option (ℕ × ℕ × ℕ) → List rfc.Letter → Bool
string_from first trailing a [] = both trailing (may_end a)
string_from first trailing a (l ∷ ls) =
    let r = string_from false (may_trail l) (after a (octet_of l)) ls in
    pick (ends l) (both trailing (may_end a)) (both (stands_as first l) r)

-- a value that ends at a place, if it may end there
abbrev pub closed_value : Bool → Option (ℕ × ℕ × ℕ) → ℕ → Option ℕ
closed_value trailing a end = pick (both trailing (may_end a)) (Some end) None

-- the octets of the letters up to the end of a value
abbrev pub value_octets : List rfc.Letter → List ℕ
value_octets ls = map octet_of (up_to_end ls)

-- the value that letters begin with
unfoldable pub value_from : List rfc.Letter → Option (Read (List ℕ))
value_from ls = pick (is_string (up_to_end ls)) (read (value_octets ls) (from_end ls)) None

abbrev pub report_value : List ℕ → ℕ → Option ℕ → Option (Read (List ℕ))
report_value p at None = None
report_value p at (Some end) = read (unescaped (between p at end)) (letters_at p end)

-- a place from one up to another
pub record UpTo (at most end : ℕ) : Type 0 where
  pub from : at ≤ end
  pub up_to : end ≤ most

abbrev pub ValuePlaces : ℕ → ℕ → Option ℕ → Type 0
ValuePlaces at most None = Unit {0}
ValuePlaces at most (Some end) = UpTo at most end

-- ---- attributes
-- an octet of a dotted text: a full stop or a digit
abbrev pub is_type_octet : ℕ → Bool
is_type_octet b = either (eqb b 46) (is_digit b)

-- a type of such octets alone
abbrev pub plain_type : Option (Read (List ℕ)) → Option (Read (List ℕ))
plain_type None = None
plain_type (Some t) = pick (every is_type_octet t.got) (Some t) None

-- the type from a place on, by the place of the `=` after it
abbrev pub report_type : List ℕ → ℕ → Option ℕ → Option (Read (List ℕ))
report_type p at None = None
report_type p at (Some equals) = read (between p at equals) (letters_at p (equals + 1))

-- a place from one on and before another
pub record Before (at most i : ℕ) : Type 0 where
  pub from : at ≤ i
  pub before : i < most

abbrev pub TypePlaces : ℕ → ℕ → Option ℕ → Type 0
TypePlaces at most None = Unit {0}
TypePlaces at most (Some i) = Before at most i

abbrev pub report_attribute : List ℕ → ℕ → Option Attribute → Option (Read rfc.Attribute)
report_attribute p at None = None
report_attribute p at (Some a) = Some (record {
  got = record { type = between p at a.equals; value = unescaped (between p (a.equals + 1) a.end) };
  rest = letters_at p a.end;
})

-- its places rise
pub record Rising (at most : ℕ) (a : Attribute) : Type 0 where
  pub from : at ≤ a.equals
  pub before : a.equals < a.end
  pub up_to : a.end ≤ most

abbrev pub AttributePlaces : ℕ → ℕ → Option Attribute → Type 0
AttributePlaces at most None = Unit {0}
AttributePlaces at most (Some a) = Rising at most a

-- ---- RDNs
-- the letters after what was read
abbrev pub rest_of : {A : Type 0} → Option (Read A) → Option (List rfc.Letter)
rest_of None = None
rest_of (Some r) = Some r.rest

abbrev pub report_rest : List ℕ → Option ℕ → Option (List rfc.Letter)
report_rest p None = None
report_rest p (Some end) = Some (letters_at p end)
