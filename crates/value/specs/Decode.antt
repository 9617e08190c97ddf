-- Stored value: the value of a type that stands at a place, before an end; and the place after it.
use Rattle.std.specs.Prelude.{ℕ, zero, suc, ◌+◌, Bool, false, List, length, ltb, eqb}
use Rattle.std.specs.Prelude.{Option, None, Some}
use Rattle.octets.specs.Pick.{pick, both, either, bind, ◌>>=◌}
use Rattle.octets.specs.Octets.{octet, part, same}
use Rattle.der.specs.Kind as kind
use Rattle.der.specs.Tag.{tag_of, own_octet, implicit_octet, wrapper_octet}
use Rattle.der.specs.Header.{header_at, inside_at, any_tag, opened}
use Rattle.der.specs.Legal.{legal}
use Rattle.types.specs.Types.{Tagging, untagged, explicit, implicit, Presence, mandatory, optional, default, Member, Ty, basic, sequence, choice, list_of, Members, no_more, more}
use Rattle.types.specs.Begins.{member_begins, is_mandatory}
use Rattle.value.specs.Value.{spot_at, spot_of, Value, leaf, fields, chosen, elements, Fields, end_fields, present, absent, Values, end_values, next}
use Rattle.value.specs.Order.{rising}

pub record Decoded : Type 0 where
  pub value : Value
  pub after : ℕ

abbrev pub decoded : Value → ℕ → Option Decoded
decoded x after = Some (record { value = x; after = after })

abbrev pub after_of : Decoded → ℕ
after_of d = d.after

-- ---- tags
-- the tag octet expected of a value of kind k
abbrev pub tag_octet : Tagging → ℕ → ℕ
tag_octet untagged k = own_octet k
tag_octet (explicit n) k = own_octet k
tag_octet (implicit n) k = implicit_octet n k

-- an explicit wrapper is exactly filled: what is inside ends where the wrapper does
abbrev pub if_filling : {A : Type 0} → (A → ℕ) → ℕ → A → Option A
if_filling after stop a = pick (eqb (after a) stop) (Some a) None

abbrev pub inside : {A : Type 0} → (A → ℕ) → (ℕ → ℕ → Option A) → ℕ → ℕ → Option A
inside after f start n = bind (f start (start + n)) (if_filling after (start + n))

-- what f reads under a tag mode at a place, before an end; `after` is the place after it
unfoldable pub in_wrapper : {A : Type 0} → (A → ℕ) → Tagging → (ℕ → ℕ → Option A) → List ℕ → ℕ → ℕ → Option A
in_wrapper after untagged f v at end = f at end
in_wrapper after (implicit n) f v at end = f at end
in_wrapper after (explicit n) f v at end = opened (inside_at (wrapper_octet n) v at end) (inside after f)

-- a member is present where the next tag is one it can begin with
unfoldable pub starts_here : Member → Ty → List ℕ → ℕ → ℕ → Bool
starts_here m ty v stop i = both (ltb i stop) (member_begins m ty (tag_of (octet v i)))

-- ---- values of one header, whose contents are n octets from start on
abbrev pub leaf_of : ℕ → List ℕ → ℕ → ℕ → ℕ → Option Decoded
leaf_of k v at start n = pick (legal k (part v start n)) (decoded (leaf k (spot_at v at start n)) (start + n)) None

-- a SEQUENCE; f decodes its members before a stop
abbrev pub fields_of : List ℕ → ℕ → (ℕ → ℕ → Option Fields) → ℕ → ℕ → Option Decoded
fields_of v at f start n = do
  fs ← f (start + n) start
  decoded (fields (spot_at v at start n) fs) (start + n)

-- a SEQUENCE OF or SET OF; f decodes its elements, so many at most, before a stop
abbrev pub elements_of : ℕ → List ℕ → ℕ → (ℕ → ℕ → ℕ → Option Values) → ℕ → ℕ → Option Decoded
elements_of k v at f start n = do
  xs ← f n (start + n) start
  pick (either (eqb k kind.sequence_of) (rising v xs)) (decoded (elements (spot_at v at start n) xs) (start + n)) None

-- a CHOICE, by its alternative
abbrev pub chosen_of : Member → List ℕ → ℕ → Decoded → ℕ → ℕ → Option Decoded
chosen_of m v at d start n = decoded (chosen (spot_at v at start n) m d.value) d.after

abbrev pub choice_of : Member → List ℕ → ℕ → ℕ → Option Decoded → Option Decoded
choice_of m v at end alternative = do
  d ← alternative
  opened (any_tag (header_at v at end)) (chosen_of m v at d)

-- ---- members and elements in turn
-- "A default is never stored explicitly."
abbrev pub is_default : Presence → List ℕ → Bool
is_default mandatory c = false
is_default optional c = false
is_default (default d) c = same c d

abbrev pub unless_default : Member → Decoded → Option Decoded
unless_default m d = pick (is_default m.presence (spot_of d.value).contents) None (Some d)

-- a member that is there, and those after it
abbrev pub present_then : Member → (ℕ → Option Fields) → Option Decoded → Option Fields
present_then m rest member = do
  any ← member
  d ← unless_default m any
  fs ← rest d.after
  Some (present m d.value fs)

-- a member that isn't there; a mandatory one has to be
abbrev pub absent_then : Member → Option Fields → Option Fields
absent_then m rest = pick (is_mandatory m.presence) None (bind rest (λ fs. Some (absent m fs)))

abbrev pub next_then : (ℕ → Option Values) → Option Decoded → Option Values
next_then rest element = do
  d ← element
  xs ← rest d.after
  Some (next d.value xs)

-- the elements from i up to stop, at most k of them; f decodes one
unfoldable pub many : (ℕ → ℕ → Option Decoded) → ℕ → ℕ → ℕ → Option Values
many f zero stop i = pick (ltb i stop) None (Some end_values)
many f (suc k) stop i =
    let more = next_then (λ j. many f k stop j) (f i stop) in
    pick (ltb i stop) more (Some end_values)

-- ---- "Otherwise a nested value is checked as its row says, one level deeper."
unfoldable mutual
  -- inside an explicit wrapper, where there is one
  pub unwrapped : Ty → Tagging → List ℕ → ℕ → ℕ → Option Decoded
  unwrapped (basic k names) g v at end = opened (inside_at (tag_octet g k) v at end) (leaf_of k v at)
  unwrapped (sequence ms) g v at end = opened (inside_at (tag_octet g kind.sequence) v at end) (fields_of v at (λ stop i. fields_from ms v stop i))
  unwrapped (choice ms) g v at end = alternative_from ms v at end
  unwrapped (list_of k ty) g v at end = opened (inside_at (tag_octet g k) v at end) (elements_of k v at (many (λ i stop. unwrapped ty untagged v i stop)))

  pub fields_from : Members → List ℕ → ℕ → ℕ → Option Fields
  fields_from no_more v stop i = pick (eqb i stop) (Some end_fields) None
  fields_from (more m ty ms) v stop i =
      let there = present_then m (λ i. fields_from ms v stop i) (in_wrapper after_of m.tagging (λ a e. unwrapped ty m.tagging v a e) v i stop) in
      let without = absent_then m (fields_from ms v stop i) in
      pick (starts_here m ty v stop i) there without

  -- the alternative that can begin with the tag here
  pub alternative_from : Members → List ℕ → ℕ → ℕ → Option Decoded
  alternative_from no_more v at end = None
  alternative_from (more m ty ms) v at end =
      let this = choice_of m v at end (in_wrapper after_of m.tagging (λ a e. unwrapped ty m.tagging v a e) v at end) in
      let others = alternative_from ms v at end in
      pick (starts_here m ty v end at) this others

-- a value of a type under an expected tag
unfoldable pub decode : Ty → Tagging → List ℕ → ℕ → ℕ → Option Decoded
decode ty g v at end = in_wrapper after_of g (unwrapped ty g v) v at end

-- "DER, whole buffer": a buffer that is one value of a type, and nothing more
unfoldable pub stored_value : Ty → List ℕ → Option Value
stored_value ty v = do
  d ← decode ty untagged v 0 (length v)
  pick (eqb d.after (length v)) (Some d.value) None
