-- How a decoded value is made: a family for each part of the decoder, with a constructor for each way to a value. Laws of decoded values and contracts of
-- functions that read a stored value go by these.
use Rattle.std.specs.Prelude.{Some}
use Rattle.std.specs.Prelude.{◌≡◌, Bool, true, false, List, ℕ, suc, ◌≤◌, ◌<◌, ◌+◌, eqb}
use Rattle.octets.specs.Pick.{either}
use Rattle.octets.specs.Octets.{octet, part}
use Rattle.der.specs.Kind as kind
use Rattle.der.specs.Tag.{wrapper_octet}
use Rattle.der.specs.Header.{inside_at}
use Rattle.der.specs.Legal.{legal}
use Rattle.types.specs.Types.{Tagging, untagged, explicit, implicit, Member, NamedBit, Ty, basic, sequence, choice, list_of, Members, no_more, more}
use Rattle.types.specs.Begins.{is_mandatory}
use Rattle.value.specs.Value.{Spot, spot_at, spot_of, Value, leaf, fields, chosen, elements}
use Rattle.value.specs.Value.{Fields, end_fields, present, absent, Values, end_values, next}
use Rattle.value.specs.Order.{rising}
use Rattle.value.specs.Decode.{tag_octet, starts_here, is_default}

-- a tag mode without a wrapper
abbrev pub is_bare : Tagging → Bool
is_bare untagged = true
is_bare (implicit n) = true
is_bare (explicit n) = false

-- a header with a tag octet at a place: where its contents start, how long they are, the spot that it makes, and the place after it
pub record Behind (v : List ℕ) (octet at end start n : ℕ) (s : Spot) (after : ℕ) : Type 0 where
  pub header : inside_at octet v at end ≡ Some (start, n)
  pub spot : spot_at v at start n ≡ s
  pub ends : start + n ≡ after

mutual
  -- x is a value of a type, inside its wrapper, at a place, before an end; and the place after it
  pub data Decodes (v : List ℕ) : Ty → Tagging → ℕ → ℕ → Value → ℕ → Type 0 where
    is_basic_type : {k : ℕ} {names : List NamedBit} {g : Tagging} {at end start n after : ℕ} {s : Spot} → Behind v (tag_octet g k) at end start n s after
        → legal k (part v start n) ≡ true → Decodes v (basic k names) g at end (leaf k s) after
    is-sequence : {ms : Members} {g : Tagging} {at end start n after : ℕ} {s : Spot} {fs : Fields} → Behind v (tag_octet g kind.sequence) at end start n s after
        → Fielded v after ms start fs → Decodes v (sequence ms) g at end (fields s fs) after
    is-choice : {ms : Members} {g : Tagging} {at end after : ℕ} {x : Value} → Chosen v end at ms x after → Decodes v (choice ms) g at end x after
    is-list : {k : ℕ} {ty : Ty} {g : Tagging} {at end start n after : ℕ} {s : Spot} {xs : Values} → Behind v (tag_octet g k) at end start n s after
        → Elements v ty after n start xs → either (eqb k kind.sequence_of) (rising v xs) ≡ true → Decodes v (list_of k ty) g at end (elements s xs) after

  -- the same under a tag mode: an explicit one has a wrapper, which the value fills
  pub data Tagged (v : List ℕ) : Ty → Tagging → ℕ → ℕ → Value → ℕ → Type 0 where
    bare : {ty : Ty} {g : Tagging} {at end after : ℕ} {x : Value} → is_bare g ≡ true → Decodes v ty g at end x after → Tagged v ty g at end x after
    filling : {ty : Ty} {k at end start n after : ℕ} {x : Value} → inside_at (wrapper_octet k) v at end ≡ Some (start, n)
        → Decodes v ty (explicit k) start (start + n) x after → after ≡ start + n → Tagged v ty (explicit k) at end x after

  -- members in turn from a place up to a stop
  pub data Fielded (v : List ℕ) : ℕ → Members → ℕ → Fields → Type 0 where
    none_left : {stop i : ℕ} → i ≡ stop → Fielded v stop no_more i end_fields
    there : {stop : ℕ} {m : Member} {ty : Ty} {ms : Members} {i after : ℕ} {x : Value} {fs : Fields} → starts_here m ty v stop i ≡ true
        → Tagged v ty m.tagging i stop x after → is_default m.presence (spot_of x).contents ≡ false → Fielded v stop ms after fs
        → Fielded v stop (more m ty ms) i (present m x fs)
    lacks : {stop : ℕ} {m : Member} {ty : Ty} {ms : Members} {i : ℕ} {fs : Fields} → starts_here m ty v stop i ≡ false → is_mandatory m.presence ≡ false
        → Fielded v stop ms i fs → Fielded v stop (more m ty ms) i (absent m fs)

  -- the alternative that can begin with the tag at a place, behind the header there
  pub data Chosen (v : List ℕ) : ℕ → ℕ → Members → Value → ℕ → Type 0 where
    this : {end at : ℕ} {m : Member} {ty : Ty} {ms : Members} {start n after : ℕ} {s : Spot} {x : Value} → starts_here m ty v end at ≡ true
        → Tagged v ty m.tagging at end x after → Behind v (octet v at) at end start n s after → Chosen v end at (more m ty ms) (chosen s m x) after
    other : {end at : ℕ} {m : Member} {ty : Ty} {ms : Members} {after : ℕ} {x : Value} → starts_here m ty v end at ≡ false
        → Chosen v end at ms x after → Chosen v end at (more m ty ms) x after

  -- elements in turn from a place up to a stop, at most k of them
  pub data Elements (v : List ℕ) : Ty → ℕ → ℕ → ℕ → Values → Type 0 where
    ends : {ty : Ty} {stop k i : ℕ} → stop ≤ i → Elements v ty stop k i end_values
    goes : {ty : Ty} {stop k i after : ℕ} {x : Value} {xs : Values} → i < stop → Decodes v ty untagged i stop x after → Elements v ty stop k after xs
        → Elements v ty stop (suc k) i (next x xs)
