-- Headers on the way along a reference: a value's own header, behind its member's explicit wrapper where there is one.
use Rattle.std.specs.Prelude.{None}
use Rattle.std.specs.Prelude.{ℕ, ◌+◌, List}
use Rattle.std.specs.Prelude.{Option, Some}
use Rattle.octets.specs.Pick.{pick}
use Rattle.octets.specs.Octets.{octet}
use Rattle.der.specs.Kind as kind
use Rattle.der.specs.Tag.{tag_of}
use Rattle.der.specs.Header.{header_at, inside_at, any_tag, opened}
use Rattle.types.specs.Types.{Tagging, Ty, basic, sequence, choice, list_of}
use Rattle.types.specs.Begins.{begins}
use Rattle.value.specs.Value.{Spot, spot_at}
use Rattle.value.specs.Decode.{tag_octet, in_wrapper}

-- a value whose header has been read: its place, where its contents start and how long they are
pub record Opened : Type 0 where
  pub place : ℕ
  pub start : ℕ
  pub span : ℕ

abbrev pub opened_spot : List ℕ → Opened → Spot
opened_spot v o = spot_at v o.place o.start o.span

-- the place after a value
abbrev pub after : Opened → ℕ
after o = o.start + o.span

-- the header of a value of a type, inside its wrapper. That of a CHOICE is its alternative's: it has a tag that the CHOICE can begin with; whether
-- its constructed bit is the alternative's shows where the alternative is opened
unfoldable pub own_header : Ty → Tagging → List ℕ → ℕ → ℕ → Option (ℕ × ℕ)
own_header (basic k names) g v at end = inside_at (tag_octet g k) v at end
own_header (sequence ms) g v at end = inside_at (tag_octet g kind.sequence) v at end
own_header (choice ms) g v at end = pick (begins (choice ms) (tag_of (octet v at))) (any_tag (header_at v at end)) None
own_header (list_of k ty) g v at end = inside_at (tag_octet g k) v at end

abbrev pub opened_as : ℕ → ℕ → ℕ → Option Opened
opened_as at start n = Some (record { place = at; start = start; span = n })

abbrev pub open_own : Ty → Tagging → List ℕ → ℕ → ℕ → Option Opened
open_own ty g v at end = opened (own_header ty g v at end) (opened_as at)

-- the value of a type under an expected tag that begins at a place, before an end; none where a header doesn't fit
unfoldable pub open_at : Ty → Tagging → List ℕ → ℕ → ℕ → Option Opened
open_at ty g v at end = in_wrapper after g (open_own ty g v) v at end
