-- With which tags a type can begin. "An untagged CHOICE can start with any tag its alternatives can."
use Rattle.std.specs.Prelude.{ℕ, Bool, true, false, eqb}
use Rattle.octets.specs.Pick.{both, either, no, all}
use Rattle.der.specs.Kind as kind
use Rattle.der.specs.Tag.{context, universal}
use Rattle.types.specs.Types.{Tagging, untagged, explicit, implicit, Presence, mandatory, optional, default, Member, Ty, basic, sequence, choice, list_of, Members, no_more, more}

-- a member begins with its context tag, or untagged as its type does
abbrev pub as_tagged : Tagging → Bool → ℕ → Bool
as_tagged untagged own g = own
as_tagged (explicit n) own g = eqb g (context n)
as_tagged (implicit n) own g = eqb g (context n)

unfoldable mutual
  pub begins : Ty → ℕ → Bool
  begins (basic k names) g = eqb g (universal k)
  begins (sequence ms) g = eqb g (universal kind.sequence)
  begins (choice ms) g = some_begins ms g
  begins (list_of k ty) g = eqb g (universal k)

  pub some_begins : Members → ℕ → Bool
  some_begins no_more g = false
  some_begins (more m ty ms) g = either (as_tagged m.tagging (begins ty g) g) (some_begins ms g)

unfoldable pub member_begins : Member → Ty → ℕ → Bool
member_begins m ty g = as_tagged m.tagging (begins ty g) g

-- ---- tags differ
abbrev pub is_mandatory : Presence → Bool
is_mandatory mandatory = true
is_mandatory optional = false
is_mandatory (default c) = false

unfoldable pub apart_at : Member → Ty → Member → Ty → ℕ → Bool
apart_at m ty n u g = no (both (member_begins m ty g) (member_begins n u g))

-- two members have no tag in common; tags are the numbers below 64 (`tag_of`)
unfoldable pub apart : Member → Ty → Member → Ty → Bool
apart m ty n u = all (apart_at m ty n u) 64

-- alternatives' tags differ: from those of each one after it
unfoldable pub apart_from_all : Member → Ty → Members → Bool
apart_from_all m ty no_more = true
apart_from_all m ty (more n u ms) = let r = apart_from_all m ty ms in both (apart m ty n u) r

unfoldable pub alternatives_differ : Members → Bool
alternatives_differ no_more = true
alternatives_differ (more m ty ms) = let r = alternatives_differ ms in both (apart_from_all m ty ms) r

-- "so do those of a run of optional or default members and the mandatory one after it"
unfoldable pub apart_in_run : Member → Ty → Members → Bool
apart_in_run m ty no_more = true
apart_in_run m ty (more n u ms) = let r = apart_in_run m ty ms in both (apart m ty n u) (either (is_mandatory n.presence) r)

unfoldable pub runs_differ : Members → Bool
runs_differ no_more = true
runs_differ (more m ty ms) = let r = runs_differ ms in both (either (is_mandatory m.presence) (apart_in_run m ty ms)) r

-- of one type
unfoldable pub tags_apart : Ty → Bool
tags_apart (basic k names) = true
tags_apart (sequence ms) = runs_differ ms
tags_apart (choice ms) = alternatives_differ ms
tags_apart (list_of k ty) = true
