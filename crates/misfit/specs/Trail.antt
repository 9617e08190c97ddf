-- The walk along a reference, on the octets. Refusal 7: "walking a checked value from its first octet along the reference, each header being
-- where the type and the lengths before it put it, the engine reaches one that doesn't fit its row or its enclosing length".
use Rattle.std.specs.Prelude.{ℕ, zero, suc, ◌+◌, ◌-◌, Bool, true, false, List, [], ◌∷◌, length, ltb, leb, eqb}
use Rattle.std.specs.Prelude.{Option, None, Some}
use Rattle.octets.specs.Pick.{pick, either, bind}
use Rattle.octets.specs.Octets.{same}
use Rattle.types.specs.Types.{untagged, Presence, mandatory, optional, default, Member, Ty, basic, sequence, choice, list_of, Members, no_more, more}
use Rattle.types.specs.Begins.{is_mandatory}
use Rattle.value.specs.Decode.{starts_here}
use Rattle.reference.specs.Reference.{Index, position, from_end, count, all, Id, name, index}
use Rattle.reference.specs.Numbers.{Component, stored, by_default, by_count}
use Rattle.misfit.specs.Opened.{Opened, opened_spot, after, open_at}

-- the components in the order in which the walk reaches them; it ends well, or in a fault
pub data Trail : Type 0 where
  done : Trail
  misfit : Trail
  reach : Component → Trail → Trail

-- one walk after another
unfoldable pub then : Trail → Trail → Trail
then done b = b
then misfit b = misfit
then (reach c a) b = reach c (then a b)

-- what f makes of a thing, where the headers fit
abbrev pub or_misfit : {A : Type 0} → (A → Trail) → Option A → Trail
or_misfit f None = misfit
or_misfit f (Some a) = f a

-- ---- elements of a list: o opens one, and they are from i up to stop, at most k of them
unfoldable pub each_from : (ℕ → ℕ → Option Opened) → (Opened → Trail) → ℕ → ℕ → ℕ → Trail
each_from o f zero stop i = pick (ltb i stop) misfit done
each_from o f (suc k) stop i =
    let elements = or_misfit (λ x. then (f x) (each_from o f k stop (after x))) (o i stop) in
    pick (ltb i stop) elements done

-- their number, after n of them; none where a header doesn't fit
unfoldable pub count_from : (ℕ → ℕ → Option Opened) → ℕ → ℕ → ℕ → ℕ → Option ℕ
count_from o zero stop n i = pick (ltb i stop) None (Some n)
count_from o (suc k) stop n i =
    let elements = bind (o i stop) (λ x. count_from o k stop (n + 1) (after x)) in
    pick (ltb i stop) elements (Some n)

-- the one at a position from 1
abbrev pub at_position : ℕ → (Opened → Trail) → (ℕ → Trail) → Opened → Trail
at_position n f rest x = pick (eqb n 1) (f x) (rest (after x))

unfoldable pub position_from : (ℕ → ℕ → Option Opened) → (Opened → Trail) → ℕ → ℕ → ℕ → ℕ → Trail
position_from o f zero stop n i = pick (ltb i stop) misfit done
position_from o f (suc k) stop n i =
    let elements = or_misfit (at_position n f (λ j. position_from o f k stop (n - 1) j)) (o i stop) in
    pick (ltb i stop) elements done

-- ---- members of a SEQUENCE, alternatives of a CHOICE
-- the one with a name: its type and where it stands; a member that is absent; none of that name, or an alternative not chosen; or a header that
-- doesn't fit
pub data Found : Type 0 where
  found : Ty → Opened → Found
  lacking : Member → Found
  nothing : Found
  broken : Found

abbrev pub or_broken : (Opened → Found) → Option Opened → Found
or_broken f None = broken
or_broken f (Some o) = f o

abbrev pub member_then : Bool → Ty → (ℕ → Found) → Opened → Found
member_then named ty rest o = pick named (found ty o) (rest (after o))

-- the member with a name, among those from i on: a mandatory one has to be there, any other is where the next tag is one it can begin with
unfoldable pub find_member : List ℕ → Members → List ℕ → ℕ → ℕ → Found
find_member x no_more v stop i = nothing
find_member x (more m ty ms) v stop i =
    let there = or_broken (member_then (same m.name x) ty (λ j. find_member x ms v stop j)) (open_at ty m.tagging v i stop) in
    let without = pick (same m.name x) (lacking m) (find_member x ms v stop i) in
    pick (either (is_mandatory m.presence) (starts_here m ty v stop i)) there without

-- the alternative that can begin with the tag here, if it has the name; a tag that none can begin with doesn't fit
unfoldable pub find_alternative : List ℕ → Members → List ℕ → ℕ → ℕ → Found
find_alternative x no_more v stop at = broken
find_alternative x (more m ty ms) v stop at =
    let this = pick (same m.name x) (or_broken (found ty) (open_at ty m.tagging v at stop)) nothing in
    let others = find_alternative x ms v stop at in
    pick (starts_here m ty v stop at) this others

-- ---- one component identifier at an opened value; f walks along the rest of the identifiers
-- a default and a count have no components of their own
abbrev pub ending : List Id → Component → Trail
ending [] c = reach c done
ending (i ∷ is) c = done

abbrev pub lacking_trail : Bool → List Id → ℕ → Member → Presence → Trail
lacking_trail defaults is place m mandatory = done
lacking_trail defaults is place m optional = done
lacking_trail defaults is place m (default c) = pick defaults (ending is (by_default place m)) done

abbrev pub on_found : Bool → List Id → ℕ → (Ty → Opened → Trail) → Found → Trail
on_found defaults is place f (found ty o) = f ty o
on_found defaults is place f (lacking m) = lacking_trail defaults is place m m.presence
on_found defaults is place f nothing = done
on_found defaults is place f broken = misfit

-- the one at a position from the end, among so many; f walks to a position from 1
abbrev pub from_last : ℕ → (ℕ → Trail) → ℕ → Trail
from_last n f size = pick (leb n size) (f (size + 1 - n)) done

abbrev pub in_members : Bool → Id → List Id → (List ℕ → Found) → ℕ → (Ty → Opened → Trail) → Trail
in_members defaults (name x) is find place f = on_found defaults is place f (find x)
in_members defaults (index i) is find place f = done

abbrev pub along_index : Index → List Id → (ℕ → ℕ → Option Opened) → Opened → (Opened → Trail) → Trail
along_index (position n) is o l f = position_from o f l.span (after l) n l.start
along_index (from_end n) is o l f = or_misfit (from_last n (λ p. position_from o f l.span (after l) p l.start)) (count_from o l.span (after l) 0 l.start)
along_index count is o l f = or_misfit (λ n. ending is (by_count l.place n)) (count_from o l.span (after l) 0 l.start)
along_index all is o l f = each_from o f l.span (after l) l.start

abbrev pub in_list : Id → List Id → (ℕ → ℕ → Option Opened) → Opened → (Opened → Trail) → Trail
in_list (name x) is o l f = done
in_list (index i) is o l f = along_index i is o l f

abbrev pub in_value : Bool → Id → List Id → Ty → List ℕ → Opened → (Ty → Opened → Trail) → Trail
in_value defaults i is (basic k names) v o f = done
in_value defaults i is (sequence ms) v o f = in_members defaults i is (λ x. find_member x ms v (after o) o.start) o.place f
in_value defaults i is (choice ms) v o f = in_members defaults i is (λ x. find_alternative x ms v (after o) o.place) o.place f
in_value defaults i is (list_of k ty) v o f = in_list i is (open_at ty untagged v) o (f ty)

-- ---- along the identifiers, from an opened value
unfoldable pub along : Bool → List Id → Ty → List ℕ → Opened → Trail
along defaults [] ty v o = reach (stored (opened_spot v o)) done
along defaults (i ∷ is) ty v o = in_value defaults i is ty v o (λ u p. along defaults is u v p)

-- from the value's first octet
unfoldable pub trail : Bool → List Id → Ty → List ℕ → Trail
trail defaults is ty v = or_misfit (along defaults is ty v) (open_at ty untagged v 0 (length v))

-- the walk has a fault
unfoldable pub has_misfit : Trail → Bool
has_misfit done = false
has_misfit misfit = true
has_misfit (reach c a) = has_misfit a
