-- Whether a type allows a reference, and what it then leads to: a type, or the count of a list, which is an INTEGER.
use Rattle.std.specs.Prelude.{ℕ, List, [], ◌∷◌}
use Rattle.std.specs.Prelude.{Option, None, Some}
use Rattle.octets.specs.Pick.{pick, bind}
use Rattle.octets.specs.Octets.{same}
use Rattle.types.specs.Types.{Ty, basic, sequence, choice, list_of, Members, no_more, more}
use Rattle.reference.specs.Reference.{Index, position, from_end, count, all, Id, name, index}

pub data Target : Type 0 where
  of_type : Ty → Target
  of_count : Target

-- the type of the member or alternative with a name
unfoldable pub member_type : List ℕ → Members → Option Ty
member_type x no_more = None
member_type x (more m ty ms) = let r = member_type x ms in pick (same m.name x) (Some ty) r

-- identifiers on SEQUENCE and CHOICE
abbrev pub under_members : Id → Members → Option Target
under_members (name x) ms = bind (member_type x ms) (λ ty. Some (of_type ty))
under_members (index i) ms = None

-- positions, count and all on SEQUENCE OF and SET OF
abbrev pub indexed : Index → Ty → Target
indexed (position n) ty = of_type ty
indexed (from_end n) ty = of_type ty
indexed count ty = of_count
indexed all ty = of_type ty

abbrev pub under_list : Id → Ty → Option Target
under_list (name x) ty = None
under_list (index i) ty = Some (indexed i ty)

-- one component identifier at a target
unfoldable pub under : Id → Target → Option Target
under i of_count = None
under i (of_type (basic k names)) = None
under i (of_type (sequence ms)) = under_members i ms
under i (of_type (choice ms)) = under_members i ms
under i (of_type (list_of k ty)) = under_list i ty

-- all of them in turn
unfoldable pub allowed_from : List Id → Target → Option Target
allowed_from [] g = Some g
allowed_from (i ∷ is) g = bind (under i g) (λ h. allowed_from is h)

unfoldable pub allowed : List Id → Ty → Option Target
allowed is ty = allowed_from is (of_type ty)
