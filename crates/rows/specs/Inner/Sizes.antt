-- Rows that are as they have to be, for the passes over the rows.
use Rattle.std.specs.Prelude.{ℕ, zero, suc, ◌+◌, ◌-◌, ◌≤◌, ◌≡◌, Bool, true, List, Option, None, Some, length, ltb, eqb}
use Rattle.der.specs.Kind as kind
use Rattle.octets.specs.Pick.{pick, both, all}
use Rattle.octets.specs.Text.{within, is_lower}
use Rattle.rows.specs.Row.{kind_at, short_width, name_width, name_octet_at, behind_name, default_length_at, bit_size, is_member, is_group, is_list, row_size}
use Rattle.rows.specs.Row.{is_follower}
use Rattle.rows.specs.Body.{count_formed, followed, tag_formed, presence_formed, default_filled, row_formed}

-- the octets of a type row of kind k; 0 where no type has the kind
unfoldable pub type_row_size : ℕ → ℕ
type_row_size k =
    pick (within kind.boolean kind.generalized_time k) 1
    (pick (is_group k) 2
    (pick (is_list k) 3
    (pick (eqb k kind.named_bit_string) 2
    (pick (within kind.rdn_sequence kind.rdn k) 1
    0))))

-- a size, where it is not 0
abbrev pub some_size : ℕ → Option ℕ
some_size zero = None
some_size (suc n) = Some (suc n)

-- the size of the type row at p, with at most so many members; 0 where no type row stands there, or it is not whole, or its body is not formed
unfoldable pub type_size : ℕ → List ℕ → ℕ → ℕ
type_size most t p = pick (ltb (length t - p) (type_row_size (kind_at t p))) 0 (pick (count_formed most t p) (type_row_size (kind_at t p)) 0)

-- the size of the row at p; 0 where it is not whole, or is not `good`
abbrev pub size_if : List ℕ → ℕ → Bool → ℕ
size_if t p good = pick (ltb (length t - p) (row_size (kind_at t p))) 0 (pick good (row_size (kind_at t p)) 0)

-- the first 24 octets of the name's field of the row at p: a lowercase letter, and each may follow the one before it
unfoldable pub name_begun : List ℕ → ℕ → Bool
name_begun t p = both (is_lower (name_octet_at t p 0)) (all (followed t p) (short_width - 1))

-- the body of the member row at p behind its name
unfoldable pub fields_formed : List ℕ → ℕ → Bool
fields_formed t p = both (tag_formed t p) (both (presence_formed t p) (default_filled t p))

-- the size of the row at p; 0 where it is not whole or its body is not formed
unfoldable pub formed_size : ℕ → List ℕ → ℕ → ℕ
formed_size most t p = size_if t p (row_formed most t p)

-- the name's field of the row at p is whole
pub record WholeName (t : List ℕ) (p : ℕ) : Type 0 where
  pub least : p + (1 + short_width) ≤ length t
  pub inside : p + (1 + name_width (kind_at t p)) ≤ length t

-- the row at p follows another and is whole
pub record WholeFollower (t : List ℕ) (p : ℕ) : Type 0 where
  pub follows : is_follower (kind_at t p) ≡ true
  pub least : p + bit_size ≤ length t
  pub inside : p + row_size (kind_at t p) ≤ length t

-- the row at p is a member row and whole, with a default of at most 8 octets
pub record WholeMember (t : List ℕ) (p : ℕ) : Type 0 where
  pub member : is_member (kind_at t p) ≡ true
  pub named : WholeName t p
  pub inside : behind_name t p + 14 ≤ length t
  pub short : default_length_at t p ≤ 8
