-- The definitions of this crate and those below, as one name for the `unfolding` line of a computed example.
use Rattle.std.specs.Prelude.{ℕ}
use Rattle.value.specs.Computing.{value_computes}
use Rattle.reference.specs.Reference.{is_position, id_of, ids_of, read_reference}
use Rattle.reference.specs.Allowed.{member_type, under, allowed_from, allowed}
use Rattle.reference.specs.Named.{member_named, size, each, element_at, step, replaced, held, named}
use Rattle.reference.specs.Numbers.{numbers_of, threes}

unfoldable pub reference_computes : ℕ
unfolding value_computes is_position id_of ids_of read_reference member_type under allowed_from allowed member_named size each element_at step replaced held
    named numbers_of threes
reference_computes = 0
