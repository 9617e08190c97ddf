-- The definitions of this crate and those below, as one name for the `unfolding` line of a computed example.
use Rattle.std.specs.Prelude.{ℕ}
use Rattle.der.specs.Computing.{der_computes}
use Rattle.rows.specs.Limits.{table_fits}
use Rattle.rows.specs.Row.{name_width, unfilled, behind_name, is_type_kind, is_member, is_group, is_list, row_named, names_row, named_at, row_size, rows_from, rows}
use Rattle.rows.specs.Row.{members_at, bit_names_at, follower_kind, followers_at, stands_as, is_follower}
use Rattle.rows.specs.Body.{count_formed, follows, followed, name_formed, tagging_formed, tag_formed, presence_formed, default_filled, member_formed}
use Rattle.rows.specs.Body.{length_formed, bit_formed, row_formed}

unfoldable pub rows_compute : ℕ
unfolding der_computes table_fits name_width unfilled behind_name is_type_kind is_member is_group is_list row_named names_row named_at row_size rows_from rows members_at
    bit_names_at follower_kind followers_at stands_as is_follower count_formed follows followed name_formed length_formed tagging_formed tag_formed presence_formed
    default_filled member_formed bit_formed row_formed
rows_compute = 0
