-- The definitions of this crate and those below, as one name for the `unfolding` line of a computed example.
use Rattle.std.specs.Prelude.{ℕ}
use Rattle.value.specs.Computing.{value_computes}
use Rattle.reader.specs.There.{header_there, contents_there}
use Rattle.reader.specs.Inner.Reads.{size_there, next_there, value_there}

unfoldable pub reader_computes : ℕ
unfolding value_computes header_there size_there next_there value_there contents_there
reader_computes = 0
