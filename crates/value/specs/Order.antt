-- "SET OF elements do not fall in X.690 order; equals may repeat."
use Rattle.std.specs.Prelude.{ℕ, Bool, true, List}
use Rattle.octets.specs.Pick.{both}
use Rattle.der.specs.Order.{not_above}
use Rattle.value.specs.Value.{Values, end_values, next, encoding}

-- each is not above the next
unfoldable pub rising : List ℕ → Values → Bool
rising v end_values = true
rising v (next x end_values) = true
rising v (next x (next y ys)) = let r = rising v (next y ys) in both (not_above (encoding v x) (encoding v y)) r
