-- Computed examples.
use Rattle.std.specs.Prelude.{◌≡◌, refl, Bool, true, false, [], ◌∷◌, map}
use Rattle.std.specs.Prelude.{Option, None, Some}
use Prim.Native.String.{String}
use Rattle.octets.specs.Pick.{is_some}
use Rattle.octets.specs.Octets.{bytes}
use Rattle.assertion.specs.Item.{Item}
use Rattle.assertion.specs.Assertion.{Read, assertion_at}
use Rattle.assertion.specs.Computing.{assertion_computes}

read : String → Option (Read Item)
read s = assertion_at (bytes s) 0

-- the contents of an assertion, and the place after it
full : read "{ component \"a\"\"b\",useDefaultValues FALSE, rule 2.5.13.14,value  3 }, x"
    ≡ Some (record { is = record { component = Some (bytes "a\"b"); defaults = false; rule = bytes "2.5.13.14"; value = bytes "3" }; after = 68 })
unfolding assertion_computes read
full = refl

least : read "{rule x,value 1}" ≡ Some (record { is = record { component = None; defaults = true; rule = bytes "x"; value = bytes "1" }; after = 16 })
unfolding assertion_computes read
least = refl

is_good : String → Bool
is_good s = is_some (read s)

-- `useDefaultValues` after `rule`, before `component`; `value` before `rule`
orders : map is_good ("{rule x,useDefaultValues FALSE,value 1}" ∷ "{useDefaultValues FALSE,component \"a\",rule x,value 1}" ∷ "{value 1,rule x}" ∷ [])
    ≡ false ∷ false ∷ false ∷ []
unfolding assertion_computes read is_good
orders = refl
