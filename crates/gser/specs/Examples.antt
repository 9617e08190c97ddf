-- Computed examples.
use Rattle.std.specs.Prelude.{◌≡◌, refl, [], ◌∷◌, map}
use Rattle.std.specs.Prelude.{None, Some}
use Rattle.octets.specs.Octets.{bytes}
use Rattle.octets.specs.Computing.{octets_compute}
use Rattle.gser.specs.Listed.{after_spaces, before_spaces, in_braces, inside, parted, listed}

-- no names
empty : map listed (bytes "{}" ∷ bytes "{ }" ∷ bytes "{   }" ∷ []) ≡ Some [] ∷ Some [] ∷ Some [] ∷ []
unfolding octets_compute after_spaces before_spaces in_braces inside parted listed
empty = refl

-- two names, with spaces where GSER has them and, in the last text, before a comma
names : map listed (bytes "{print,perform}" ∷ bytes "{  print,   perform  }" ∷ bytes "{print ,perform}" ∷ [])
    ≡ Some (bytes "print" ∷ bytes "perform" ∷ []) ∷ Some (bytes "print" ∷ bytes "perform" ∷ []) ∷ Some (bytes "print " ∷ bytes "perform" ∷ []) ∷ []
unfolding octets_compute after_spaces before_spaces in_braces inside parted listed
names = refl

-- empty texts beside a comma, and braces in braces: texts that are no names
others : map listed (bytes "{print,}" ∷ bytes "{,}" ∷ bytes "{{print}}" ∷ [])
    ≡ Some (bytes "print" ∷ [] ∷ []) ∷ Some ([] ∷ [] ∷ []) ∷ Some (bytes "{print}" ∷ []) ∷ []
unfolding octets_compute after_spaces before_spaces in_braces inside parted listed
others = refl

-- texts that aren't in braces
bare : map listed (bytes "{print" ∷ bytes "print}" ∷ bytes "print" ∷ bytes "{" ∷ bytes "" ∷ []) ≡ None ∷ None ∷ None ∷ None ∷ None ∷ []
unfolding octets_compute after_spaces before_spaces in_braces inside parted listed
bare = refl
