-- Q-1: "One table holds the folding, and it is shown once over all of it that what it gives folds to itself"; and what holds of a prepared string that is
-- prepared again.
use mathlib.Core.Path.{◌≡◌}
use mathlib.Core.Bool.{Bool, true}
use mathlib.Core.List.{List, [], ◌∷◌}
use Prim.Native.Nat.{ℕ, ◌<◌}
use lib.ListN.{length}
use Rattle.octets.specs.Octets.{octet}
use Rattle.octets.specs.Utf8.{utf8}
use Rattle.strings.specs.Images.{characters_in}
use Rattle.strings.specs.Prepared.{images, prepared}
use Rattle.strings.specs.Twice.{is_even, none_kept}
use Rattle.strings.specs.declared.Before.{Before}
use Rattle.strings.proofs.ImageLaws.{image-stays}
use Rattle.strings.proofs.Twice.{utf8-whole, prepared_twice, prepared-same, none_kept_twice}

-- each character that the table gives is its own image
pub folds_to_itself : (fold : Bool) (c i : ℕ) → c < 0x0180 → i < length (characters_in fold c)
    → characters_in fold (octet (characters_in fold c) i) ≡ octet (characters_in fold c) i ∷ []
folds_to_itself fold c i h l = image-stays fold c i h l

module _ (fold : Bool) (s : List ℕ) (valid : utf8 s ≡ true) where
  -- a prepared string is prepared to itself exactly where no space stands in it first, last or behind another
  pub prepared_again : is_even Before.Nothing (prepared fold s) ≡ true → prepared fold (prepared fold s) ≡ prepared fold s
  prepared_again e = prepared_twice fold s (utf8-whole s valid) e

  pub prepared_again_only : prepared fold (prepared fold s) ≡ prepared fold s → is_even Before.Nothing (prepared fold s) ≡ true
  prepared_again_only e = prepared-same fold s (utf8-whole s valid) e

  -- so it is where the string has none of U+00A8, U+00AF, U+00B4, U+00B8, whose images begin with a space that is kept
  pub none_kept_again : none_kept (images fold s) ≡ true → prepared fold (prepared fold s) ≡ prepared fold s
  none_kept_again e = none_kept_twice fold s (utf8-whole s valid) e
