-- Q-1, a prepared string prepared again: what is said of it.
use Rattle.std.specs.Prelude.{ℕ, Bool, true, false, List, [], ◌∷◌, eqb}
use Rattle.octets.specs.Pick.{pick, both, no}
use Rattle.strings.specs.Images.{Mark, blank, shown}
use Rattle.strings.specs.declared.Before.{Before}
use Rattle.strings.specs.declared.Before.TheVariants.{Nothing, Character, Space}

-- no space stands first, last or behind another
abbrev pub even_space : Before → Bool → Bool
even_space Nothing rest = false
even_space Character rest = rest
even_space Space rest = false

abbrev pub even_end : Before → Bool
even_end Nothing = true
even_end Character = true
even_end Space = false

unfoldable pub is_even : Before → List ℕ → Bool
is_even p [] = even_end p
is_even p (b ∷ s) =
    let space = is_even Space s in
    let character = is_even Character s in
    pick (eqb b 0x20) (even_space p space) character

-- no space is one that NFKC puts before a combining mark
unfoldable pub none_kept : List Mark → Bool
none_kept [] = true
none_kept (blank ∷ ms) = none_kept ms
none_kept (shown b ∷ ms) = let rest = none_kept ms in both (no (eqb b 0x20)) rest
