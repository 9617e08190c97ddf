-- Object identifiers in dotted form, by the pieces of their text.
use mathlib.Core.Path.{◌≡◌, refl}
use mathlib.Core.Bool.{true}
use mathlib.Core.List.{List, [], ◌∷◌, map}
use Prim.Native.Nat.{ℕ}
use Rattle.octets.specs.Pick.{both}
use Rattle.octets.specs.Text.{is_number, decimal_from, pieces}
use Rattle.der.specs.Dotted.{every_number, dotted_arcs, rooted, is_dotted}

pub numbers-nil : every_number [] ≡ true
unfolding every_number
numbers-nil = refl

pub numbers-cons : (p : List ℕ) (ps : List (List ℕ)) → every_number (p ∷ ps) ≡ both (is_number p) (every_number ps)
unfolding every_number
numbers-cons p ps = refl

pub arcs-pieces : (t : List ℕ) → dotted_arcs t ≡ map (decimal_from 0) (pieces t)
unfolding dotted_arcs
arcs-pieces t = refl

pub dotted-pieces : (t : List ℕ) → is_dotted t ≡ both (every_number (pieces t)) (rooted (map (decimal_from 0) (pieces t)))
unfolding is_dotted dotted_arcs
dotted-pieces t = refl
