-- What contents mean, by cases, as laws for the layers above.
use mathlib.Core.Path.{◌≡◌, refl}
use mathlib.Core.Bool.{Bool, true, false}
use mathlib.Core.List.{List}
use Prim.Native.Nat.{ℕ}
use lib.Dec.{ltb, leb, eqb}
use Rattle.der.specs.Kind.{is_string}
use Rattle.octets.specs.Pick.{pick, both, no}
use Rattle.der.specs.Contents.{subidentifiers}
use Rattle.der.specs.Meaning.{same_whole, less_whole, arcs_from, arcs_of}

pub same_whole_lem : (m n : Bool) (a b : ℕ) → same_whole (record { minus = m; size = a }) (record { minus = n; size = b }) ≡ both (pick m n (no n)) (eqb a b)
unfolding same_whole
same_whole_lem m n a b = refl

pub less-whole : (m n : Bool) (a b : ℕ) → less_whole (record { minus = m; size = a }) (record { minus = n; size = b }) ≡ pick m (pick n (ltb b a) true) (pick n false (ltb a b))
unfolding less_whole
less-whole m n a b = refl

pub arcs_subs : (c : List ℕ) → arcs_of c ≡ arcs_from (subidentifiers c)
unfolding arcs_of
arcs_subs c = refl

-- the string kinds
pub string_kinds : (k : ℕ) → is_string k ≡ both (leb 8 k) (leb k 10)
unfolding is_string
string_kinds k = refl
