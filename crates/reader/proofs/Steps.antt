-- What stands at a place: one lemma for each need.
use Rattle.std.specs.Prelude.{Option, Some, None}
use mathlib.Core.Path.{◌≡◌, sym, ◌∙◌}
use mathlib.Core.List.{List}
use Prim.Native.Nat.{ℕ, ◌≤◌, ◌<◌, ◌+◌, ◌-◌}
use native.Mathlib.Omega.{arith}
use lib.ListN.{length}
use Rattle.octets.specs.Octets.{part}
use Rattle.der.proofs.Laws.{header-long, header-within}
use Rattle.reader.specs.There.{header_there}
use Rattle.reader.specs.Inner.Reads.{size_there, value_there}

module _ (s : List ℕ) (place : ℕ) (h : Option (ℕ × ℕ × ℕ)) (read : h ≡ header_there s place) where
  -- ---- no header fits
  module _ (e : h ≡ None) where
    pub size_none : 0 ≡ size_there s place
    unfolding size_there
    size_none = rw (sym read ∙ e)

  -- ---- a header fits
  module _ (o start n : ℕ) (e : h ≡ Some (o, start, n)) where
    pub long : place ≤ start + n
    unfolding header_there
    long = let l = header-long s place (length s) o start n (sym read ∙ e) in omega arith

    pub within : start + n ≤ length s
    unfolding header_there
    within = header-within s place (length s) o start n (sym read ∙ e)

    pub sum_fits : length s < 18446744073709551616 → start + n < 18446744073709551616
    sum_fits f = let w = within in omega arith

    pub size_is : start + n - place ≡ size_there s place
    unfolding size_there
    size_is = rw (sym read ∙ e)

-- ---- the place after
module _ (s : List ℕ) (place n : ℕ) (read : n ≡ size_there s place) where
  pub value-is : (r : List ℕ) → r ≡ part s place n → r ≡ value_there s place
  unfolding value_there
  value-is r q = rw (sym read) q
