-- The fifth entry: one lemma for each return.
use mathlib.Core.Path.{◌≡◌, sym, ap, ◌∙◌}
use mathlib.Core.Bool.{Bool, true, false, not}
use mathlib.Core.List.{List}
use Prim.Native.Nat.{ℕ, ◌≤◌, ◌<◌, ◌+◌, ◌-◌}
use native.Mathlib.Omega.{arith}
use borrow.Author.Tests.{not-true, not-false, le-leb, lt-leb}
use lib.ListN.{length}
use Rattle.octets.specs.Octets.{part}
use Rattle.value.specs.Limits.{Limits}
use Rattle.value.specs.Check.{value_fits}
use Rattle.value.specs.Part.{PartReport, refused_part, part_report}

module _ (l : Limits) (v : List ℕ) (place size : ℕ) (x : Bool) (fits : x ≡ value_fits l v) where
  pub part_limits : not x ≡ true → refused_part 1 ≡ part_report l v place size
  unfolding part_report
  part_limits e = rw (sym fits ∙ not-true x e)

  module _ (e : not x ≡ false) where
    pub part_past : length v < place → refused_part 4 ≡ part_report l v place size
    unfolding part_report
    part_past h = rw (sym fits ∙ not-false x e, lt-leb (place + size) (length v) (omega arith))

    module _ (within : place ≤ length v) where
      pub part_long : length v - place < size → refused_part 4 ≡ part_report l v place size
      unfolding part_report
      part_long h = rw (sym fits ∙ not-false x e, lt-leb (place + size) (length v) (omega arith))

      pub part_there : (o : List ℕ) → size ≤ length v - place → o ≡ part v place size → ◌≡◌ {A = PartReport} (record { refusal = 0; octets = o }) (part_report l v place size)
      unfolding part_report
      part_there o h q = ap (λ (s : List ℕ). record { refusal = 0; octets = s }) q ∙ rw (sym fits ∙ not-false x e, le-leb (place + size) (length v) (omega arith))
