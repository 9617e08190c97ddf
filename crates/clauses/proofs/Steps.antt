-- One lemma for each return and each turn of a loop; its premises are the facts as the code has them.
use mathlib.Core.Path.{◌≡◌, sym, ◌∙◌}
use mathlib.Core.Bool.{Bool, true, false}
use mathlib.Core.List.{List}
use Prim.Native.Nat.{ℕ}
use Rattle.octets.specs.Text.{within}
use Rattle.der.specs.Legal.{legal}
use Rattle.clauses.specs.Clauses.{default_allowed}

pub allowed_not : (k : ℕ) (c : List ℕ) (r : Bool) → r ≡ within 1 3 k → r ≡ false → r ≡ default_allowed k c
unfolding default_allowed
allowed_not k c r e h = h ∙ rw (sym e ∙ h)

pub allowed-is : (k : ℕ) (c : List ℕ) (r u : Bool) → r ≡ within 1 3 k → r ≡ true → u ≡ legal k c → u ≡ default_allowed k c
unfolding default_allowed
allowed-is k c r u e h q = rw (sym e ∙ h) q
