-- What the layers above use of quoted strings.
use mathlib.Core.Path.{◌≡◌, refl, sym, ap, ◌∙◌}
use mathlib.Core.Bool.{Bool}
use Rattle.std.specs.Prelude.{Option, None, Some}
use mathlib.Core.List.{List}
use Prim.Native.Nat.{ℕ}
use native.Mathlib.Omega.{arith}
use borrow.Author.Tests.{lt-leb}
use lib.Dec.{leb}
use lib.ListN.{length}
use Rattle.octets.specs.Quoted.{undoubled, unquoted}
use Rattle.octets.proofs.QuotedLaws.{undoubled_some}
use Rattle.strings.specs.Asserted.{some_text, is_text, text_or, asserted_text}

some_text_lem : (t : List ℕ) → leb 1 (length (asserted_text t)) ≡ is_text t
unfolding asserted_text is_text
some_text_lem t = go (unquoted t)
  where
    go : (o : Option (List ℕ)) → leb 1 (length (text_or o)) ≡ some_text o
    go None = lt-leb 1 0 (omega arith)
    go (Some s) = refl

-- a text conforms where octets stand between its quotes
pub text-is : (t p : List ℕ) (r : Bool) → undoubled p ≡ asserted_text t → r ≡ leb 1 (length p) → r ≡ is_text t
text-is t p r e h = h ∙ sym (undoubled_some p) ∙ ap (λ (x : List ℕ). leb 1 (length x)) e ∙ some_text_lem t
