-- Rules: "Strings: quoted, `""` for a quote, at least one character."
use Rattle.std.specs.Prelude.{ℕ, Bool, false, List, [], length, leb}
use Rattle.std.specs.Prelude.{Option, None, Some}
use Rattle.octets.specs.Quoted.{unquoted}

abbrev pub some_text : Option (List ℕ) → Bool
some_text None = false
some_text (Some s) = leb 1 (length s)

unfoldable pub is_text : List ℕ → Bool
is_text t = some_text (unquoted t)

abbrev pub text_or : Option (List ℕ) → List ℕ
text_or None = []
text_or (Some s) = s

unfoldable pub asserted_text : List ℕ → List ℕ
asserted_text t = text_or (unquoted t)
