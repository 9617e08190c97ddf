-- What the reader of a name makes of octets q that are an escaped text.
use Rattle.std.specs.Prelude.{Result, Ok}
use Rattle.std.specs.Prelude.{ℕ, ◌≡◌, Bool, true, List, [], ◌∷◌, ◌++◌, take, eqb}
use Rattle.std.specs.Prelude.{Some}
use Rattle.octets.specs.Pick.{either}
use Rattle.octets.specs.Utf8.{utf8}
use Rattle.der.specs.Dotted.{is_dotted}
use Rattle.names.specs.Rfc4514.{letters, attribute_from}
use Rattle.escape.specs.declared.EscapeError.{EscapeError}

-- what may stand behind a value in a name: nothing, or a plus sign or a comma and any octets
abbrev pub ends_value : List ℕ → Bool
ends_value [] = true
ends_value (b ∷ s) = either (eqb b 43) (eqb b 44)

-- an attribute type, `=` and q, and what stands behind
abbrev pub pair_with : List ℕ → List ℕ → List ℕ → List ℕ
pair_with type q after = type ++ (61 ∷ (q ++ after))

pub record ReadsAs (text q : List ℕ) : Type 0 where
  -- behind a dotted attribute type and `=` they are read as a value, which is the text octet by octet; what stands behind is left to be read
  pub attribute : (type after : List ℕ) → is_dotted type ≡ true → ends_value after ≡ true
      → attribute_from (letters (pair_with type q after)) ≡ Some (record { got = record { type = type; value = text }; rest = letters after })
  -- they are whole characters: behind valid UTF-8, what follows decides whether all is
  pub characters : (before after : List ℕ) → utf8 before ≡ true → utf8 (before ++ (q ++ after)) ≡ utf8 after

-- the octets that were written
pub record Reads (answer : Result ℕ EscapeError) (text memory : List ℕ) : Type 0 where
  pub written : (n : ℕ) → answer ≡ Ok n → ReadsAs text (take n memory)
