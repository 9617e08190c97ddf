-- The octets of an escaped text that stands between quotes (RFC 4514's pair, on top of "" for a quote): a backslash and two hexadecimal digits are an octet, a
-- backslash and a doubled quote a quote, a backslash and any other octet that octet.
use Rattle.std.specs.Prelude.{ℕ, ◌+◌, ◌*◌, List, [], ◌∷◌, eqb}
use Rattle.octets.specs.Pick.{pick, both, no}
use Rattle.octets.specs.Text.{is_hex, hex_value}

-- octets b, c and d, with those that the text stands for after one, two and three of them
abbrev pub unescaped_at : ℕ → ℕ → ℕ → List ℕ → List ℕ → List ℕ → List ℕ
unescaped_at b c d one two three =
    pick (no (eqb b 92)) (b ∷ one)
    (pick (both (eqb c 34) (eqb d 34)) (34 ∷ three)
    (pick (both (is_hex c) (is_hex d)) ((hex_value c * 16 + hex_value d) ∷ three)
    (c ∷ two)))

unfoldable pub unescaped : List ℕ → List ℕ
unescaped [] = []
unescaped (b ∷ []) = b ∷ []
unescaped (b ∷ c ∷ []) = let one = unescaped (c ∷ []) in pick (no (eqb b 92)) (b ∷ one) (c ∷ [])
unescaped (b ∷ c ∷ d ∷ s) =
    let one = unescaped (c ∷ d ∷ s) in
    let two = unescaped (d ∷ s) in
    let three = unescaped s in
    unescaped_at b c d one two three
