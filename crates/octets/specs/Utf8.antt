-- Valid UTF-8 (RFC 3629 section 4).
use Rattle.std.specs.Prelude.{Option, Some, None}
use Rattle.std.specs.Prelude.{ℕ, ◌-◌, Bool, false, List, [], ◌∷◌, ltb, eqb}
use Rattle.octets.specs.Pick.{pick}
use Rattle.octets.specs.Text.{within}

-- What may come next (`Awaiting`): `Some (n, least, most)`, n octets after the first of a character, the next of them from `least` to `most`, and with
-- none to come a new character; or `None`, since an octet was not one of UTF-8
-- UTF8-tail: 80 to BF
abbrev pub awaits : ℕ → Option (ℕ × ℕ × ℕ)
awaits n = Some (n, 128, 191)

-- after the first octet of a character: UTF8-1, UTF8-2, UTF8-3, UTF8-4
unfoldable pub after_first : ℕ → Option (ℕ × ℕ × ℕ)
after_first b =
    pick (ltb b 128) (awaits 0)
    (pick (ltb b 194) None
    (pick (ltb b 224) (awaits 1)
    (pick (eqb b 224) (Some (2, 160, 191))
    (pick (eqb b 237) (Some (2, 128, 159))
    (pick (ltb b 240) (awaits 2)
    (pick (eqb b 240) (Some (3, 144, 191))
    (pick (ltb b 244) (awaits 3)
    (pick (eqb b 244) (Some (3, 128, 143))
    None))))))))

-- after one octet more
unfoldable pub after : Option (ℕ × ℕ × ℕ) → ℕ → Option (ℕ × ℕ × ℕ)
after None b = None
after (Some (n, least, most)) b = pick (eqb n 0) (after_first b) (pick (within least most b) (awaits (n - 1)) None)

-- the text may end here
abbrev pub may_end : Option (ℕ × ℕ × ℕ) → Bool
may_end None = false
may_end (Some (n, least, most)) = eqb n 0

unfoldable pub utf8_from : Option (ℕ × ℕ × ℕ) → List ℕ → Bool
utf8_from a [] = may_end a
utf8_from a (b ∷ bs) = utf8_from (after a b) bs

unfoldable pub utf8 : List ℕ → Bool
utf8 s = utf8_from (awaits 0) s
