-- Valid UTF-8 (RFC 3629): texts one behind the other, and the quoted form of a text.
use Rattle.std.specs.Prelude.{Option, Some, None}
use mathlib.Core.Path.{◌≡◌, refl}
use mathlib.Core.Bool.{Bool, true, false, false≢true}
use mathlib.Core.List.{List, [], ◌∷◌, ◌++◌}
use Prim.Native.Nat.{ℕ, zero, suc, ◌≤◌, ◌-◌}
use native.Mathlib.Omega.{arith}
use borrow.Author.Tests.{lt-leb}
use lib.Dec.{ltb, eqb}
use Rattle.octets.specs.Pick.{pick}
use Rattle.octets.specs.Text.{within}
use Rattle.octets.specs.Utf8.{awaits, after_first, after, may_end, utf8_from, utf8}
use Rattle.octets.proofs.Laws.{pick_cases}
use Rattle.quote.specs.Quote.{doubled, quoted}
use Rattle.quote.specs.Reading.{closed_by}
use Rattle.quote.proofs.Laws.{by-octets, quoted-is}

-- ---- one text behind the other
-- where a text may end, what follows begins a new character
fresh : (a : Option (ℕ × ℕ × ℕ)) (x : List ℕ) → may_end a ≡ true → utf8_from a x ≡ utf8_from (awaits 0) x
unfolding utf8_from after
fresh None x e = absurd (false≢true e)
fresh (Some (n, least, most)) [] e = e
fresh (Some (n, least, most)) (b ∷ x) e = rw e

joined-from : (s x : List ℕ) (a : Option (ℕ × ℕ × ℕ)) → utf8_from a s ≡ true → utf8_from a (s ++ x) ≡ utf8_from (awaits 0) x
unfolding utf8_from
joined-from [] x a e = fresh a x e
joined-from (b ∷ s) x a e = joined-from s x (after a b) e

pub utf8-joined : (s x : List ℕ) → utf8 s ≡ true → utf8 (s ++ x) ≡ utf8 x
unfolding utf8
utf8-joined s x e = joined-from s x (awaits 0) e

-- ---- a quote is no octet inside a character
abbrev High : Option (ℕ × ℕ × ℕ) → Type 0
High None = 0 ≤ 0
High (Some (n, least, most)) = 128 ≤ least

high-first : (b : ℕ) → High (after_first b)
unfolding after_first
high-first b =
    pick_cases High (ltb b 128) _ _ (λ _. omega arith)
    (λ _. pick_cases High (ltb b 194) _ _ (λ _. omega arith)
    (λ _. pick_cases High (ltb b 224) _ _ (λ _. omega arith)
    (λ _. pick_cases High (eqb b 224) _ _ (λ _. omega arith)
    (λ _. pick_cases High (eqb b 237) _ _ (λ _. omega arith)
    (λ _. pick_cases High (ltb b 240) _ _ (λ _. omega arith)
    (λ _. pick_cases High (eqb b 240) _ _ (λ _. omega arith)
    (λ _. pick_cases High (ltb b 244) _ _ (λ _. omega arith)
    (λ _. pick_cases High (eqb b 244) _ _ (λ _. omega arith) (λ _. omega arith)))))))))

high_after : (a : Option (ℕ × ℕ × ℕ)) (b : ℕ) → High (after a b)
unfolding after
high_after None b = omega arith
high_after (Some (n, least, most)) b =
    pick_cases High (eqb n 0) (after_first b) (pick (within least most b) (awaits (n - 1)) None) (λ _. high-first b)
    (λ _. pick_cases High (within least most b) (awaits (n - 1)) None (λ _. omega arith) (λ _. omega arith))

-- a second quote changes nothing
second_quote : (a : Option (ℕ × ℕ × ℕ)) → High a → after (after a 34) 34 ≡ after a 34
unfolding after after_first
second_quote None h = refl
second_quote (Some (n, least, most)) h = go (eqb n 0) refl
  where
    go : (t : Bool) → eqb n 0 ≡ t → after (after (Some (n, least, most)) 34) 34 ≡ after (Some (n, least, most)) 34
    go true e = rw e
    go false e = rw (e, lt-leb least 34 (omega arith))

utf8-doubled : (t : List ℕ) (a : Option (ℕ × ℕ × ℕ)) → High a → utf8_from a t ≡ true → utf8_from a (doubled t) ≡ true
unfolding utf8_from
utf8-doubled = by-octets Same (λ a h e. e) (λ t d f a h e. rw (second_quote a h) (f (after a 34) (high_after a 34) e))
    (λ b t d n f a h e. f (after a b) (high_after a b) e)
  where
    Same : List ℕ → List ℕ → Type 0
    Same t d = (a : Option (ℕ × ℕ × ℕ)) → High a → utf8_from a t ≡ true → utf8_from a d ≡ true

pub utf8-quoted : (t : List ℕ) → utf8 t ≡ true → utf8 (quoted t) ≡ true
unfolding utf8 utf8_from after after_first
utf8-quoted t e = rw (quoted-is t) (joined-from (doubled t) (34 ∷ []) (awaits 0) (utf8-doubled t (awaits 0) (omega arith) e))

pub utf8-closed : (spaces : ℕ) → utf8 (closed_by spaces []) ≡ true
unfolding utf8 utf8_from after after_first
utf8-closed zero = refl
utf8-closed (suc n) = utf8-closed n
