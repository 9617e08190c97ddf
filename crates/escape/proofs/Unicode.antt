-- Valid UTF-8 (RFC 3629): texts one behind the other, and the escaped text.
use Rattle.std.specs.Prelude.{Option, Some, None}
use mathlib.Core.Path.{◌≡◌, refl, sym, ap, ◌∙◌}
use mathlib.Core.Bool.{Bool, true, false, false≢true}
use mathlib.Core.List.{List, [], ◌∷◌, ◌++◌}
use Prim.Native.Nat.{ℕ, ◌≤◌, ◌<◌, ◌-◌}
use native.Mathlib.Omega.{arith}
use borrow.Author.Tests.{ne_eqb, lt-ltb, lt-leb, ltb-true, ltb-false}
use lib.Dec.{ltb, eqb}
use lib.ListN.{length}
use Rattle.octets.specs.Pick.{pick}
use Rattle.octets.specs.Octets.{every}
use Rattle.octets.specs.Text.{within}
use Rattle.octets.specs.Utf8.{awaits, after_first, after, may_end, utf8_from, utf8}
use Rattle.octets.proofs.Laws.{pick_cases, both_true}
use Rattle.octets.proofs.TextLaws.{every-cons}
use Rattle.names.specs.Rfc4514.{is_reserved, is_special}
use Rattle.escape.specs.Escape.{escaped_octet, escaped_from, escaped_text}
use Rattle.escape.proofs.Types.{plain, plain-within}
use Rattle.escape.proofs.Letters.{by-letter}

-- ---- one text behind the other
-- where a text may end, what follows begins a new character
fresh : (a : Option (ℕ × ℕ × ℕ)) (x : List ℕ) → may_end a ≡ true → utf8_from a x ≡ utf8_from (awaits 0) x
unfolding utf8_from after
fresh None x e = absurd (false≢true e)
fresh (Some (n, least, most)) [] e = e
fresh (Some (n, least, most)) (b ∷ x) e = rw e

joined-from : (s x : List ℕ) (a : Option (ℕ × ℕ × ℕ)) → utf8_from a s ≡ true → utf8_from a (s ++ x) ≡ utf8_from (awaits 0) x
unfolding utf8_from
joined-from [] x a e = fresh a x e
joined-from (b ∷ s) x a e = joined-from s x (after a b) e

pub utf8-joined : (s x : List ℕ) → utf8 s ≡ true → utf8 (s ++ x) ≡ utf8 x
unfolding utf8
utf8-joined s x e = joined-from s x (awaits 0) e

-- ---- an octet below 128 is none inside a character
abbrev High : Option (ℕ × ℕ × ℕ) → Type 0
High None = 0 ≤ 0
High (Some (n, least, most)) = 128 ≤ least

high-first : (b : ℕ) → High (after_first b)
unfolding after_first
high-first b =
    pick_cases High (ltb b 128) _ _ (λ _. omega arith)
    (λ _. pick_cases High (ltb b 194) _ _ (λ _. omega arith)
    (λ _. pick_cases High (ltb b 224) _ _ (λ _. omega arith)
    (λ _. pick_cases High (eqb b 224) _ _ (λ _. omega arith)
    (λ _. pick_cases High (eqb b 237) _ _ (λ _. omega arith)
    (λ _. pick_cases High (ltb b 240) _ _ (λ _. omega arith)
    (λ _. pick_cases High (eqb b 240) _ _ (λ _. omega arith)
    (λ _. pick_cases High (ltb b 244) _ _ (λ _. omega arith)
    (λ _. pick_cases High (eqb b 244) _ _ (λ _. omega arith) (λ _. omega arith)))))))))

high_after : (a : Option (ℕ × ℕ × ℕ)) (b : ℕ) → High (after a b)
unfolding after
high_after None b = omega arith
high_after (Some (n, least, most)) b =
    pick_cases High (eqb n 0) (after_first b) (pick (within least most b) (awaits (n - 1)) None) (λ _. high-first b)
    (λ _. pick_cases High (within least most b) (awaits (n - 1)) None (λ _. omega arith) (λ _. omega arith))

-- one before another changes nothing
low-before : (a : Option (ℕ × ℕ × ℕ)) (b c : ℕ) → High a → b < 128 → c < 128 → after (after a b) c ≡ after a c
unfolding after after_first
low-before None b c h l m = refl
low-before (Some (n, least, most)) b c h l m = go (eqb n 0) refl
  where
    go : (t : Bool) → eqb n 0 ≡ t → after (after (Some (n, least, most)) b) c ≡ after (Some (n, least, most)) c
    go true e = rw (e, lt-ltb b 128 l)
    go false e = rw (e, lt-leb least b (omega arith), lt-leb least c (omega arith))

-- and all of them are alike
low_same : (a : Option (ℕ × ℕ × ℕ)) (b c : ℕ) → High a → b < 128 → c < 128 → after a b ≡ after a c
unfolding after after_first
low_same None b c h l m = refl
low_same (Some (n, least, most)) b c h l m = go (eqb n 0) refl
  where
    go : (t : Bool) → eqb n 0 ≡ t → after (Some (n, least, most)) b ≡ after (Some (n, least, most)) c
    go true e = rw (e, lt-ltb b 128 l, lt-ltb c 128 m)
    go false e = rw (e, lt-leb least b (omega arith), lt-leb least c (omega arith))

-- ---- the escaped text
special_none : (b : ℕ) → 128 ≤ b → is_special b ≡ false
unfolding is_special is_reserved
special_none b h =
    rw (far 32 (omega arith), far 35 (omega arith), far 61 (omega arith), far 92 (omega arith), far 34 (omega arith))
    (rw (far 43 (omega arith), far 44 (omega arith), far 59 (omega arith), far 60 (omega arith), far 62 (omega arith)))
  where
    far : (k : ℕ) → k < 128 → eqb b k ≡ false
    far k l = ne_eqb b k (λ e. omega arith)

special_low : (b : ℕ) → is_special b ≡ true → b < 128
special_low b e = go (ltb b 128) refl
  where
    go : (u : Bool) → ltb b 128 ≡ u → b < 128
    go true q = ltb-true b 128 q
    go false q = absurd (false≢true (sym (special_none b (ltb-false b 128 q)) ∙ e))

module _ (first last : Bool) (b : ℕ) (a : Option (ℕ × ℕ × ℕ)) (h : High a) where
  octet-escaped : (x : List ℕ) → utf8_from a (escaped_octet first last b ++ x) ≡ utf8_from (after a b) x
  unfolding utf8_from
  octet-escaped = by-letter first last b (λ q l. (x : List ℕ) → utf8_from a (q ++ x) ≡ utf8_from (after a b) x)
      (λ z x. ap (λ (s : Option (ℕ × ℕ × ℕ)). utf8_from s x) (nul (omega arith))) (λ s x. ap (λ (s : Option (ℕ × ℕ × ℕ)). utf8_from s x) (pair (special_low b s))) (λ v x. refl)
    where
      pair : b < 128 → after (after a 92) b ≡ after a b
      pair l = low-before a 92 b h (omega arith) l

      nul : b < 128 → after (after (after a 92) 48) 48 ≡ after a b
      nul l =
          low-before (after a 92) 48 48 (high_after a 92) (omega arith) (omega arith) ∙ low-before a 92 48 h (omega arith) (omega arith)
          ∙ low_same a 48 b h (omega arith) l

from-escaped : (t : List ℕ) (first : Bool) (a : Option (ℕ × ℕ × ℕ)) → High a → utf8_from a (escaped_from first t) ≡ utf8_from a t
unfolding escaped_from utf8_from
from-escaped [] first a h = refl
from-escaped (b ∷ t) first a h =
    octet-escaped first (eqb (length t) 0) b a h (escaped_from false t) ∙ from-escaped t false (after a b) (high_after a b)

pub utf8-escaped : (t : List ℕ) → utf8 (escaped_text t) ≡ utf8 t
unfolding utf8
utf8-escaped t = from-escaped t true (awaits 0) (omega arith)

-- ---- octets below 128
low-start : (b : ℕ) → b < 128 → after (awaits 0) b ≡ awaits 0
unfolding after after_first
low-start b l = rw (lt-ltb b 128 l)

pub utf8-low : (b : ℕ) (x : List ℕ) → b < 128 → utf8 (b ∷ x) ≡ utf8 x
unfolding utf8 utf8_from
utf8-low b x l = ap (λ (s : Option (ℕ × ℕ × ℕ)). utf8_from s x) (low-start b l)

pub utf8-plain : (t x : List ℕ) → every plain t ≡ true → utf8 (t ++ x) ≡ utf8 x
utf8-plain [] x e = refl
utf8-plain (b ∷ t) x e =
    let w = both_true (plain b) (every plain t) (sym (every-cons plain b t) ∙ e) in
    let p = plain-within b w.0 in
    utf8-low b (t ++ x) (omega arith) ∙ utf8-plain t x w.1
