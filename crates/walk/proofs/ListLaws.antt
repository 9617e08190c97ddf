-- What counting and listing make of what is named.
use mathlib.Core.Path.{◌≡◌, refl, ap, ap₂, ◌∙◌}
use mathlib.Core.Bool.{Bool, true, false}
use mathlib.Core.List.{List, [], ◌∷◌, ◌++◌, map}
use Prim.Native.Nat.{ℕ, suc, ◌≤◌, ◌<◌, ◌+◌, ◌*◌, ◌/◌, min}
use native.Mathlib.Omega.{arith}
use borrow.Author.Tests.{lt-leb, ltb-true, ltb-false}
use lib.ListN.{length, drop, length-set}
use lib.Seq.{sets, sets-eq}
use lib.Dec.{ltb}
use Rattle.octets.specs.Pick.{pick}
use Rattle.reference.specs.Named.{Held}
use Rattle.reference.specs.Numbers.{Component, component, Numbers, numbers_of, threes}
use Rattle.plan.specs.Inner.Task.{listing}
use Rattle.walk.specs.Inner.Run.{seen, put, list_one, noted, visited, run, counted_to}
use Rattle.walk.specs.declared.State.{State}

abbrev count : List Held → ℕ
count hs = length (map component hs)

-- ---- counting: the number of components, or the limit where that is less
pub counted-all : (limit n : ℕ) (hs : List Held) → n ≤ limit → counted_to limit n hs ≡ min limit (n + length (map component hs))
unfolding counted_to
counted-all limit n [] h = omega arith
counted-all limit n (x ∷ hs) h = go (ltb n limit) refl (λ l. counted-all limit (n + 1) hs l) (counted-all limit n hs h)
  where
    go : (b : Bool) → ltb n limit ≡ b → (n + 1 ≤ limit → counted_to limit (n + 1) hs ≡ min limit (n + 1 + count hs)) → counted_to limit n hs ≡ min limit (n + count hs)
        → counted_to limit (pick b (n + 1) n) hs ≡ min limit (n + suc (count hs))
    go true e f g = let b = ltb-true n limit e in let z = f (omega arith) in omega arith
    go false e f g = let b = ltb-false n limit e in omega arith

-- ---- listing
put-sets : (c : Numbers) (n : ℕ) (m : List ℕ) → put c n m ≡ sets m (n * 3) (c.source ∷ c.place ∷ c.number ∷ [])
unfolding put
put-sets c n m =
    let p : n * 3 + 1 ≡ suc (n * 3) = omega arith in
    let q : n * 3 + 2 ≡ suc (suc (n * 3)) = omega arith in
    rw (p, q)

length-put : (c : Numbers) (n : ℕ) (m : List ℕ) → length (put c n m) ≡ length m
unfolding put
length-put c n m = simp length-set

-- after n components that are written
list-from : (x : List ℕ) (hs : List Held) (n : ℕ) (m : List ℕ) → n + length (map component hs) ≤ length m / 3
    → run listing x (seen (State.Going n) m) hs ≡ seen (State.Going (n + length (map component hs))) (sets m (n * 3) (threes (map component hs)))
unfolding run visited noted list_one threes
list-from x [] n m h = ap (λ (q : ℕ). seen (State.Going q) m) (omega arith)
list-from x (y ∷ hs) n m h =
    let c = numbers_of (component y) in
    let b : n < length m / 3 = omega arith in
    let e : length (put c n m) ≡ length m = length-put c n m in
    let g : n + 1 + count hs ≤ length (put c n m) / 3 = rw e (omega arith) in
    let k : (n + 1) * 3 ≡ suc (suc (suc (n * 3))) = omega arith in
    let q : n + 1 + count hs ≡ n + suc (count hs) = omega arith in
    rw (lt-leb (length m / 3) n b) (list-from x hs (n + 1) (put c n m) g ∙ rw (q, k, put-sets c n m))

length-threes : (cs : List Component) → length (threes cs) ≡ length cs * 3
unfolding threes
length-threes [] = refl
length-threes (c ∷ cs) = ap (λ (n : ℕ). suc (suc (suc n))) (length-threes cs) ∙ omega arith

-- three numbers for each from the start, then the memory as it was
sets-threes : (m : List ℕ) (cs : List Component) → length cs * 3 ≤ length m → sets m 0 (threes cs) ≡ threes cs ++ drop (length cs * 3) m
sets-threes m cs h =
    let e = length-threes cs in
    let g : 0 + length (threes cs) ≤ length m = omega arith in
    let k : 0 + length (threes cs) ≡ length cs * 3 = omega arith in
    sets-eq (threes cs) m 0 g ∙ rw k

pub list-run : (x : List ℕ) (hs : List Held) (m : List ℕ) → length (map component hs) * 3 ≤ length m
    → run listing x (seen (State.Going 0) m) hs ≡ seen (State.Going (length (map component hs))) (threes (map component hs) ++ drop (length (map component hs) * 3) m)
list-run x hs m h =
    let g : 0 + count hs ≤ length m / 3 = omega arith in
    let z : 0 + count hs ≡ count hs = omega arith in
    list-from x hs 0 m g ∙ ap₂ (λ (k : ℕ) (l : List ℕ). seen (State.Going k) l) z (sets-threes m (map component hs) h)
