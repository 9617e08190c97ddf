-- The places of what a reference names rise strictly, at least two octets apart, so it names at most half as many values as the stored value has octets.
use mathlib.Core.Path.{◌≡◌}
use mathlib.Core.Bool.{Bool, true, false}
use Rattle.std.specs.Prelude.{Some}
use mathlib.Core.List.{List, [], ◌∷◌, ◌++◌, map}
use Prim.Native.Nat.{ℕ, ◌≤◌, ◌+◌, ◌-◌, ◌*◌}
use native.Mathlib.Omega.{arith}
use lib.ListN.{length}
use lib.Dec.{leb, eqb}
use Rattle.octets.specs.Pick.{pick}
use Rattle.octets.specs.Octets.{same}
use Rattle.types.specs.Types.{Presence, mandatory, optional, default, Member, Ty}
use Rattle.value.specs.Value.{spot_of, Value, leaf, fields, chosen, elements, Fields, end_fields, present, absent, Values, end_values, next}
use Rattle.value.specs.Inner.Lies.{InSpot, end_of, Lies, LieInFields, LieInTurn}
use Rattle.value.specs.Decode.{stored_value}
use Rattle.value.proofs.Laws.{lies_wider, stored-lies}
use Rattle.reference.specs.Reference.{Index, position, from_end, count, all, Id, name, index}
use Rattle.reference.specs.Named.{Held, value, default_value, count_value, absent_names, member_named, size, each, element_at, indexed_by, step, replaced, held, named}
use Rattle.reference.specs.Numbers.{Component, component, numbers_of}
use Rattle.misfit.specs.Spread.{Spread}

-- held values that lie one after another from lo on, up to hi; a default or a count takes the two octets of the header at its place
unfoldable Ranged : ℕ → ℕ → List Held → Type 0
Ranged lo hi [] = lo ≤ hi
Ranged lo hi (value x ∷ hs) = Lies lo hi x × Ranged (end_of x) hi hs
Ranged lo hi (default_value p m ∷ hs) = (lo ≤ p) × Ranged (p + 2) hi hs
Ranged lo hi (count_value p n ∷ hs) = (lo ≤ p) × Ranged (p + 2) hi hs

in_spot : (lo hi : ℕ) (x : Value) → Lies lo hi x → InSpot lo hi (spot_of x)
unfolding Lies
in_spot lo hi (leaf k s) w = w
in_spot lo hi (fields s fs) w = w.0
in_spot lo hi (chosen s m x) w = w.0
in_spot lo hi (elements s xs) w = w.0

ranged_low : (lo hi : ℕ) (hs : List Held) → Ranged lo hi hs → lo ≤ hi
unfolding Ranged
ranged_low lo hi [] w = w
ranged_low lo hi (value x ∷ hs) w = let s = in_spot lo hi x w.0 in let a = s.from in let b = s.long in let c = s.to in omega arith
ranged_low lo hi (default_value p m ∷ hs) w = let a = w.0 in let b = ranged_low (p + 2) hi hs w.1 in omega arith
ranged_low lo hi (count_value p n ∷ hs) w = let a = w.0 in let b = ranged_low (p + 2) hi hs w.1 in omega arith

-- from an earlier place on
ranged_wider : (a lo hi : ℕ) (hs : List Held) → a ≤ lo → Ranged lo hi hs → Ranged a hi hs
unfolding Ranged
ranged_wider a lo hi [] p w = let h : lo ≤ hi = w in omega arith
ranged_wider a lo hi (value x ∷ hs) p w = let h : hi ≤ hi = omega arith in (lies_wider a hi lo hi x p h w.0, w.1)
ranged_wider a lo hi (default_value q m ∷ hs) p w = let h = w.0 in (omega arith, w.1)
ranged_wider a lo hi (count_value q n ∷ hs) p w = let h = w.0 in (omega arith, w.1)

ranged_append : (lo mid hi : ℕ) (a b : List Held) → Ranged lo mid a → Ranged mid hi b → Ranged lo hi (a ++ b)
unfolding Ranged
ranged_append lo mid hi [] b u w = ranged_wider lo mid hi b u w
ranged_append lo mid hi (value x ∷ a) b u w =
    let h : mid ≤ hi = ranged_low mid hi b w in
    let l : lo ≤ lo = omega arith in
    (lies_wider lo hi lo mid x l h u.0, ranged_append (end_of x) mid hi a b u.1 w)
ranged_append lo mid hi (default_value p m ∷ a) b u w = (u.0, ranged_append (p + 2) mid hi a b u.1 w)
ranged_append lo mid hi (count_value p n ∷ a) b u w = (u.0, ranged_append (p + 2) mid hi a b u.1 w)

-- ---- what one identifier names lies within the value
one_value : (lo hi : ℕ) (x : Value) → Lies lo hi x → Ranged lo hi (value x ∷ [])
unfolding Ranged
one_value lo hi x w = (w, (in_spot lo hi x w).to)

nothing-held : (lo hi : ℕ) → lo ≤ hi → Ranged lo hi []
unfolding Ranged
nothing-held lo hi h = h

header-held : (lo hi p : ℕ) (m : Member) → lo ≤ p → p + 2 ≤ hi → Ranged lo hi (default_value p m ∷ [])
unfolding Ranged
header-held lo hi p m a b = (a, b)

count_held : (lo hi p n : ℕ) → lo ≤ p → p + 2 ≤ hi → Ranged lo hi (count_value p n ∷ [])
unfolding Ranged
count_held lo hi p n a b = (a, b)

absent_ranged : (defaults : Bool) (lo place hi : ℕ) (m : Member) (pr : Presence) → lo ≤ place → place + 2 ≤ hi → Ranged lo hi (absent_names defaults place m pr)
absent_ranged defaults lo place hi m mandatory a b = nothing-held lo hi (omega arith)
absent_ranged defaults lo place hi m optional a b = nothing-held lo hi (omega arith)
absent_ranged defaults lo place hi m (default c) a b = go defaults
  where
    go : (x : Bool) → Ranged lo hi (pick x (default_value place m ∷ []) [])
    go true = header-held lo hi place m a b
    go false = nothing-held lo hi (omega arith)

pick_ranged : (lo hi : ℕ) (z : Bool) (a b : List Held) → Ranged lo hi a → Ranged lo hi b → Ranged lo hi (pick z a b)
pick_ranged lo hi true a b p q = p
pick_ranged lo hi false a b p q = q

member_ranged : (defaults : Bool) (lo place low hi : ℕ) (x : List ℕ) (fs : Fields) → lo ≤ place → place + 2 ≤ low → low ≤ hi → LieInFields low hi fs → Ranged lo hi (member_named defaults place x fs)
unfolding Lies member_named
member_ranged defaults lo place low hi x end_fields a b c w = nothing-held lo hi (omega arith)
member_ranged defaults lo place low hi x (present m y fs) a b c w =
    let s = in_spot low hi y w.0 in
    let p = s.from in
    let q = s.long in
    let r = s.to in
    pick_ranged lo hi (same m.name x) (value y ∷ []) (member_named defaults place x fs)
    (one_value lo hi y (lies_wider lo hi low hi y (omega arith) (omega arith) w.0))
    (member_ranged defaults lo place (end_of y) hi x fs a (omega arith) (omega arith) w.1)
member_ranged defaults lo place low hi x (absent m fs) a b c w =
    pick_ranged lo hi (same m.name x) (absent_names defaults place m m.presence) (member_named defaults place x fs) (absent_ranged defaults lo place hi m m.presence a (omega arith)) (member_ranged defaults lo place low hi x fs a b c w)

each_ranged : (lo hi : ℕ) (xs : Values) → LieInTurn lo hi xs → Ranged lo hi (each xs)
unfolding Lies each Ranged
each_ranged lo hi end_values w = w
each_ranged lo hi (next x xs) w = (w.0, each_ranged (end_of x) hi xs w.1)

element_ranged : (n lo hi : ℕ) (xs : Values) → LieInTurn lo hi xs → Ranged lo hi (element_at n xs)
unfolding Lies element_at
element_ranged n lo hi end_values w = nothing-held lo hi w
element_ranged n lo hi (next x xs) w =
    let s = in_spot lo hi x w.0 in
    let p = s.from in
    pick_ranged lo hi (eqb n 1) (value x ∷ []) (element_at (n - 1) xs) (one_value lo hi x w.0) (ranged_wider lo (end_of x) hi (element_at (n - 1) xs) (omega arith) (element_ranged (n - 1) (end_of x) hi xs w.1))

index_ranged : (i : Index) (lo place hi : ℕ) (xs : Values) → lo ≤ place → place + 2 ≤ hi → LieInTurn (place + 2) hi xs → Ranged lo hi (indexed_by i place xs)
index_ranged (position n) lo place hi xs a b w = ranged_wider lo (place + 2) hi (element_at n xs) (omega arith) (element_ranged n (place + 2) hi xs w)
index_ranged (from_end n) lo place hi xs a b w =
    pick_ranged lo hi (leb n (size xs)) (element_at (size xs + 1 - n) xs) [] (ranged_wider lo (place + 2) hi (element_at (size xs + 1 - n) xs) (omega arith) (element_ranged (size xs + 1 - n) (place + 2) hi xs w)) (nothing-held lo hi (omega arith))
index_ranged count lo place hi xs a b w = count_held lo hi place (size xs) a b
index_ranged all lo place hi xs a b w = ranged_wider lo (place + 2) hi (each xs) (omega arith) (each_ranged (place + 2) hi xs w)

step_ranged : (defaults : Bool) (i : Id) (lo hi : ℕ) (x : Value) → Lies lo hi x → Ranged lo (end_of x) (step defaults i (value x))
unfolding Lies step
step_ranged defaults i lo hi (leaf k s) w = let a = w.from in nothing-held lo (s.place + s.size) (omega arith)
step_ranged defaults (name x) lo hi (fields s fs) w = let a = w.0.from in let b = w.0.long in member_ranged defaults lo s.place (s.place + 2) (s.place + s.size) x fs a (omega arith) (omega arith) w.1
step_ranged defaults (index j) lo hi (fields s fs) w = let a = w.0.from in nothing-held lo (s.place + s.size) (omega arith)
step_ranged defaults (name x) lo hi (chosen s m y) w =
    let a = w.0.from in
    let h : s.place + s.size ≤ s.place + s.size = omega arith in
    pick_ranged lo (s.place + s.size) (same m.name x) (value y ∷ []) [] (one_value lo (s.place + s.size) y (lies_wider lo (s.place + s.size) s.place (s.place + s.size) y a h w.1)) (nothing-held lo (s.place + s.size) (omega arith))
step_ranged defaults (index j) lo hi (chosen s m y) w = let a = w.0.from in nothing-held lo (s.place + s.size) (omega arith)
step_ranged defaults (name x) lo hi (elements s xs) w = let a = w.0.from in nothing-held lo (s.place + s.size) (omega arith)
step_ranged defaults (index j) lo hi (elements s xs) w = let a = w.0.from in let b = w.0.long in index_ranged j lo s.place (s.place + s.size) xs a (omega arith) w.1

no_step_missing : (defaults : Bool) (i : Id) (lo hi p : ℕ) (m : Member) (hs : List Held) → Ranged lo hi (replaced defaults i hs) → Ranged lo hi (step defaults i (default_value p m) ++ replaced defaults i hs)
unfolding step
no_step_missing defaults i lo hi p m hs w = w

no_step_counted : (defaults : Bool) (i : Id) (lo hi p n : ℕ) (hs : List Held) → Ranged lo hi (replaced defaults i hs) → Ranged lo hi (step defaults i (count_value p n) ++ replaced defaults i hs)
unfolding step
no_step_counted defaults i lo hi p n hs w = w

replaced_ranged : (defaults : Bool) (i : Id) (lo hi : ℕ) (hs : List Held) → Ranged lo hi hs → Ranged lo hi (replaced defaults i hs)
unfolding Ranged replaced
replaced_ranged defaults i lo hi [] w = w
replaced_ranged defaults i lo hi (value x ∷ hs) w = ranged_append lo (end_of x) hi (step defaults i (value x)) (replaced defaults i hs) (step_ranged defaults i lo hi x w.0) (replaced_ranged defaults i (end_of x) hi hs w.1)
replaced_ranged defaults i lo hi (default_value p m ∷ hs) w = let a = w.0 in no_step_missing defaults i lo hi p m hs (ranged_wider lo (p + 2) hi (replaced defaults i hs) (omega arith) (replaced_ranged defaults i (p + 2) hi hs w.1))
replaced_ranged defaults i lo hi (count_value p n ∷ hs) w = let a = w.0 in no_step_counted defaults i lo hi p n hs (ranged_wider lo (p + 2) hi (replaced defaults i hs) (omega arith) (replaced_ranged defaults i (p + 2) hi hs w.1))

held_ranged : (defaults : Bool) (is : List Id) (lo hi : ℕ) (hs : List Held) → Ranged lo hi hs → Ranged lo hi (held defaults is hs)
unfolding held
held_ranged defaults [] lo hi hs w = w
held_ranged defaults (i ∷ is) lo hi hs w = held_ranged defaults is lo hi (replaced defaults i hs) (replaced_ranged defaults i lo hi hs w)

-- ---- places
spread : (lo hi : ℕ) (hs : List Held) → Ranged lo hi hs → Spread lo hi (map component hs)
unfolding Ranged Spread numbers_of
spread lo hi [] w = w
spread lo hi (value x ∷ hs) w =
    let s = in_spot lo hi x w.0 in
    let a = s.long in
    (s.from, spread ((spot_of x).place + 2) hi hs (ranged_wider ((spot_of x).place + 2) (end_of x) hi hs (omega arith) w.1))
spread lo hi (default_value p m ∷ hs) w = (w.0, spread (p + 2) hi hs w.1)
spread lo hi (count_value p n ∷ hs) w = (w.0, spread (p + 2) hi hs w.1)

-- what a reference names in a stored value: places rise, from the first octet on, within the value
pub named_spread : (defaults : Bool) (is : List Id) (ty : Ty) (v : List ℕ) (x : Value) → stored_value ty v ≡ Some x → Spread 0 (length v) (map component (named defaults is x))
unfolding named
named_spread defaults is ty v x e =
    spread 0 (length v) (held defaults is (value x ∷ []))
    (held_ranged defaults is 0 (length v) (value x ∷ []) (one_value 0 (length v) x (stored-lies ty v x e)))

-- so many as half the octets at most
pub spread_few : (lo hi : ℕ) (cs : List Component) → Spread lo hi cs → lo + 2 * length cs ≤ hi
unfolding Spread
spread_few lo hi [] w = let h : lo ≤ hi = w in omega arith
spread_few lo hi (c ∷ cs) w = let a = w.0 in let b = spread_few ((numbers_of c).place + 2) hi cs w.1 in let q : length (c ∷ cs) ≡ length cs + 1 = omega arith in omega arith
