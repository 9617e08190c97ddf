-- Held values and runs over them; the field of an index is the member with its name; the alternative that can begin is the one chosen.
use mathlib.Core.Path.{◌≡◌, refl, sym, ap, ◌∙◌}
use mathlib.Core.Bool.{Bool, true, false}
use mathlib.Core.List.{List, [], ◌∷◌, ◌++◌}
use Prim.Native.Nat.{ℕ, ◌+◌}
use native.Mathlib.Omega.{arith}
use lib.Dec.{ltb, eqb}
use Rattle.octets.specs.Pick.{pick, both, no}
use Rattle.octets.specs.Octets.{octet, same}
use Rattle.octets.proofs.Laws.{both_true, all-at}
use Rattle.der.specs.Tag.{tag_of}
use Rattle.der.proofs.Laws.{tag_small}
use Rattle.types.specs.Types.{Presence, mandatory, optional, default, Member, Ty, Members}
use Rattle.types.specs.Begins.{member_begins, apart_at, apart, apart_from_all, alternatives_differ}
use Rattle.value.specs.Value.{Spot, Value, chosen, Fields}
use Rattle.value.specs.Decode.{starts_here}
use Rattle.value.specs.Inner.Decodes as decodes
use Rattle.value.specs.Inner.Decodes.{Tagged, Fielded, Chosen, this, other}
use Rattle.reference.specs.Reference.{Id}
use Rattle.reference.specs.Named.{Held, value, default_value, absent_names, member_named, step, held}
use Rattle.reference.specs.Numbers.{component, numbers_of, by_default, contents_of}
use Rattle.reference.proofs.HeldLaws.{held_none, held-step}
use Rattle.plan.specs.Inner.Test.{Test}
use Rattle.plan.specs.Inner.Task.{Task, counting, listing, testing, passes_contents, passes}
use Rattle.plan.specs.Inner.Plan.{absent_of, Unnamed, nil, cons, Names, here, later}
use Rattle.walk.specs.Inner.Leads.{Picked, there, lacking, past, picked_at}
use Rattle.walk.specs.Inner.Run.{Seen, seen, count_one, test_one, noted, visited, onward, run, counted_to, tested_to, ran_to}
use Rattle.walk.specs.declared.State.{State}

pub held-done : (d : Bool) (hs : List Held) → held d [] hs ≡ hs
unfolding held
held-done d hs = refl

-- ---- runs
module _ (task : Task) (x : List ℕ) where
  pub run_none : (w : Seen) → run task x w [] ≡ w
  unfolding run
  run_none w = refl

  pub run-one : (n : ℕ) (m : List ℕ) (h : Held) → run task x (seen (State.Going n) m) (h ∷ []) ≡ visited task x (component h) n m
  unfolding run
  run-one n m h = refl

  pub run-append : (w : Seen) (a b : List Held) → run task x w (a ++ b) ≡ run task x (run task x w a) b
  unfolding run
  run-append w [] b = refl
  run-append w (h ∷ a) b = run-append (onward (visited task x (component h)) w) a b

  pub run-accepted : (n : ℕ) (m : List ℕ) (a : List Held) → run task x (seen (State.Accepted n) m) a ≡ seen (State.Accepted n) m
  unfolding run
  run-accepted n m [] = refl
  run-accepted n m (h ∷ a) = run-accepted n m a

  pub run-over : (m : List ℕ) (a : List Held) → run task x (seen State.Over m) a ≡ seen State.Over m
  unfolding run
  run-over m [] = refl
  run-over m (h ∷ a) = run-over m a

  -- ---- an absent member, by what the plan says that it comes to
  pub absent_runs : (d : Bool) (is : List Id) (place : ℕ) (o : Member) (n : ℕ) (m : List ℕ)
      → pick (eqb (absent_of d task x is o.presence) 0) (seen (State.Going n) m) (noted task (eqb (absent_of d task x is o.presence) 2) (numbers_of (by_default place o)) n m)
      ≡ run task x (seen (State.Going n) m) (held d is (absent_names d place o o.presence))
  unfolding run step visited passes
  absent_runs d is place o n m = go is o.presence refl
    where
      nothing : (js : List Id) → seen (State.Going n) m ≡ run task x (seen (State.Going n) m) (held d js [])
      nothing js = ap (run task x (seen (State.Going n) m)) (sym (held_none d js))

      missing_left : (i : Id) (js : List Id) → seen (State.Going n) m ≡ run task x (seen (State.Going n) m) (held d (i ∷ js) (default_value place o ∷ []))
      missing_left i js = nothing js ∙ ap (run task x (seen (State.Going n) m)) (sym (held-step d i js (default_value place o)))

      noted_as : (c : List ℕ) → o.presence ≡ default c → (good : Bool) → passes_contents task x c ≡ good
          → noted task good (numbers_of (by_default place o)) n m ≡ run task x (seen (State.Going n) m) (held d [] (default_value place o ∷ []))
      noted_as c p good e =
          ap (λ (y : Bool). noted task y (numbers_of (by_default place o)) n m) (sym e ∙ ap (λ (y : Presence). passes_contents task x (contents_of y)) (sym p))
          ∙ ap (run task x (seen (State.Going n) m)) (sym (held-done d (default_value place o ∷ [])))

      by_default_lem : (c : List ℕ) → o.presence ≡ default c → (u good : Bool) → passes_contents task x c ≡ good
          → pick (eqb (pick u (pick good 2 1) 0) 0) (seen (State.Going n) m) (noted task (eqb (pick u (pick good 2 1) 0) 2) (numbers_of (by_default place o)) n m)
          ≡ run task x (seen (State.Going n) m) (held d [] (pick u (default_value place o ∷ []) []))
      by_default_lem c p false good e = nothing []
      by_default_lem c p true true e = noted_as c p true e
      by_default_lem c p true false e = noted_as c p false e

      go : (js : List Id) (p : Presence) → o.presence ≡ p
          → pick (eqb (absent_of d task x js p) 0) (seen (State.Going n) m) (noted task (eqb (absent_of d task x js p) 2) (numbers_of (by_default place o)) n m)
          ≡ run task x (seen (State.Going n) m) (held d js (absent_names d place o p))
      go [] mandatory e = nothing []
      go [] optional e = nothing []
      go [] (default c) e = by_default_lem c e d (passes_contents task x c) refl
      go (i ∷ js) mandatory e = nothing (i ∷ js)
      go (i ∷ js) optional e = nothing (i ∷ js)
      go (i ∷ js) (default c) e = left d
        where
          left : (u : Bool) → seen (State.Going n) m ≡ run task x (seen (State.Going n) m) (held d (i ∷ js) (pick u (default_value place o ∷ []) []))
          left true = missing_left i js
          left false = nothing (i ∷ js)

-- ---- runs without memory
pub seen_state : (w z : State) (m p : List ℕ) → seen w m ≡ seen z p → w ≡ z
seen_state w z m p e = cc

pub counting-listing : (limit : ℕ) → counting limit ≡ listing → ⊥
counting-listing limit e = absurd (let z : ◌≡◌ {A = ℕ} 0 1 = cc in omega arith)

counted : (limit : ℕ) (x : List ℕ) (n : ℕ) (m : List ℕ) (hs : List Held) → run (counting limit) x (seen (State.Going n) m) hs ≡ seen (State.Going (counted_to limit n hs)) m
unfolding run visited noted count_one counted_to
counted limit x n m [] = refl
counted limit x n m (h ∷ hs) = go (ltb n limit) (counted limit x (n + 1) m hs) (counted limit x n m hs)
  where
    go : (b : Bool) → run (counting limit) x (seen (State.Going (n + 1)) m) hs ≡ seen (State.Going (counted_to limit (n + 1) hs)) m
        → run (counting limit) x (seen (State.Going n) m) hs ≡ seen (State.Going (counted_to limit n hs)) m
        → run (counting limit) x (seen (pick b (State.Going (n + 1)) (State.Going n)) m) hs ≡ seen (State.Going (counted_to limit (pick b (n + 1) n) hs)) m
    go true p q = p
    go false p q = q

tested : (r : Test) (budget : ℕ) (x : List ℕ) (n : ℕ) (m : List ℕ) (hs : List Held)
    → run (testing r budget) x (seen (State.Going n) m) hs ≡ seen (tested_to budget (passes (testing r budget) x) n hs) m
unfolding run visited noted test_one tested_to
tested r budget x n m [] = refl
tested r budget x n m (h ∷ hs) = go (ltb n budget) (passes (testing r budget) x (component h)) (tested r budget x (n + 1) m hs)
  where
    go : (a b : Bool) → run (testing r budget) x (seen (State.Going (n + 1)) m) hs ≡ seen (tested_to budget (passes (testing r budget) x) (n + 1) hs) m
        → run (testing r budget) x (seen (pick a (pick b (State.Accepted (n + 1)) (State.Going (n + 1))) State.Over) m) hs
        ≡ seen (pick a (pick b (State.Accepted (n + 1)) (tested_to budget (passes (testing r budget) x) (n + 1) hs)) State.Over) m
    go true true p = run-accepted (testing r budget) x (n + 1) m hs
    go true false p = p
    go false b p = run-over (testing r budget) x m hs

pub ran : (task : Task) (x : List ℕ) (n : ℕ) (m : List ℕ) (hs : List Held) → (task ≡ listing → ⊥) → run task x (seen (State.Going n) m) hs ≡ seen (ran_to task x n hs) m
unfolding ran_to
ran (counting limit) x n m hs writes = counted limit x n m hs
ran listing x n m hs writes = absurd (writes refl)
ran (testing r budget) x n m hs writes = tested r budget x n m hs

-- ---- names in a SEQUENCE
abbrev pub picked_held : Bool → ℕ → Picked → List Held
picked_held d place (there x) = value x ∷ []
picked_held d place (lacking m) = absent_names d place m m.presence
picked_held d place past = []

pub field_named : (d : Bool) (place : ℕ) {nm v : List ℕ} {stop : ℕ} {ms : Members} {j i : ℕ} {fs : Fields} {n : Member} {u : Ty} → Names nm ms j n u → Fielded v stop ms i fs
    → member_named d place nm fs ≡ picked_held d place (picked_at j fs)
unfolding member_named picked_at
field_named d place (here e un) (decodes.there q t w rest) = rw e
field_named d place (here e un) (decodes.lacks q w rest) = rw e
field_named d place (later e nm) (decodes.there q t w rest) = rw e (field_named d place nm rest)
field_named d place (later e nm) (decodes.lacks q w rest) = rw e (field_named d place nm rest)

-- ---- names in a CHOICE
true_false : {A : Type 0} (b : Bool) → b ≡ true → b ≡ false → A
true_false b p q = absurd (let z : ◌≡◌ {A = Bool} true false = sym p ∙ q in let y : ◌≡◌ {A = ℕ} 0 1 = cc in omega arith)

chosen_unnamed : {nm v : List ℕ} {end at : ℕ} {ms : Members} {x : Value} {after : ℕ} → Unnamed nm ms → Chosen v end at ms x after
    → (s : Spot) × (m : Member) × (y : Value) × (x ≡ chosen s m y) × (same m.name nm ≡ false)
chosen_unnamed nil x = elim x [ ]
chosen_unnamed (cons e un) (this {m = m} {s = s} {x = y} q t b) = (s, m, y, refl, e)
chosen_unnamed (cons e un) (other q c) = chosen_unnamed un c

-- where the one with the name can't begin, another is chosen
pub other_chosen : {nm v : List ℕ} {end at : ℕ} {ms : Members} {x : Value} {after j : ℕ} {n : Member} {u : Ty} → Names nm ms j n u → Chosen v end at ms x after
    → starts_here n u v end at ≡ false → (s : Spot) × (m : Member) × (y : Value) × (x ≡ chosen s m y) × (same m.name nm ≡ false)
other_chosen (here e un) (this q t b) f = true_false _ q f
other_chosen (here e un) (other q c) f = chosen_unnamed un c
other_chosen (later e nm) (this {m = m} {s = s} {x = y} q t b) f = (s, m, y, refl, e)
other_chosen (later e nm) (other q c) f = other_chosen nm c f

pub named_so : {nm : List ℕ} {ms : Members} {j : ℕ} {n : Member} {u : Ty} → Names nm ms j n u → same n.name nm ≡ true
named_so (here e un) = e
named_so (later e nm) = named_so nm

module _ (v : List ℕ) (end at : ℕ) where
  begins-here : (m : Member) (ty : Ty) → starts_here m ty v end at ≡ true → member_begins m ty (tag_of (octet v at)) ≡ true
  unfolding starts_here
  begins-here m ty e = (both_true (ltb at end) (member_begins m ty (tag_of (octet v at))) e).1

  not_both : (m : Member) (ty : Ty) (n : Member) (u : Ty) → apart m ty n u ≡ true → starts_here m ty v end at ≡ true → starts_here n u v end at ≡ true → ⊥
  unfolding apart apart_at
  not_both m ty n u e a b =
      let w = all-at (λ g. no (both (member_begins m ty g) (member_begins n u g))) 64 (tag_of (octet v at)) e (tag_small (octet v at)) in
      let z : no (both true true) ≡ true = sym (ap (λ (y : Bool). no (both y true)) (begins-here m ty a)) ∙ sym (ap (λ (y : Bool). no (both (member_begins m ty (tag_of (octet v at))) y)) (begins-here n u b)) ∙ w in
      absurd (let y : ◌≡◌ {A = ℕ} 0 1 = cc in omega arith)

apart_from_lem : (m : Member) (ty : Ty) {nm : List ℕ} {ms : Members} {j : ℕ} {n : Member} {u : Ty} → apart_from_all m ty ms ≡ true → Names nm ms j n u → apart m ty n u ≡ true
unfolding apart_from_all
apart_from_lem m ty e (here {m = o} {ty = w} {ms = ms} f un) = (both_true (apart m ty o w) (apart_from_all m ty ms) e).0
apart_from_lem m ty e (later {m = o} {ty = w} {ms = ms} f nm) = apart_from_lem m ty (both_true (apart m ty o w) (apart_from_all m ty ms) e).1 nm

-- where it can, it is the one chosen: alternatives' tags differ
pub this_chosen : {nm v : List ℕ} {end at : ℕ} {ms : Members} {x : Value} {after j : ℕ} {n : Member} {u : Ty} → alternatives_differ ms ≡ true → Names nm ms j n u
    → Chosen v end at ms x after → starts_here n u v end at ≡ true → (s : Spot) × (y : Value) × (x ≡ chosen s n y) × (Tagged v u n.tagging at end y after)
unfolding alternatives_differ
this_chosen d (here e un) (this {s = s} {x = y} q t b) f = (s, y, refl, t)
this_chosen d (here e un) (other q c) f = true_false _ f q
this_chosen {v = v} {end = end} {at = at} {n = n} {u = u} d (later e nm) (this {m = m} {ty = ty} {ms = ms} q t b) f =
    absurd (not_both v end at m ty n u (apart_from_lem m ty (both_true (apart_from_all m ty ms) (alternatives_differ ms) d).0 nm) q f)
this_chosen d (later {m = m} {ty = ty} {ms = ms} e nm) (other q c) f = this_chosen (both_true (apart_from_all m ty ms) (alternatives_differ ms) d).1 nm c f
