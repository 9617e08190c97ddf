-- The listed numbers determine the components: what a reference names in a stored value is given back by table, value and its three numbers.
use mathlib.Core.Path.{◌≡◌, refl, sym, ap, ap₂, ◌∙◌}
use mathlib.Core.Bool.{Bool, true, false}
use Rattle.std.specs.Prelude.{Some}
use mathlib.Core.List.{List, [], ◌∷◌, ◌++◌, map}
use Prim.Native.Nat.{ℕ, zero, suc, ◌+◌, ◌-◌}
use lib.Dec.{leb, eqb}
use Rattle.octets.specs.Pick.{pick, either}
use Rattle.octets.specs.Octets.{same}
use Rattle.rows.specs.Limits.{Limits}
use Rattle.rows.specs.Row.{named_at, rows, row_at, members_at}
use Rattle.types.proofs.TypeCases.{typed_cases}
use Rattle.types.specs.Types.{Tagging, Presence, mandatory, optional, default, Member, Ty, basic, sequence, choice, list_of}
use Rattle.types.specs.Types.{Members, no_more, more, member_of, members_from, typed, type_from, type_at}
use Rattle.value.specs.Value.{spot_of, Value, leaf, fields, chosen, elements, Fields, end_fields, present, absent, Values, end_values, next}
use Rattle.value.specs.Decode.{stored_value}
use Rattle.value.proofs.Decodes.{Decodes, is_basic_type, is-sequence, is-choice, is-list, Tagged, bare, filling}
use Rattle.value.proofs.Decodes.{Fielded, none_left, there, lacks, Chosen, this, other, Elements, ends, goes, decodes-stored}
use Rattle.reader.specs.Inner.Sees.{Sees, SeesAll, SeesFields, SeesElements}
use Rattle.reader.proofs.Laws.{stored-seen}
use Rattle.reference.specs.Reference.{Index, position, from_end, count, all, Id, name, index}
use Rattle.reference.specs.Named as names
use Rattle.reference.specs.Named.{Held, value, default_value, count_value, absent_names, member_named, size, each, indexed_by, step, replaced, held, named}
use Rattle.reference.specs.Numbers.{Component, stored, by_default, component, numbers_of, threes}
use Rattle.rules.specs.Rule.{Rule}
use Rattle.rules.specs.Asserted.{Asserted}
use Rattle.rules.specs.Accepts.{accepts, accepts_component}
use Rattle.engine.proofs.MisfitLaws.{accepts-component}
use Rattle.demands.specs.Named.{components, accepts_one}
use Rattle.demands.specs.Numbers.{component_by, components_by, read_back, Each, Determined}

-- ---- members of the types of a table t with the rows s
-- a member is that of its own row
abbrev OfRow : List ℕ → List ℕ → Member → Type 0
OfRow t s m = member_of t m.row (row_at s m.row) ≡ m

unfoldable mutual
  Rowed : List ℕ → List ℕ → Ty → Type 0
  Rowed t s (basic k names) = Unit {0}
  Rowed t s (sequence ms) = RowedIn t s ms
  Rowed t s (choice ms) = RowedIn t s ms
  Rowed t s (list_of k ty) = Rowed t s ty

  RowedIn : List ℕ → List ℕ → Members → Type 0
  RowedIn t s no_more = Unit {0}
  RowedIn t s (more m ty ms) = OfRow t s m × (Rowed t s ty × RowedIn t s ms)

members_rowed : (t s : List ℕ) (f : ℕ → Ty) → ((i : ℕ) → Rowed t s (f i)) → (n i : ℕ) → RowedIn t s (members_from f t s i n)
unfolding Rowed members_from member_of
members_rowed t s f types zero i = tt
members_rowed t s f types (suc n) i = (refl, (types (named_at t (row_at s i)), members_rowed t s f types n (i + 1)))

typed_rowed : (t s : List ℕ) (i : ℕ) (ty : Ty) (ms : Members) → Rowed t s ty → RowedIn t s ms → Rowed t s (typed t s i ty ms)
unfolding Rowed
typed_rowed t s i ty ms element parts = typed_cases t s i ty ms (λ (y : Ty). Rowed t s y) (λ _. parts) (λ _. parts) (λ _. element) (λ _ _ _. tt)

type_rowed : (t s : List ℕ) (n i : ℕ) → Rowed t s (type_from n t s i)
unfolding Rowed type_from
type_rowed t s zero i = tt
type_rowed t s (suc n) i =
    typed_rowed t s i _ _ (type_rowed t s n (named_at t (row_at s i)))
    (members_rowed t s (type_from n t s) (λ j. type_rowed t s n j) (members_at t (row_at s i)) (i + 1))

-- ---- each member that a decoded value lacks, at any depth, is that of its own row
unfoldable mutual
  Lacks : List ℕ → List ℕ → Value → Type 0
  Lacks t s (leaf k p) = Unit {0}
  Lacks t s (fields p fs) = LackIn t s fs
  Lacks t s (chosen p m x) = Lacks t s x
  Lacks t s (elements p xs) = LackEach t s xs

  LackIn : List ℕ → List ℕ → Fields → Type 0
  LackIn t s end_fields = Unit {0}
  LackIn t s (present m x fs) = Lacks t s x × LackIn t s fs
  LackIn t s (absent m fs) = OfRow t s m × LackIn t s fs

  LackEach : List ℕ → List ℕ → Values → Type 0
  LackEach t s end_values = Unit {0}
  LackEach t s (next x xs) = Lacks t s x × LackEach t s xs

-- a value of a type lacks members of that type
module _ (t s v : List ℕ) where
  mutual
    unfolding Rowed Lacks

    lacks_members : {ty : Ty} {g : Tagging} {at end : ℕ} {x : Value} {after : ℕ} → Decodes v ty g at end x after → Rowed t s ty → Lacks t s x
    lacks_members (is_basic_type b l) r = tt
    lacks_members (is-sequence b w) r = lacks-fields w r
    lacks_members (is-choice c) r = lacks_choice c r
    lacks_members (is-list b w q) r = lacks_elements w r

    lacks_tagged : {ty : Ty} {g : Tagging} {at end : ℕ} {x : Value} {after : ℕ} → Tagged v ty g at end x after → Rowed t s ty → Lacks t s x
    lacks_tagged (bare q d) r = lacks_members d r
    lacks_tagged (filling e d q) r = lacks_members d r

    lacks_choice : {end at : ℕ} {ms : Members} {x : Value} {after : ℕ} → Chosen v end at ms x after → RowedIn t s ms → Lacks t s x
    lacks_choice (this q d b) r = lacks_tagged d r.1.0
    lacks_choice (other q c) r = lacks_choice c r.1.1

    lacks-fields : {stop : ℕ} {ms : Members} {i : ℕ} {fs : Fields} → Fielded v stop ms i fs → RowedIn t s ms → LackIn t s fs
    lacks-fields (none_left q) r = tt
    lacks-fields (there q d n w) r = (lacks_tagged d r.1.0, lacks-fields w r.1.1)
    lacks-fields (lacks q n w) r = (r.0, lacks-fields w r.1.1)

    lacks_elements : {ty : Ty} {stop k i : ℕ} {xs : Values} → Elements v ty stop k i xs → Rowed t s ty → LackEach t s xs
    lacks_elements (ends q) r = tt
    lacks_elements (goes q d w) r = (lacks_members d r, lacks_elements w r)

-- ---- held values: each is seen at its place, and lacks members of the table; a default is of such a member
abbrev Known : List ℕ → List ℕ → List ℕ → Value → Type 0
Known t s v x = SeesAll v x × Lacks t s x

abbrev KnowsOne : List ℕ → List ℕ → List ℕ → Held → Type 0
KnowsOne t s v (value x) = Known t s v x
KnowsOne t s v (default_value p m) = OfRow t s m
KnowsOne t s v (count_value p n) = Unit {0}

unfoldable Knows : List ℕ → List ℕ → List ℕ → List Held → Type 0
Knows t s v [] = Unit {0}
Knows t s v (h ∷ hs) = KnowsOne t s v h × Knows t s v hs

module _ (t s v : List ℕ) where
  none-held : Knows t s v []
  unfolding Knows
  none-held = tt

  one-held : (h : Held) → KnowsOne t s v h → Knows t s v (h ∷ [])
  unfolding Knows
  one-held h w = (w, tt)

  knows_append : (a b : List Held) → Knows t s v a → Knows t s v b → Knows t s v (a ++ b)
  unfolding Knows
  knows_append [] b u w = w
  knows_append (h ∷ a) b u w = (u.0, knows_append a b u.1 w)

  knows_pick : (z : Bool) (a b : List Held) → Knows t s v a → Knows t s v b → Knows t s v (pick z a b)
  knows_pick true a b p q = p
  knows_pick false a b p q = q

  -- ---- what one identifier names in a known value is known
  absent_known : (defaults : Bool) (place : ℕ) (m : Member) (pr : Presence) → OfRow t s m → Knows t s v (absent_names defaults place m pr)
  absent_known defaults place m mandatory w = none-held
  absent_known defaults place m optional w = none-held
  absent_known defaults place m (default c) w = knows_pick defaults (default_value place m ∷ []) [] (one-held (default_value place m) w) none-held

  member-known : (defaults : Bool) (place : ℕ) (x : List ℕ) (fs : Fields) → SeesFields v fs → LackIn t s fs → Knows t s v (member_named defaults place x fs)
  unfolding SeesAll Lacks member_named
  member-known defaults place x end_fields a b = none-held
  member-known defaults place x (present m y fs) a b =
      knows_pick (same m.name x) (value y ∷ []) (member_named defaults place x fs)
      (one-held (value y) (a.0, b.0)) (member-known defaults place x fs a.1 b.1)
  member-known defaults place x (absent m fs) a b =
      knows_pick (same m.name x) (absent_names defaults place m m.presence) (member_named defaults place x fs)
      (absent_known defaults place m m.presence b.0) (member-known defaults place x fs a b.1)

  each-known : (xs : Values) → SeesElements v xs → LackEach t s xs → Knows t s v (each xs)
  unfolding SeesAll Lacks each Knows
  each-known end_values a b = tt
  each-known (next x xs) a b = ((a.0, b.0), each-known xs a.1 b.1)

  element-known : (n : ℕ) (xs : Values) → SeesElements v xs → LackEach t s xs → Knows t s v (names.element_at n xs)
  unfolding SeesAll Lacks names.element_at
  element-known n end_values a b = none-held
  element-known n (next x xs) a b =
      knows_pick (eqb n 1) (value x ∷ []) (names.element_at (n - 1) xs) (one-held (value x) (a.0, b.0)) (element-known (n - 1) xs a.1 b.1)

  index-known : (i : Index) (place : ℕ) (xs : Values) → SeesElements v xs → LackEach t s xs → Knows t s v (indexed_by i place xs)
  index-known (position n) place xs a b = element-known n xs a b
  index-known (from_end n) place xs a b =
      knows_pick (leb n (size xs)) (names.element_at (size xs + 1 - n) xs) [] (element-known (size xs + 1 - n) xs a b) none-held
  index-known count place xs a b = one-held (count_value place (size xs)) tt
  index-known all place xs a b = each-known xs a b

  step-known : (defaults : Bool) (i : Id) (h : Held) → KnowsOne t s v h → Knows t s v (step defaults i h)
  unfolding SeesAll Lacks step
  step-known defaults i (value (leaf k p)) w = none-held
  step-known defaults (name x) (value (fields p fs)) w = member-known defaults p.place x fs w.0.1 w.1
  step-known defaults (index j) (value (fields p fs)) w = none-held
  step-known defaults (name x) (value (chosen p m y)) w = knows_pick (same m.name x) (value y ∷ []) [] (one-held (value y) (w.0.1, w.1)) none-held
  step-known defaults (index j) (value (chosen p m y)) w = none-held
  step-known defaults (name x) (value (elements p xs)) w = none-held
  step-known defaults (index j) (value (elements p xs)) w = index-known j p.place xs w.0.1 w.1
  step-known defaults i (default_value p m) w = none-held
  step-known defaults i (count_value p n) w = none-held

  replaced-known : (defaults : Bool) (i : Id) (hs : List Held) → Knows t s v hs → Knows t s v (replaced defaults i hs)
  unfolding Knows replaced
  replaced-known defaults i [] w = tt
  replaced-known defaults i (h ∷ hs) w =
      knows_append (step defaults i h) (replaced defaults i hs) (step-known defaults i h w.0) (replaced-known defaults i hs w.1)

  held-known : (defaults : Bool) (is : List Id) (hs : List Held) → Knows t s v hs → Knows t s v (held defaults is hs)
  unfolding held
  held-known defaults [] hs w = w
  held-known defaults (i ∷ is) hs w = held-known defaults is (replaced defaults i hs) (replaced-known defaults i hs w)

-- ---- what is known is given back by its numbers
seen-spot : (v : List ℕ) (x : Value) → SeesAll v x → Sees v (spot_of x)
unfolding SeesAll
seen-spot v (leaf k p) w = w
seen-spot v (fields p fs) w = w.0
seen-spot v (chosen p m x) w = w.0
seen-spot v (elements p xs) w = w.0

module _ (l : Limits) (t v : List ℕ) where
  one-back : (h : Held) → KnowsOne t (rows l.rows t) v h → read_back l t v (component h) ≡ component h
  unfolding component_by numbers_of
  one-back (value x) w =
      let p = spot_of x in ap (λ (c : List ℕ). stored (record { place = p.place; size = p.size; contents = c })) (seen-spot v x w.0).contents
  one-back (default_value place m) w = ap (by_default place) w
  one-back (count_value place n) w = refl

  each_back : (hs : List Held) → Knows t (rows l.rows t) v hs → Each (λ c. read_back l t v c ≡ c) (map component hs)
  unfolding Knows Each
  each_back [] w = tt
  each_back (h ∷ hs) w = (one-back h w.0, each_back hs w.1)

each_map : (f : Component → Component) (cs : List Component) → Each (λ c. f c ≡ c) cs → map f cs ≡ cs
unfolding Each
each_map f [] w = refl
each_map f (c ∷ cs) w = ap₂ (λ (x : Component) (xs : List Component). x ∷ xs) w.0 (each_map f cs w.1)

each-listed : (l : Limits) (t v : List ℕ) (cs : List Component) → Each (λ c. read_back l t v c ≡ c) cs → components_by l t v (threes cs) ≡ cs
unfolding Each components_by threes
each-listed l t v [] w = refl
each-listed l t v (c ∷ cs) w = ap₂ (λ (x : Component) (xs : List Component). x ∷ xs) w.0 (each-listed l t v cs w.1)

each-accepted : (u : Rule) (a : Asserted) (g : Component → Component) (hs : List Held) → Each (λ c. g c ≡ c) (map component hs)
    → accepts_one (accepts u a) hs ≡ accepts_one (λ c. accepts_component u a (g c)) (map component hs)
unfolding Each accepts_one
each-accepted u a g [] w = refl
each-accepted u a g (h ∷ hs) w = ap₂ either (sym (accepts-component u a h) ∙ ap (accepts_component u a) (sym w.0)) (each-accepted u a g hs w.1)

-- what any identifiers name in a stored value, with either choice about defaults
pub named-determined : (l : Limits) (t v : List ℕ) (x : Value) → stored_value (type_at l t 0) v ≡ Some x → (defaults : Bool) (is : List Id) → Determined l t v (named defaults is x)
unfolding type_at named
named-determined l t v x e defaults is =
    let s = rows l.rows t in
    let ty = type_from l.chain t s 0 in
    let known : Known t s v x = (stored-seen ty v x e, lacks_members t s v (decodes-stored ty v x e) (type_rowed t s l.chain 0)) in
    let back : Each (λ c. read_back l t v c ≡ c) (components defaults is x) =
    each_back l t v (held defaults is (value x ∷ [])) (held-known t s v defaults is (value x ∷ []) (one-held t s v (value x) known)) in
    record {
      each = back;
      all = each_map (read_back l t v) (components defaults is x) back;
      listed = each-listed l t v (components defaults is x) back;
      acceptance = λ u a. each-accepted u a (read_back l t v) (named defaults is x) back;
    }
