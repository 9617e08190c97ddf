-- The walk along a plan: one lemma for each need, its premises as the code has them.
use mathlib.Core.Path.{◌≡◌, refl, sym, ap, ap₂, ◌∙◌, subst}
use mathlib.Core.Bool.{Bool, true, false}
use mathlib.Core.List.{List, [], ◌∷◌}
use Prim.Native.Nat.{ℕ, ◌≤◌, ◌<◌, ◌+◌, ◌-◌, ◌*◌}
use native.Mathlib.Omega.{arith}
use lib.ListN.{length}
use lib.Dec.{eqb}
use Rattle.octets.specs.Pick.{pick}
use Rattle.octets.specs.Octets.{same}
use Rattle.rows.specs.Row.{members_at}
use Rattle.types.specs.Types.{Member, Ty, member_of}
use Rattle.table.specs.Inner.Rows.{table_rows, MemberRow, place_at, members_after, member_at, member_type_at, tagging_at, type_at}
use Rattle.table.specs.Inner.Words.{Worded}
use Rattle.value.specs.Value.{Spot, spot_at, spot_of, Value, fields, chosen, elements, Fields, Values, end_values, next}
use Rattle.value.specs.Decode.{starts_here}
use Rattle.value.specs.Inner.Decodes.{Tagged, Fielded, Elements, ends, goes}
use Rattle.value.proofs.Decodes.{decodes-stored}
use Rattle.reference.specs.Reference.{Index, position, from_end, count, all, Id, name, index}
use Rattle.reference.specs.Inner.Work.{cap}
use Rattle.reference.specs.Named.{Held, value, count_value, member_named, size, each, element_at, element_from_end, indexed_by, step, held, named}
use Rattle.reference.specs.Numbers.{Numbers, stored, by_default, by_count, numbers_of}
use Rattle.reference.proofs.HeldLaws.{held_none, held-append, held-step}
use Rattle.plan.specs.Inner.Sort as sort
use Rattle.plan.specs.Inner.Task.{Task, counting, task_of, passes}
use Rattle.plan.specs.Inner.Plan as plan
use Rattle.plan.specs.Inner.Plan.{sort_at, first_at, second_at, absent_at, absent_of, Planned}
use Rattle.plan.proofs.RowLaws.{member-here, member-kind, member-fits}
use Rattle.walk.specs.Inner.Raw.{start_of, next_after}
use Rattle.walk.specs.Inner.Stands.{Stands, within, InList, InRow}
use Rattle.walk.specs.Inner.Leads.{One, Counts, FindsNth, FindsLast, Picked, lacking, picked_at, FieldIs, FindsMember, alternative_move}
use Rattle.walk.specs.Inner.Run.{Seen, seen, noted, visited, run, counted_to, ran_to, absent_numbers, absent_run}
use Rattle.walk.specs.Inner.Walk.{Goes, Steps, names, Walks, Moved, Moves, Stops, Reaching, Reaches, GoesEach, names_each, WalksEach, IsMove, Asks, Answers, Tests, Tallies}
use Rattle.walk.specs.declared.Move.{Move}
use Rattle.walk.specs.declared.Reached.{Reached}
use Rattle.walk.specs.declared.State.{State}
use Rattle.walk.proofs.RawLaws.{start-long, start-before}
use Rattle.walk.proofs.Standing.{decodes_next, tagged-stands, stands-within, stands-spot, stands-place}
use Rattle.walk.proofs.Leaves.{Next, turn_next, turn_end, turn-size, element-capped, from_end-capped}
use Rattle.walk.proofs.PlanViews.{MemberStep, AlternativeStep, ListStep, ListOn, over_view, member_view, alternative_view, position_view, end_view, count_view, all-view}
use Rattle.walk.proofs.Naming.{held-done, run_none, run-one, run-append, run-accepted, run-over, absent_runs}
use Rattle.walk.proofs.Naming.{seen_state, counting-listing, ran, picked_held, field_named, other_chosen, named_so, this_chosen}

-- ---- what every function of the walk knows
pub goes-within : (t q x v : List ℕ) (k at : ℕ) → Goes t q x v k at → next_after v at ≤ length v
goes-within t q x v k at g = stands-within g.stands

pub goes-low : (t q x v : List ℕ) (k at : ℕ) → Goes t q x v k at → plan.Low k
goes-low t q x v k at g = g.low

pub goes_steps : (t q x v : List ℕ) (k at : ℕ) → Goes t q x v k at → Steps t q v k at
goes_steps t q x v k at g = record { operand = x; goes = g }

module _ (t q v : List ℕ) (k at : ℕ) (st : Steps t q v k at) where
  pub steps_within : next_after v at ≤ length v
  steps_within = stands-within st.goes.stands

  pub steps_low : plan.Low k
  steps_low = st.goes.low

-- one identifier at a value
first_step_lem : (d : Bool) (i : Id) (is ids : List Id) (x y : Value) → ids ≡ i ∷ is → y ≡ x → held d ids (value x ∷ []) ≡ held d is (step d i (value y))
first_step_lem d i is ids x y e f = ap₂ (λ (a : List Id) (b : Value). held d a (value b ∷ [])) e (sym f) ∙ held-step d i is (value y)

-- ---- a member
default-numbers : (t : List ℕ) (r place : ℕ) → numbers_of (by_default place (member_at t r)) ≡ record { source = 1; place = place; number = r }
unfolding numbers_of member_of
default-numbers t r place = refl

absent_as : (q : List ℕ) (k at n : ℕ) (m : List ℕ) (c : ℕ) (nums : Numbers) → absent_at q k ≡ c → absent_numbers q k at ≡ nums
    → absent_run q k at n m ≡ pick (eqb c 0) (seen (State.Going n) m) (noted (task_of q) (eqb c 2) nums n m)
unfolding absent_run
absent_as q k at n m c nums e f = ap₂ (λ (y : ℕ) (z : Numbers). pick (eqb y 0) (seen (State.Going n) m) (noted (task_of q) (eqb y 2) z n m)) e f

module _ (t q v : List ℕ) (k at : ℕ) (op : sort_at q k ≡ sort.member) (row j : ℕ) (row_read : row ≡ first_at q k) where
  in_row : (start stop : ℕ) → start ≡ start_of v at → stop ≡ next_after v at → {x : List ℕ} (g : Goes t q x v k at) → InRow t v row start stop
  in_row start stop a b {x = x} g =
      let w = member_view t q x v k at g op in
      let e : w.row ≡ row = sym w.by.row_is ∙ sym row_read in
      let h = stands-within g.stands in
      record {
        fs = w.fs;
        members = subst (λ (y : ℕ). Fielded v stop (members_after t y) start w.fs) e (subst (λ (y : ℕ). Fielded v stop (members_after t w.row) y w.fs) (sym a) (subst (λ (y : ℕ). Fielded v y (members_after t w.row) (start_of v at) w.fs) (sym b) w.members));
        inside = omega arith;
      }

  module _ (st : Steps t q v k at) where
    mine : MemberStep t q st.operand v st.goes.defaults k at st.goes.ids st.goes.val
    mine = member_view t q st.operand v k at st.goes op

    row_same : mine.row ≡ row
    row_same = sym mine.by.row_is ∙ sym row_read

    pub to_member_here : row < length (table_rows t)
    to_member_here = subst (λ (y : ℕ). y < length (table_rows t)) row_same mine.by.here

    pub to_member_one : j ≡ second_at q k → j < members_at t (place_at t row)
    to_member_one e = subst (λ (y : ℕ). j < members_at t (place_at t y)) row_same (let a = mine.by.index_is in let b = mine.by.one in omega arith)

    pub to_member_in : (start stop : ℕ) → start ≡ start_of v at → stop ≡ next_after v at → InRow t v row start stop
    to_member_in start stop a b = in_row start stop a b st.goes

  pub to_member_moves : (w : List ℕ) → Worded t w → (start stop : ℕ) → start ≡ start_of v at → stop ≡ next_after v at → j ≡ second_at q k → (r : Move)
      → FindsMember t v row j start stop r → Moves t q v k at r
  unfolding FindsMember Moves step in_row
  to_member_moves w ok start stop a b c r found x g = go r (found (in_row start stop a b g))
    where
      mv : MemberStep t q x v g.defaults k at g.ids g.val
      mv = member_view t q x v k at g op

      j_same : mv.j ≡ j
      j_same = sym mv.by.index_is ∙ sym c

      row_is : mv.row ≡ row
      row_is = sym mv.by.row_is ∙ sym row_read

      sum : mv.row + 1 + mv.j ≡ row + 1 + j
      sum = ap₂ (λ (y z : ℕ). y + 1 + z) row_is j_same

      fields_step : (d : Bool) (nm : List ℕ) (sp : Spot) (fs : Fields) → step d (name nm) (value (fields sp fs)) ≡ member_named d sp.place nm fs
      fields_step d nm sp fs = refl

      whole : names t q x v k at g ≡ held g.defaults mv.is (picked_held g.defaults mv.spot.place (picked_at j mv.fs))
      whole = first_step_lem g.defaults (name mv.nm) mv.is g.ids g.val (fields mv.spot mv.fs) mv.ids_are mv.value-is
          ∙ ap (held g.defaults mv.is) (fields_step g.defaults mv.nm mv.spot mv.fs ∙ field_named g.defaults mv.spot.place mv.by.named mv.members
          ∙ ap (λ (y : ℕ). picked_held g.defaults mv.spot.place (picked_at y mv.fs)) j_same)

      rest : Planned t q x g.defaults (k + 1) (member_type_at t (row + 1 + j)) mv.is
      rest = subst (λ (y : ℕ). Planned t q x g.defaults (k + 1) (member_type_at t y) mv.is) sum mv.rest

      cell : absent_at q k ≡ absent_of g.defaults (task_of q) x mv.is (member_at t (row + 1 + j)).presence
      cell = mv.cell ∙ ap (λ (y : ℕ). absent_of g.defaults (task_of q) x mv.is (member_at t y).presence) sum

      place : mv.spot.place ≡ at
      place = ap (λ (y : Value). (spot_of y).place) mv.value-is ∙ stands-place g.stands

      numbers_are : absent_numbers q k at ≡ numbers_of (by_default mv.spot.place (member_at t (row + 1 + j)))
      numbers_are =
          ap₂ (λ (y z : ℕ). record { source = 1; place = y; number = z }) (sym place) (ap₂ (λ (y z : ℕ). y + 1 + z) (sym row_read) (sym c))
          ∙ sym (default-numbers t (row + 1 + j) mv.spot.place)

      absent_is : picked_at j mv.fs ≡ lacking (member_at t (row + 1 + j)) → (n : ℕ) (m : List ℕ) → absent_run q k at n m ≡ run (task_of q) x (seen (State.Going n) m) (names t q x v k at g)
      absent_is f n m =
          absent_as q k at n m _ _ cell numbers_are ∙ absent_runs (task_of q) x g.defaults mv.is mv.spot.place (member_at t (row + 1 + j)) n m
          ∙ ap (run (task_of q) x (seen (State.Going n) m)) (sym (whole ∙ ap (λ (y : Picked). held g.defaults mv.is (picked_held g.defaults mv.spot.place y)) f))

      go : (r : Move) → FieldIs t v (row + 1 + j) (picked_at j mv.fs) r → Moved t q x v k at (names t q x v k at g) r
      go (Move.To p) f =
          let l = mv.by.low in (
            record { defaults = g.defaults; ty = member_type_at t (row + 1 + j); ids = mv.is; val = f.0; low = omega arith; planned = rest; stands = f.1 },
            whole ∙ ap (λ (y : Picked). held g.defaults mv.is (picked_held g.defaults mv.spot.place y)) f.2,
          )
      go Move.Absent f =
          let fits = member-fits t w mv.row ok mv.by.here mv.j mv.by.one in
          let a = mv.by.row_is in
          let b = mv.by.index_is in
          (omega arith, absent_is f)
      go Move.Nothing f = absurd f

-- ---- an alternative
chosen_step : (d : Bool) (nm : List ℕ) (sp : Spot) (m : Member) (y : Value) (b : Bool) → same m.name nm ≡ b → step d (name nm) (value (chosen sp m y)) ≡ pick b (value y ∷ []) []
unfolding step
chosen_step d nm sp m y b e = ap (λ (z : Bool). pick z (value y ∷ []) []) e

alternative-taken : (t v : List ℕ) (r at : ℕ) (b : Bool) → starts_here (member_at t r) (member_type_at t r) v (length v) at ≡ b → alternative_move t v r at ≡ pick b (Move.To (within (tagging_at t r) v at)) Move.Nothing
unfolding alternative_move
alternative-taken t v r at b e = ap (λ (z : Bool). pick z (Move.To (within (tagging_at t r) v at)) Move.Nothing) e

tagging-of : (t v : List ℕ) (r at : ℕ) → within (member_at t r).tagging v at ≡ within (tagging_at t r) v at
unfolding member_of
tagging-of t v r at = refl

module _ (t q v : List ℕ) (k at : ℕ) (op : sort_at q k ≡ sort.alternative) (row j : ℕ) (row_read : row ≡ first_at q k) (j-read : j ≡ second_at q k) where
  module _ (st : Steps t q v k at) (w : List ℕ) (ok : Worded t w) where
    own : AlternativeStep t q st.operand v st.goes.defaults k at st.goes.ids st.goes.val
    own = alternative_view t q st.operand v k at st.goes op

    row-own : own.row ≡ row
    row-own = sym own.by.row_is ∙ sym row_read

    j_own : own.j ≡ j
    j_own = sym own.by.index_is ∙ sym j-read

    here : row < length (table_rows t)
    here = subst (λ (y : ℕ). y < length (table_rows t)) row-own own.by.here

    one : j < members_at t (place_at t row)
    one = subst (λ (y : ℕ). j < members_at t (place_at t y)) row-own (subst (λ (y : ℕ). y < members_at t (place_at t own.row)) j_own own.by.one)

    pub alternative-here : row + 1 + j < length (table_rows t)
    alternative-here = member-here t w row ok here j one

    pub alternative-kind : MemberRow t (row + 1 + j)
    alternative-kind = member-kind t w row ok here j one

    pub alternative-fits : row + 1 + j < 18446744073709551616
    alternative-fits = member-fits t w row ok here j one

    pub alternative-row_fits : row + 1 < 18446744073709551616
    alternative-row_fits = let a = alternative-fits in omega arith

  pub alternative_moves : (r : Move) → r ≡ alternative_move t v (row + 1 + j) at → Moves t q v k at r
  unfolding Moves
  alternative_moves r e x g = subst (Moved t q x v k at (names t q x v k at g)) (sym e) (go (starts_here (member_at t (row + 1 + j)) (member_type_at t (row + 1 + j)) v (length v) at) refl)
    where
      av : AlternativeStep t q x v g.defaults k at g.ids g.val
      av = alternative_view t q x v k at g op

      sum : av.row + 1 + av.j ≡ row + 1 + j
      sum = ap₂ (λ (y z : ℕ). y + 1 + z) (sym av.by.row_is ∙ sym row_read) (sym av.by.index_is ∙ sym j-read)

      starts_so : (b : Bool) → starts_here (member_at t (row + 1 + j)) (member_type_at t (row + 1 + j)) v (length v) at ≡ b → starts_here (member_at t (av.row + 1 + av.j)) (member_type_at t (av.row + 1 + av.j)) v (length v) at ≡ b
      starts_so b f = ap (λ (y : ℕ). starts_here (member_at t y) (member_type_at t y) v (length v) at) sum ∙ f

      whole : (sp : Spot) (m : Member) (y : Value) (b : Bool) → g.val ≡ chosen sp m y → same m.name av.nm ≡ b → names t q x v k at g ≡ held g.defaults av.is (pick b (value y ∷ []) [])
      whole sp m y b f z = first_step_lem g.defaults (name av.nm) av.is g.ids g.val (chosen sp m y) av.ids_are (sym f) ∙ ap (held g.defaults av.is) (chosen_step g.defaults av.nm sp m y b z)

      go : (b : Bool) → starts_here (member_at t (row + 1 + j)) (member_type_at t (row + 1 + j)) v (length v) at ≡ b → Moved t q x v k at (names t q x v k at g) (alternative_move t v (row + 1 + j) at)
      go true f = subst (Moved t q x v k at (names t q x v k at g)) (sym (alternative-taken t v (row + 1 + j) at true f)) taken
        where
          one_chosen : (s : Spot) × (y : Value) × (g.val ≡ chosen s (member_at t (av.row + 1 + av.j)) y) × (Tagged v (member_type_at t (av.row + 1 + av.j)) (member_at t (av.row + 1 + av.j)).tagging at (length v) y (next_after v at))
          one_chosen = this_chosen av.differ av.by.named av.choice (starts_so true f)

          inner : Stands (member_type_at t (row + 1 + j)) v (within (tagging_at t (row + 1 + j)) v at) one_chosen.1
          inner = subst (λ (y : ℕ). Stands (member_type_at t y) v (within (tagging_at t y) v at) one_chosen.1) sum
              (subst (λ (p : ℕ). Stands (member_type_at t (av.row + 1 + av.j)) v p one_chosen.1) (tagging-of t v (av.row + 1 + av.j) at) (tagged-stands one_chosen.3 (omega arith)))

          taken : Moved t q x v k at (names t q x v k at g) (Move.To (within (tagging_at t (row + 1 + j)) v at))
          taken =
              let l = av.by.low in (
                record {
                  defaults = g.defaults;
                  ty = member_type_at t (row + 1 + j);
                  ids = av.is;
                  val = one_chosen.1;
                  low = omega arith;
                  planned = subst (λ (y : ℕ). Planned t q x g.defaults (k + 1) (member_type_at t y) av.is) sum av.rest;
                  stands = inner;
                },
                whole one_chosen.0 (member_at t (av.row + 1 + av.j)) one_chosen.1 true one_chosen.2 (named_so av.by.named),
              )
      go false f = subst (Moved t q x v k at (names t q x v k at g)) (sym (alternative-taken t v (row + 1 + j) at false f))
          (let z = other_chosen av.by.named av.choice (starts_so false f) in whole z.0 z.1 z.2 false z.3 z.4 ∙ held_none g.defaults av.is)

-- ---- an element
module _ (t q v : List ℕ) (k at : ℕ) where
  module _ {x : List ℕ} (g : Goes t q x v k at) (start stop : ℕ) (a : start ≡ start_of v at) (b : stop ≡ next_after v at) where
    in_list_lem : ListStep v at g.ids g.val → InList v start stop
    in_list_lem l =
        let h = stands-within g.stands in
        record {
          element = l.element;
          most = l.most;
          xs = l.xs;
          turn = subst (λ (y : ℕ). Elements v l.element stop l.most y l.xs) (sym a) (subst (λ (y : ℕ). Elements v l.element y l.most (start_of v at) l.xs) (sym b) l.turn);
          inside = omega arith;
        }

    position-list : sort_at q k ≡ sort.position → InList v start stop
    position-list op = in_list_lem (position_view t q x v k at g op).2.list

    end_list : sort_at q k ≡ sort.from_end → InList v start stop
    end_list op = in_list_lem (end_view t q x v k at g op).2.list

    pub count-list : sort_at q k ≡ sort.count → InList v start stop
    count-list op = in_list_lem (count_view t q x v k at g op).0

  module _ (st : Steps t q v k at) where
    module _ (start stop : ℕ) (a : start ≡ start_of v at) (b : stop ≡ next_after v at) where
      pub position_in : sort_at q k ≡ sort.position → InList v start stop
      position_in op = position-list st.goes start stop a b op

      pub end_in : sort_at q k ≡ sort.from_end → InList v start stop
      end_in op = end_list st.goes start stop a b op

  module _ (x : List ℕ) (g : Goes t q x v k at) where
    pub list-names : (l : ListStep v at g.ids g.val) (i : Index) → l.i ≡ i → names t q x v k at g ≡ held g.defaults l.is (indexed_by i l.spot.place l.xs)
    unfolding step
    list-names l i e =
        first_step_lem g.defaults (index l.i) l.is g.ids g.val (elements l.spot l.xs) l.ids_are l.value-is
        ∙ ap (λ (y : Index). held g.defaults l.is (indexed_by y l.spot.place l.xs)) e

    few : length v < 18446744073709551616 → (l : ListStep v at g.ids g.val) → size l.xs < 18446744073709551615
    few small l =
        let w = stands-within g.stands in
        let a = start-before v at in
        let b = start-long v at in
        let r = turn-size w l.turn (omega arith) in
        omega arith

    one_moves : {i : Index} (o : ListOn t q x v g.defaults k at g.ids g.val i) (hs : List Held) → names t q x v k at g ≡ held g.defaults o.list.is hs
        → (r : Move) → One o.list.element v hs r → Moved t q x v k at (names t q x v k at g) r
    one_moves o hs e (Move.To p) f =
        let l = o.low in
        (record { defaults = g.defaults; ty = o.list.element; ids = o.list.is; val = f.0; low = omega arith; planned = o.rest; stands = f.1 }, e ∙ ap (held g.defaults o.list.is) f.2)
    one_moves o hs e Move.Absent f = absurd f
    one_moves o hs e Move.Nothing f = e ∙ ap (held g.defaults o.list.is) f ∙ held_none g.defaults o.list.is

  module _ (start stop : ℕ) (a : start ≡ start_of v at) (b : stop ≡ next_after v at) (n : ℕ) (read : n ≡ first_at q k) (r : Move) where
    pub position_moves : length v < 18446744073709551616 → sort_at q k ≡ sort.position → FindsNth v start stop n r → Moves t q v k at r
    unfolding FindsNth Moves position-list in_list_lem
    position_moves small op found x g =
        let w = position_view t q x v k at g op in
        let l = w.2.list in
        let e : cap w.0 ≡ n = sym w.1 ∙ sym read in
        let same-element : element_at n l.xs ≡ element_at w.0 l.xs = ap (λ (y : ℕ). element_at y l.xs) (sym e) ∙ element-capped w.0 l.xs (few x g small l) in
        one_moves x g w.2 (element_at n l.xs) (list-names x g l (position w.0) w.2.index_is ∙ ap (held g.defaults l.is) (sym same-element)) r (found (position-list g start stop a b op))

    pub end_moves : length v < 18446744073709551616 → sort_at q k ≡ sort.from_end → FindsLast v start stop n r → Moves t q v k at r
    unfolding FindsLast Moves end_list in_list_lem
    end_moves small op found x g =
        let w = end_view t q x v k at g op in
        let l = w.2.list in
        let e : cap w.0 ≡ n = sym w.1 ∙ sym read in
        let same-element : element_from_end n l.xs ≡ element_from_end w.0 l.xs = ap (λ (y : ℕ). element_from_end y l.xs) (sym e) ∙ from_end-capped w.0 l.xs (few x g small l) in
        one_moves x g w.2 (element_from_end n l.xs) (list-names x g l (from_end w.0) w.2.index_is ∙ ap (held g.defaults l.is) (sym same-element)) r (found (end_list g start stop a b op))

pub move_last : (t q v : List ℕ) (k at op : ℕ) → op ≡ sort_at q k → (op ≡ sort.member → ⊥) → (op ≡ sort.alternative → ⊥) → (op ≡ sort.position → ⊥) → IsMove (sort_at q k) → Steps t q v k at → sort_at q k ≡ sort.from_end
move_last t q v k at op read a b c d st = go st.goes.planned
  where
    go : {ty : Ty} {ids : List Id} → Planned t q st.operand st.goes.defaults k ty ids → sort_at q k ≡ sort.from_end
    go (plan.over e) = absurd (d.0 e)
    go (plan.member e n z rest) = absurd (a (read ∙ e))
    go (plan.alternative e n z rest) = absurd (b (read ∙ e))
    go (plan.to-position e low r rest) = absurd (c (read ∙ e))
    go (plan.to-from_end e low r rest) = e
    go (plan.to-count e low) = absurd (d.1 e)
    go (plan.to-all e low rest) = absurd (d.2 e)

-- ---- the walk
module _ (t q x v : List ℕ) (k at n : ℕ) (m : List ℕ) where
  -- the value itself, where the plan ends
  pub walk_visit : (op : ℕ) → op ≡ sort_at q k → op ≡ sort.end → (w : Seen) → w ≡ visited (task_of q) x (stored (spot_at v at (start_of v at) (next_after v at - start_of v at))) n m → Walks t q x v k at n m w
  unfolding Walks
  walk_visit op read z w f g =
      let i = over_view t q x v k at g (sym read ∙ z) in
      let before = start-before v at in
      let sp = stands-spot g.stands (next_after v at - start_of v at) (omega arith) in
      f ∙ ap (λ (y : Spot). visited (task_of q) x (stored y) n m) sp
      ∙ sym (run-one (task_of q) x n m (value g.val))
      ∙ ap (run (task_of q) x (seen (State.Going n) m)) (sym (ap (λ (y : List Id). held g.defaults y (value g.val ∷ [])) i ∙ held-done g.defaults (value g.val ∷ [])))

  -- a count is tested whatever the operand
  any_operand : (c : ℕ) → visited (task_of q) [] (by_count at c) n m ≡ visited (task_of q) x (by_count at c) n m
  unfolding visited passes
  any_operand c = refl

  pub walk_counted : sort_at q k ≡ sort.count → (start stop c : ℕ) → start ≡ start_of v at → stop ≡ next_after v at → Counts v start stop c → (w : Seen) → w ≡ visited (task_of q) [] (by_count at c) n m → Walks t q x v k at n m w
  unfolding Walks Counts count-list in_list_lem
  walk_counted op start stop c a b told w f g =
      let z = count_view t q x v k at g op in
      let l = z.0 in
      let size_is : c ≡ size l.xs = told (count-list t q v k at g start stop a b op) in
      let place : at ≡ l.spot.place = sym (ap (λ (y : Value). (spot_of y).place) l.value-is ∙ stands-place g.stands) in
      f ∙ any_operand c ∙ ap₂ (λ (y u : ℕ). visited (task_of q) x (by_count y u) n m) place size_is
      ∙ sym (run-one (task_of q) x n m (count_value l.spot.place (size l.xs)))
      ∙ ap (run (task_of q) x (seen (State.Going n) m)) (sym (list-names t q v k at x g l count z.1 ∙ ap (λ (y : List Id). held g.defaults y (count_value l.spot.place (size l.xs) ∷ [])) z.2 ∙ held-done g.defaults _))

  -- where the steps that lead to one value at most end
  module _ (c : Reached) (told : Reaches t q v k at c) where
    module _ (j p : ℕ) (e : c ≡ Reached.At j p) (g : Goes t q x v k at) where
      there : Reaching t q x v k (names t q x v k at g) (Reached.At j p)
      unfolding Reaches
      there = subst (Reaching t q x v k (names t q x v k at g)) e (told x g)

      pub one-goes : Goes t q x v j p
      one-goes = there.0

      pub one-stops : Stops q j
      one-stops = there.1.1.1

      pub one_falls : (z : ℕ) → 3 * (18 - k) + 1 ≡ z → 3 * (18 - j) < z
      one_falls z y = let l = there.1.1.0 in omega arith

    pub one_at : (j p : ℕ) → c ≡ Reached.At j p → (w : Seen) → Walks t q x v j p n m w → Walks t q x v k at n m w
    unfolding Walks there
    one_at j p e w f g = let z = there j p e g in f z.0 ∙ ap (run (task_of q) x (seen (State.Going n) m)) (sym z.1.0)

    module _ (j p : ℕ) (e : c ≡ Reached.Absent j p) where
      lacking-there : (g : Goes t q x v k at) → Reaching t q x v k (names t q x v k at g) (Reached.Absent j p)
      unfolding Reaches
      lacking-there g = subst (Reaching t q x v k (names t q x v k at g)) e (told x g)

      pub one-low : Goes t q x v k at → plan.Low j
      one-low g = (lacking-there g).0

      pub one-fits : Goes t q x v k at → first_at q j + 1 + second_at q j < 18446744073709551616
      one-fits g = (lacking-there g).1.0

      pub one_absent : (w : Seen) → w ≡ absent_run q j p n m → Walks t q x v k at n m w
      unfolding Walks
      one_absent w f g = f ∙ (lacking-there g).1.1 n m

    pub one-nothing : c ≡ Reached.Nothing → Walks t q x v k at n m (seen (State.Going n) m)
    unfolding Walks Reaches
    one-nothing e g =
        let z : names t q x v k at g ≡ [] = subst (Reaching t q x v k (names t q x v k at g)) e (told x g) in
        sym (ap (run (task_of q) x (seen (State.Going n) m)) z ∙ run_none (task_of q) x (seen (State.Going n) m))

-- ---- steps that lead to one value at most: what is named at the start is named at step k, from a place
pub record On (t q v : List ℕ) (first place k at : ℕ) : Type 0 where
  pub from : first ≤ k
  pub on : (x : List ℕ) (g : Goes t q x v first place) → (h : Goes t q x v k at) × (names t q x v first place g ≡ names t q x v k at h)

pub reach-start : (t q v : List ℕ) (k at : ℕ) → On t q v k at k at
reach-start t q v k at = record { from = omega arith; on = λ x g. (g, refl) }

module _ (t q v : List ℕ) (first place k at : ℕ) (inv : On t q v first place k at) where
  pub reach_steps : Steps t q v first place → Steps t q v k at
  reach_steps st = record { operand = st.operand; goes = (inv.on st.operand st.goes).0 }

  pub reach-low : Steps t q v first place → plan.Low k
  reach-low st = (inv.on st.operand st.goes).0.low

  pub reach-fits : Steps t q v first place → k + 1 < 18446744073709551616
  reach-fits st = let l = reach-low st in omega arith

  module _ (op : ℕ) (read : op ≡ sort_at q k) where
    stop_here : Stops q k → Reaches t q v first place (Reached.At k at)
    unfolding Reaches
    stop_here s x g = let z = inv.on x g in (z.0, (z.1, (inv.from, s)))

    pub reach-end : op ≡ sort.end → Reaches t q v first place (Reached.At k at)
    reach-end e = stop_here (λ a b. absurd (a (sym read ∙ e)))

    pub reach-count : op ≡ sort.count → Reaches t q v first place (Reached.At k at)
    reach-count e = stop_here (λ a b. absurd (b (sym read ∙ e)))

    pub reach-all : op ≡ sort.all → Reaches t q v first place (Reached.At k at)
    reach-all e = stop_here (λ a b. sym read ∙ e)

  module _ (c : Move) (told : Moves t q v k at c) where
    moved : (y : Move) → c ≡ y → (x : List ℕ) (g : Goes t q x v first place) → Moved t q x v k at (names t q x v k at (inv.on x g).0) y
    unfolding Moves
    moved y e x g = subst (Moved t q x v k at (names t q x v k at (inv.on x g).0)) e (told x (inv.on x g).0)

    pub reach-on : (p : ℕ) → c ≡ Move.To p → On t q v first place (k + 1) p
    reach-on p e = record { from = let f = inv.from in omega arith; on = λ x g. let z = moved (Move.To p) e x g in (z.0, (inv.on x g).1 ∙ z.1) }

    pub reach_absent : c ≡ Move.Absent → Reaches t q v first place (Reached.Absent k at)
    unfolding Reaches
    reach_absent e x g =
        let h = inv.on x g in
        let z = moved Move.Absent e x g in
        (h.0.low, (z.0, λ n m. z.1 n m ∙ ap (run (task_of q) x (seen (State.Going n) m)) (sym h.1)))

    pub reach-nothing : c ≡ Move.Nothing → Reaches t q v first place Reached.Nothing
    unfolding Reaches
    reach-nothing e x g = (inv.on x g).1 ∙ moved Move.Nothing e x g

-- ---- values one after another: those from place i on
pub record Each (t q x v : List ℕ) (k start stop n : ℕ) (m₀ : List ℕ) (i made : ℕ) (m : List ℕ) (g : GoesEach t q x v k start stop) : Type 0 where
  pub ys : Values
  pub most : ℕ
  pub turn : Elements v g.ty stop most i ys
  pub same-run : run (task_of q) x (seen (State.Going made) m) (held g.defaults g.ids (each ys)) ≡ run (task_of q) x (seen (State.Going n) m₀) (names_each t q x v k start stop g)

pub record AllEach (t q x v : List ℕ) (k start stop n : ℕ) (m₀ : List ℕ) (i made : ℕ) (m : List ℕ) : Type 0 where
  pub length-same : length m ≡ length m₀
  pub of : (g : GoesEach t q x v k start stop) → Each t q x v k start stop n m₀ i made m g

module _ (t q x v : List ℕ) (k start stop n : ℕ) (m₀ : List ℕ) where
  pub each_start : AllEach t q x v k start stop n m₀ start n m₀
  each_start = record { length-same = refl; of = λ g. record { ys = g.xs; most = g.most; turn = g.turn; same-run = refl } }

  module _ (i made : ℕ) (m : List ℕ) (w : AllEach t q x v k start stop n m₀ i made m) where
    pub each-length : length m ≡ length m₀
    each-length = w.length-same

    pub each-done : stop ≤ i → WalksEach t q x v k start stop n m₀ (seen (State.Going made) m)
    unfolding WalksEach each
    each-done h g =
        let e = w.of g in
        let z = turn_end e.turn h in
        sym (run_none (task_of q) x (seen (State.Going made) m))
        ∙ ap (run (task_of q) x (seen (State.Going made) m)) (sym (ap (λ (y : Values). held g.defaults g.ids (each y)) (sym z) ∙ held_none g.defaults g.ids)) ∙ e.same-run

    module _ (h : i < stop) where
      first : (g : GoesEach t q x v k start stop) → Next v g.ty stop i (w.of g).ys
      first g = turn_next g.inside (w.of g).turn h

      pub each_within : GoesEach t q x v k start stop → next_after v i ≤ length v
      each_within g = stands-within (first g).stands

      pub each_goes : GoesEach t q x v k start stop → Goes t q x v k i
      each_goes g = record { defaults = g.defaults; ty = g.ty; ids = g.ids; val = (first g).x; low = g.low; planned = g.planned; stands = (first g).stands }

      module _ (c : State) (m₁ : List ℕ) (told : Walks t q x v k i made m (seen c m₁)) where
        -- the state after the value, and the values after it
        runs_on : (g : GoesEach t q x v k start stop) → run (task_of q) x (seen c m₁) (held g.defaults g.ids (each (first g).ys)) ≡ run (task_of q) x (seen (State.Going n) m₀) (names_each t q x v k start stop g)
        unfolding Walks each each_goes
        runs_on g =
            let f = first g in
            ap (λ (y : Seen). run (task_of q) x y (held g.defaults g.ids (each f.ys))) (told (each_goes g))
            ∙ sym (run-append (task_of q) x (seen (State.Going made) m) (held g.defaults g.ids (value f.x ∷ [])) (held g.defaults g.ids (each f.ys)))
            ∙ ap (run (task_of q) x (seen (State.Going made) m)) (sym (held-append g.defaults g.ids (value f.x ∷ []) (each f.ys)) ∙ ap (λ (y : Values). held g.defaults g.ids (each y)) f.whole)
            ∙ (w.of g).same-run

        pub each_again : length m₁ ≡ length m → (more j : ℕ) → c ≡ State.Going more → j ≡ next_after v i → AllEach t q x v k start stop n m₀ j more m₁
        each_again len more j e f = record {
          length-same = len ∙ w.length-same;
          of = λ g. record {
            ys = (first g).ys;
            most = (first g).most;
            turn = subst (λ (y : ℕ). Elements v g.ty stop (first g).most y (first g).ys) (sym f) (first g).turn;
            same-run = ap (λ (y : State). run (task_of q) x (seen y m₁) (held g.defaults g.ids (each (first g).ys))) (sym e) ∙ runs_on g;
          };
        }

        pub each-accepted : (more : ℕ) → c ≡ State.Accepted more → WalksEach t q x v k start stop n m₀ (seen (State.Accepted more) m₁)
        unfolding WalksEach
        each-accepted more e g = sym (ap (λ (y : State). run (task_of q) x (seen y m₁) (held g.defaults g.ids (each (first g).ys))) e ∙ run-accepted (task_of q) x more m₁ _) ∙ runs_on g

        pub each_over : c ≡ State.Over → WalksEach t q x v k start stop n m₀ (seen State.Over m₁)
        unfolding WalksEach
        each_over e g = sym (ap (λ (y : State). run (task_of q) x (seen y m₁) (held g.defaults g.ids (each (first g).ys))) e ∙ run-over (task_of q) x m₁ _) ∙ runs_on g

-- ---- all elements of a list
module _ (t q x v : List ℕ) (k at : ℕ) (op : ℕ) (read : op ≡ sort_at q k) (no_end : op ≡ sort.end → ⊥) (no-count : op ≡ sort.count → ⊥) (stops : Stops q k) (start stop : ℕ) (a : start ≡ start_of v at) (b : stop ≡ next_after v at) where
  all_here : sort_at q k ≡ sort.all
  all_here = stops (λ e. no_end (read ∙ e)) (λ e. no-count (read ∙ e))

  pub all-each : Goes t q x v k at → GoesEach t q x v (k + 1) start stop
  all-each g =
      let w = all-view t q x v k at g all_here in
      let l = w.list in
      let h = stands-within g.stands in
      let low = w.low in
      record {
        defaults = g.defaults;
        ty = l.element;
        ids = l.is;
        xs = l.xs;
        most = l.most;
        low = omega arith;
        planned = w.rest;
        turn = subst (λ (y : ℕ). Elements v l.element stop l.most y l.xs) (sym a) (subst (λ (y : ℕ). Elements v l.element y l.most (start_of v at) l.xs) (sym b) l.turn);
        inside = omega arith;
      }

  pub all_walked : (n : ℕ) (m : List ℕ) (w : Seen) → WalksEach t q x v (k + 1) start stop n m w → Walks t q x v k at n m w
  unfolding Walks WalksEach all-each
  all_walked n m w f g =
      let z = all-view t q x v k at g all_here in
      f (all-each g) ∙ ap (run (task_of q) x (seen (State.Going n) m)) (sym (list-names t q v k at x g z.list all z.index_is))

-- ---- the walk ends: each step is a step further in the plan
pub low-after : (t q x v : List ℕ) (k at op : ℕ) → Goes t q x v k at → op ≡ sort_at q k → (op ≡ sort.end → ⊥) → k < 17
low-after t q x v k at op g read other = go g.planned
  where
    go : {ty : Ty} {ids : List Id} → Planned t q x g.defaults k ty ids → k < 17
    go (plan.over e) = absurd (other (read ∙ e))
    go (plan.member e n z rest) = n.low
    go (plan.alternative e n z rest) = n.low
    go (plan.to-position e low r rest) = low
    go (plan.to-from_end e low r rest) = low
    go (plan.to-count e low) = low
    go (plan.to-all e low rest) = low

pub is_move : (q : List ℕ) (k op : ℕ) → op ≡ sort_at q k → (op ≡ sort.end → ⊥) → (op ≡ sort.count → ⊥) → (op ≡ sort.all → ⊥) → IsMove (sort_at q k)
is_move q k op read a b c = (λ e. a (read ∙ e), λ e. b (read ∙ e), λ e. c (read ∙ e))

module _ (t q x v : List ℕ) (k at : ℕ) (g : Goes t q x v k at) (op : ℕ) (read : op ≡ sort_at q k) (other : op ≡ sort.end → ⊥) where
  pub each_falls : (z : ℕ) → 3 * (18 - k) ≡ z → 3 * (18 - (k + 1)) + 2 < z
  each_falls z e = let l = low-after t q x v k at op g read other in omega arith

pub one_less : (k z : ℕ) → 3 * (18 - k) + 2 ≡ z → 3 * (18 - k) + 1 < z
one_less k z e = omega arith

pub reach_falls : (t q v : List ℕ) (first place k at : ℕ) → On t q v first place k at → Steps t q v first place → (op : ℕ) → op ≡ sort_at q k → (op ≡ sort.end → ⊥) → 18 - (k + 1) < 18 - k
reach_falls t q v first place k at inv st op read other =
    let l = low-after t q st.operand v k at op (inv.on st.operand st.goes).0 read other in omega arith

-- ---- the whole value
pub asks-each : (t q x v : List ℕ) → Asks t q x v → GoesEach t q x v 1 0 (length v)
asks-each t q x v g =
    let d = decodes-stored (type_at t 0) v g.val g.stored in
    let e : next_after v 0 ≡ length v = decodes_next d in
    let a = start-before v 0 in
    let b = start-long v 0 in
    let some-octets : 0 < length v = omega arith in
    let at-end : length v ≤ length v = omega arith in
    record {
      defaults = g.defaults;
      ty = type_at t 0;
      ids = g.ids;
      xs = next g.val end_values;
      most = 1;
      low = omega arith;
      planned = g.planned;
      turn = goes some-octets d (ends at-end);
      inside = omega arith;
    }

pub answers_by : (t q x v : List ℕ) (n : ℕ) (m : List ℕ) (w : Seen) → WalksEach t q x v 1 0 (length v) n m w → Answers t q x v n m w
unfolding WalksEach Answers named each asks-each
answers_by t q x v n m w f g = f (asks-each t q x v g)

-- without memory
pub tests_by : (t q x v : List ℕ) (n : ℕ) (m m₁ : List ℕ) (r : State) → WalksEach t q x v 1 0 (length v) n m (seen r m₁) → Tests t q x v n r
unfolding WalksEach Tests named each asks-each
tests_by t q x v n m m₁ r f g other = seen_state r _ m₁ m (f (asks-each t q x v g) ∙ ran (task_of q) x n m (named g.defaults g.ids g.val) other)

module _ (t q v : List ℕ) (n : ℕ) (r : State) (told : Tests t q [] v n r) where
  pub tally_is : (k : ℕ) → r ≡ State.Going k → Tallies t q v n k
  unfolding Tests Tallies ran_to
  tally_is k e g limit z =
      let a : State.Going k ≡ State.Going (counted_to limit n (named g.defaults g.ids g.val)) = sym e ∙ told g (λ y. counting-listing limit (sym z ∙ y)) ∙ ap (λ (y : Task). ran_to y [] n (named g.defaults g.ids g.val)) z in
      cc

  going : (g : Asks t q [] v) (limit : ℕ) → task_of q ≡ counting limit → r ≡ State.Going (counted_to limit n (named g.defaults g.ids g.val))
  unfolding Tests ran_to
  going g limit z = told g (λ y. counting-listing limit (sym z ∙ y)) ∙ ap (λ (y : Task). ran_to y [] n (named g.defaults g.ids g.val)) z

  pub tally_accepted : (k : ℕ) → r ≡ State.Accepted k → Tallies t q v n k
  unfolding Tallies
  tally_accepted k e g limit z = absurd (let a : State.Accepted k ≡ State.Going (counted_to limit n (named g.defaults g.ids g.val)) = sym e ∙ going g limit z in let y : ◌≡◌ {A = ℕ} 0 1 = cc in omega arith)

  pub tally_over : r ≡ State.Over → Tallies t q v n n
  unfolding Tallies
  tally_over e g limit z = absurd (let a : State.Over ≡ State.Going (counted_to limit n (named g.defaults g.ids g.val)) = sym e ∙ going g limit z in let y : ◌≡◌ {A = ℕ} 0 1 = cc in omega arith)
