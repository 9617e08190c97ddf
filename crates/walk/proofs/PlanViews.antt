-- What a plan's number says of the value at hand: a view for each sort.
use mathlib.Core.Path.{◌≡◌, refl}
use mathlib.Core.Bool.{Bool, true}
use mathlib.Core.List.{List, [], ◌∷◌}
use Prim.Native.Nat.{ℕ, ◌+◌}
use native.Mathlib.Omega.{arith}
use lib.ListN.{length}
use Rattle.types.specs.Types.{Ty, list_of}
use Rattle.types.specs.Begins.{alternatives_differ}
use Rattle.table.specs.Inner.Rows.{members_after, member_at, member_type_at}
use Rattle.value.specs.Value.{Spot, Value, fields, elements, Fields, Values}
use Rattle.value.specs.Inner.Decodes.{Fielded, Chosen, Elements}
use Rattle.reference.specs.Reference.{Index, position, from_end, count, all, Id, name, index}
use Rattle.reference.specs.Inner.Work.{cap}
use Rattle.plan.specs.Inner.Sort as sort
use Rattle.plan.specs.Inner.Task.{task_of}
use Rattle.plan.specs.Inner.Plan.{sort_at, first_at, absent_at, Within, absent_of, ByName, Planned, over, member, alternative, to-position, to-from_end, to-count, to-all}
use Rattle.walk.specs.Inner.Raw.{start_of, next_after}
use Rattle.walk.specs.Inner.Stands.{Stands}
use Rattle.walk.specs.Inner.Walk.{Goes}
use Rattle.walk.proofs.Standing.{fields_stand, elements_stand, choice-stands}

pub record MemberStep (t q x v : List ℕ) (d : Bool) (k at : ℕ) (ids : List Id) (val : Value) : Type 0 where
  pub row : ℕ
  pub j : ℕ
  pub nm : List ℕ
  pub is : List Id
  pub by : ByName t q k row j nm
  pub ids_are : ids ≡ name nm ∷ is
  pub cell : absent_at q k ≡ absent_of d (task_of q) x is (member_at t (row + 1 + j)).presence
  pub rest : Planned t q x d (k + 1) (member_type_at t (row + 1 + j)) is
  pub spot : Spot
  pub fs : Fields
  pub members : Fielded v (next_after v at) (members_after t row) (start_of v at) fs
  pub value-is : fields spot fs ≡ val

pub record AlternativeStep (t q x v : List ℕ) (d : Bool) (k at : ℕ) (ids : List Id) (val : Value) : Type 0 where
  pub row : ℕ
  pub j : ℕ
  pub nm : List ℕ
  pub is : List Id
  pub by : ByName t q k row j nm
  pub ids_are : ids ≡ name nm ∷ is
  pub differ : alternatives_differ (members_after t row) ≡ true
  pub rest : Planned t q x d (k + 1) (member_type_at t (row + 1 + j)) is
  pub choice : Chosen v (length v) at (members_after t row) val (next_after v at)

pub record ListStep (v : List ℕ) (at : ℕ) (ids : List Id) (val : Value) : Type 0 where
  pub i : Index
  pub element : Ty
  pub is : List Id
  pub ids_are : ids ≡ index i ∷ is
  pub spot : Spot
  pub xs : Values
  pub most : ℕ
  pub turn : Elements v element (next_after v at) most (start_of v at) xs
  pub value-is : elements spot xs ≡ val

-- where the plan goes on behind a list
pub record ListOn (t q x v : List ℕ) (d : Bool) (k at : ℕ) (ids : List Id) (val : Value) (i : Index) : Type 0 where
  pub list : ListStep v at ids val
  pub index_is : list.i ≡ i
  pub low : Within k
  pub rest : Planned t q x d (k + 1) list.element list.is

module _ {v : List ℕ} {at : ℕ} {val : Value} where
  abbrev list-step : {kd : ℕ} {ty : Ty} (i : Index) (is : List Id) → Stands (list_of kd ty) v at val → ListStep v at (index i ∷ is) val
  list-step {ty = ty} i is st =
      let w = elements_stand st in
      record { i = i; element = ty; is = is; ids_are = refl; spot = w.0; xs = w.1; most = w.2; turn = w.3; value-is = w.4 }

module _ (t q x v : List ℕ) (k at : ℕ) (g : Goes t q x v k at) where
  pub over_view : sort_at q k ≡ sort.end → g.ids ≡ []
  over_view found = go g.ids g.planned g.stands
    where
      go : {ty : Ty} (ids : List Id) → Planned t q x g.defaults k ty ids → Stands ty v at g.val → ids ≡ []
      go ids (over e) st = refl
      go ids (member e b c rest) st = absurd (omega arith)
      go ids (alternative e b c rest) st = absurd (omega arith)
      go ids (to-position e low r rest) st = absurd (omega arith)
      go ids (to-from_end e low r rest) st = absurd (omega arith)
      go ids (to-count e low) st = absurd (omega arith)
      go ids (to-all e low rest) st = absurd (omega arith)

  pub member_view : sort_at q k ≡ sort.member → MemberStep t q x v g.defaults k at g.ids g.val
  member_view found = go g.ids g.planned g.stands
    where
      go : {ty : Ty} (ids : List Id) → Planned t q x g.defaults k ty ids → Stands ty v at g.val → MemberStep t q x v g.defaults k at ids g.val
      go ids (over e) st = absurd (omega arith)
      go ids (member {row = row} {j = j} {nm = nm} {is = is} e b c rest) st = let w = fields_stand st in record { row = row; j = j; nm = nm; is = is; by = b; ids_are = refl; cell = c; rest = rest; spot = w.0; fs = w.1; members = w.2; value-is = w.3 }
      go ids (alternative e b c rest) st = absurd (omega arith)
      go ids (to-position e low r rest) st = absurd (omega arith)
      go ids (to-from_end e low r rest) st = absurd (omega arith)
      go ids (to-count e low) st = absurd (omega arith)
      go ids (to-all e low rest) st = absurd (omega arith)

  pub alternative_view : sort_at q k ≡ sort.alternative → AlternativeStep t q x v g.defaults k at g.ids g.val
  alternative_view found = go g.ids g.planned g.stands
    where
      go : {ty : Ty} (ids : List Id) → Planned t q x g.defaults k ty ids → Stands ty v at g.val → AlternativeStep t q x v g.defaults k at ids g.val
      go ids (over e) st = absurd (omega arith)
      go ids (member e b c rest) st = absurd (omega arith)
      go ids (alternative {row = row} {j = j} {nm = nm} {is = is} e b c rest) st = record { row = row; j = j; nm = nm; is = is; by = b; ids_are = refl; differ = c; rest = rest; choice = choice-stands st }
      go ids (to-position e low r rest) st = absurd (omega arith)
      go ids (to-from_end e low r rest) st = absurd (omega arith)
      go ids (to-count e low) st = absurd (omega arith)
      go ids (to-all e low rest) st = absurd (omega arith)

  pub position_view : sort_at q k ≡ sort.position → (n : ℕ) × (first_at q k ≡ cap n) × (ListOn t q x v g.defaults k at g.ids g.val (position n))
  position_view found = go g.ids g.planned g.stands
    where
      go : {ty : Ty} (ids : List Id) → Planned t q x g.defaults k ty ids → Stands ty v at g.val → (n : ℕ) × (first_at q k ≡ cap n) × (ListOn t q x v g.defaults k at ids g.val (position n))
      go ids (over e) st = absurd (omega arith)
      go ids (member e b c rest) st = absurd (omega arith)
      go ids (alternative e b c rest) st = absurd (omega arith)
      go ids (to-position {n = n} {is = is} e low r rest) st = (n, r, record { list = list-step (position n) is st; index_is = refl; low = low; rest = rest })
      go ids (to-from_end e low r rest) st = absurd (omega arith)
      go ids (to-count e low) st = absurd (omega arith)
      go ids (to-all e low rest) st = absurd (omega arith)

  pub end_view : sort_at q k ≡ sort.from_end → (n : ℕ) × (first_at q k ≡ cap n) × (ListOn t q x v g.defaults k at g.ids g.val (from_end n))
  end_view found = go g.ids g.planned g.stands
    where
      go : {ty : Ty} (ids : List Id) → Planned t q x g.defaults k ty ids → Stands ty v at g.val → (n : ℕ) × (first_at q k ≡ cap n) × (ListOn t q x v g.defaults k at ids g.val (from_end n))
      go ids (over e) st = absurd (omega arith)
      go ids (member e b c rest) st = absurd (omega arith)
      go ids (alternative e b c rest) st = absurd (omega arith)
      go ids (to-position e low r rest) st = absurd (omega arith)
      go ids (to-from_end {n = n} {is = is} e low r rest) st = (n, r, record { list = list-step (from_end n) is st; index_is = refl; low = low; rest = rest })
      go ids (to-count e low) st = absurd (omega arith)
      go ids (to-all e low rest) st = absurd (omega arith)

  pub count_view : sort_at q k ≡ sort.count → (l : ListStep v at g.ids g.val) × (l.i ≡ count) × (l.is ≡ [])
  count_view found = go g.ids g.planned g.stands
    where
      go : {ty : Ty} (ids : List Id) → Planned t q x g.defaults k ty ids → Stands ty v at g.val → (l : ListStep v at ids g.val) × (l.i ≡ count) × (l.is ≡ [])
      go ids (over e) st = absurd (omega arith)
      go ids (member e b c rest) st = absurd (omega arith)
      go ids (alternative e b c rest) st = absurd (omega arith)
      go ids (to-position e low r rest) st = absurd (omega arith)
      go ids (to-from_end e low r rest) st = absurd (omega arith)
      go ids (to-count e low) st = (list-step count [] st, refl, refl)
      go ids (to-all e low rest) st = absurd (omega arith)

  pub all-view : sort_at q k ≡ sort.all → ListOn t q x v g.defaults k at g.ids g.val all
  all-view found = go g.ids g.planned g.stands
    where
      go : {ty : Ty} (ids : List Id) → Planned t q x g.defaults k ty ids → Stands ty v at g.val → ListOn t q x v g.defaults k at ids g.val all
      go ids (over e) st = absurd (omega arith)
      go ids (member e b c rest) st = absurd (omega arith)
      go ids (alternative e b c rest) st = absurd (omega arith)
      go ids (to-position e low r rest) st = absurd (omega arith)
      go ids (to-from_end e low r rest) st = absurd (omega arith)
      go ids (to-count e low) st = absurd (omega arith)
      go ids (to-all {is = is} e low rest) st = record { list = list-step all is st; index_is = refl; low = low; rest = rest }
