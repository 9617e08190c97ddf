-- One identifier of a reference on the type of a row: the code's numbers are those of the identifier, and lead where it leads.
use mathlib.Core.Path.{◌≡◌, refl, sym, ap, ◌∙◌, subst}
use mathlib.Core.Logic.{◌⊎◌, inl, inr}
use mathlib.Core.Bool.{Bool, true, false}
use Rattle.std.specs.Prelude.{Option, None, Some}
use mathlib.Core.List.{List, [], ◌∷◌}
use Prim.Native.Nat.{ℕ, zero, suc, ◌≤◌, ◌<◌, ◌+◌, ◌-◌}
use native.Mathlib.Omega.{arith}
use borrow.Author.Tests.{eqb-true, leb-true, leb-false, ltb-true, ltb-false}
use lib.ListN.{length}
use lib.Dec.{ltb, leb, eqb}
use Rattle.octets.specs.Pick.{pick, both, consed}
use Rattle.octets.specs.Octets.{part}
use Rattle.der.specs.Kind as kind
use Rattle.rows.specs.Paper.{table_limits}
use Rattle.rows.specs.Row.{kind_at, named_at, members_at, is_list, row_at}
use Rattle.types.specs.Types.{Member, member_of, Ty, more, members_from, type_from}
use Rattle.types.specs.Admitted.{admitted}
use Rattle.rows.proofs.KindLaws.{list-type, list-names}
use Rattle.types.proofs.TypeLaws.{member-fits, named-fits}
use Rattle.table.specs.Inner.Rows.{table_rows, place_at, type_at, members_after, member_at, member_type_at}
use Rattle.table.specs.Inner.Words.{Worded}
use Rattle.value.specs.Inner.Work.{first}
use Rattle.value.proofs.Views.{some_same}
use Rattle.value.proofs.LeafSteps.{first-none, first_step_lem}
use Rattle.reference.specs.Reference.{Index, position, from_end, count, all, Id, name, index}
use Rattle.reference.specs.Allowed.{Target, of_type, of_count, under_members, indexed, under, allowed_from}
use Rattle.reference.specs.Inner.Work.{ids_at, head_capped, report_id_step, advances, named_of, first_named, along}
use Rattle.reference.specs.declared.Step.{Step}
use Rattle.reference.proofs.Laws.{ids-over, ids-within, end_step, bad-step, name-step, position-step, from_end-step, count-step, all-step, name-rises, position-rises, from_end-rises, all-rises}
use Rattle.reference.proofs.UnderSteps as under-steps
use Rattle.reference.proofs.FollowSteps.{along-capped, along_next}
use Rattle.plan.specs.Inner.Sort as sort
use Rattle.plan.specs.Inner.Plan.{Unnamed, nil, cons, Names, here, later}
use Rattle.plan.specs.Inner.Resolve.{member_plan, name_plan, list_plan, count_plan, Fits, as_member, as_alternative, as_position, as_last, as_all, Begins, NamesMember, Onward, PlannedAs, Plans}
use Rattle.plan.specs.declared.Planning.{Planning}
use Rattle.plan.proofs.RowLaws.{list-here, type-here, choice-at, under-name, under-list, under-other, differ-at, one-named}

-- ---- names: the member at an index has the name, and no other
module _ (f : ℕ → Ty) (t s : List ℕ) (row : ℕ) (x : List ℕ) where
  unnamed_from : (k a : ℕ) → ((i : ℕ) → a ≤ i → i < a + k → named_of t s row x i ≡ false) → Unnamed x (members_from f t s (row + 1 + a) k)
  unfolding members_from member_of named_of
  unnamed_from zero a free = nil
  unnamed_from (suc k) a free =
      let q : row + 1 + (a + 1) ≡ row + 1 + a + 1 = omega arith in
      cons (free a (omega arith) (omega arith)) (subst (λ (y : ℕ). Unnamed x (members_from f t s y k)) q (unnamed_from k (a + 1) (λ i l h. free i (omega arith) (omega arith))))

  abbrev the_member : ℕ → Member
  the_member j = member_of t (row + 1 + j) (row_at s (row + 1 + j))

  abbrev type-of : ℕ → Ty
  type-of j = f (named_at t (row_at s (row + 1 + j)))

  names-from : (k a j : ℕ) → a ≤ j → j < a + k → named_of t s row x j ≡ true → ((i : ℕ) → a ≤ i → i < a + k → (i ≡ j → ⊥) → named_of t s row x i ≡ false)
      → Names x (members_from f t s (row + 1 + a) k) (j - a) (the_member j) (type-of j)
  unfolding members_from member_of named_of
  names-from zero a j l h is others = absurd (omega arith)
  names-from (suc k) a j l h is others = go (j - a) refl (λ z. names-from k (a + 1) j (omega arith) (omega arith) is (λ i b c. others i (omega arith) (omega arith)))
    where
      q : row + 1 + (a + 1) ≡ row + 1 + a + 1
      q = omega arith

      go : (n : ℕ) → j - a ≡ n → (0 < n → Names x (members_from f t s (row + 1 + (a + 1)) k) (j - (a + 1)) (the_member j) (type-of j))
          → Names x (more (the_member a) (type-of a) (members_from f t s (row + 1 + a + 1) k)) n (the_member j) (type-of j)
      go zero e rest =
          let z : a ≡ j = omega arith in
          subst (λ (y : ℕ). Names x (more (the_member a) (type-of a) (members_from f t s (row + 1 + a + 1) k)) 0 (the_member y) (type-of y)) z
          (here (ap (named_of t s row x) z ∙ is) (subst (λ (y : ℕ). Unnamed x (members_from f t s y k)) q (unnamed_from k (a + 1) (λ i b c. others i (omega arith) (omega arith) (λ y. absurd (omega arith))))))
      go (suc n) e rest =
          let z : j - (a + 1) ≡ n = omega arith in
          later (others a (omega arith) (omega arith) (λ y. absurd (omega arith)))
          (subst (λ (y : ℕ). Names x (members_from f t s (row + 1 + a + 1) k) y (the_member j) (type-of j)) z
          (subst (λ (y : ℕ). Names x (members_from f t s y k) (j - (a + 1)) (the_member j) (type-of j)) q (rest (omega arith))))

first_true : (f : ℕ → Bool) (k a : ℕ) → first f k a < a + k → f (first f k a) ≡ true
first_true f zero a h = absurd (let q = first-none f a in omega arith)
first_true f (suc k) a h = go (f a) refl (λ g. first_true f k (a + 1) g)
  where
    go : (b : Bool) → f a ≡ b → (first f k (a + 1) < a + 1 + k → f (first f k (a + 1)) ≡ true) → f (first f (suc k) a) ≡ true
    go true e rest = ap f (first_step_lem f k a ∙ ap (λ (y : Bool). pick y a (first f k (a + 1))) e) ∙ e
    go false e rest = let q : first f (suc k) a ≡ first f k (a + 1) = first_step_lem f k a ∙ ap (λ (y : Bool). pick y a (first f k (a + 1))) e in ap f q ∙ rest (omega arith)

-- ---- identifiers from a target on, one step further
along-nothing : (o : Option (List Id)) → along o None ≡ None
along-nothing None = refl
along-nothing (Some is) = refl

-- behind a count nothing is allowed
more-none : (i : Id) (js : List Id) → along (Some (i ∷ js)) (Some of_count) ≡ None
unfolding allowed_from under
more-none i js = refl

pub none_after : (g : Target) → along (Some []) (Some g) ≡ Some g
unfolding allowed_from
none_after g = refl

module _ (r : List ℕ) (k : ℕ) (step : Step) (told : report_id_step r step ≡ head_capped (ids_at r k)) (g : Target) (i : Id) (next : ℕ) (e : report_id_step r step ≡ consed i (ids_at r next)) where
  leads-on : along (ids_at r k) (Some g) ≡ along (ids_at r next) (under i g)
  leads-on = sym (along-capped (ids_at r k) (Some g)) ∙ ap (λ (o : Option (List Id)). along o (Some g)) (sym told ∙ e) ∙ along_next i (ids_at r next) (Some g)

  leads_some : (h : Target) → under i g ≡ Some h → along (ids_at r k) (Some g) ≡ along (ids_at r next) (Some h)
  leads_some h f = leads-on ∙ ap (along (ids_at r next)) f

  leads-none : under i g ≡ None → along (ids_at r k) (Some g) ≡ None
  leads-none f = leads-on ∙ ap (along (ids_at r next)) f ∙ along-nothing (ids_at r next)

-- ---- the identifiers from a place on, by those after the first
record Found (t r : List ℕ) (row s a b to next : ℕ) (is : List Id) : Type 0 where
  pub i : Id
  pub js : List Id
  pub whole : is ≡ i ∷ js
  pub rest : ids_at r next ≡ Some js
  pub fits : Fits t row s a b i to

found-begins : (t r : List ℕ) (k row s a b to next : ℕ) (step : Step) → report_id_step r step ≡ head_capped (ids_at r k) → (i : Id) → report_id_step r step ≡ consed i (ids_at r next)
    → ((is : List Id) → ids_at r k ≡ Some is → Found t r row s a b to next is) → (js : List Id) → ids_at r next ≡ Some js → Begins t r k row s a b to js
found-begins t r k row s a b to next step told i read found js e = go (ids_at r k) refl (sym (sym told ∙ read ∙ ap (consed i) e))
  where
    go : (o : Option (List Id)) → ids_at r k ≡ o → Some (i ∷ js) ≡ head_capped (ids_at r k) → Begins t r k row s a b to js
    go None q h = absurd (let z = h ∙ ap head_capped q in let y : ◌≡◌ {A = ℕ} 0 1 = cc in omega arith)
    go (Some is) q h =
        let f = found is q in
        let z = some_same f.js js (sym f.rest ∙ e) in
        record { i = f.i; whole = q ∙ ap Some (f.whole ∙ ap (λ (l : List Id). f.i ∷ l) z); fits = f.fits }

module _ (t w : List ℕ) (ok : Worded t w) (ad : admitted table_limits t ≡ true) (row : ℕ) (at : row < length (table_rows t)) where
  -- the first member with a name is the only one
  module _ (x : List ℕ) (low : first_named t (table_rows t) row x < members_at t (place_at t row)) where
    abbrev j : ℕ
    j = first_named t (table_rows t) row x

    only-named : Names x (members_after t row) (first_named t (table_rows t) row x) (member_at t (row + 1 + first_named t (table_rows t) row x)) (member_type_at t (row + 1 + first_named t (table_rows t) row x))
    only-named =
        let a : row + 1 + 0 ≡ row + 1 = omega arith in
        let b : j - 0 ≡ j = omega arith in
        let is : named_of t (table_rows t) row x j ≡ true = first_true (named_of t (table_rows t) row x) (members_at t (place_at t row)) 0 (omega arith) in
        subst (λ (y : ℕ). Names x (members_after t row) y (member_at t (row + 1 + j)) (member_type_at t (row + 1 + j))) b
        (subst (λ (y : ℕ). Names x (members_from (type_from table_limits.chain t (table_rows t)) t (table_rows t) y (members_at t (place_at t row))) (j - 0) (member_at t (row + 1 + j)) (member_type_at t (row + 1 + j))) a
        (names-from (type_from table_limits.chain t (table_rows t)) t (table_rows t) row x (members_at t (place_at t row)) 0 j (omega arith) (omega arith) is (λ i c d e. one-named t ad row at i j x (omega arith) low e is)))

  module _ (r : List ℕ) (k : ℕ) (step : Step) (told : report_id_step r step ≡ head_capped (ids_at r k)) (rising : advances r k step ≡ true) where
    -- ---- a name
    module _ (a b next : ℕ) (is_name : step ≡ Step.Name a b next) where
      abbrev x : List ℕ
      x = part r a (b - a)

      abbrev i₀ : ℕ
      i₀ = first_named t (table_rows t) row (part r a (b - a))

      read_name : report_id_step r step ≡ consed (name x) (ids_at r next)
      read_name = ap (report_id_step r) is_name

      none-under : members_at t (place_at t row) ≤ i₀ → under_members (name x) (members_after t row) ≡ None
      none-under h = sym (under-steps.name-none table_limits.chain t (table_rows t) row r a b (place_at t row) (members_at t (place_at t row)) i₀ refl refl refl h)

      some_under : i₀ < members_at t (place_at t row) → under_members (name x) (members_after t row) ≡ Some (of_type (type_at t (named_at t (place_at t (row + 1 + i₀)))))
      some_under h = sym (under-steps.name-found table_limits.chain t (table_rows t) row r a b (place_at t row) (members_at t (place_at t row)) i₀ refl refl refl h (named_at t (place_at t (row + 1 + i₀))) refl)

      begins-name : (s : ℕ) → Fits t row s row i₀ (name x) (named_at t (place_at t (row + 1 + i₀))) → (is : List Id) → ids_at r k ≡ Some is → Found t r row s row i₀ (named_at t (place_at t (row + 1 + i₀))) next is
      begins-name s fits is e = let z = name-step r k step told is e a b next is_name in record { i = name x; js = z.0; whole = z.1; rest = z.2; fits = fits }

      onward-name : (s : ℕ) → i₀ < members_at t (place_at t row) → under (name x) (of_type (type_at t row)) ≡ under_members (name x) (members_after t row) → Fits t row s row i₀ (name x) (named_at t (place_at t (row + 1 + i₀)))
          → Onward t r k row s row i₀ (named_at t (place_at t (row + 1 + i₀))) next
      unfolding NamesMember
      onward-name s low u fits =
          let z = name-rises r k step rising a b next is_name in
          record {
            here = type-here t w row ok at i₀ low;
            member = λ e. (at, low);
            rises = z.0;
            ends = z.1;
            chain = λ c f. member-fits t (table_rows t) row c f i₀ low;
            leads = leads_some r k step told (of_type (type_at t row)) (name x) next read_name (of_type (type_at t (named_at t (place_at t (row + 1 + i₀))))) (u ∙ some_under low);
            begins = found-begins t r k row s row i₀ _ next step told (name x) read_name (begins-name s fits);
          }

      pub name-plans : (p : Planning) → p ≡ name_plan t row (part r a (b - a)) next → Plans t r k row p
      unfolding Plans name_plan member_plan
      name-plans p e = subst (PlannedAs t r k row) (sym e) (go (leb (members_at t (place_at t row)) i₀) refl (eqb (kind_at t (place_at t row)) kind.sequence) refl (eqb (kind_at t (place_at t row)) kind.choice) refl)
        where
          to : ℕ
          to = named_at t (place_at t (row + 1 + i₀))

          nothing : (u v : Bool) → eqb (kind_at t (place_at t row)) kind.sequence ≡ u → eqb (kind_at t (place_at t row)) kind.choice ≡ v → pick u (under_members (name x) (members_after t row)) (pick v (under_members (name x) (members_after t row)) None) ≡ None
              → along (ids_at r k) (Some (of_type (type_at t row))) ≡ None
          nothing u v p q f = leads-none r k step told (of_type (type_at t row)) (name x) next read_name (under-name t w row ok at x u v p q ∙ f)

          go : (m : Bool) → leb (members_at t (place_at t row)) i₀ ≡ m → (u : Bool) → eqb (kind_at t (place_at t row)) kind.sequence ≡ u → (v : Bool) → eqb (kind_at t (place_at t row)) kind.choice ≡ v
              → PlannedAs t r k row (pick m Planning.No (pick u (Planning.To sort.member row i₀ (named_at t (place_at t (row + 1 + i₀))) next) (pick v (Planning.To sort.alternative row i₀ (named_at t (place_at t (row + 1 + i₀))) next) Planning.No)))
          go true h u p v q = nothing u v p q (none_of_lem u v (none-under (leb-true _ _ h)))
            where
              none_of_lem : (u v : Bool) → under_members (name x) (members_after t row) ≡ None → pick u (under_members (name x) (members_after t row)) (pick v (under_members (name x) (members_after t row)) None) ≡ None
              none_of_lem true v z = z
              none_of_lem false true z = z
              none_of_lem false false z = refl
          go false h true p v q =
              let low = leb-false (members_at t (place_at t row)) i₀ h in
              onward-name sort.member low (under-name t w row ok at x true v p q) (as_member (eqb-true _ _ p) low (only-named x low))
          go false h false p true q =
              let low = leb-false (members_at t (place_at t row)) i₀ h in
              let c = eqb-true _ _ q in
              onward-name sort.alternative low (under-name t w row ok at x false true p q) (as_alternative c low (only-named x low) (differ-at t ad row at (choice-at t w row ok at c)))
          go false h false p false q = nothing false false p q refl

    -- ---- an index of a list
    abbrev element : ℕ
    element = named_at t (place_at t row)

    module _ (s n : ℕ) (i : Index) (next : ℕ) (read : report_id_step r step ≡ consed (index i) (ids_at r next)) (leads-to : indexed i (type_at t (named_at t (place_at t row))) ≡ of_type (type_at t (named_at t (place_at t row)))) (up : k < next) (ends : next ≤ length r + 1)
        (begins : is_list (kind_at t (place_at t row)) ≡ true → (is : List Id) → ids_at r k ≡ Some is → Found t r row s n 0 (named_at t (place_at t row)) next is) (other : s ≡ sort.member → ⊥) where
      index-plans : (p : Planning) → p ≡ list_plan t row s n next → Plans t r k row p
      unfolding Plans list_plan NamesMember
      index-plans p e = subst (PlannedAs t r k row) (sym e) (go (is_list (kind_at t (place_at t row))) refl)
        where
          go : (u : Bool) → is_list (kind_at t (place_at t row)) ≡ u → PlannedAs t r k row (pick u (Planning.To s n 0 (named_at t (place_at t row)) next) Planning.No)
          go true q = record {
            here = list-here t w row ok at q;
            member = λ z. absurd (other z);
            rises = up;
            ends = ends;
            chain = λ c f. named-fits t (table_rows t) row c f (list-type (kind_at t (place_at t row)) q) (list-names t (place_at t row) q);
            leads = leads_some r k step told (of_type (type_at t row)) (index i) next read (of_type (type_at t element)) (under-list t w row ok at i q ∙ ap Some leads-to);
            begins = found-begins t r k row s n 0 _ next step told (index i) read (begins q);
          }
          go false q = leads-none r k step told (of_type (type_at t row)) (index i) next read (under-other t w row ok at i q)

    pub position-plans : (n next : ℕ) → step ≡ Step.Position n next → (p : Planning) → p ≡ list_plan t row sort.position n next → Plans t r k row p
    position-plans n next e =
        let z = position-rises r k step rising n next e in
        index-plans sort.position n (position n) next (ap (report_id_step r) e) refl z.0 z.1
        (λ q is f. let u = position-step r k step told is f n next e in
        record { i = index (position u.0); js = u.1; whole = u.2; rest = u.4; fits = subst (λ (y : ℕ). Fits t row sort.position y 0 (index (position u.0)) (named_at t (place_at t row))) (sym u.3) (as_position q) }) (λ y. absurd (omega arith))

    pub last-plans : (n next : ℕ) → step ≡ Step.FromEnd n next → (p : Planning) → p ≡ list_plan t row sort.from_end n next → Plans t r k row p
    last-plans n next e =
        let z = from_end-rises r k step rising n next e in
        index-plans sort.from_end n (from_end n) next (ap (report_id_step r) e) refl z.0 z.1
        (λ q is f. let u = from_end-step r k step told is f n next e in
        record { i = index (from_end u.0); js = u.1; whole = u.2; rest = u.4; fits = subst (λ (y : ℕ). Fits t row sort.from_end y 0 (index (from_end u.0)) (named_at t (place_at t row))) (sym u.3) (as_last q) }) (λ y. absurd (omega arith))

    pub all-plans : (next : ℕ) → step ≡ Step.All next → (p : Planning) → p ≡ list_plan t row sort.all 0 next → Plans t r k row p
    all-plans next e =
        let z = all-rises r k step rising next e in
        index-plans sort.all 0 all next (ap (report_id_step r) e) refl z.0 z.1
        (λ q is f. let u = all-step r k step told is f next e in record { i = index all; js = u.0; whole = u.1; rest = u.2; fits = as_all q }) (λ y. absurd (omega arith))

    -- ---- the count
    count-on : (next : ℕ) → step ≡ Step.Count next → is_list (kind_at t (place_at t row)) ≡ true → along (ids_at r k) (Some (of_type (type_at t row))) ≡ along (ids_at r next) (Some of_count)
    count-on next e q = leads_some r k step told (of_type (type_at t row)) (index count) next (ap (report_id_step r) e) of_count (under-list t w row ok at count q)

    count-more : (o : Option (List Id)) → ((is : List Id) → o ≡ Some is → (i : Id) × (js : List Id) × (is ≡ i ∷ js)) → along o (Some of_count) ≡ None
    count-more None f = refl
    count-more (Some is) f = let z = f is refl in ap (λ (y : List Id). along (Some y) (Some of_count)) z.2 ∙ more-none z.0 z.1

    only-count : (next : ℕ) → step ≡ Step.Count next → ids_at r next ≡ Some [] → ids_at r k ≡ Some (index count ∷ [])
    only-count next e f = go (ids_at r k) refl (ap (report_id_step r) (sym e) ∙ told)
      where
        go : (o : Option (List Id)) → ids_at r k ≡ o → consed (index count) (ids_at r next) ≡ head_capped (ids_at r k) → o ≡ Some (index count ∷ [])
        go None q h = absurd (let z = sym (ap (consed (index count)) f) ∙ h ∙ ap head_capped q in let y : ◌≡◌ {A = ℕ} 0 1 = cc in omega arith)
        go (Some is) q h = let z = count-step r k step told is q next e in let y = some_same [] z.0 (sym f ∙ z.2) in ap Some (z.1 ∙ ap (λ (l : List Id). index count ∷ l) (sym y))

    pub count-plans : (next : ℕ) → step ≡ Step.Count next → (last : Bool) → last ≡ ltb (length r) next → (p : Planning) → p ≡ count_plan t row last → Plans t r k row p
    unfolding Plans count_plan
    count-plans next e last f p g = subst (PlannedAs t r k row) (sym g) (go (is_list (kind_at t (place_at t row))) refl last f)
      where
        go : (u : Bool) → is_list (kind_at t (place_at t row)) ≡ u → (v : Bool) → v ≡ ltb (length r) next → PlannedAs t r k row (pick (both u v) Planning.Count Planning.No)
        go true q true h =
            let ends = ids-over r next (ltb-true (length r) next (sym h)) in
            record { list = q; only = only-count next e ends; leads = count-on next e q ∙ ap (λ (o : Option (List Id)). along o (Some of_count)) ends ∙ none_after of_count }
        go true q false h = count-on next e q ∙ count-more (ids_at r next) (λ is z. ids-within r next is (ltb-false (length r) next (sym h)) z)
        go false q v h = leads-none r k step told (of_type (type_at t row)) (index count) next (ap (report_id_step r) e) (under-other t w row ok at count q)

    pub none-plans : (step ≡ Step.End) ⊎ (step ≡ Step.Bad) → k ≤ length r → Plans t r k row Planning.No
    unfolding Plans
    none-plans (inl e) h = let z = ids-within r k [] h (end_step r k step told e) in absurd (let y : ◌≡◌ {A = ℕ} 0 1 = (let q = z.2 in cc) in omega arith)
    none-plans (inr e) h = ap (λ (o : Option (List Id)). along o (Some (of_type (type_at t row)))) (bad-step r k step told e)
