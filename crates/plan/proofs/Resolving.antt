-- Along a reference: numbers written step after step stand for its identifiers.
use mathlib.Core.Path.{◌≡◌, refl, sym, ap, ap₂, ◌∙◌, subst}
use mathlib.Core.Bool.{Bool, true, false, not}
use Rattle.std.specs.Prelude.{Option, None, Some}
use mathlib.Core.List.{List, [], ◌∷◌}
use Prim.Native.Nat.{ℕ, zero, suc, ◌≤◌, ◌<◌, ◌+◌, ◌-◌, ◌*◌}
use native.Mathlib.Omega.{arith}
use borrow.Author.Tests.{not-true, not-false, eq-eqb, eqb-false, lt-ltb, ltb-true, ltb-false}
use lib.ListN.{length, get_or, set, length-set}
use lib.Dec.{ltb, eqb}
use lib.Seq.{get_or-set_same, get_or-set_other}
use Rattle.octets.specs.Pick.{pick, both}
use Rattle.rows.specs.Paper.{table_limits}
use Rattle.rows.specs.Row.{presence_at, default_at}
use Rattle.clauses.specs.Clauses.{chain_fits}
use Rattle.types.specs.Types.{Presence, mandatory, optional, default, presence_of, member_of, Ty}
use Rattle.types.specs.Admitted.{admitted}
use Rattle.table.specs.Inner.Rows.{table_rows, MemberRow, place_at, type_at, member_at}
use Rattle.table.specs.Inner.Words.{Worded}
use Rattle.value.proofs.Views.{some_same}
use Rattle.reference.specs.Reference.{count, Id, name, index, read_reference}
use Rattle.reference.specs.Allowed.{of_type}
use Rattle.reference.specs.Inner.Work.{ids_at, report_target, row_within, along}
use Rattle.reference.specs.declared.Target.{Target}
use Rattle.reference.proofs.Laws.{ids_all, ids-over, ids-within}
use Rattle.plan.specs.Inner.Sort as sort
use Rattle.plan.specs.Inner.Task.{Task, task_of, passes_contents}
use Rattle.plan.specs.Inner.Plan.{Within, Low, absent_of, Planned, over, member, alternative, to-position, to-from_end, to-count, to-all}
use Rattle.plan.specs.Inner.Resolve.{Fits, as_member, as_alternative, as_position, as_last, as_all, NamesMember, Onward, PlannedAs, Plans, written, last_absent, absent_for, Agrees, Resolving, NextIs, Nexts, Follows, Resolves}
use Rattle.plan.specs.declared.Planning.{Planning}
use Rattle.plan.specs.declared.Resolved.{Resolved}
use Rattle.plan.proofs.RowLaws.{member-here, member-kind, member-fits, sequence-at, choice-at, list_at, chain-at}
use Rattle.plan.proofs.Identifying.{none_after}

-- ---- an absent member
presence-by : (t : List ℕ) (row : ℕ) → (member_at t row).presence ≡ presence_of (presence_at t (place_at t row)) (default_at t (place_at t row))
unfolding member_of
presence-by t row = refl

presence-default : (n : ℕ) (c : List ℕ) → n ≡ 2 → presence_of n c ≡ default c
unfolding presence_of
presence-default n c e = rw e

none_absent : (n : ℕ) (c : List ℕ) (task : Task) (x : List ℕ) → n ≤ 2 → (n ≡ 2 → ⊥) → 0 ≡ absent_of true task x [] (presence_of n c)
unfolding presence_of
none_absent n c task x h a = go (eqb n 0) refl (eqb n 1) refl
  where
    two : (n ≡ 0 → ⊥) → (n ≡ 1 → ⊥) → n ≡ 2
    two p q = omega arith

    go : (u : Bool) → eqb n 0 ≡ u → (v : Bool) → eqb n 1 ≡ v → 0 ≡ absent_of true task x [] (pick u mandatory (pick v optional (default c)))
    go true p v q = refl
    go false p true q = refl
    go false p false q = absurd (a (two (eqb-false n 0 p) (eqb-false n 1 q)))

module _ (t w : List ℕ) (ok : Worded t w) (row : ℕ) (here : row < length (table_rows t)) (is_member_lem : MemberRow t row) (task : Task) (x : List ℕ) (n : ℕ) (read : n ≡ presence_at t (place_at t row)) where
  pub absent_none : (n ≡ 2 → ⊥) → 0 ≡ last_absent t task x row
  absent_none a =
      let h = ok.ready.sound.presence row here is_member_lem in
      none_absent (presence_at t (place_at t row)) (default_at t (place_at t row)) task x h (λ e. a (read ∙ e)) ∙ ap (absent_of true task x []) (sym (presence-by t row))

  module _ (two : n ≡ 2) (c : List ℕ) (p : ℕ) (placed : p ≡ place_at t row) (contents : c ≡ default_at t p) (b : Bool) (told : b ≡ passes_contents task x c) where
    absent_by : pick b 2 1 ≡ last_absent t task x row
    absent_by =
        ap (λ (y : Bool). pick y 2 1) (told ∙ ap (passes_contents task x) (contents ∙ ap (default_at t) placed))
        ∙ ap (absent_of true task x []) (sym (presence-by t row ∙ presence-default (presence_at t (place_at t row)) (default_at t (place_at t row)) (sym read ∙ two)))

    pub absent_passes : b ≡ true → 2 ≡ last_absent t task x row
    absent_passes e = sym (ap (λ (y : Bool). pick y 2 1) e) ∙ absent_by

    pub absent_fails : b ≡ false → 1 ≡ last_absent t task x row
    absent_fails e = sym (ap (λ (y : Bool). pick y 2 1) e) ∙ absent_by

module _ (t w : List ℕ) (ok : Worded t w) (s a b : ℕ) (names : NamesMember t s a b) (is_member_lem : s ≡ sort.member) where
  pub absent_here : a + 1 + b < length (table_rows t)
  unfolding NamesMember
  absent_here = let z = names is_member_lem in member-here t w a ok z.0 b z.1

  pub absent_kind : MemberRow t (a + 1 + b)
  unfolding NamesMember
  absent_kind = let z = names is_member_lem in member-kind t w a ok z.0 b z.1

  pub absent_fits : a + 1 + b < 18446744073709551616
  unfolding NamesMember
  absent_fits = let z = names is_member_lem in member-fits t w a ok z.0 b z.1

  pub absent_row_fits : a + 1 < 18446744073709551616
  absent_row_fits = let z = absent_fits in omega arith

-- ---- writing one step
module _ (q : List ℕ) (j s a b c : ℕ) where
  w1 : List ℕ
  w1 = set q (4 * j) s

  w2 : List ℕ
  w2 = set (set q (4 * j) s) (4 * j + 1) a

  w3 : List ℕ
  w3 = set (set (set q (4 * j) s) (4 * j + 1) a) (4 * j + 2) b

  written_else : (i : ℕ) → (i ≡ 4 * j → ⊥) → (i ≡ 4 * j + 1 → ⊥) → (i ≡ 4 * j + 2 → ⊥) → (i ≡ 4 * j + 3 → ⊥) → get_or (written j s a b c q) i 0 ≡ get_or q i 0
  unfolding written w1 w2 w3
  written_else i e f g h = get_or-set_other w3 (4 * j + 3) i c 0 h ∙ get_or-set_other w2 (4 * j + 2) i b 0 g ∙ get_or-set_other w1 (4 * j + 1) i a 0 f ∙ get_or-set_other q (4 * j) i s 0 e

  pub written_below : (i : ℕ) → i < 4 * j → get_or (written j s a b c q) i 0 ≡ get_or q i 0
  written_below i h = written_else i (λ z. absurd (omega arith)) (λ z. absurd (omega arith)) (λ z. absurd (omega arith)) (λ z. absurd (omega arith))

  module _ (room : 4 * j + 3 < length q) where
    long_1 : length w1 ≡ length q
    unfolding w1
    long_1 = length-set q (4 * j) s

    long_2 : length w2 ≡ length q
    unfolding w1 w2
    long_2 = length-set w1 (4 * j + 1) a ∙ long_1

    long_3 : length w3 ≡ length q
    unfolding w2 w3
    long_3 = length-set w2 (4 * j + 2) b ∙ long_2

    written_0 : get_or (written j s a b c q) (4 * j) 0 ≡ s
    unfolding written w1 w2 w3
    written_0 = get_or-set_other w3 (4 * j + 3) (4 * j) c 0 (λ z. absurd (omega arith)) ∙ get_or-set_other w2 (4 * j + 2) (4 * j) b 0 (λ z. absurd (omega arith)) ∙ get_or-set_other w1 (4 * j + 1) (4 * j) a 0 (λ z. absurd (omega arith)) ∙ get_or-set_same q (4 * j) s 0 (omega arith)

    written_1 : get_or (written j s a b c q) (4 * j + 1) 0 ≡ a
    unfolding written w1 w2 w3
    written_1 = let l = long_1 in get_or-set_other w3 (4 * j + 3) (4 * j + 1) c 0 (λ z. absurd (omega arith)) ∙ get_or-set_other w2 (4 * j + 2) (4 * j + 1) b 0 (λ z. absurd (omega arith)) ∙ get_or-set_same w1 (4 * j + 1) a 0 (omega arith)

    written_2 : get_or (written j s a b c q) (4 * j + 2) 0 ≡ b
    unfolding written w1 w2 w3
    written_2 = let l = long_2 in get_or-set_other w3 (4 * j + 3) (4 * j + 2) c 0 (λ z. absurd (omega arith)) ∙ get_or-set_same w2 (4 * j + 2) b 0 (omega arith)

    written_3 : get_or (written j s a b c q) (4 * j + 3) 0 ≡ c
    unfolding written w1 w2 w3
    written_3 = let l = long_3 in get_or-set_same w3 (4 * j + 3) c 0 (omega arith)

pub written-long : (q u : List ℕ) (j s a b c : ℕ) → length q ≡ 72 → u ≡ written j s a b c q → length u ≡ 72
unfolding written
written-long q u j s a b c h e =
    ap length e ∙ length-set (set (set (set q (4 * j) s) (4 * j + 1) a) (4 * j + 2) b) (4 * j + 3) c
    ∙ length-set (set (set q (4 * j) s) (4 * j + 1) a) (4 * j + 2) b ∙ length-set (set q (4 * j) s) (4 * j + 1) a ∙ length-set q (4 * j) s ∙ h

-- the task stands before the steps
task-kept : (p q : List ℕ) (n : ℕ) → 4 ≤ n → Agrees p q n → task_of p ≡ task_of q
unfolding task_of
task-kept p q n h e = rw (e 0 (omega arith), e 1 (omega arith), e 2 (omega arith), e 3 (omega arith))

-- ---- one step more
absent_told : (defaults : Bool) (task : Task) (x : List ℕ) (p : Presence) (r : List ℕ) (next : ℕ) (js : List Id) → ids_at r next ≡ Some js
    → pick (both defaults (ltb (length r) next)) (absent_of true task x [] p) 0 ≡ absent_of defaults task x js p
absent_told defaults task x p r next js e = go (ltb (length r) next) refl
  where
    at-end : (d : Bool) (p : Presence) → pick d (absent_of true task x [] p) 0 ≡ absent_of d task x [] p
    at-end true p = refl
    at-end false mandatory = refl
    at-end false optional = refl
    at-end false (default c) = refl

    later-on : (d : Bool) → pick (both d false) (absent_of true task x [] p) 0 ≡ 0
    later-on true = refl
    later-on false = refl

    on-last : (d : Bool) → pick (both d true) (absent_of true task x [] p) 0 ≡ pick d (absent_of true task x [] p) 0
    on-last true = refl
    on-last false = refl

    go : (u : Bool) → ltb (length r) next ≡ u → pick (both defaults u) (absent_of true task x [] p) 0 ≡ absent_of defaults task x js p
    go true q = on-last defaults ∙ at-end defaults p ∙ ap (λ (l : List Id). absent_of defaults task x l p) (some_same [] js (sym (ids-over r next (ltb-true (length r) next q)) ∙ e))
    go false q = let z = ids-within r next js (ltb-false (length r) next q) e in later-on defaults ∙ sym (ap (λ (l : List Id). absent_of defaults task x l p) z.2)

chain-low : (n : ℕ) (t s : List ℕ) (row : ℕ) → chain_fits n t s row ≡ true → 0 < n
unfolding chain_fits
chain-low zero t s row e = absurd (let z : ◌≡◌ {A = ℕ} 0 1 = cc in omega arith)
chain-low (suc n) t s row e = omega arith

module _ (t r x : List ℕ) (defaults : Bool) (q : List ℕ) (row k j : ℕ) (z : Resolving t r x defaults q row k j) where
  pub step-low : Within j
  step-low = let l = chain-low (17 - j) t (table_rows t) row z.chain in omega arith

  pub resolving-here : row < length (table_rows t)
  resolving-here = z.here

  module _ (w : List ℕ) (ok : Worded t w) (long : length q ≡ 72) where
    room : 4 * j + 3 < length q
    room = let l = step-low in omega arith

    -- a plan of the rest, and the numbers of this step
    planned-cons : (p : List ℕ) (s a b to : ℕ) (i : Id) (is : List Id) → Fits t row s a b i to → get_or p (4 * j) 0 ≡ s → get_or p (4 * j + 1) 0 ≡ a → get_or p (4 * j + 2) 0 ≡ b
        → (s ≡ sort.member → get_or p (4 * j + 3) 0 ≡ absent_of defaults (task_of p) x is (member_at t (a + 1 + b)).presence)
        → Planned t p x defaults (j + 1) (type_at t to) is → Planned t p x defaults j (type_at t row) (i ∷ is)
    planned-cons p s a b to i is (as_member {j = m} {x = nm} k o n) e f g c rest =
        subst (λ (y : Ty). Planned t p x defaults j y (name nm ∷ is)) (sym (sequence-at t w row ok z.here k))
        (member e (record { low = step-low; row_is = f; index_is = g; here = z.here; one = o; named = n }) (c refl) rest)
    planned-cons p s a b to i is (as_alternative {j = m} {x = nm} k o n d) e f g c rest =
        subst (λ (y : Ty). Planned t p x defaults j y (name nm ∷ is)) (sym (choice-at t w row ok z.here k))
        (alternative e (record { low = step-low; row_is = f; index_is = g; here = z.here; one = o; named = n }) d rest)
    planned-cons p s a b to i is (as_position l) e f g c rest = subst (λ (y : Ty). Planned t p x defaults j y (i ∷ is)) (sym (list_at t w row ok z.here l)) (to-position e step-low f rest)
    planned-cons p s a b to i is (as_last l) e f g c rest = subst (λ (y : Ty). Planned t p x defaults j y (i ∷ is)) (sym (list_at t w row ok z.here l)) (to-from_end e step-low f rest)
    planned-cons p s a b to i is (as_all l) e f g c rest = subst (λ (y : Ty). Planned t p x defaults j y (i ∷ is)) (sym (list_at t w row ok z.here l)) (to-all e step-low rest)

    -- the task is kept
    pub written-task : (u : List ℕ) (s a b c : ℕ) → u ≡ written j s a b c q → task_of u ≡ task_of q
    written-task u s a b c e = let f = z.from in ap task_of e ∙ task-kept (written j s a b c q) q (4 * j) (omega arith) (λ i h. written_below q j s a b c i h)

    module _ (plan : Planning) (told : Plans t r k row plan) where
      pub next_member : (s a b to next : ℕ) → plan ≡ Planning.To s a b to next → NamesMember t s a b
      unfolding Plans
      next_member s a b to next e = (subst (PlannedAs t r k row) e told).member

      pub next_on : (s a b to next : ℕ) → plan ≡ Planning.To s a b to next → (on : Bool) → on ≡ both defaults (ltb (length r) next) → (c : ℕ) → c ≡ absent_for t (task_of q) x on s a b
          → (u : List ℕ) → u ≡ written j s a b c q → Nexts t r x defaults u k j (Resolved.On to next)
      unfolding Plans Nexts absent_for
      next_on s a b to next e on f c g u h = (
        record {
          here = o.here;
          from = omega arith;
          chain = shorter;
          place = o.ends;
          leads = sym o.leads ∙ z.leads;
          extends = extends;
        },
        o.rises,
      )
        where
          o : Onward t r k row s a b to next
          o = subst (PlannedAs t r k row) e told

          shorter : chain_fits (17 - (j + 1)) t (table_rows t) to ≡ true
          shorter = let l = step-low in let y : 17 - j ≡ suc (17 - (j + 1)) = omega arith in o.chain (17 - (j + 1)) (ap (λ (n : ℕ). chain_fits n t (table_rows t) row) (sym y) ∙ z.chain)

          extends : (p : List ℕ) → Agrees p u (4 * (j + 1)) → (is : List Id) → ids_at r next ≡ Some is → Planned t p x defaults (j + 1) (type_at t to) is → (All-ids : List Id) → ids_at r 0 ≡ Some All-ids → Planned t p x defaults 1 (type_at t 0) All-ids
          extends p agrees is ids rest All-ids whole =
              let start = z.from in
              let bg = o.begins is ids in
              let at-0 : get_or p (4 * j) 0 ≡ s = agrees (4 * j) (omega arith) ∙ ap (λ (y : List ℕ). get_or y (4 * j) 0) h ∙ written_0 q j s a b c room in
              let at_1 : get_or p (4 * j + 1) 0 ≡ a = agrees (4 * j + 1) (omega arith) ∙ ap (λ (y : List ℕ). get_or y (4 * j + 1) 0) h ∙ written_1 q j s a b c room in
              let at-2 : get_or p (4 * j + 2) 0 ≡ b = agrees (4 * j + 2) (omega arith) ∙ ap (λ (y : List ℕ). get_or y (4 * j + 2) 0) h ∙ written_2 q j s a b c room in
              let at-3 : get_or p (4 * j + 3) 0 ≡ c = agrees (4 * j + 3) (omega arith) ∙ ap (λ (y : List ℕ). get_or y (4 * j + 3) 0) h ∙ written_3 q j s a b c room in
              let below : Agrees p q (4 * j) = (λ n l. agrees n (omega arith) ∙ ap (λ (y : List ℕ). get_or y n 0) h ∙ written_below q j s a b c n l) in
              let task-same : task_of q ≡ task_of p = sym (task-kept p q (4 * j) (omega arith) below) in
              z.extends p below (bg.i ∷ is) bg.whole (planned-cons p s a b to bg.i is bg.fits at-0 at_1 at-2 (λ m. at-3 ∙ cell m ∙ told_absent is ids ∙ ap (λ (y : Task). absent_of defaults y x is (member_at t (a + 1 + b)).presence) task-same) rest) All-ids whole
            where
              cell : s ≡ sort.member → c ≡ pick (both defaults (ltb (length r) next)) (absent_of true (task_of q) x [] (member_at t (a + 1 + b)).presence) 0
              cell m = g ∙ ap₂ (λ (y v : Bool). pick y (pick v (absent_of true (task_of q) x [] (member_at t (a + 1 + b)).presence) 0) 0) f (eq-eqb s sort.member m)

              told_absent : (js : List Id) → ids_at r next ≡ Some js → pick (both defaults (ltb (length r) next)) (absent_of true (task_of q) x [] (member_at t (a + 1 + b)).presence) 0 ≡ absent_of defaults (task_of q) x js (member_at t (a + 1 + b)).presence
              told_absent js y = absent_told defaults (task_of q) x (member_at t (a + 1 + b)).presence r next js y

      pub next_count : plan ≡ Planning.Count → (u : List ℕ) → u ≡ written j sort.count 0 0 0 q → Nexts t r x defaults u k j Resolved.Count
      unfolding Plans Nexts
      next_count e u h =
          let c = subst (PlannedAs t r k row) e told in
          let start = z.from in
          let here = subst (λ (y : Ty). Planned t u x defaults j y (index count ∷ [])) (sym (list_at t w row ok z.here c.list))
          (to-count (ap (λ (y : List ℕ). get_or y (4 * j) 0) h ∙ written_0 q j sort.count 0 0 0 room) step-low) in
          (sym z.leads ∙ c.leads, λ is whole. z.extends u (λ n l. ap (λ (y : List ℕ). get_or y n 0) h ∙ written_below q j sort.count 0 0 0 n l) (index count ∷ []) c.only here is whole)

      pub next_no : (u : List ℕ) → plan ≡ Planning.No → Nexts t r x defaults u k j Resolved.No
      unfolding Plans Nexts
      next_no u e = sym z.leads ∙ subst (PlannedAs t r k row) e told

-- ---- the loop
pub record Steps (t r x : List ℕ) (defaults : Bool) (q₀ q : List ℕ) (row k j : ℕ) : Type 0 where
  pub resolving : Resolving t r x defaults q row k j
  pub long : length q ≡ 72
  pub task : task_of q ≡ task_of q₀

pub steps_start : (t w r x q : List ℕ) (defaults : Bool) → Worded t w → admitted table_limits t ≡ true → length q ≡ 72 → Steps t r x defaults q q 0 0 1
steps_start t w r x q defaults ok ad long = record {
  resolving = record {
    here = ok.ready.rooted;
    from = omega arith;
    chain = chain-at t ad 0 ok.ready.rooted;
    place = omega arith;
    leads = refl;
    extends = λ p agrees is ids planned All-ids whole. subst (Planned t p x defaults 1 (type_at t 0)) (some_same is All-ids (sym ids ∙ whole)) planned;
  };
  long = long;
  task = refl;
}

module _ (t r x : List ℕ) (defaults : Bool) (q₀ q : List ℕ) (row k j : ℕ) (z : Steps t r x defaults q₀ q row k j) where
  pub steps_resolving : Resolving t r x defaults q row k j
  steps_resolving = z.resolving

  pub steps_long : length q ≡ 72
  steps_long = z.long

  pub steps_low : Within j
  steps_low = step-low t r x defaults q row k j z.resolving

  pub steps_fits : j + 1 < 18446744073709551616
  steps_fits = let l = steps_low in omega arith

  module _ (u : List ℕ) (n : Resolved) (told : Nexts t r x defaults u k j n) where
    pub steps_again : length u ≡ 72 → task_of u ≡ task_of q → (to next : ℕ) → n ≡ Resolved.On to next → Steps t r x defaults q₀ u to next (j + 1)
    unfolding Nexts
    steps_again long task to next e = record { resolving = (subst (NextIs t r x defaults u k j) e told).0; long = long; task = task ∙ z.task }

    pub steps_less : (to next : ℕ) → n ≡ Resolved.On to next → length r + 1 - next < length r + 1 - k
    unfolding Nexts
    steps_less to next e = let f = subst (NextIs t r x defaults u k j) e told in let a = f.1 in let b = f.0.place in omega arith

    pub follow_count : n ≡ Resolved.Count → report_target table_limits.chain t (table_rows t) (Some Target.Count) ≡ along (ids_at r 0) (report_target table_limits.chain t (table_rows t) (Some (Target.Row 0)))
    unfolding Nexts
    follow_count e = sym (subst (NextIs t r x defaults u k j) e told).0

    pub follow_counted : n ≡ Resolved.Count → Follows t r x defaults u (Some Target.Count)
    unfolding Nexts Follows
    follow_counted e lands = (subst (NextIs t r x defaults u k j) e told).1

    pub follow_no : n ≡ Resolved.No → report_target table_limits.chain t (table_rows t) None ≡ along (ids_at r 0) (report_target table_limits.chain t (table_rows t) (Some (Target.Row 0)))
    unfolding Nexts
    follow_no e = sym (subst (NextIs t r x defaults u k j) e told)

  pub follow_task : (u : List ℕ) → task_of u ≡ task_of q → task_of u ≡ task_of q₀
  follow_task u e = e ∙ z.task

  pub steps_step : Low j
  steps_step = let l = steps_low in omega arith

  pub follow_long : (u : List ℕ) → u ≡ set q (4 * j) sort.end → length u ≡ 72
  follow_long u e = ap length e ∙ length-set q (4 * j) sort.end ∙ z.long

  module _ (over-end : length r < k) where
    pub follow_row : report_target table_limits.chain t (table_rows t) (Some (Target.Row row)) ≡ along (ids_at r 0) (report_target table_limits.chain t (table_rows t) (Some (Target.Row 0)))
    follow_row = sym (ap (λ (o : Option (List Id)). along o (Some (of_type (type_at t row)))) (ids-over r k over-end) ∙ none_after (of_type (type_at t row))) ∙ z.resolving.leads

    pub follow_within : row_within (table_rows t) (Some (Target.Row row)) ≡ true
    follow_within = lt-ltb row (length (table_rows t)) z.resolving.here

    pub follow_done : (u : List ℕ) → u ≡ set q (4 * j) sort.end → Follows t r x defaults u (Some (Target.Row row))
    unfolding Follows
    follow_done u e lands is whole = subst (λ (y : List ℕ). Planned t y x defaults 1 (type_at t 0) is) (sym e)
        (let l = steps_low in
        let long = z.long in
        z.resolving.extends (set q (4 * j) 0) (λ n h. get_or-set_other q (4 * j) n 0 0 (λ y. absurd (omega arith))) [] (ids-over r k over-end) (over (get_or-set_same q (4 * j) 0 0 (omega arith))) is whole)

    pub follow_kept : (u : List ℕ) → u ≡ set q (4 * j) sort.end → task_of u ≡ task_of q₀
    follow_kept u e =
        let f = z.resolving.from in
        ap task_of e ∙ task-kept (set q (4 * j) 0) q (4 * j) (omega arith) (λ n h. get_or-set_other q (4 * j) n 0 0 (λ y. absurd (omega arith))) ∙ z.task

pub follow_nothing : (t r x : List ℕ) (defaults : Bool) (q : List ℕ) → Follows t r x defaults q None
unfolding Follows
follow_nothing t r x defaults q lands = absurd lands

-- ---- where a reference is given
pub first-within : (t w : List ℕ) → Worded t w → row_within (table_rows t) (Some (Target.Row 0)) ≡ true
first-within t w ok = lt-ltb 0 (length (table_rows t)) ok.ready.rooted

module _ (t r x : List ℕ) (given defaults : Bool) where
  pub resolves-whole : not given ≡ true → (q u : List ℕ) → length q ≡ 72 → u ≡ set q 4 sort.end → Resolves t given r x defaults u (Some (Target.Row 0))
  unfolding Resolves
  resolves-whole e q u long f is ids lands =
      subst (λ (y : List ℕ). Planned t y x defaults 1 (type_at t 0) is) (sym f) (subst (Planned t (set q 4 0) x defaults 1 (type_at t 0)) (some_same [] is (sym (ap (λ (y : Bool). pick y (read_reference r) (Some [])) (not-true given e)) ∙ ids))
      (over (get_or-set_same q 4 0 0 (omega arith))))

  pub resolves-given : not given ≡ false → (q : List ℕ) (g : Option Target) → Follows t r x defaults q g → Resolves t given r x defaults q g
  unfolding Resolves Follows
  resolves-given e q g told is ids lands = told lands is (ids_all r ∙ sym (ap (λ (y : Bool). pick y (read_reference r) (Some [])) (not-false given e)) ∙ ids)

pub whole-task : (q u : List ℕ) → u ≡ set q 4 sort.end → task_of u ≡ task_of q
whole-task q u e = ap task_of e ∙ task-kept (set q 4 0) q 4 (omega arith) (λ n h. get_or-set_other q 4 n 0 0 (λ y. absurd (omega arith)))

pub whole_long : (q u : List ℕ) → length q ≡ 72 → u ≡ set q 4 sort.end → length u ≡ 72
whole_long q u h e = ap length e ∙ length-set q 4 sort.end ∙ h
