-- Members by index: one lemma for each need, its premises as the code has them.
use mathlib.Core.Path.{◌≡◌, refl, sym, ap, ap₂, ◌∙◌, subst}
use mathlib.Core.Bool.{Bool, true, false, not}
use mathlib.Core.List.{List}
use Prim.Native.Nat.{ℕ, suc, ◌≤◌, ◌<◌, ◌+◌, ◌-◌}
use native.Mathlib.Omega.{arith}
use borrow.Author.Tests.{eqb-true, not-true, not-false}
use lib.ListN.{length}
use lib.Dec.{eqb}
use Rattle.octets.specs.Pick.{pick}
use Rattle.rows.specs.Row.{mode_at, number_at, members_at}
use Rattle.rows.specs.Paper.{table_limits}
use Rattle.types.specs.Types.{untagged, explicit, implicit, tagging_of, member_of, Member, Ty, Members, more, members_from, type_from}
use Rattle.table.specs.Inner.Rows.{table_rows, MemberRow, place_at, member_at, member_type_at, member_kind_at, tagging_at}
use Rattle.table.specs.Inner.Words.{is_basic, how, Worded}
use Rattle.value.specs.Value.{Value, Fields, present, absent}
use Rattle.value.specs.Decode.{starts_here}
use Rattle.value.specs.Inner.Decodes.{Fielded, there, lacks}
use Rattle.plan.proofs.RowLaws.{member-here, member-kind, member-fits}
use Rattle.walk.specs.Inner.Raw.{start_of, next_after}
use Rattle.walk.specs.Inner.Stands.{Stands, within, InRow}
use Rattle.walk.specs.Inner.Leads.{picked_at, FindsMember, alternative_move}
use Rattle.walk.specs.declared.Move.{Move}
use Rattle.walk.proofs.Standing.{tagged-stands, tagged_next, tagged-within}

true_false : {A : Type 0} (b : Bool) → b ≡ true → b ≡ false → A
true_false b p q = absurd (let z : ◌≡◌ {A = Bool} true false = sym p ∙ q in let y : ◌≡◌ {A = ℕ} 0 1 = cc in omega arith)

-- ---- behind a wrapper
module _ (t v : List ℕ) (row i : ℕ) (read : ℕ) (told : read ≡ how (member_kind_at t row) (mode_at t (place_at t row))) where
  pub inside_wrapped : read ≡ 1 → (r : ℕ) → r ≡ start_of v i → r ≡ within (tagging_at t row) v i
  unfolding tagging_of how
  inside_wrapped one r e = go (eqb (mode_at t (place_at t row)) 1) refl (sym told ∙ one)
    where
      wrapped : (mode : ℕ) → eqb mode 1 ≡ true → within (tagging_of mode (number_at t (place_at t row))) v i ≡ start_of v i
      wrapped mode q = rw (eqb-true mode 1 q)

      go : (b : Bool) → eqb (mode_at t (place_at t row)) 1 ≡ b
          → ◌≡◌ {A = ℕ} (pick b 1 (pick (is_basic (member_kind_at t row)) 0 2)) 1 → r ≡ within (tagging_at t row) v i
      go true q f = e ∙ sym (wrapped (mode_at t (place_at t row)) q)
      go false q f = absurd (other (is_basic (member_kind_at t row)) f)
        where
          other : (a : Bool) → ◌≡◌ {A = ℕ} (pick a 0 2) 1 → ⊥
          other true z = absurd (omega arith)
          other false z = absurd (omega arith)

  pub inside-bare : (read ≡ 1 → ⊥) → i ≡ within (tagging_at t row) v i
  unfolding tagging_of how
  inside-bare other = go (eqb (mode_at t (place_at t row)) 1) refl (eqb (mode_at t (place_at t row)) 0)
    where
      go : (b : Bool) → eqb (mode_at t (place_at t row)) 1 ≡ b → (a : Bool)
          → i ≡ within (pick a untagged (pick b (explicit (number_at t (place_at t row))) (implicit (number_at t (place_at t row))))) v i
      go true q a = absurd (other (told ∙ ap (λ (y : Bool). pick y 1 (pick (is_basic (member_kind_at t row)) 0 2)) q))
      go false q true = refl
      go false q false = refl

-- ---- members in turn
pub record There (v : List ℕ) (stop : ℕ) (m : Member) (ty : Ty) (ms : Members) (i : ℕ) (fs : Fields) : Type 0 where
  pub x : Value
  pub gs : Fields
  pub inside : next_after v i ≤ length v
  pub stands : Stands ty v (within m.tagging v i) x
  pub rest : Fielded v stop ms (next_after v i) gs
  pub whole : present m x gs ≡ fs

row-there : {v : List ℕ} {stop : ℕ} {m : Member} {ty : Ty} {ms : Members} {i : ℕ} {fs : Fields} → stop ≤ length v → Fielded v stop (more m ty ms) i fs
    → starts_here m ty v stop i ≡ true → There v stop m ty ms i fs
row-there {v = v} {stop = stop} {ms = ms} h (there {x = x} {fs = gs} q t d rest) e =
    record {
      x = x;
      gs = gs;
      inside = tagged-within t h;
      stands = tagged-stands t h;
      rest = subst (λ (y : ℕ). Fielded v stop ms y gs) (sym (tagged_next t)) rest;
      whole = refl;
    }
row-there h (lacks q m rest) e = true_false _ e q

row_lacks : {v : List ℕ} {stop : ℕ} {m : Member} {ty : Ty} {ms : Members} {i : ℕ} {fs : Fields} → Fielded v stop (more m ty ms) i fs
    → starts_here m ty v stop i ≡ false → (gs : Fields) × (Fielded v stop ms i gs) × (absent m gs ≡ fs)
row_lacks (there q t d rest) e = true_false _ q e
row_lacks (lacks {fs = gs} q m rest) e = (gs, rest, refl)

-- the member rows of a row
module _ (t w : List ℕ) (row j : ℕ) (ok : Worded t w) (here : row < length (table_rows t)) (one : j < members_at t (place_at t row)) (k : ℕ) (low : k ≤ j) where
  pub pass_here : row + 1 + k < length (table_rows t)
  pass_here = member-here t w row ok here k (omega arith)

  pub pass_kind : MemberRow t (row + 1 + k)
  pass_kind = member-kind t w row ok here k (omega arith)

  pub pass_fits : row + 1 + k < 18446744073709551616
  pass_fits = member-fits t w row ok here k (omega arith)

-- those from k on at i, and the one sought among them
abbrev left : List ℕ → ℕ → ℕ → Members
left t row k = members_from (type_from table_limits.chain t (table_rows t)) t (table_rows t) (row + 1 + k) (members_at t (place_at t row) - k)

pub record Passing (t v : List ℕ) (row j start stop i k : ℕ) (l : InRow t v row start stop) : Type 0 where
  pub gs : Fields
  pub row-left : Fielded v stop (left t row k) i gs
  pub same : picked_at (j - k) gs ≡ picked_at j l.fs

pub record AllPassing (t v : List ℕ) (row j start stop i k : ℕ) : Type 0 where
  pub few : k ≤ j
  pub each : (l : InRow t v row start stop) → Passing t v row j start stop i k l

module _ (t v : List ℕ) (row j start stop : ℕ) (one : j < members_at t (place_at t row)) where
  pub pass_start : AllPassing t v row j start stop start 0
  pass_start = record {
    few = omega arith;
    each = λ l.
        let a : row + 1 ≡ row + 1 + 0 = omega arith in
        let b : members_at t (place_at t row) ≡ members_at t (place_at t row) - 0 = omega arith in
        let c : j - 0 ≡ j = omega arith in
        record {
          gs = l.fs;
          row-left = subst (λ (y : ℕ). Fielded v stop (members_from (type_from table_limits.chain t (table_rows t)) t (table_rows t) (row + 1 + 0) y) start l.fs) b
              (subst (λ (y : ℕ). Fielded v stop (members_from (type_from table_limits.chain t (table_rows t)) t (table_rows t) y (members_at t (place_at t row))) start l.fs) a l.members);
          same = ap (λ (y : ℕ). picked_at y l.fs) c;
        };
  }

  module _ (k : ℕ) (low : k ≤ j) (i : ℕ) (w : AllPassing t v row j start stop i k) where
    opens : (l : InRow t v row start stop) → Fielded v stop (more (member_at t (row + 1 + k)) (member_type_at t (row + 1 + k)) (left t row (k + 1))) i (w.each l).gs
    unfolding members_from
    opens l =
        let q : members_at t (place_at t row) - k ≡ suc (members_at t (place_at t row) - (k + 1)) = omega arith in
        let r : row + 1 + k + 1 ≡ row + 1 + (k + 1) = omega arith in
        let f = type_from table_limits.chain t (table_rows t) in
        subst (λ (y : ℕ). Fielded v stop (more (member_at t (row + 1 + k)) (member_type_at t (row + 1 + k)) (members_from f t (table_rows t) y (members_at t (place_at t row) - (k + 1)))) i (w.each l).gs) r
        (subst (λ (y : ℕ). Fielded v stop (members_from f t (table_rows t) (row + 1 + k) y) i (w.each l).gs) q (w.each l).row-left)

    module _ (b : Bool) (told : b ≡ starts_here (member_at t (row + 1 + k)) (member_type_at t (row + 1 + k)) v stop i) where
      pub pass_within : InRow t v row start stop → b ≡ true → next_after v i ≤ length v
      pass_within l e = (row-there l.inside (opens l) (sym told ∙ e)).inside

      pub pass_there : k < j → (i' : ℕ) → i' ≡ next_after v i → b ≡ true → AllPassing t v row j start stop i' (k + 1)
      unfolding picked_at
      pass_there h i' f e = record {
        few = omega arith;
        each = λ l.
            let x = row-there l.inside (opens l) (sym told ∙ e) in
            let q : j - k ≡ suc (j - (k + 1)) = omega arith in
            let c : picked_at (j - k) (present (member_at t (row + 1 + k)) x.x x.gs) ≡ picked_at (j - (k + 1)) x.gs = ap (λ (y : ℕ). picked_at y (present (member_at t (row + 1 + k)) x.x x.gs)) q in
            record { gs = x.gs; row-left = subst (λ (y : ℕ). Fielded v stop (left t row (k + 1)) y x.gs) (sym f) x.rest; same = sym c ∙ ap (picked_at (j - k)) x.whole ∙ (w.each l).same };
      }

      pub pass_lacks : k < j → b ≡ false → AllPassing t v row j start stop i (k + 1)
      unfolding picked_at
      pass_lacks h e = record {
        few = omega arith;
        each = λ l.
            let x = row_lacks (opens l) (sym told ∙ e) in
            let q : j - k ≡ suc (j - (k + 1)) = omega arith in
            let c : picked_at (j - k) (absent (member_at t (row + 1 + k)) x.0) ≡ picked_at (j - (k + 1)) x.0 = ap (λ (y : ℕ). picked_at y (absent (member_at t (row + 1 + k)) x.0)) q in
            record { gs = x.0; row-left = x.1; same = sym c ∙ ap (picked_at (j - k)) x.2 ∙ (w.each l).same };
      }

  -- the one that is sought
  module _ (i k : ℕ) (w : AllPassing t v row j start stop i k) (over : j ≤ k) where
    at_j : AllPassing t v row j start stop i j
    at_j = let a = w.few in let q : k ≡ j = omega arith in subst (λ (y : ℕ). AllPassing t v row j start stop i y) q w

    module _ (b : Bool) (told : b ≡ starts_here (member_at t (row + 1 + j)) (member_type_at t (row + 1 + j)) v stop i) where
      pub find_within : InRow t v row start stop → not b ≡ false → next_after v i ≤ length v
      find_within l e = pass_within j (omega arith) i at_j b told l (not-false b e)

      pub find_absent : not b ≡ true → FindsMember t v row j start stop Move.Absent
      unfolding FindsMember picked_at
      find_absent e l =
          let x = row_lacks (opens j (omega arith) i at_j l) (sym told ∙ not-true b e) in
          let q : j - j ≡ 0 = omega arith in
          sym (at_j.each l).same ∙ ap₂ picked_at q (sym x.2)

      pub find_there : not b ≡ false → (p : ℕ) → p ≡ within (tagging_at t (row + 1 + j)) v i → FindsMember t v row j start stop (Move.To p)
      unfolding FindsMember picked_at member_of
      find_there e p f l =
          let x = row-there l.inside (opens j (omega arith) i at_j l) (sym told ∙ not-false b e) in
          let q : j - j ≡ 0 = omega arith in
          (x.x, subst (λ (y : ℕ). Stands (member_type_at t (row + 1 + j)) v y x.x) (sym f) x.stands, sym (at_j.each l).same ∙ ap₂ picked_at q (sym x.whole))

-- ---- an alternative
module _ (t v : List ℕ) (row at : ℕ) (b : Bool) (told : b ≡ starts_here (member_at t row) (member_type_at t row) v (length v) at) where
  pub alternative-none : not b ≡ true → Move.Nothing ≡ alternative_move t v row at
  unfolding alternative_move
  alternative-none e = rw (sym told ∙ not-true b e)

  pub alternative-to : not b ≡ false → (p : ℕ) → p ≡ within (tagging_at t row) v at → Move.To p ≡ alternative_move t v row at
  unfolding alternative_move
  alternative-to e p f = rw (sym told ∙ not-false b e) (ap Move.To f)
