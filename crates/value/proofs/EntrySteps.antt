-- The value check: one lemma for each return; its premises are the facts as the code has them.
use mathlib.Core.Path.{◌≡◌, refl, sym, ap, ◌∙◌}
use mathlib.Core.Bool.{Bool, true, false, not}
use Rattle.std.specs.Prelude.{⊤, Result, Option, None, Some}
use mathlib.Core.List.{List}
use Prim.Native.Nat.{ℕ, ◌<◌}
use native.Mathlib.Omega.{arith}
use borrow.Author.Tests.{not-true, not-false}
use lib.ListN.{length}
use lib.Dec.{eqb}
use Rattle.octets.specs.Pick.{pick, bind, is_some}
use Rattle.rows.specs.Limits.{Limits, table_fits}
use Rattle.rows.specs.Paper.{table_limits}
use Rattle.rows.specs.Row.{rows, kind_at, is_member}
use Rattle.types.specs.Types as types
use Rattle.types.specs.Types.{untagged, tagging_of, Ty}
use Rattle.types.specs.Admitted.{admitted}
use Rattle.types.specs.Inner.Work.{row_count}
use Rattle.types.proofs.Laws.{row_count_lem}
use Rattle.table.specs.Inner.Rows.{table_rows, place_at, type_at}
use Rattle.table.specs.Inner.Words.{first_octet, Worded}
use Rattle.table.specs.Inner.Pass.{Leaves}
use Rattle.value.specs.Paper.{value_limits}
use Rattle.value.specs.Decode.{Decoded, unwrapped, decode, in_wrapper, stored_value}
use Rattle.value.specs.Check.{good, refused, report, value_fits, is_stored, storage, value_report}
use Rattle.value.specs.Inner.Work.{checked, Answers}
use Rattle.table.specs.declared.Refusal.{Refusal}
use Rattle.value.proofs.ModeSteps.{own_tag}

-- ---- the whole buffer
module _ (ty : Ty) (v : List ℕ) (k tag : ℕ) (c : Option ℕ) (tagged : tag ≡ first_octet untagged k) (answered : Answers ty k tag v 0 (length v) c) where
  stored-by : is_some (stored_value ty v) ≡ is_some (bind (unwrapped ty untagged v 0 (length v)) (λ d. pick (eqb d.after (length v)) (Some d.value) None))
  unfolding stored_value decode in_wrapper
  stored-by = refl

  asks : c ≡ checked (unwrapped ty untagged v 0 (length v))
  unfolding tagging_of
  asks = answered.says 0 0 (λ z. (own_tag tag k 0 tagged z).0)

  by-none : (o : Option Decoded) → None ≡ checked o → false ≡ is_some (bind o (λ d. pick (eqb d.after (length v)) (Some d.value) None))
  by-none None e = refl
  by-none (Some d) e = absurd (let z : ◌≡◌ {A = ℕ} 0 1 = cc in omega arith)

  by_some : (o : Option Decoded) (x : ℕ) → Some x ≡ checked o → eqb x (length v) ≡ is_some (bind o (λ d. pick (eqb d.after (length v)) (Some d.value) None))
  by_some None x e = absurd (let z : ◌≡◌ {A = ℕ} 0 1 = cc in omega arith)
  by_some (Some d) x e = let q : x ≡ d.after = cc in ap (λ (y : ℕ). eqb y (length v)) q ∙ go (eqb d.after (length v))
    where
      go : (x : Bool) → x ≡ is_some (pick x (Some d.value) None)
      go true = refl
      go false = refl

  pub stored-bad : c ≡ None → false ≡ is_some (stored_value ty v)
  stored-bad e = by-none (unwrapped ty untagged v 0 (length v)) (sym e ∙ asks) ∙ sym stored-by

  pub stored-whole : (next : ℕ) → c ≡ Some next → eqb next (length v) ≡ is_some (stored_value ty v)
  stored-whole next e = by_some (unwrapped ty untagged v 0 (length v)) next (sym e ∙ asks) ∙ sym stored-by

-- ---- the table's rows and sets
module _ (l : Limits) (t : List ℕ) (n : ℕ) (count : n ≡ row_count l t) where
  pub not_admitted : n ≡ 0 → admitted l t ≡ false
  unfolding row_count
  not_admitted z = go (admitted l t) refl
    where
      go : (x : Bool) → admitted l t ≡ x → x ≡ false
      go true q = absurd (let w = row_count_lem l t q in let y : n ≡ length (rows l.rows t) = (rw q at count) in let a = w.0 in omega arith)
      go false q = refl

  pub is-admitted : (n ≡ 0 → ⊥) → admitted l t ≡ true
  unfolding row_count
  is-admitted z = go (admitted l t) refl
    where
      go : (x : Bool) → admitted l t ≡ x → x ≡ true
      go true q = refl
      go false q = absurd (z (rw q at count))

module _ (t : List ℕ) (n : ℕ) (count : n ≡ row_count table_limits t) (z : n ≡ 0 → ⊥) where
  pub worded-here : (w : List ℕ) → Leaves t w n → Worded t w
  worded-here w left = left.worded (omega arith)

-- row 0
module _ (t w : List ℕ) (ok : Worded t w) where
  pub root-here : 0 < length (table_rows t)
  root-here = ok.ready.rooted

  pub root-typed : is_member (kind_at t (place_at t 0)) ≡ true → ⊥
  root-typed = ok.ready.root

-- ---- the answers
module _ (t v : List ℕ) (n : ℕ) (count : n ≡ row_count table_limits t) where
  pub storage_not : n ≡ 0 → refused 2 ≡ storage table_limits t v
  unfolding storage
  storage_not z = rw (not_admitted table_limits t n count z)

  module _ (z : n ≡ 0 → ⊥) (r : Bool) (told-stored : r ≡ is_some (stored_value (type_at t 0) v)) where
    is-stored : is_stored table_limits t v ≡ r
    unfolding is_stored types.type_at
    is-stored = sym told-stored

    pub storage-bad : not r ≡ true → refused 4 ≡ storage table_limits t v
    unfolding storage
    storage-bad e = rw (is-admitted table_limits t n count z, (is-stored ∙ not-true r e))

    pub storage-good : not r ≡ false → good ≡ storage table_limits t v
    unfolding storage
    storage-good e = rw (is-admitted table_limits t n count z, (is-stored ∙ not-false r e))

module _ (t v : List ℕ) (x : Bool) (fits : x ≡ table_fits table_limits t) where
  pub sizes-table : not x ≡ true → refused 1 ≡ value_report table_limits value_limits t v
  unfolding value_report
  sizes-table e = rw (sym fits ∙ not-true x e)

  module _ (e : not x ≡ false) (y : Bool) (fits-value : y ≡ value_fits value_limits v) where
    pub sizes-value : not y ≡ true → refused 1 ≡ value_report table_limits value_limits t v
    unfolding value_report
    sizes-value f = rw (sym fits ∙ not-false x e, sym fits-value ∙ not-true y f)

    pub sizes-fit : (r : Result ⊤ Refusal) → not y ≡ false → report r ≡ storage table_limits t v → report r ≡ value_report table_limits value_limits t v
    unfolding value_report
    sizes-fit r f q = rw (sym fits ∙ not-false x e, sym fits-value ∙ not-false y f) q
