-- The listing: one lemma for each return; its premises are the facts as the code has them.
use mathlib.Core.Path.{◌≡◌, refl, sym, ap, ◌∙◌, subst}
use mathlib.Core.Bool.{Bool, true, false, not, true≢false}
use Rattle.std.specs.Prelude.{Option, None, Some, Result, Ok, Err, ok_or}
use Rattle.table.specs.declared.Refusal.{Refusal}
use mathlib.Core.List.{List, [], map}
use Prim.Native.Nat.{ℕ, ◌≤◌, ◌<◌, ◌+◌, ◌*◌, ◌/◌, min}
use native.Mathlib.Omega.{arith}
use borrow.Author.Tests.{not-true, not-false, lt-ltb, le-ltb}
use lib.ListN.{length}
use lib.Dec.{leb}
use Rattle.octets.specs.Pick.{bind, is_some}
use Rattle.rows.specs.Paper.{table_limits}
use Rattle.types.specs.Types.{Ty, type_at}
use Rattle.types.specs.Inner.Work.{row_count}
use Rattle.table.specs.Inner.Rows as table
use Rattle.table.specs.Inner.Rows.{table_rows}
use Rattle.value.specs.Value.{Value}
use Rattle.value.specs.Decode.{stored_value}
use Rattle.types.specs.Admitted.{admitted}
use Rattle.table.specs.Inner.Pass.{Leaves}
use Rattle.table.specs.Inner.Words.{Worded}
use Rattle.value.proofs.EntrySteps.{not_admitted, is-admitted, worded-here}
use Rattle.reference.specs.Reference.{Id, given_ids}
use Rattle.reference.specs.Allowed.{allowed}
use Rattle.reference.specs.Named.{named}
use Rattle.reference.specs.Numbers.{component}
use Rattle.reference.specs.Inner.Work.{report_target, leads_to}
use Rattle.reference.specs.declared.Target.{Target}
use Rattle.plan.specs.Inner.Task as task
use Rattle.plan.specs.Inner.Task.{Task, counting, task_of}
use Rattle.plan.specs.Inner.Plan.{Relisted}
use Rattle.plan.specs.Inner.Resolve.{Lands, Resolves}
use Rattle.walk.specs.Inner.Run.{seen, run}
use Rattle.walk.specs.Inner.Walk.{Asks, Answers, Tallies}
use Rattle.walk.specs.declared.State.{State}
use Rattle.walk.proofs.Callers.{asks_of, asks-listed}
use Rattle.walk.proofs.ListLaws.{counted-all, list-run}
use Rattle.evaluation.proofs.ItemSteps.{some_there}
use Rattle.engine.specs.Listing.{Listing, refused_list, lists, report, written, listed, reference_fits, listing_fits, with_stored, with_ids, listing_of, list_report, listing}
use Rattle.engine.specs.Paper.{limits}
use Rattle.engine.specs.Inner.Checked.{PassedIf}
use Rattle.engine.specs.Inner.Listed.{Asked, Lists, LedBy, Leads}
use Rattle.engine.specs.declared.Listed.{Listed}
use Rattle.engine.proofs.MisfitLaws.{trail-fits}

-- ---- sizes
module _ (given : Bool) (r : List ℕ) where
  pub reference-none : not given ≡ true → true ≡ reference_fits limits given r
  reference-none e = rw (not-true given e)

  pub reference-given : not given ≡ false → leb (length r) limits.reference ≡ reference_fits limits given r
  reference-given e = rw (not-false given e)

-- ---- what a plan names
pub asked_so : (t q v : List ℕ) → Asked t q v → Asks t q [] v
unfolding Asked
asked_so t q v k = k

pub asked-listed : (t q p v : List ℕ) (limit : ℕ) → task_of q ≡ counting limit → Relisted q p → Asked t q v → Asks t p [] v
unfolding Asked
asked-listed t q p v limit e relisted k = asks-listed t q p v limit e relisted k

module _ (t q v : List ℕ) (limit n : ℕ) (m : List ℕ) (counts : task_of q ≡ counting limit) (told : Tallies t q v 0 n) (least : limit ≡ length m / 3 + 1) where
  abbrev size : Asks t q [] v → ℕ
  size g = length (map component (named g.defaults g.ids g.val))

  counted : (g : Asks t q [] v) → n ≡ min limit (0 + length (map component (named g.defaults g.ids g.val)))
  unfolding Tallies
  counted g = told g limit counts ∙ counted-all limit 0 (named g.defaults g.ids g.val) (omega arith)

  pub planned-short : limit ≤ n → Lists t q v m (listing (Err Refusal.Room) m)
  unfolding Lists listed
  planned-short h g =
      let f = counted g in
      let z : length m < size g * 3 = omega arith in
      rw (lt-ltb (length m) (size g * 3) z)

  pub planned-whole : (p : List ℕ) (w : State) (m' : List ℕ) (values : Result Listed Refusal) → n < limit → Relisted q p → task_of p ≡ task.listing → Answers t p [] v 0 m (seen w m')
      → report values ≡ lists n → Lists t q v m (listing values m')
  unfolding Lists listed written Answers asks-listed
  planned-whole p w m' values h relisted lists-all answers made g =
      let f = counted g in
      let hs = named g.defaults g.ids g.val in
      let same : n ≡ size g = omega arith in
      let enough : size g * 3 ≤ length m = omega arith in
      let ran : seen w m' ≡ run (task_of p) [] (seen (State.Going 0) m) hs = answers (asks-listed t q p v limit counts relisted g) in
      let all : seen w m' ≡ seen (State.Going (size g)) (written (map component hs) m) = ran ∙ ap (λ (y : Task). run y [] (seen (State.Going 0) m) hs) lists-all ∙ list-run [] hs m enough in
      let memory : m' ≡ written (map component hs) m = cc in
      rw (le-ltb (length m) (size g * 3) enough, made, same, memory)

-- ---- 3, then 4
module _ (ty : Ty) (v m : List ℕ) (d : Bool) where
  not_allowed : (o : Option (List Id)) → is_some (bind o (λ is. allowed is ty)) ≡ false → refused_list 3 m ≡ with_ids ty v d m o
  unfolding with_ids
  not_allowed None e = refl
  not_allowed (Some is) e = rw e

  not_stored : (o : Option (List Id)) → is_some (bind o (λ is. allowed is ty)) ≡ true → is_some (stored_value ty v) ≡ false → refused_list 4 m ≡ with_ids ty v d m o
  unfolding with_ids with_stored
  not_stored None e f = absurd (true≢false (sym e))
  not_stored (Some is) e f = rw e (go (stored_value ty v) f)
    where
      go : (o : Option Value) → is_some o ≡ false → refused_list 4 m ≡ with_stored ty v d m is o
      go None q = refl
      go (Some x) q = absurd (true≢false q)

  -- no header is met that doesn't fit
  is-listed : (is : List Id) (x : Value) → is_some (allowed is ty) ≡ true → stored_value ty v ≡ Some x → listed (map component (named d is x)) m ≡ with_ids ty v d m (Some is)
  unfolding with_ids with_stored
  is-listed is x e f = rw (e, f, trail-fits ty v x f d is)

-- ---- a reference that leads somewhere, or nowhere
pub counted-leads : (t q r : List ℕ) (given d : Bool) (g : Option Target) → report_target table_limits.chain t (table_rows t) g ≡ leads_to given r (table.type_at t 0)
    → Resolves t given r [] d q g → (a : Result Target Refusal) → a ≡ ok_or g Refusal.Form → Leads t q given r d a
unfolding Leads
counted-leads t q r given d (Some x) leads h a e = subst (Leads t q given r d) (sym e) (record { target = x; leads = leads; resolves = h })
counted-leads t q r given d None leads h a e = subst (Leads t q given r d) (sym e) (ap is_some (sym leads), refl)

pub counted-task : (q p : List ℕ) (limit : ℕ) → task_of q ≡ counting limit → task_of p ≡ task_of q → task_of p ≡ counting limit
counted-task q p limit e f = f ∙ e

there-is : (t : List ℕ) (x : Target) → is_some (report_target table_limits.chain t (table_rows t) (Some x)) ≡ true
there-is t (Target.Row i) = refl
there-is t Target.Count = refl

lands-there : (x : Target) → Lands (Some x)
lands-there (Target.Row i) = tt
lands-there Target.Count = tt

module _ (t q r v : List ℕ) (given d : Bool) (k : LedBy t q given r d) where
  led_to : is_some (bind (given_ids given r) (λ is. allowed is (table.type_at t 0))) ≡ true
  led_to = ap is_some (sym k.leads) ∙ there-is t k.target

  -- its identifiers
  ids : (is : List Id) × (given_ids given r ≡ Some is) × (is_some (allowed is (table.type_at t 0)) ≡ true)
  ids = go (given_ids given r) refl led_to
    where
      go : (o : Option (List Id)) → given_ids given r ≡ o → is_some (bind o (λ is. allowed is (table.type_at t 0))) ≡ true
          → (is : List Id) × (given_ids given r ≡ Some is) × (is_some (allowed is (table.type_at t 0)) ≡ true)
      go None p h = absurd (true≢false (sym h))
      go (Some is) p h = (is, p, h)

  module _ (y : Value) (stored : stored_value (table.type_at t 0) v ≡ Some y) where
    unfoldable asks : Asks t q [] v
    asks = asks_of t given r [] d q v (Some k.target) k.resolves (lands-there k.target) ids.0 ids.1 y stored

    led-listed : (m : List ℕ) (l : Listing) → Lists t q v m l → l ≡ with_ids (table.type_at t 0) v d m (given_ids given r)
    unfolding Lists asks asks_of
    led-listed m l told = told asks ∙ is-listed (table.type_at t 0) v m d ids.0 y ids.2 stored ∙ ap (with_ids (table.type_at t 0) v d m) (sym ids.1)

-- ---- the admission of a table
module _ (t : List ℕ) (n : ℕ) (count : n ≡ row_count table_limits t) where
  pub admit_not : n ≡ 0 → PassedIf (admitted table_limits t) Refusal.Table (Err Refusal.Table)
  admit_not z = (not_admitted table_limits t n count z, refl)

  pub admit_told : (n ≡ 0 → ⊥) → PassedIf (admitted table_limits t) Refusal.Table (Ok tt)
  admit_told z = is-admitted table_limits t n count z

  pub admit_words : (w : List ℕ) → Leaves t w n → admitted table_limits t ≡ true → Worded t w
  admit_words w left a = worded-here t n count (λ z. true≢false (sym a ∙ not_admitted table_limits t n count z)) w left

-- ---- the listing
module _ (t v r m : List ℕ) (given d b : Bool) (fits : b ≡ listing_fits limits t v given r) where
  pub list-sizes : (e : Refusal) → (b ≡ false) × (e ≡ Refusal.Size) → listing (Err e) m ≡ list_report limits t v given r d m
  unfolding list_report
  list-sizes e w = rw (w.1, sym fits ∙ w.0)

  module _ (sized : b ≡ true) where
    pub list-table : (e : Refusal) → (admitted table_limits t ≡ false) × (e ≡ Refusal.Table) → listing (Err e) m ≡ list_report limits t v given r d m
    unfolding list_report listing_of
    list-table e w = rw (w.1, sym fits ∙ sized, w.0)

    module _ (admits : admitted table_limits t ≡ true) where
      by-ids : with_ids (table.type_at t 0) v d m (given_ids given r) ≡ list_report limits t v given r d m
      unfolding list_report listing_of type_at
      by-ids = rw (sym fits ∙ sized, admits)

      pub list-led : (q : List ℕ) (e : Refusal) → Leads t q given r d (Err e) → listing (Err e) m ≡ list_report limits t v given r d m
      unfolding Leads
      list-led q e w = ap (λ (y : Refusal). listing (Err y) m) w.1 ∙ not_allowed (table.type_at t 0) v m d (given_ids given r) w.0 ∙ by-ids

      module _ (q : List ℕ) (g : Target) (k : Leads t q given r d (Ok g)) (x : Bool) (stored : x ≡ is_some (stored_value (table.type_at t 0) v)) where
        led : LedBy t q given r d
        unfolding Leads
        led = k

        pub list-stored : (e : Refusal) → (x ≡ false) × (e ≡ Refusal.Value) → listing (Err e) m ≡ list_report limits t v given r d m
        list-stored e w =
            ap (λ (y : Refusal). listing (Err y) m) w.1
            ∙ not_stored (table.type_at t 0) v m d (given_ids given r) (led_to t q r v given d led) (sym stored ∙ w.0)
            ∙ by-ids

        module _ (is : x ≡ true) where
          val : (y : Value) × (stored_value (table.type_at t 0) v ≡ Some y)
          val = some_there (stored_value (table.type_at t 0) v) (sym stored ∙ is)

          pub list-asked : Asked t q v
          unfolding Asked
          list-asked = asks t q r v given d led val.0 val.1

          pub list-whole : (l : Listing) → Lists t q v m l → l ≡ list_report limits t v given r d m
          list-whole l told = led-listed t q r v given d led val.0 val.1 m l told ∙ by-ids
