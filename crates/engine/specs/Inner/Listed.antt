-- What the listing comes to, as the code has it.
use Rattle.std.specs.Prelude.{◌≡◌, Some, Bool, false, List, [], map, ℕ, Result, Ok, Err}
use Rattle.octets.specs.Pick.{is_some}
use Rattle.rows.specs.Paper.{table_limits}
use Rattle.table.specs.Inner.Rows.{table_rows, type_at}
use Rattle.reference.specs.Named.{named}
use Rattle.reference.specs.Numbers.{component}
use Rattle.reference.specs.Inner.Work.{report_target, leads_to}
use Rattle.reference.specs.declared.Target.{Target}
use Rattle.plan.specs.Inner.Resolve.{Resolves}
use Rattle.walk.specs.Inner.Walk.{Asks}
use Rattle.table.specs.declared.Refusal.{Refusal}
use Rattle.engine.specs.Listing.{Listing, listed}

-- q is a plan, without a text, for the type of row 0, and v a stored value of it
unfoldable pub Asked : List ℕ → List ℕ → List ℕ → Type 0
Asked t q v = Asks t q [] v

-- what the plan q names in the stored value v is listed
unfoldable pub Lists : List ℕ → List ℕ → List ℕ → List ℕ → Listing → Type 0
Lists t q v room l = (g : Asks t q [] v) → l ≡ listed (map component (named g.defaults g.ids g.val)) room

-- the plan q is that of the reference r, where it is given, which leads somewhere
pub record LedBy (t q : List ℕ) (given : Bool) (r : List ℕ) (defaults : Bool) : Type 0 where
  pub target : Target
  pub leads : report_target table_limits.chain t (table_rows t) (Some target) ≡ leads_to given r (type_at t 0)
  pub resolves : Resolves t given r [] defaults q (Some target)

-- or it leads nowhere
unfoldable pub Leads : List ℕ → List ℕ → Bool → List ℕ → Bool → Result Target Refusal → Type 0
Leads t q given r defaults (Ok x) = LedBy t q given r defaults
Leads t q given r defaults (Err e) = (is_some (leads_to given r (type_at t 0)) ≡ false) × (e ≡ Refusal.Form)
