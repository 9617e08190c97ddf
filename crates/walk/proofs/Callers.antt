-- For callers: a resolved reference and a stored value are what the entries ask for.
use mathlib.Core.Path.{◌≡◌}
use mathlib.Core.Bool.{Bool}
use Rattle.std.specs.Prelude.{Option, Some}
use mathlib.Core.List.{List, []}
use Prim.Native.Nat.{ℕ}
use native.Mathlib.Omega.{arith}
use Rattle.table.specs.Inner.Rows.{type_at}
use Rattle.value.specs.Value.{Value}
use Rattle.value.specs.Decode.{stored_value}
use Rattle.reference.specs.Reference.{Id, given_ids}
use Rattle.reference.specs.declared.Target.{Target}
use Rattle.plan.specs.Inner.Task.{counting, task_of}
use Rattle.plan.specs.Inner.Plan.{Relisted}
use Rattle.plan.specs.Inner.Resolve.{Lands, Resolves}
use Rattle.walk.specs.Inner.Walk.{Asks}

-- what a reference names in a stored value may be asked for
unfoldable pub asks_of : (t : List ℕ) (given : Bool) (r x : List ℕ) (defaults : Bool) (q v : List ℕ) (g : Option Target) → Resolves t given r x defaults q g → Lands g
    → (is : List Id) → given_ids given r ≡ Some is → (val : Value) → stored_value (type_at t 0) v ≡ Some val → Asks t q x v
unfolding Resolves
asks_of t given r x defaults q v g resolves lands is ids val stored =
    record { defaults = defaults; ids = is; val = val; planned = resolves is ids lands; stored = stored }

-- what was counted may be listed
unfoldable pub asks-listed : (t q p v : List ℕ) (limit : ℕ) → task_of q ≡ counting limit → Relisted q p → Asks t q [] v → Asks t p [] v
unfolding Relisted
asks-listed t q p v limit e relisted g =
    record {
      defaults = g.defaults;
      ids = g.ids;
      val = g.val;
      planned = relisted t [] g.defaults 1 limit (type_at t 0) g.ids e (omega arith) g.planned;
      stored = g.stored;
    }
