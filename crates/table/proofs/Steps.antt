-- One lemma for each return and each turn of a loop; its premises are the facts as the code has them.
use mathlib.Core.Path.{◌≡◌, refl, ap}
use mathlib.Core.Bool.{Bool, true, false}
use mathlib.Core.List.{List}
use Prim.Native.Nat.{ℕ, ◌≤◌, ◌<◌}
use native.Mathlib.Omega.{arith}
use borrow.Author.Tests.{eq-eqb, ne_eqb, lt-leb}
use lib.ListN.{length}
use lib.Dec.{eqb}
use Rattle.octets.specs.Pick.{pick}
use Rattle.octets.specs.Text.{within}
use Rattle.der.specs.Tag.{universal, own_octet, implicit_octet, wrapper_octet}
use Rattle.der.specs.Kind.{is_constructed}
use Rattle.rows.specs.Row.{kind_at, named_at, members_at, mode_at, number_at, presence_at, default_at}
use Rattle.types.specs.Types.{Tagging, untagged, explicit, implicit, tagging_of}
use Rattle.types.proofs.TagLaws.{universal-fits}
use Rattle.table.specs.Inner.Fields.{Packed}
use Rattle.table.specs.Inner.Words.{first_octet, is_basic, how, MemberWord}
use Rattle.rows.specs.Paper.{table_limits}

-- ---- the first tag octet
module _ (mode n k r : ℕ) where
  pub octet-explicit : mode ≡ 1 → r ≡ wrapper_octet n → r ≡ first_octet (tagging_of mode n) k
  unfolding tagging_of first_octet
  octet-explicit h e = rw h e

  pub octet-implicit : (mode ≡ 1 → ⊥) → (mode ≡ 0 → ⊥) → r ≡ implicit_octet n k → r ≡ first_octet (tagging_of mode n) k
  unfolding tagging_of first_octet
  octet-implicit h g e = rw (ne_eqb mode 0 g, ne_eqb mode 1 h) e

  pub octet-own : mode ≡ 0 → (k ≡ 13 → ⊥) → r ≡ own_octet k → r ≡ first_octet (tagging_of mode n) k
  unfolding tagging_of first_octet
  octet-own h g e = rw (eq-eqb mode 0 h, ne_eqb k 13 g) e

pub octet-none : (mode n k : ℕ) → mode ≡ 0 → k ≡ 13 → 0 ≡ first_octet (tagging_of mode n) k
unfolding tagging_of first_octet
octet-none mode n k h g = rw (eq-eqb mode 0 h, eq-eqb k 13 g)

-- it is one octet
pub form_small : (x : Bool) → pick x 32 0 ≤ 32
form_small true = omega arith
form_small false = omega arith

own-small : (k : ℕ) → own_octet k < 256
unfolding own_octet
own-small k = omega (arith, form_small (is_constructed k), universal-fits k (universal k) refl)

first_fits : (g : Tagging) (n k : ℕ) → g ≡ untagged → first_octet g k < 256
unfolding first_octet
first_fits g n k e = rw e (go (eqb k 13))
  where
    go : (x : Bool) → pick x 0 (own_octet k) < 256
    go true = omega arith
    go false = own-small k

pub first_small : (mode n k f : ℕ) → f ≡ first_octet (tagging_of mode n) k → n ≤ 30 → f < 256
unfolding tagging_of first_octet implicit_octet wrapper_octet
first_small mode n k f e l = rw e (go (eqb mode 0) (eqb mode 1))
  where
    go : (x y : Bool) → first_octet (pick x untagged (pick y (explicit n) (implicit n))) k < 256
    go true y = first_fits untagged n k refl
    go false true = omega arith
    go false false = omega (arith, form_small (is_constructed k))

pub type-first : (k f : ℕ) → f ≡ first_octet (tagging_of 0 0) k → f < 256
type-first k f e = first_small 0 0 k f e (omega arith)

-- ---- how a member is tagged
pub basic_name : (k : ℕ) (r : Bool) → 11 < k → (k ≡ 17 → ⊥) → r ≡ within 19 20 k → r ≡ is_basic k
unfolding is_basic
basic_name k r h n e = rw (lt-leb k 11 h, ne_eqb k 17 n) e

pub how_wrapped : (k mode : ℕ) → mode ≡ 1 → 1 ≡ how k mode
unfolding how
how_wrapped k mode h = rw (eq-eqb mode 1 h)

module _ (k mode : ℕ) (bare : mode ≡ 1 → ⊥) (b : Bool) (tested : b ≡ is_basic k) where
  pub how-plain : b ≡ true → 0 ≡ how k mode
  unfolding how
  how-plain h = rw (ne_eqb mode 1 bare, ← tested, h)

  pub how-other : b ≡ false → 2 ≡ how k mode
  unfolding how
  how-other h = rw (ne_eqb mode 1 bare, ← tested, h)

-- ---- the words of a row
pub type_packed : (t : List ℕ) (p k f n e d x : ℕ) → k ≡ kind_at t p → f ≡ first_octet (tagging_of 0 0) k → n ≡ members_at t p → e ≡ named_at t p → Packed x k f n e d 0 0 0 p
    → Packed x (kind_at t p) (first_octet untagged (kind_at t p)) (members_at t p) (named_at t p) d 0 0 0 p
unfolding tagging_of
type_packed t p k f n e d x a b c g w = rw (← a, ← b, ← c, ← g) w

pub pack_is : (t d : List ℕ) (p o k mode n f j h pr x : ℕ) → o ≡ kind_at t p → mode ≡ mode_at t p → n ≡ number_at t p → f ≡ first_octet (tagging_of mode n) k → j ≡ named_at t p
    → h ≡ how k mode → pr ≡ presence_at t p → d ≡ default_at t p → Packed x o f 0 j k h pr (length d) p → MemberWord t p k x
pack_is t d p o k mode n f j h pr x q a b c e g i l w = rw (← q, ← a, ← b, ← c, ← e, ← g, ← i, ← l) w

pub size_fits : (t d : List ℕ) (p : ℕ) → d ≡ default_at t p → length (default_at t p) ≤ 8 → length d < 16
size_fits t d p e l = let q : length d ≡ length (default_at t p) = ap length e in omega arith

pub how-fits : (k mode h : ℕ) → h ≡ how k mode → h < 4
unfolding how
how-fits k mode h e = rw e (go (eqb mode 1) (is_basic k))
  where
    go : (x y : Bool) → pick x 1 (pick y 0 2) < 4
    go true y = omega arith
    go false true = omega arith
    go false false = omega arith

pub presence-fits : (t : List ℕ) (p pr : ℕ) → pr ≡ presence_at t p → presence_at t p ≤ 2 → pr < 4
presence-fits t p pr e l = omega arith

pub number_fits : (t : List ℕ) (p mode n k f : ℕ) → n ≡ number_at t p → number_at t p ≤ 30 → f ≡ first_octet (tagging_of mode n) k → f < 256
number_fits t p mode n k f e l q = first_small mode n k f q (rw e l)

pub target_fits : (t : List ℕ) (p j : ℕ) → j ≡ named_at t p → named_at t p < table_limits.rows → j < 256
target_fits t p j e l = omega arith
