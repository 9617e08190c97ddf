-- Choices by a test, and tests of all numbers below a given one.
use Rattle.std.specs.Prelude.{ℕ, zero, suc, Bool, true, false, List, ◌∷◌}
use Rattle.std.specs.Prelude.{Option, None, Some}

abbrev pub pick : {A : Type 0} → Bool → A → A → A
pick true a b = a
pick false a b = b

abbrev pub both : Bool → Bool → Bool
both a b = pick a b false

abbrev pub either : Bool → Bool → Bool
either a b = pick a true b

abbrev pub no : Bool → Bool
no a = pick a false true

-- the test f holds of each number below n
unfoldable pub all : (ℕ → Bool) → ℕ → Bool
all f zero = true
all f (suc n) = let r = all f n in both (f n) r

-- what f makes of a thing, where there is one
abbrev pub bind : {A B : Type 0} → Option A → (A → Option B) → Option B
bind None f = None
bind (Some a) f = f a

-- the same for `do`
abbrev pub ◌>>=◌ : {A B : Type 0} → Option A → (A → Option B) → Option B
◌>>=◌ o f = bind o f

-- a thing before a list, where there are both
abbrev pub consed : {A : Type 0} → A → Option (List A) → Option (List A)
consed a None = None
consed a (Some l) = Some (a ∷ l)

abbrev pub is_some : {A : Type 0} → Option A → Bool
is_some None = false
is_some (Some a) = true
