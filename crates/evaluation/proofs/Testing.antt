-- The tests of a walk within a budget: how the walk ends is what `testing` says of the values that it reaches.
use Rattle.std.specs.Prelude.{Ok, Err}
use mathlib.Core.Path.{◌≡◌, refl, ap, ◌∙◌}
use mathlib.Core.Bool.{Bool, true, false}
use mathlib.Core.List.{List, [], ◌∷◌}
use Prim.Native.Nat.{ℕ, ◌≤◌, ◌<◌, ◌+◌}
use native.Mathlib.Omega.{arith}
use borrow.Author.Tests.{le-leb, lt-leb, ltb-true, ltb-false}
use lib.Dec.{ltb}
use Rattle.octets.specs.Pick.{pick}
use Rattle.reference.specs.Named.{Held}
use Rattle.reference.specs.Numbers.{Component, component}
use Rattle.walk.specs.Inner.Run.{tested_to}
use Rattle.walk.specs.declared.State.{State}
use Rattle.evaluation.specs.Truth.{Truth, TRUE, FALSE}
use Rattle.evaluation.specs.Reading.{settled}
use Rattle.evaluation.specs.Assertion.{testing}
use Rattle.evaluation.specs.Inner.Work.{verdict_of, judged, ended, charged}
use Rattle.evaluation.specs.declared.Fault.{Fault}

module _ (budget n : ℕ) where
  within-budget : (t : Truth) (k : ℕ) → n + k ≤ budget → Ok (judged (verdict_of t) (n + k)) ≡ charged budget n (settled t k)
  unfolding charged
  within-budget t k h = rw (le-leb (n + k) budget h)

  over-budget : (t : Truth) (k : ℕ) → budget < n + k → Err Fault.Over ≡ charged budget n (settled t k)
  unfolding charged
  over-budget t k h = rw (lt-leb (n + k) budget h)

  module _ (f : Component → Bool) where
    -- the same test of a held value
    abbrev held : Held → Bool
    held h = f (component h)

    -- more tests than the budget
    testing-over : (k : ℕ) (hs : List Held) → budget < n + k → Err Fault.Over ≡ charged budget n (testing held k hs)
    unfolding testing
    testing-over k [] h = over-budget FALSE k h
    testing-over k (x ∷ hs) h = go (held x) (testing-over (k + 1) hs (omega arith))
      where
        go : (b : Bool) → Err Fault.Over ≡ charged budget n (testing held (k + 1) hs) → Err Fault.Over ≡ charged budget n (pick b (settled TRUE (k + 1)) (testing held (k + 1) hs))
        go true e = over-budget TRUE (k + 1) (omega arith)
        go false e = e

    -- after n tests before, and k of these
    tested-from : (k : ℕ) (hs : List Held) → n + k ≤ budget → ended (tested_to budget f (n + k) hs) ≡ charged budget n (testing held k hs)
    unfolding tested_to testing
    tested-from k [] h = within-budget FALSE k h
    tested-from k (x ∷ hs) h = go (ltb (n + k) budget) refl (held x) (λ l. ap (λ (y : ℕ). ended (tested_to budget f y hs)) more ∙ tested-from (k + 1) hs l)
      where
        more : n + k + 1 ≡ n + (k + 1)
        more = omega arith

        go : (u : Bool) → ltb (n + k) budget ≡ u → (b : Bool) → (n + (k + 1) ≤ budget → ended (tested_to budget f (n + k + 1) hs) ≡ charged budget n (testing held (k + 1) hs))
            → ended (pick u (pick b (State.Accepted (n + k + 1)) (tested_to budget f (n + k + 1) hs)) State.Over) ≡ charged budget n (pick b (settled TRUE (k + 1)) (testing held (k + 1) hs))
        go true q true e = ap (λ (y : ℕ). Ok (judged (verdict_of TRUE) y)) more ∙ within-budget TRUE (k + 1) (let l = ltb-true (n + k) budget q in omega arith)
        go true q false e = e (let l = ltb-true (n + k) budget q in omega arith)
        go false q true e = over-budget TRUE (k + 1) (let l = ltb-false (n + k) budget q in omega arith)
        go false q false e = testing-over (k + 1) hs (let l = ltb-false (n + k) budget q in omega arith)

    pub tested-ends : (hs : List Held) → n ≤ budget → ended (tested_to budget f n hs) ≡ charged budget n (testing held 0 hs)
    tested-ends hs h = let z : n ≡ n + 0 = omega arith in ap (λ (y : ℕ). ended (tested_to budget f y hs)) z ∙ tested-from 0 hs (omega arith)
