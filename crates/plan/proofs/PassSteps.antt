-- What a task lets pass: one lemma for each need, its premises as the code has them.
use mathlib.Core.Path.{◌≡◌, refl, sym, ap, ap₂, ◌∙◌}
use mathlib.Core.Bool.{Bool, true, false}
use mathlib.Core.List.{List, []}
use Prim.Native.Nat.{ℕ, zero, suc, ◌≤◌, ◌<◌, ◌-◌}
use native.Mathlib.Omega.{arith}
use borrow.Author.Tests.{lt-ltb, le-ltb}
use lib.Dec.{ltb, eqb}
use lib.ListN.{length, get_or}
use Rattle.octets.specs.Pick.{pick, both, either, no}
use Rattle.octets.specs.Octets.{part}
use Rattle.octets.proofs.Laws.{part-rest}
use Rattle.der.specs.Meaning.{plus, same_whole, less_whole, integer_of}
use Rattle.integers.specs.Asserted.{asserted_integer}
use Rattle.integers.specs.Inner.Bounds.{fits, lifted, same_bound, less_bound, is_short, short_fits}
use Rattle.integers.specs.declared.Bound.{Bound}
use Rattle.digits.specs.Inner.Masks.{mask_bits}
use Rattle.plan.specs.Inner.Test.{Test, integer_is, accepted, accepted_count, bound_numbered, plain_test, digit_test, text_test, named_test, name_test, test_of}
use Rattle.plan.specs.Inner.Task.{Task, testing, task_of, passes_contents, passes_count}
use Rattle.plan.proofs.TaskLaws.{is-counting, is-listing, is-testing}

-- ---- a test by its numbers
integer_told : (c : List ℕ) (r told otherwise : Bool) → r ≡ both (is_short c) told → short_fits c ≡ true → r ≡ integer_is told otherwise c
unfolding integer_is short_fits
integer_told c r told otherwise e f = e ∙ go (is_short c) (fits (integer_of c)) f
  where
    go : (u v : Bool) → either (no u) v ≡ true → both u told ≡ both u (pick v told otherwise)
    go true v q = rw q
    go false v q = refl

plain_any_operand : (k : ℕ) (x c : List ℕ) → accepted (plain_test k) [] c ≡ accepted (plain_test k) x c
unfolding accepted
plain_any_operand k x c = go (eqb k 0) (eqb k 1) (eqb k 2)
  where
    go : (u v w : Bool) → accepted (pick u Test.any_value (pick v Test.no_value (Test.truth w))) [] c ≡ accepted (pick u Test.any_value (pick v Test.no_value (Test.truth w))) x c
    go true v w = refl
    go false true w = refl
    go false false w = refl

module _ (k n : ℕ) (x c : List ℕ) (r : Bool) where
  pub accepts-plain : k < 4 → r ≡ accepted (plain_test k) [] c → r ≡ accepted (test_of k n) x c
  unfolding test_of
  accepts-plain h e = rw (lt-ltb k 4 h) (e ∙ plain_any_operand k x c)

  module _ (a : 4 ≤ k) where
    pub accepts-same : (b : Bound) → k < 7 → b ≡ bound_numbered (k - 4) n → r ≡ both (is_short c) (same_bound (lifted (integer_of c)) b) → short_fits c ≡ true → r ≡ accepted (test_of k n) x c
    unfolding test_of accepted
    accepts-same b h q e f = rw (le-ltb k 4 a, lt-ltb k 7 h, ← q) (integer_told c r (same_bound (lifted (integer_of c)) b) (same_whole (integer_of c) (asserted_integer x)) e f)

    module _ (b : 7 ≤ k) where
      pub accepts-less : (bound : Bound) → k < 10 → bound ≡ bound_numbered (k - 7) n → r ≡ both (is_short c) (less_bound (lifted (integer_of c)) bound) → short_fits c ≡ true → r ≡ accepted (test_of k n) x c
      unfolding test_of accepted
      accepts-less bound h q e f = rw (le-ltb k 4 a, le-ltb k 7 b, lt-ltb k 10 h, ← q) (integer_told c r (less_bound (lifted (integer_of c)) bound) (less_whole (integer_of c) (asserted_integer x)) e f)

      module _ (d : 10 ≤ k) where
        pub accepts-digits : k < 15 → r ≡ accepted (digit_test k) x c → r ≡ accepted (test_of k n) x c
        unfolding test_of
        accepts-digits h e = rw (le-ltb k 4 a, le-ltb k 7 b, le-ltb k 10 d, lt-ltb k 15 h) e

        module _ (h : 15 ≤ k) where
          pub accepts-text : k < 19 → r ≡ accepted (text_test k) x c → r ≡ accepted (test_of k n) x c
          unfolding test_of
          accepts-text l e = rw (le-ltb k 4 a, le-ltb k 7 b, le-ltb k 10 d, le-ltb k 15 h, lt-ltb k 19 l) e

          module _ (l : 19 ≤ k) where
            pub accepts-named : k < 22 → r ≡ accepted (named_test k n) x c → r ≡ accepted (test_of k n) x c
            unfolding test_of
            accepts-named m e = rw (le-ltb k 4 a, le-ltb k 7 b, le-ltb k 10 d, le-ltb k 15 h, le-ltb k 19 l, lt-ltb k 22 m) e

            pub accepts-name : 22 ≤ k → r ≡ accepted (name_test k) x c → r ≡ accepted (test_of k n) x c
            unfolding test_of
            accepts-name m e = rw (le-ltb k 4 a, le-ltb k 7 b, le-ltb k 10 d, le-ltb k 15 h, le-ltb k 19 l, le-ltb k 22 m) e

-- the same of those from 10 on
module _ (k n : ℕ) (x c : List ℕ) (r : Bool) (d : 10 ≤ k) where
  pub octets-digits : k < 15 → r ≡ accepted (digit_test k) x c → r ≡ accepted (test_of k n) x c
  octets-digits = accepts-digits k n x c r (omega arith) (omega arith) d

  module _ (h : 15 ≤ k) where
    pub octets-text : k < 19 → r ≡ accepted (text_test k) x c → r ≡ accepted (test_of k n) x c
    octets-text = accepts-text k n x c r (omega arith) (omega arith) d h

    module _ (l : 19 ≤ k) where
      pub octets-named : k < 22 → r ≡ accepted (named_test k n) x c → r ≡ accepted (test_of k n) x c
      octets-named = accepts-named k n x c r (omega arith) (omega arith) d h l

      pub octets-name : 22 ≤ k → r ≡ accepted (name_test k) x c → r ≡ accepted (test_of k n) x c
      octets-name = accepts-name k n x c r (omega arith) (omega arith) d h l

whole : (s p : List ℕ) → p ≡ part s 0 (length s) → p ≡ s
whole s p e = e ∙ part-rest s 0 (length s) (omega arith)

pub accepts-whole : (k n : ℕ) (x c y d : List ℕ) (r : Bool) → y ≡ part x 0 (length x) → d ≡ part c 0 (length c) → r ≡ accepted (test_of k n) y d
    → r ≡ accepted (test_of k n) x c
accepts-whole k n x c y d r e f g = g ∙ ap₂ (accepted (test_of k n)) (whole x y e) (whole c d f)

module _ (k n m : ℕ) where
  pub count-plain : k < 4 → eqb k 0 ≡ accepted_count (test_of k n) m
  unfolding test_of accepted_count
  count-plain h = rw (lt-ltb k 4 h) (go (eqb k 0) (eqb k 1))
    where
      go : (u v : Bool) → u ≡ accepted_count (pick u Test.any_value (pick v Test.no_value (Test.truth (eqb k 2)))) m
      go true v = refl
      go false true = refl
      go false false = refl

  module _ (a : 4 ≤ k) where
    pub count_same : (r : Bool) (b : Bound) → k < 7 → b ≡ bound_numbered (k - 4) n → r ≡ both (ltb m 9223372036854775808) (same_bound (lifted (plus m)) b) → r ≡ accepted_count (test_of k n) m
    unfolding test_of accepted_count
    count_same r b h q e = rw (le-ltb k 4 a, lt-ltb k 7 h, ← q) e

    module _ (b : 7 ≤ k) where
      pub count_less : (r : Bool) (bound : Bound) → k < 10 → bound ≡ bound_numbered (k - 7) n → r ≡ both (ltb m 9223372036854775808) (less_bound (lifted (plus m)) bound) → r ≡ accepted_count (test_of k n) m
      unfolding test_of accepted_count
      count_less r bound h q e = rw (le-ltb k 4 a, le-ltb k 7 b, lt-ltb k 10 h, ← q) e

      pub count-other : 10 ≤ k → false ≡ accepted_count (test_of k n) m
      unfolding test_of accepted_count
      count-other d = rw (le-ltb k 4 a, le-ltb k 7 b, le-ltb k 10 d) (go (ltb k 15) (digit_test k) _ (digit (eqb k 10) (eqb k 11) (eqb k 12))
          (go (ltb k 19) (text_test k) _ (text (eqb k 17) (eqb k 18))
          (go (ltb k 22) (named_test k n) (name_test k) (named (eqb k 21)) (name (eqb k 22)))))
        where
          go : (u : Bool) (v w : Test) → false ≡ accepted_count v m → false ≡ accepted_count w m → false ≡ accepted_count (pick u v w) m
          go true v w p q = p
          go false v w p q = q

          digit : (a b c : Bool) → false ≡ accepted_count (pick a Test.arcs (pick b Test.octets (pick c Test.less_octets (Test.bits (eqb k 13))))) m
          digit true b c = refl
          digit false true c = refl
          digit false false true = refl
          digit false false false = refl

          text : (a b : Bool) → false ≡ accepted_count (pick a Test.time (pick b Test.earlier_time (Test.string (eqb k 15)))) m
          text true b = refl
          text false true = refl
          text false false = refl

          named : (a : Bool) → false ≡ accepted_count (pick a (Test.listed (mask_bits n)) (Test.named_bits (eqb k 19) n)) m
          named true = refl
          named false = refl

          name : (a : Bool) → false ≡ accepted_count (pick a Test.name Test.rdn) m
          name true = refl
          name false = refl

-- ---- the task
module _ (q : List ℕ) (task : ℕ) (read : task ≡ get_or q 0 0) where
  pub contents_pass : (x c : List ℕ) → task < 2 → ltb task 2 ≡ passes_contents (task_of q) x c
  unfolding passes_contents
  contents_pass x c l = lt-ltb task 2 l ∙ go task read l
    where
      go : (k : ℕ) → k ≡ get_or q 0 0 → k < 2 → true ≡ passes_contents (task_of q) x c
      go zero e h = rw (is-counting q (sym e))
      go (suc zero) e h = rw (is-listing q (λ y. absurd (omega arith)) (sym e))
      go (suc (suc k)) e h = absurd (omega arith)

  pub count-passes : (n : ℕ) → task < 2 → ltb task 2 ≡ passes_count (task_of q) n
  unfolding passes_count
  count-passes n l = lt-ltb task 2 l ∙ go task read l
    where
      go : (k : ℕ) → k ≡ get_or q 0 0 → k < 2 → true ≡ passes_count (task_of q) n
      go zero e h = rw (is-counting q (sym e))
      go (suc zero) e h = rw (is-listing q (λ y. absurd (omega arith)) (sym e))
      go (suc (suc k)) e h = absurd (omega arith)

  module _ (high : 2 ≤ task) (k n : ℕ) (comparison : k ≡ get_or q 2 0) (number : n ≡ get_or q 3 0) (b : Bool) where
    tests : task_of q ≡ testing (test_of k n) (get_or q 1 0)
    tests = is-testing q (λ e. absurd (omega arith)) (λ e. absurd (omega arith)) ∙ ap₂ (λ (y z : ℕ). testing (test_of y z) (get_or q 1 0)) (sym comparison) (sym number)

    pub contents-tested : (x c : List ℕ) → b ≡ accepted (test_of k n) x c → b ≡ passes_contents (task_of q) x c
    unfolding passes_contents
    contents-tested x c f = f ∙ sym (ap (λ (y : Task). passes_contents y x c) tests)

    pub count-tested : (m : ℕ) → b ≡ accepted_count (test_of k n) m → b ≡ passes_count (task_of q) m
    unfolding passes_count
    count-tested m f = f ∙ sym (ap (λ (y : Task). passes_count y m) tests)
