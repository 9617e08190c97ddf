-- Asserted times, by what stands between the quotes: what the steps and the layers above use.
use mathlib.Core.Path.{◌≡◌, refl, sym, ap, ◌∙◌}
use mathlib.Core.Bool.{Bool, true, false, false≢true}
use Rattle.std.specs.Prelude.{None, Some}
use mathlib.Core.List.{List}
use Prim.Native.Nat.{ℕ, ◌≤◌}
use native.Mathlib.Omega.{arith}
use borrow.Author.Tests.{le-leb}
use lib.ListN.{length}
use Rattle.octets.specs.Pick.{pick, both, is_some}
use Rattle.octets.specs.Octets.{every}
use Rattle.octets.specs.Quoted.{undoubled}
use Rattle.octets.proofs.QuotedLaws.{no_quote, undoubled-plain, undoubled-quoted}
use Rattle.octets.proofs.Laws.{never, both_true}
use Rattle.der.specs.Time.{legal_time, time_of}
use Rattle.der.proofs.Laws.{time-octets}
use Rattle.der.proofs.TimeLaws.{time-plain}
use Rattle.strings.specs.Asserted.{is_text, asserted_text}
use Rattle.strings.proofs.Laws.{text-is}
use Rattle.times.specs.Asserted.{is_time, asserted_time}

-- a time has no quote in it, so the octets between the quotes are its characters
quoted-bad : (c : List ℕ) → every no_quote c ≡ false → legal_time c ≡ false
quoted-bad c e = go (legal_time c) refl
  where
    go : (u : Bool) → legal_time c ≡ u → u ≡ false
    go true q = absurd (false≢true (sym e ∙ time-plain c q))
    go false q = refl

undoubled-time : (p : List ℕ) → legal_time (undoubled p) ≡ legal_time p
undoubled-time p = go (every no_quote p) refl
  where
    go : (u : Bool) → every no_quote p ≡ u → legal_time (undoubled p) ≡ legal_time p
    go true e = ap legal_time (undoubled-plain p e)
    go false e = quoted-bad (undoubled p) (undoubled-quoted p e) ∙ sym (quoted-bad p e)

-- a text conforms where it asserts a time
time_some : (t : List ℕ) → is_time t ≡ is_some (asserted_time t)
unfolding asserted_time
time_some t = go (is_time t)
  where
    go : (b : Bool) → b ≡ is_some (pick b (Some (time_of (asserted_text t))) None)
    go true = refl
    go false = refl

pub time-asserted : (t : List ℕ) → is_some (asserted_time t) ≡ true → asserted_time t ≡ Some (time_of (asserted_text t))
unfolding asserted_time
time-asserted t e = rw (time_some t ∙ e)

module _ (t p : List ℕ) (part : undoubled p ≡ asserted_text t) where
  time-by : is_time t ≡ both (is_text t) (legal_time p)
  unfolding is_time
  time-by = ap (both (is_text t)) (ap legal_time (sym part) ∙ undoubled-time p)

  has-text : legal_time p ≡ true → is_text t ≡ true
  has-text h = let l : 1 ≤ length p = omega (arith, time-octets p h) in sym (text-is t p true part (sym (le-leb 1 (length p) l)))

  pub time-is : (r : Bool) → r ≡ legal_time p → r ≡ is_some (asserted_time t)
  time-is r e = e ∙ go (legal_time p) refl ∙ sym time-by ∙ time_some t
    where
      go : (u : Bool) → legal_time p ≡ u → u ≡ both (is_text t) u
      go true h = sym (ap (λ (x : Bool). both x true) (has-text h))
      go false h = sym (never (is_text t))

  -- what stands between the quotes of a text that conforms
  pub time-part : is_some (asserted_time t) ≡ true → p ≡ asserted_text t
  time-part e = sym (undoubled-plain p (time-plain p (both_true (is_text t) (legal_time p) (sym time-by ∙ time_some t ∙ e)).1)) ∙ part
