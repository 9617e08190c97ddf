-- Values: laws of the letters up to a value's end, then one lemma for each return and each turn; its premises are the facts as the code has them.
use mathlib.Core.Path.{◌≡◌, refl, sym, ap, ap₂, ◌∙◌}
use mathlib.Core.Bool.{Bool, true, false, not}
use Rattle.std.specs.Prelude.{Option, None, Some}
use mathlib.Core.List.{List, [], ◌∷◌, map}
use Prim.Native.Nat.{ℕ, ◌≤◌, ◌<◌, ◌-◌}
use native.Mathlib.Omega.{arith}
use borrow.Author.Tests.{eq-eqb, ne_eqb, not-true, not-false}
use lib.Dec.{eqb}
use lib.ListN.{length}
use Rattle.octets.specs.Pick.{pick, both, either, no}
use Rattle.octets.specs.Utf8.{after, may_end, awaits, utf8_from, utf8}
use Rattle.octets.specs.Inner.Answers.{between}
use Rattle.octets.proofs.Laws.{both_true}
use Rattle.strings.specs.Inner.Escaped.{unescaped}
use Rattle.strings.proofs.Steps.{unescaped-nil}
use Rattle.names.specs.Rfc4514 as rfc
use Rattle.names.specs.Rfc4514.{bare, escaped, wrong, ends, up_to_end, from_end, is_reserved, is_string_char, may_stand, may_lead, may_trail}
use Rattle.names.specs.Rfc4514.{octet_of, every_letter, leads, trails, is_string}
use Rattle.names.specs.Inner.Reading.{letters_at, report_letter, Standing, Stands, read, stands_as, string_from, closed_value, value_octets, value_from}
use Rattle.names.specs.Inner.Reading.{report_value, ValuePlaces}
use Rattle.names.specs.declared.Letter.{Letter}
use Rattle.names.proofs.Laws.{between_none}

not_no : (u : Bool) → not u ≡ no u
not_no true = refl
not_no false = refl

-- ---- the letters of a value, one after another
-- the letters v may end, where those before may be the last
abbrev trails_after : Bool → List rfc.Letter → Bool
trails_after trailing [] = trailing
trails_after trailing (l ∷ v) = trails (l ∷ v)

trails-cons : (l : rfc.Letter) (v : List rfc.Letter) → trails (l ∷ v) ≡ trails_after (may_trail l) v
unfolding trails
trails-cons l [] = refl
trails-cons l (m ∷ v) = refl

abbrev left : Bool → Bool → Option (ℕ × ℕ × ℕ) → List rfc.Letter → Bool
left first trailing a v = both (either (no first) (leads v)) (both (every_letter v) (both (trails_after trailing v) (utf8_from a (map octet_of v))))

left-nil : (first trailing : Bool) (a : Option (ℕ × ℕ × ℕ)) → both trailing (may_end a) ≡ left first trailing a []
unfolding every_letter utf8_from
left-nil true trailing a = refl
left-nil false trailing a = refl

left-cons : (first trailing : Bool) (a : Option (ℕ × ℕ × ℕ)) (l : rfc.Letter) (v : List rfc.Letter)
    → both (stands_as first l) (left false (may_trail l) (after a (octet_of l)) v) ≡ left first trailing a (l ∷ v)
unfolding every_letter utf8_from
left-cons first trailing a l v = rw (trails-cons l v) (go (may_stand l) (either (no first) (may_lead l)))
  where
    go : (s d : Bool) → both (both s d) (left false (may_trail l) (after a (octet_of l)) v)
        ≡ both d (both (both s (every_letter v)) (both (trails_after (may_trail l) v) (utf8_from (after a (octet_of l)) (map octet_of v))))
    go true true = refl
    go true false = refl
    go false true = refl
    go false false = refl

string-left : (first trailing : Bool) (a : Option (ℕ × ℕ × ℕ)) (ls : List rfc.Letter) → string_from first trailing a ls ≡ left first trailing a (up_to_end ls)
unfolding string_from up_to_end
string-left first trailing a [] = left-nil first trailing a
string-left first trailing a (l ∷ ls) = go (ends l) (string-left false (may_trail l) (after a (octet_of l)) ls)
  where
    go : (t : Bool) → string_from false (may_trail l) (after a (octet_of l)) ls ≡ left false (may_trail l) (after a (octet_of l)) (up_to_end ls)
        → pick t (both trailing (may_end a)) (both (stands_as first l) (string_from false (may_trail l) (after a (octet_of l)) ls))
        ≡ left first trailing a (pick t [] (l ∷ up_to_end ls))
    go true h = left-nil first trailing a
    go false h = rw h (left-cons first trailing a l (up_to_end ls))

string-is : (ls : List rfc.Letter) → string_from true true (awaits 0) ls ≡ is_string (up_to_end ls)
unfolding is_string utf8 trails
string-is ls = string-left true true (awaits 0) ls ∙ go (up_to_end ls)
  where
    go : (v : List rfc.Letter) → left true true (awaits 0) v ≡ both (leads v) (both (every_letter v) (both (trails v) (utf8_from (awaits 0) (map octet_of v))))
    go [] = refl
    go (l ∷ v) = refl

-- ---- where a value ends
-- no letters are left for it
pub record Stopped (ls : List rfc.Letter) : Type 0 where
  pub none_left : up_to_end ls ≡ []
  pub rest : from_end ls ≡ ls
  pub test : (first trailing : Bool) (a : Option (ℕ × ℕ × ℕ)) → string_from first trailing a ls ≡ both trailing (may_end a)

stopped_nil : Stopped []
unfolding up_to_end from_end string_from
stopped_nil = record { none_left = refl; rest = refl; test = λ first trailing a. refl }

stopped_cons : (l : rfc.Letter) (ls : List rfc.Letter) → ends l ≡ true → Stopped (l ∷ ls)
unfolding up_to_end from_end string_from
stopped_cons l ls e = record { none_left = rw e; rest = rw e; test = λ first trailing a. rw e }

-- ---- the loop: it is at place i, and the value starts at place at
pub record Valued (p : List ℕ) (at i : ℕ) (trailing : Bool) (a : Option (ℕ × ℕ × ℕ)) : Type 0 where
  pub from : at ≤ i
  pub up_to : i ≤ length p
  pub test : string_from (eqb i at) trailing a (letters_at p i) ≡ is_string (up_to_end (letters_at p at))
  pub rest : from_end (letters_at p i) ≡ from_end (letters_at p at)
  pub octets : (end : ℕ) → i ≤ end → unescaped (between p i end) ≡ value_octets (letters_at p i) → unescaped (between p at end) ≡ value_octets (letters_at p at)

pub valued_start : (p : List ℕ) (at : ℕ) → at ≤ length p → Valued p at at true (awaits 0)
valued_start p at h = record {
  from = omega arith;
  up_to = h;
  test = rw (eq-eqb at at refl) (string-is (letters_at p at));
  rest = refl;
  octets = λ end l e. e;
}

module _ (p : List ℕ) (at i : ℕ) (trailing : Bool) (a : Option (ℕ × ℕ × ℕ)) (inv : Valued p at i trailing a) where
  module _ (s : Stopped (letters_at p i)) where
    stopped_octets : unescaped (between p at i) ≡ value_octets (letters_at p at)
    stopped_octets = inv.octets i (omega arith) (rw (between_none p i, s.none_left) unescaped-nil)

    closed : (r : Option ℕ) → r ≡ closed_value trailing a i → report_value p at r ≡ value_from (letters_at p at)
    unfolding value_from
    closed r e = rw (e, sym inv.test ∙ s.test (eqb i at) trailing a) (go (both trailing (may_end a)))
      where
        go : (t : Bool) → report_value p at (pick t (Some i) None)
            ≡ pick t (read (value_octets (letters_at p at)) (from_end (letters_at p at))) None
        go true = ap₂ read stopped_octets (sym s.rest ∙ inv.rest)
        go false = refl

  pub value-places : (r : Option ℕ) → r ≡ closed_value trailing a i → ValuePlaces at (length p) r
  value-places r e = rw e (go (both trailing (may_end a)))
    where
      go : (t : Bool) → ValuePlaces at (length p) (pick t (Some i) None)
      go true = record { from = inv.from; up_to = inv.up_to }
      go false = tt

  refused : string_from (eqb i at) trailing a (letters_at p i) ≡ false → report_value p at None ≡ value_from (letters_at p at)
  unfolding value_from
  refused e = rw (sym inv.test ∙ e)

  module _ (l : rfc.Letter) (ls : List rfc.Letter) (z : letters_at p i ≡ l ∷ ls) (n : ends l ≡ false) where
    bad : stands_as (eqb i at) l ≡ false → report_value p at None ≡ value_from (letters_at p at)
    unfolding string_from
    bad e = refused (ap (string_from (eqb i at) trailing a) z ∙ rw (n, e))

    module _ (e : stands_as (eqb i at) l ≡ true) where
      test_on : string_from false (may_trail l) (after a (octet_of l)) ls ≡ is_string (up_to_end (letters_at p at))
      unfolding string_from
      test_on = sym (ap (string_from (eqb i at) trailing a) z ∙ rw (n, e)) ∙ inv.test

      rest-on : from_end ls ≡ from_end (letters_at p at)
      unfolding from_end
      rest-on = sym (ap from_end z ∙ rw n) ∙ inv.rest

      octets-on : value_octets (letters_at p i) ≡ octet_of l ∷ value_octets ls
      unfolding up_to_end
      octets-on = ap value_octets z ∙ rw n

  on : (l : rfc.Letter) (next : ℕ) → letters_at p i ≡ l ∷ letters_at p next → Standing p i l next → ends l ≡ false → stands_as (eqb i at) l ≡ true
      → Valued p at next (may_trail l) (after a (octet_of l))
  on l next z st n e =
      let m = (both_true (may_stand l) (either (no (eqb i at)) (may_lead l)) e).0 in
      let f = inv.from in
      let g = st.beyond in
      record {
        from = omega arith;
        up_to = st.within;
        test = rw (ne_eqb next at (λ q. omega arith)) (test_on l (letters_at p next) z n e);
        rest = rest-on l (letters_at p next) z n e;
        octets = λ end k q.
            inv.octets end (omega arith)
            (st.octets m end k ∙ ap (λ (x : List ℕ). octet_of l ∷ x) q ∙ sym (octets-on l (letters_at p next) z n e));
      }

  module _ (letter : Letter) (told : report_letter p letter ≡ letters_at p i) where
    pub value-ended : (r : Option ℕ) → letter ≡ Letter.End → r ≡ closed_value trailing a i → report_value p at r ≡ value_from (letters_at p at)
    value-ended r e q = let z : letters_at p i ≡ [] = sym told ∙ ap (report_letter p) e in closed (rw z stopped_nil) r q

    pub value-wrong : letter ≡ Letter.Wrong → report_value p at None ≡ value_from (letters_at p at)
    value-wrong e = bad wrong [] (sym told ∙ ap (report_letter p) e) refl refl

    module _ (b next : ℕ) where
      pub value-escaped : (x : Option (ℕ × ℕ × ℕ)) → letter ≡ Letter.Escaped b next → Stands p i letter → x ≡ after a b → Valued p at next true x
      value-escaped x e st q =
          rw q (on (escaped b) next (sym told ∙ ap (report_letter p) e) (rw e at st) refl (go (eqb i at)))
        where
          go : (t : Bool) → stands_as t (escaped b) ≡ true
          go true = refl
          go false = refl

      module _ (u : Bool) (e : letter ≡ Letter.Bare b next) (asked : u ≡ ends (bare b)) where
        here : letters_at p i ≡ bare b ∷ letters_at p next
        here = sym told ∙ ap (report_letter p) e

        pub value_stopped : (r : Option ℕ) → u ≡ true → r ≡ closed_value trailing a i → report_value p at r ≡ value_from (letters_at p at)
        value_stopped r h q = closed (rw here (stopped_cons (bare b) (letters_at p next) (sym asked ∙ h))) r q

        module _ (h : u ≡ false) (v : Bool) (tested : v ≡ stands_as (eqb i at) (bare b)) where
          pub value-bad : not v ≡ true → report_value p at None ≡ value_from (letters_at p at)
          value-bad n = bad (bare b) (letters_at p next) here (sym asked ∙ h) (sym tested ∙ not-true v n)

          pub value-bare : (x : Option (ℕ × ℕ × ℕ)) → not v ≡ false → Stands p i letter → x ≡ after a b → Valued p at next (not (eqb b 32)) x
          value-bare x n st q =
              rw (q, not_no (eqb b 32)) (on (bare b) next here (rw e at st) (sym asked ∙ h) (sym tested ∙ not-false v n))

-- each turn leaves less of the text
module _ (p : List ℕ) (i b next : ℕ) (letter : Letter) (st : Stands p i letter) where
  less : (l : rfc.Letter) → Standing p i l next → length p - next < length p - i
  less l s = let f = s.beyond in let g = s.within in omega arith

  pub escaped-less : letter ≡ Letter.Escaped b next → length p - next < length p - i
  escaped-less e = less (escaped b) (rw e at st)

  pub bare-less : letter ≡ Letter.Bare b next → length p - next < length p - i
  bare-less e = less (bare b) (rw e at st)
