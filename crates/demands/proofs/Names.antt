-- Q-3: distinguishedNameMatch and rdnMatch accept a stored name exactly if its RDNs are those asserted, one by one, and the pairs of each can be put into the
-- order of the other's: one to one, none left over.
use mathlib.Core.Path.{◌≡◌, refl, subst}
use mathlib.Core.Bool.{true, false≢true}
use Rattle.std.specs.Prelude.{Option, None, Some}
use mathlib.Core.List.{List, [], ◌∷◌}
use Prim.Native.Nat.{ℕ}
use Rattle.octets.specs.Pick.{bind}
use Rattle.octets.specs.Quoted.{unquoted}
use Rattle.octets.proofs.Laws.{both_true}
use Rattle.names.specs.Compared.{Compared, same_rdn, same_name, stored_rdn, stored_name, asserted_name, asserted_rdn}
use Rattle.names.proofs.Matching.{Permutation, match_permutes, permutation_matches}
use Rattle.value.proofs.Views.{none-some, some_same}
use Rattle.reference.specs.Allowed.{Target}
use Rattle.rules.specs.Rule.{names, rdns, equal}
use Rattle.rules.specs.Asserted.{Asserted, name, rdn, asserted_in, asserted_of}
use Rattle.rules.specs.Accepts.{is_equal, accepts_contents}

-- RDNs of two names, one by one
pub data OneByOne : List (List Compared) → List (List Compared) → Type 0 where
  nil : OneByOne [] []
  cons : {q r : List Compared} {qs rs : List (List Compared)} → Permutation q r → OneByOne qs rs → OneByOne (q ∷ qs) (r ∷ rs)

same_one_by_one : (qs rs : List (List Compared)) → same_name qs rs ≡ true → OneByOne qs rs
unfolding same_name
same_one_by_one [] [] e = nil
same_one_by_one [] (r ∷ rs) e = absurd (false≢true e)
same_one_by_one (q ∷ qs) [] e = absurd (false≢true e)
same_one_by_one (q ∷ qs) (r ∷ rs) e = let w = both_true (same_rdn q r) (same_name qs rs) e in cons (match_permutes q r w.0) (same_one_by_one qs rs w.1)

one_by_one_same : (qs rs : List (List Compared)) → OneByOne qs rs → same_name qs rs ≡ true
unfolding same_name
one_by_one_same [] [] nil = refl
one_by_one_same [] (r ∷ rs) o = elim o [ ]
one_by_one_same (q ∷ qs) [] o = elim o [ ]
one_by_one_same (q ∷ qs) (r ∷ rs) (cons p o) = rw (permutation_matches q r p) (one_by_one_same qs rs o)

-- what is asserted is a name, and the rule accepts contents exactly if they are the same
pub record NameMatches (a : Asserted) : Type 0 where
  pub asserted : List (List Compared)
  pub is : a ≡ name asserted
  pub accepted : (c : List ℕ) → accepts_contents (equal names) a c ≡ true → OneByOne (stored_name c) asserted
  pub accepts : (c : List ℕ) → OneByOne (stored_name c) asserted → accepts_contents (equal names) a c ≡ true

name-matches : (n : List (List Compared)) → NameMatches (name n)
unfolding accepts_contents is_equal
name-matches n = record {
  asserted = n;
  is = refl;
  accepted = λ c e. same_one_by_one (stored_name c) n e;
  accepts = λ c o. one_by_one_same (stored_name c) n o;
}

pub name_match : (g : Target) (t : List ℕ) (a : Asserted) → asserted_of (equal names) g t ≡ Some a → NameMatches a
unfolding asserted_of asserted_in
name_match g t a = go (bind (unquoted t) asserted_name)
  where
    go : (o : Option (List (List Compared))) → bind o (λ n. Some (name n)) ≡ Some a → NameMatches a
    go None e = none-some a e
    go (Some n) e = subst NameMatches (some_same (name n) a e) (name-matches n)

pub record RdnMatches (a : Asserted) : Type 0 where
  pub asserted : List Compared
  pub is : a ≡ rdn asserted
  pub accepted : (c : List ℕ) → accepts_contents (equal rdns) a c ≡ true → Permutation (stored_rdn c) asserted
  pub accepts : (c : List ℕ) → Permutation (stored_rdn c) asserted → accepts_contents (equal rdns) a c ≡ true

rdn-matches : (l : List Compared) → RdnMatches (rdn l)
unfolding accepts_contents is_equal
rdn-matches l = record {
  asserted = l;
  is = refl;
  accepted = λ c e. match_permutes (stored_rdn c) l e;
  accepts = λ c p. permutation_matches (stored_rdn c) l p;
}

pub rdn_match : (g : Target) (t : List ℕ) (a : Asserted) → asserted_of (equal rdns) g t ≡ Some a → RdnMatches a
unfolding asserted_of asserted_in
rdn_match g t a = go (bind (unquoted t) asserted_rdn)
  where
    go : (o : Option (List Compared)) → bind o (λ l. Some (rdn l)) ≡ Some a → RdnMatches a
    go None e = none-some a e
    go (Some l) e = subst RdnMatches (some_same (rdn l) a e) (rdn-matches l)
