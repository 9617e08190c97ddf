-- Laws of stored names, for this crate's proofs and for the layers above.
use mathlib.Core.Path.{◌≡◌, refl, sym, ap}
use mathlib.Core.Bool.{Bool, true, false}
use Rattle.std.specs.Prelude.{Option, None, Some}
use mathlib.Core.List.{List, [], ◌∷◌}
use Prim.Native.Nat.{ℕ, zero, suc, ◌≤◌, ◌<◌, ◌+◌}
use native.Mathlib.Omega.{arith}
use borrow.Author.Tests.{le-leb, lt-leb}
use lib.Dec.{leb, eqb}
use lib.ListN.{length}
use Rattle.octets.specs.Pick.{pick, both, consed}
use Rattle.octets.specs.Utf8.{utf8}
use Rattle.octets.proofs.Laws.{never}
use Rattle.der.specs.Kind.{is_constructed}
use Rattle.der.specs.Tag.{number, universal_text, universal, own_octet}
use Rattle.der.specs.Header.{inside_at}
use Rattle.der.specs.Contents.{legal_printable, legal_ia5, legal_text}
use Rattle.der.specs.Order.{not_above}
use Rattle.der.specs.Names.{Element, element_at, elements_from, legal_string, legal_type, legal_pair, every_element, in_order, legal_pairs, legal_rdn}
use Rattle.der.specs.Names.{legal_rdns, legal_rdn_sequence, pair_behind, pair_of}

-- ---- tag octets: 06 of an attribute type, 30 of a pair, 31 of an RDN; 0C, 13 and 16 of the strings
pub type_usable : number 6 < 31
unfolding number
type_usable = omega arith

pub pair_usable : number 48 < 31
unfolding number
pair_usable = omega arith

pub rdn_usable : number 49 < 31
unfolding number
rdn_usable = omega arith

module _ (c : List ℕ) where
  pub pair_by_octet : legal_pair c ≡ legal_type c (inside_at 6 c 0 (length c))
  unfolding legal_pair own_octet universal universal_text is_constructed
  pair_by_octet = refl

  pub parts_by_octet : pair_of c ≡ pair_behind c (inside_at 6 c 0 (length c))
  unfolding pair_of own_octet universal universal_text is_constructed
  parts_by_octet = refl

  pub rdn_by_octet : legal_rdn c ≡ legal_pairs (elements_from 4 48 c 0)
  unfolding legal_rdn own_octet universal universal_text is_constructed
  rdn_by_octet = refl

  pub sequence_by_octet : legal_rdn_sequence c ≡ legal_rdns (elements_from 16 49 c 0)
  unfolding legal_rdn_sequence own_octet universal universal_text is_constructed
  sequence_by_octet = refl

  pub string_by_octet : (o : ℕ) → legal_string o c ≡ pick (eqb o 12) (utf8 c) (pick (eqb o 19) (legal_printable c) (pick (eqb o 22) (legal_ia5 c) false))
  unfolding legal_string legal_text own_octet universal universal_text is_constructed
  string_by_octet o = refl

-- ---- elements from a place on
module _ (o : ℕ) (c : List ℕ) (at : ℕ) where
  pub elements_end : (m : ℕ) → length c ≤ at → elements_from m o c at ≡ Some []
  unfolding elements_from
  elements_end zero h = rw (le-leb (length c) at h)
  elements_end (suc m) h = rw (le-leb (length c) at h)

  module _ (h : at < length c) where
    pub elements_full : elements_from zero o c at ≡ None
    unfolding elements_from
    elements_full = rw (lt-leb (length c) at h)

    pub elements_misfit : (m : ℕ) → inside_at o c at (length c) ≡ None → elements_from (suc m) o c at ≡ None
    unfolding elements_from
    elements_misfit m e = rw (lt-leb (length c) at h, e)

    pub elements_next : (m start n : ℕ) → inside_at o c at (length c) ≡ Some (start, n)
        → elements_from (suc m) o c at ≡ consed (element_at c at start n) (elements_from m o c (start + n))
    unfolding elements_from
    elements_next m start n e = rw (lt-leb (length c) at h, e)

-- ---- the pairs of an RDN, after n pairs the last of which is e
-- elements in X.690 order, the first not below the encoding e
unfoldable pub ordered_after : List ℕ → List Element → Bool
ordered_after e [] = true
ordered_after e (b ∷ es) = both (not_above e b.encoding) (in_order (b ∷ es))

abbrev pub pairs_after : ℕ → List ℕ → Option (List Element) → Bool
pairs_after n e None = false
pairs_after n e (Some es) = both (leb 1 (n + length es)) (both (ordered_after e es) (every_element legal_pair es))

order_cons : (b : Element) (es : List Element) → in_order (b ∷ es) ≡ ordered_after b.encoding es
unfolding in_order ordered_after
order_cons b [] = refl
order_cons b (d ∷ es) = refl

ordered : (e : List ℕ) (b : Element) (es : List Element) → ordered_after e (b ∷ es) ≡ both (not_above e b.encoding) (ordered_after b.encoding es)
unfolding ordered_after
ordered e b es = ap (λ (x : Bool). both (not_above e b.encoding) x) (order_cons b es)

order_first : (es : List Element) → ordered_after [] es ≡ in_order es
unfolding in_order ordered_after not_above
order_first [] = refl
order_first (b ∷ es) = refl

pub pairs_first : (o : Option (List Element)) → pairs_after 0 [] o ≡ legal_pairs o
pairs_first None = refl
pairs_first (Some es) = let e : 0 + length es ≡ length es = omega arith in rw (e, order_first es)

pub pairs_next : (n : ℕ) (e : List ℕ) (b : Element) (o : Option (List Element))
    → pairs_after n e (consed b o) ≡ both (both (not_above e b.encoding) (legal_pair b.contents)) (pairs_after (n + 1) b.encoding o)
unfolding every_element
pairs_next n e b None = sym (never (both (not_above e b.encoding) (legal_pair b.contents)))
pairs_next n e b (Some es) =
    rw (le-leb 1 (n + suc (length es)) (omega arith), le-leb 1 (n + 1 + length es) (omega arith), ordered e b es)
    (go (not_above e b.encoding) (legal_pair b.contents) (ordered_after b.encoding es))
  where
    go : (x y z : Bool) → both (both x z) (both y (every_element legal_pair es)) ≡ both (both x y) (both z (every_element legal_pair es))
    go true true z = refl
    go true false true = refl
    go true false false = refl
    go false y z = refl

pub pairs_end : (n : ℕ) (e : List ℕ) → pairs_after n e (Some []) ≡ leb 1 n
unfolding ordered_after every_element
pairs_end n e = let q : n + 0 ≡ n = omega arith in rw q (go (leb 1 n))
  where
    go : (x : Bool) → both x true ≡ x
    go true = refl
    go false = refl

-- ---- the RDNs of a sequence
pub rdns_next : (b : Element) (o : Option (List Element)) → legal_rdns (consed b o) ≡ both (legal_rdn b.contents) (legal_rdns o)
unfolding every_element
rdns_next b None = sym (never (legal_rdn b.contents))
rdns_next b (Some es) = refl
