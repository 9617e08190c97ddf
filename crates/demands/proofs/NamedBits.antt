-- Q-2: on a BIT STRING with names bitStringMatch is equality of the sets of one-bits.
use mathlib.Core.Path.{◌≡◌, refl, sym, ap, ◌∙◌, subst}
use mathlib.Core.Bool.{Bool, true, false}
use Rattle.std.specs.Prelude.{Option, None, Some}
use mathlib.Core.List.{List, [], ◌∷◌, ◌++◌}
use Prim.Native.Nat.{ℕ, zero, suc, ◌<◌, ◌+◌, ◌-◌, ◌*◌, ◌/◌, ◌%◌}
use native.Mathlib.Omega.{arith}
use borrow.Author.Tests.{leb-true, eqb-true, eqb-false}
use lib.Dec.{leb, eqb}
use lib.ListN.{length, get_or, take}
use Rattle.octets.specs.Pick.{pick, bind}
use Rattle.octets.specs.Octets.{every, nibble}
use Rattle.octets.proofs.Laws.{both_true}
use Rattle.octets.proofs.TextLaws.{every-cons}
use Rattle.der.specs.Kind.{named_bit_string}
use Rattle.der.specs.Meaning.{octet_bits, all_bits, bits_of}
use Rattle.digits.specs.Asserted.{in_quotes, digits, is_bit, is_bit_text, is_bits, hex_bits, text_bits, asserted_bits}
use Rattle.digits.proofs.NamedLaws.{trimmed-alike, alike-trimmed}
use Rattle.types.specs.Types.{NamedBit, basic}
use Rattle.value.proofs.Views.{none-some, some_same}
use Rattle.reference.specs.Allowed.{of_type}
use Rattle.bitnames.specs.Names.{numbers_of, is_in, bits_listed, listed_bits}
use Rattle.gser.specs.Listed.{listed}
use Rattle.rules.specs.Rule.{bit_strings, equal}
use Rattle.rules.specs.Asserted.{Asserted, named_bits, asserted_bits_by, asserted_in, asserted_of}
use Rattle.rules.specs.Accepts.{is_equal, accepts_contents}

-- bit i is one of the one-bits
abbrev pub isOne : List ℕ → ℕ → Bool
isOne l i = eqb (get_or l i 0) 1

-- two lists of bits have the same one-bits
abbrev pub SameOnes : List ℕ → List ℕ → Type 0
SameOnes a b = (i : ℕ) → isOne a i ≡ isOne b i

-- ---- bits are 0 and 1
abbrev Bits : List ℕ → Type 0
Bits l = (i : ℕ) → get_or l i 0 < 2

no_bit : Bits []
no_bit i = omega arith

one_more : (b : ℕ) (l : List ℕ) → b < 2 → Bits l → Bits (b ∷ l)
one_more b l h f zero = h
one_more b l h f (suc i) = f i

joined : (a b : List ℕ) → Bits a → Bits b → Bits (a ++ b)
joined [] b f g = g
joined (x ∷ a) b f g = one_more x (a ++ b) (f 0) (joined a b (λ i. f (suc i)) g)

some_of : (n : ℕ) (l : List ℕ) → Bits l → Bits (take n l)
some_of zero l f = no_bit
some_of (suc n) [] f = no_bit
some_of (suc n) (b ∷ l) f = one_more b (take n l) (f 0) (some_of n l (λ i. f (suc i)))

halved : (n : ℕ) → n % 2 < 2
halved n = omega arith

four : (a b c d : ℕ) (l : List ℕ) → Bits l → Bits ((a % 2) ∷ (b % 2) ∷ (c % 2) ∷ (d % 2) ∷ l)
four a b c d l f zero = halved a
four a b c d l f (suc zero) = halved b
four a b c d l f (suc (suc zero)) = halved c
four a b c d l f (suc (suc (suc zero))) = halved d
four a b c d l f (suc (suc (suc (suc i)))) = f i

octet-bits : (o : ℕ) → Bits (octet_bits o)
unfolding octet_bits
octet-bits o =
    four (o / 128) (o / 64) (o / 32) (o / 16) ((o / 8 % 2) ∷ (o / 4 % 2) ∷ (o / 2 % 2) ∷ (o % 2) ∷ []) (four (o / 8) (o / 4) (o / 2) o [] no_bit)

all-bits : (l : List ℕ) → Bits (all_bits l)
unfolding all_bits
all-bits [] = no_bit
all-bits (o ∷ l) = joined (octet_bits o) (all_bits l) (octet-bits o) (all-bits l)

stored-bits : (c : List ℕ) → Bits (bits_of c)
unfolding bits_of
stored-bits [] = no_bit
stored-bits (u ∷ l) = some_of (8 * length l - u) (all_bits l) (all-bits l)

hex-bits : (l : List ℕ) → Bits (hex_bits l)
unfolding hex_bits
hex-bits [] = no_bit
hex-bits (b ∷ l) = four (nibble b / 8) (nibble b / 4) (nibble b / 2) (nibble b) (hex_bits l) (hex-bits l)

text-bits : (l : List ℕ) → every is_bit l ≡ true → Bits (text_bits l)
unfolding text_bits
text-bits [] e = no_bit
text-bits (b ∷ l) e =
    let w = both_true (is_bit b) (every is_bit l) (sym (every-cons is_bit b l) ∙ e) in
    let h = leb-true b 49 (both_true (leb 48 b) (leb b 49) w.0).1 in
    one_more (b - 48) (text_bits l) (omega arith) (text-bits l w.1)

asserted-bits : (t : List ℕ) → Bits (asserted_bits t)
unfolding asserted_bits is_bit_text
asserted-bits t = go (is_bit_text t) refl
  where
    go : (u : Bool) → is_bit_text t ≡ u → Bits (pick u (text_bits (digits t)) (hex_bits (digits t)))
    go true e = text-bits (digits t) (both_true (in_quotes 66 t) (every is_bit (digits t)) e).1
    go false e = hex-bits (digits t)

listed-bits : (k n : ℕ) (ns : List ℕ) → Bits (bits_listed k n ns)
unfolding bits_listed
listed-bits zero n ns = no_bit
listed-bits (suc k) n ns = one_more (pick (is_in n ns) 1 0) (bits_listed k (n + 1) ns) (low (is_in n ns)) (listed-bits k (n + 1) ns)
  where
    low : (u : Bool) → pick u 1 0 < 2
    low true = omega arith
    low false = omega arith

-- where they are, the one-bits say all
ones_say : (a b : List ℕ) → Bits a → Bits b → SameOnes a b → (i : ℕ) → get_or a i 0 ≡ get_or b i 0
ones_say a b f g same i = go (get_or a i 0) (get_or b i 0) (f i) (g i) (same i)
  where
    go : (x y : ℕ) → x < 2 → y < 2 → eqb x 1 ≡ eqb y 1 → x ≡ y
    go zero zero p q e = refl
    go zero (suc zero) p q e = absurd (eqb-false 0 1 refl (eqb-true 0 1 e))
    go (suc zero) zero p q e = absurd (eqb-false 0 1 refl (eqb-true 0 1 (sym e)))
    go (suc zero) (suc zero) p q e = refl
    go (suc (suc x)) y p q e = absurd (omega arith)
    go zero (suc (suc y)) p q e = absurd (omega arith)
    go (suc zero) (suc (suc y)) p q e = absurd (omega arith)

-- ---- the match
-- a text that conforms asserts bits, and the rule accepts the stored ones exactly where the sets of one-bits are the same
pub record Matches (a : Asserted) : Type 0 where
  pub bits : List ℕ
  pub asserted : a ≡ named_bits bits
  pub forth : (c : List ℕ) → accepts_contents (equal bit_strings) a c ≡ true → SameOnes (bits_of c) bits
  pub back : (c : List ℕ) → SameOnes (bits_of c) bits → accepts_contents (equal bit_strings) a c ≡ true

matches : (l : List ℕ) → Bits l → Matches (named_bits l)
unfolding accepts_contents is_equal
matches l f =
    record {
      bits = l;
      asserted = refl;
      forth = λ c e i. ap (λ (x : ℕ). eqb x 1) (trimmed-alike (bits_of c) l e i);
      back = λ c same. alike-trimmed (bits_of c) l (ones_say (bits_of c) l (stored-bits c) f same);
    }

pub named_match : (names : List NamedBit) (t : List ℕ) (a : Asserted) → asserted_of (equal bit_strings) (of_type (basic named_bit_string names)) t ≡ Some a
    → Matches a
unfolding asserted_of asserted_in asserted_bits_by listed_bits
named_match names t a = go (is_bits t) (listed t)
  where
    by-numbers : (o : Option (List ℕ)) → bind (bind o (λ ns. Some (bits_listed 64 0 ns))) (λ l. Some (named_bits l)) ≡ Some a → Matches a
    by-numbers None e = none-some a e
    by-numbers (Some ns) e = subst Matches (some_same (named_bits (bits_listed 64 0 ns)) a e) (matches (bits_listed 64 0 ns) (listed-bits 64 0 ns))

    go : (u : Bool) (o : Option (List (List ℕ)))
        → pick u (Some (named_bits (asserted_bits t))) (bind (bind o (λ xs. bind (numbers_of names xs) (λ ns. Some (bits_listed 64 0 ns))))
        (λ l. Some (named_bits l))) ≡ Some a → Matches a
    go true o e = subst Matches (some_same (named_bits (asserted_bits t)) a e) (matches (asserted_bits t) (asserted-bits t))
    go false None e = none-some a e
    go false (Some xs) e = by-numbers (numbers_of names xs) e

-- ---- a list of names
-- its one-bits are those whose number a listed name has
ones_from : (k n : ℕ) (ns : List ℕ) (i : ℕ) → i < k → isOne (bits_listed k n ns) i ≡ is_in (n + i) ns
unfolding bits_listed
ones_from zero n ns i h = absurd (omega arith)
ones_from (suc k) n ns zero h = let z : n + 0 ≡ n = omega arith in go (is_in n ns) ∙ ap (λ (x : ℕ). is_in x ns) (sym z)
  where
    go : (u : Bool) → eqb (pick u 1 0) 1 ≡ u
    go true = refl
    go false = refl
ones_from (suc k) n ns (suc i) h = let z : n + 1 + i ≡ n + suc i = omega arith in ones_from k (n + 1) ns i (omega arith) ∙ ap (λ (x : ℕ). is_in x ns) z

pub listed_ones : (names : List NamedBit) (t : List ℕ) (xs : List (List ℕ)) (ns : List ℕ) → listed t ≡ Some xs → numbers_of names xs ≡ Some ns
    → (l : List ℕ) × (listed_bits names t ≡ Some l) × ((i : ℕ) → i < 64 → isOne l i ≡ is_in i ns)
unfolding listed_bits
listed_ones names t xs ns e h = (bits_listed 64 0 ns, rw (e, h), λ i l. let z : 0 + i ≡ i = omega arith in ones_from 64 0 ns i l ∙ ap (λ (x : ℕ). is_in x ns) z)
