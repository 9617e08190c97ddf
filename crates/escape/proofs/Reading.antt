-- A name's reader on an escaped text.
use Rattle.std.specs.Prelude.{Result, Ok, Err}
use mathlib.Core.Path.{◌≡◌, refl, sym, ap, subst, ◌∙◌}
use mathlib.Core.Bool.{true, false≢true}
use Rattle.std.specs.Prelude.{Some}
use mathlib.Core.List.{List, [], ◌∷◌, ◌++◌}
use Prim.Native.Nat.{ℕ}
use native.Mathlib.Omega.{arith}
use lib.Dec.{eqb}
use lib.ListN.{length, take, drop}
use lib.Seq.{take_at}
use Rattle.octets.specs.Pick.{either, bind}
use Rattle.octets.specs.Utf8.{utf8}
use Rattle.octets.proofs.Laws.{pick_cases}
use Rattle.der.specs.Dotted.{is_dotted}
use Rattle.names.specs.Rfc4514.{letters, up_to_end, from_end, with_value, attribute_from}
use Rattle.names.proofs.Laws.{letters-bare}
use Rattle.escape.specs.Escape.{escaped_text, Escaping, escaping, written, fits, escaped_into, escaped_report}
use Rattle.escape.specs.Reading.{ends_value, pair_with, ReadsAs, Reads}
use Rattle.escape.specs.declared.EscapeError.{EscapeError}
use Rattle.escape.proofs.Types.{type-read}
use Rattle.escape.proofs.Unicode.{utf8-joined, utf8-escaped}
use Rattle.escape.proofs.Letters.{letters_for, letters-escaped, up_to-end, from-end, octets-back, string-escaped}

-- ---- what stands behind a value isn't read with it
behind-bare : (b : ℕ) → either (eqb b 43) (eqb b 44) ≡ true → b ≡ 92 → ⊥
behind-bare b f e = false≢true (sym (ap (λ (k : ℕ). either (eqb k 43) (eqb k 44)) e) ∙ f)

none_read : (s : List ℕ) → ends_value s ≡ true → up_to_end (letters s) ≡ []
unfolding letters up_to_end
none_read [] e = refl
none_read (b ∷ s) e = rw (letters-bare b s (behind-bare b e), e)

all_left : (s : List ℕ) → ends_value s ≡ true → from_end (letters s) ≡ letters s
unfolding letters from_end
all_left [] e = refl
all_left (b ∷ s) e = rw (letters-bare b s (behind-bare b e), e)

-- ---- the value
module _ (t after : List ℕ) (e : ends_value after ≡ true) where
  value-letters : up_to_end (letters (escaped_text t ++ after)) ≡ letters_for true t
  value-letters = ap up_to_end (letters-escaped t true after) ∙ up_to-end t true (letters after) (none_read after e)

  left-letters : from_end (letters (escaped_text t ++ after)) ≡ letters after
  left-letters = ap from_end (letters-escaped t true after) ∙ from-end t true (letters after) (all_left after e)

  pub attribute-escaped : (type : List ℕ) → is_dotted type ≡ true → utf8 t ≡ true
      → attribute_from (letters (pair_with type (escaped_text t) after)) ≡ Some (record { got = record { type = type; value = t }; rest = letters after })
  unfolding attribute_from
  attribute-escaped type d u =
      ap (λ r. bind r with_value) (type-read type (escaped_text t ++ after) d)
      ∙ rw (value-letters, left-letters, d, string-escaped t u, octets-back t true)

pub escaped-reads : (t : List ℕ) → utf8 t ≡ true → ReadsAs t (escaped_text t)
escaped-reads t u = record {
  attribute = λ type after d e. attribute-escaped t after e type d u;
  characters = λ before after e. utf8-joined before (escaped_text t ++ after) e ∙ utf8-joined (escaped_text t) after (utf8-escaped t ∙ u);
}

-- ---- what was written is read so
abbrev Read : List ℕ → Escaping → Type 0
Read t x = Reads x.answer t x.memory

read_none : (t : List ℕ) (x : Escaping) → ((n : ℕ) → x.answer ≡ Ok n → ⊥) → Read t x
read_none t x f = record { written = λ n e. absurd (f n e) }

read-written : (t room : List ℕ) → utf8 t ≡ true → Read t (written t room)
read-written t room u = record {
  written = λ n e. let z : n ≡ length (escaped_text t) = cc in subst (ReadsAs t) (sym (octets n z)) (escaped-reads t u);
}
  where
    octets : (n : ℕ) → n ≡ length (escaped_text t) → take n (escaped_text t ++ drop (length (escaped_text t)) room) ≡ escaped_text t
    octets n z = take_at (escaped_text t) (drop (length (escaped_text t)) room) n (sym z)

report-read : (t room : List ℕ) → Read t (escaped_report t room)
unfolding escaped_report escaped_into
report-read t room =
    pick_cases (Read t) (utf8 t) _ _
    (λ u. pick_cases (Read t) (fits t (length room)) _ _ (λ _. read-written t room u)
    (λ _. read_none t (escaping (Err EscapeError.TooLittleRoom) room) (λ n e. let z : ◌≡◌ {A = ℕ} 0 1 = cc in omega arith)))
    (λ _. read_none t (escaping (Err EscapeError.NotUtf8) room) (λ n e. let z : ◌≡◌ {A = ℕ} 0 1 = cc in omega arith))

pub reads_report : (t room m : List ℕ) (r : Result ℕ EscapeError) → escaping r m ≡ escaped_report t room → Reads r t m
reads_report t room m r e = subst (Read t) (sym e) (report-read t room)
