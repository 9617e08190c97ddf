-- The number of a bit by its name: one lemma for each return and each turn of the loop.
use mathlib.Core.Path.{◌≡◌, sym, ap, ap₂, ◌∙◌}
use mathlib.Core.Bool.{Bool, true, false}
use Rattle.std.specs.Prelude.{Option, None, Some}
use mathlib.Core.List.{List}
use Prim.Native.Nat.{ℕ, suc, ◌≤◌, ◌<◌, ◌+◌, ◌-◌}
use native.Mathlib.Omega.{arith}
use lib.ListN.{length}
use Rattle.octets.specs.Pick.{pick}
use Rattle.octets.specs.Octets.{same}
use Rattle.rows.specs.Row.{name_at, bit_number_at, bit_names_at, unfilled}
use Rattle.types.specs.Types.{bits_from}
use Rattle.table.specs.Inner.Rows.{table_rows, place_at}
use Rattle.table.specs.Inner.Words.{Worded}
use Rattle.bitnames.specs.Names.{number_of}
use Rattle.bitnames.specs.Inner.Sets.{names_after}

module _ (t w : List ℕ) (row n j : ℕ) (ok : Worded t w) (here : row < length (table_rows t)) (count : n ≡ bit_names_at t (place_at t row)) (l : j < n) where
  facts : (row + 1 + j < length (table_rows t)) × (bit_number_at t (place_at t (row + 1 + j)) ≤ 63)
  facts = ok.ready.bits row here j (omega arith)

  pub bit_here : row + 1 + j < length (table_rows t)
  bit_here = facts.0

  pub row_fits_lem : row + 1 < 18446744073709551616
  row_fits_lem = let f = ok.ready.few in omega arith

  pub bit_fits : row + 1 + j < 18446744073709551616
  bit_fits = let q = bit_here in let f = ok.ready.few in omega arith

  pub bit_low : (p o v : ℕ) → p ≡ place_at t (row + 1 + j) → o ≡ bit_number_at t p → v ≡ o → v < 64
  bit_low p o v e q h = let b : v ≤ 63 = rw (h, q, e) facts.1 in omega arith

pub number-count : (t : List ℕ) (row p n : ℕ) → p ≡ place_at t row → n ≡ bit_names_at t p → n ≡ bit_names_at t (place_at t row)
number-count t row p n e q = q ∙ ap (bit_names_at t) e

module _ (t : List ℕ) (row : ℕ) (x : List ℕ) where
  abbrev left : ℕ → ℕ → Option ℕ
  left n j = number_of (bits_from t (table_rows t) (row + 1 + j) (n - j)) x

  pub number-start : (p n : ℕ) → p ≡ place_at t row → n ≡ bit_names_at t p → left n 0 ≡ number_of (names_after t row) x
  number-start p n e q =
      let a : row + 1 + 0 ≡ row + 1 = omega arith in
      let b : n - 0 ≡ bit_names_at t (place_at t row) = (let z : n ≡ bit_names_at t (place_at t row) = q ∙ ap (bit_names_at t) e in omega arith) in
      ap₂ (λ (i k : ℕ). number_of (bits_from t (table_rows t) i k) x) a b

  module _ (n j : ℕ) (inv : left n j ≡ number_of (names_after t row) x) where
    pub number-none : n ≤ j → None ≡ number_of (names_after t row) x
    unfolding bits_from number_of
    number-none h = sym (let z : n - j ≡ 0 = omega arith in ap (λ (k : ℕ). number_of (bits_from t (table_rows t) (row + 1 + j) k) x) z) ∙ inv

    module _ (l : j < n) (p : ℕ) (u : Bool) (place : p ≡ place_at t (row + 1 + j)) (told : u ≡ same (unfilled (name_at t p)) x) where
      one : left n j ≡ pick u (Some (bit_number_at t p)) (left n (j + 1))
      unfolding bits_from number_of
      one =
          let z : n - j ≡ suc (n - (j + 1)) = omega arith in
          let a : row + 1 + j + 1 ≡ row + 1 + (j + 1) = omega arith in
          ap (λ (k : ℕ). number_of (bits_from t (table_rows t) (row + 1 + j) k) x) z
          ∙ ap (λ (i : ℕ). pick (same (unfilled (name_at t (place_at t (row + 1 + j)))) x) (Some (bit_number_at t (place_at t (row + 1 + j))))
          (number_of (bits_from t (table_rows t) i (n - (j + 1))) x)) a
          ∙ ap (λ (q : ℕ). pick (same (unfilled (name_at t q)) x) (Some (bit_number_at t q)) (left n (j + 1))) (sym place)
          ∙ ap (λ (y : Bool). pick y (Some (bit_number_at t p)) (left n (j + 1))) (sym told)

      pub number-found : (o v : ℕ) → u ≡ true → o ≡ bit_number_at t p → v ≡ o → Some v ≡ number_of (names_after t row) x
      number-found o v h q e = ap Some (e ∙ q) ∙ sym (one ∙ ap (λ (y : Bool). pick y (Some (bit_number_at t p)) (left n (j + 1))) h) ∙ inv

      pub number_again : u ≡ false → left n (j + 1) ≡ number_of (names_after t row) x
      number_again h = sym (one ∙ ap (λ (y : Bool). pick y (Some (bit_number_at t p)) (left n (j + 1))) h) ∙ inv
