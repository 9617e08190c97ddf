-- Decoded values on the octets: a value that is decoded at a place is opened there, and its parts stand where the walk opens them.
use mathlib.Core.Path.{◌≡◌, sym, ap, ap₂, ◌∙◌, subst}
use mathlib.Core.Bool.{true}
use Rattle.std.specs.Prelude.{Option, Some}
use mathlib.Core.List.{List}
use Prim.Native.Nat.{ℕ, ◌+◌}
use borrow.Author.Tests.{eq-eqb}
use lib.Dec.{eqb}
use Rattle.der.specs.Header.{header_at, inside_at, opened}
use Rattle.der.proofs.Laws.{inside_view, some_triple_parts}
use Rattle.types.specs.Types.{Tagging, explicit, Ty}
use Rattle.value.specs.Value.{Spot, spot_of, Value}
use Rattle.value.proofs.Views.{in_bare, in_explicit}
use Rattle.value.proofs.Decodes.{Behind, Decodes, is_basic_type, is-sequence, is-choice, is-list, Tagged, bare, filling, own}
use Rattle.value.proofs.Laws.{begins_chosen}
use Rattle.misfit.specs.Opened.{Opened, opened_spot, after, own_header, opened_as, open_own, open_at}

-- ---- a value stands where it is opened
pub record Stands (ty : Ty) (v : List ℕ) (o : Opened) (x : Value) : Type 0 where
  pub tagging : Tagging
  pub end : ℕ
  pub decodes : Decodes v ty tagging o.place end x (after o)
  pub octet : ℕ
  pub header : header_at v o.place end ≡ Some (octet, o.start, o.span)
  pub spot : opened_spot v o ≡ spot_of x

-- the contents of one header start at one place, and have one length
module _ {v : List ℕ} {o at end start n : ℕ} {s : Spot} {last : ℕ} (b : Behind v o at end start n s last)
    {u from m : ℕ} (h : header_at v at end ≡ Some (u, from, m)) where
  same-header : ◌≡◌ {A = Option (ℕ × ℕ × ℕ)} (Some (o, start, n)) (Some (u, from, m))
  same-header = sym (inside_view o v at end start n b.header) ∙ h

  pub same_start : start ≡ from
  same_start = (some_triple_parts o u start from n m same-header).1

  pub same_span : n ≡ m
  same_span = (some_triple_parts o u start from n m same-header).2

  same-inside : inside_at o v at end ≡ Some (from, m)
  same-inside = b.header ∙ ap₂ (λ (i k : ℕ). Some (i, k)) same_start same_span

-- the header of a decoded value
own-opened : {ty : Ty} {g : Tagging} {v : List ℕ} {at end : ℕ} {x : Value} {last : ℕ} → Decodes v ty g at end x last → {octet start n : ℕ}
    → header_at v at end ≡ Some (octet, start, n) → own_header ty g v at end ≡ Some (start, n)
unfolding own_header
own-opened (is_basic_type b l) h = same-inside b h
own-opened (is-sequence b w) h = same-inside b h
own-opened (is-choice c) h = rw (begins_chosen c, h)
own-opened (is-list b w r) h = same-inside b h

-- opened inside its wrapper, where there is one
abbrev Standing : Ty → List ℕ → Option Opened → Value → ℕ → Type 0
Standing ty v found x last = (o : Opened) × (found ≡ Some o) × (Stands ty v o x) × (after o ≡ last)

open_inner : {ty : Ty} {g : Tagging} {v : List ℕ} {at end : ℕ} {x : Value} {last : ℕ} → Decodes v ty g at end x last
    → Standing ty v (open_own ty g v at end) x last
open_inner {ty = ty} {g = g} {v = v} {at = at} {end = end} {x = x} d =
    let w = own d in
    let h = inside_view w.octet v at end w.start w.n w.behind.header in
    let o : Opened = record { place = at; start = w.start; span = w.n } in
    let e : after o ≡ _ = w.behind.ends in (
      o,
      ap (λ (i : Option (ℕ × ℕ)). opened i (opened_as at)) (own-opened d h),
      record { tagging = g; end = end; decodes = subst (Decodes v ty g at end x) (sym e) d; octet = w.octet; header = h; spot = w.behind.spot },
      e,
    )

pub open_decoded : {ty : Ty} {g : Tagging} {v : List ℕ} {at end : ℕ} {x : Value} {last : ℕ} → Tagged v ty g at end x last
    → Standing ty v (open_at ty g v at end) x last
unfolding open_at
open_decoded {v = v} (bare {ty = ty} {g = g} {at = at} {end = end} q d) =
    let s = open_inner d in (s.0, in_bare after g (open_own ty g v) v at end q ∙ s.1, s.2, s.3)
open_decoded {v = v} (filling {ty = ty} {k = k} {at = at} {end = end} {start = start} {n = n} e d q) =
    let s = open_inner d in
    let full : eqb (after s.0) (start + n) ≡ true = eq-eqb (after s.0) (start + n) (s.3 ∙ q) in
    (s.0, in_explicit after k (open_own ty (explicit k) v) v at end ∙ rw (e, s.1, full), s.2, s.3)
