-- A plain member by its first tag octet alone.
use mathlib.Core.Path.{◌≡◌, refl, sym, ap, ◌∙◌}
use mathlib.Core.Bool.{Bool, true, false, not}
use mathlib.Core.List.{List}
use Prim.Native.Nat.{ℕ, ◌≤◌, ◌<◌}
use borrow.Author.Tests.{eq-eqb}
use lib.ListN.{length}
use Rattle.std.specs.Prelude.{Option, None}
use Rattle.octets.specs.Octets.{octet}
use Rattle.der.specs.Tag.{class, number}
use Rattle.der.specs.Header.{inside_at}
use Rattle.der.proofs.Laws.{other-octet}
use Rattle.rows.specs.Paper.{table_limits}
use Rattle.rows.specs.Row.{kind_at, is_member, mode_at, number_at}
use Rattle.types.specs.Types.{Tagging}
use Rattle.table.specs.Inner.Rows.{table_rows, place_at, member_at, tagging_at, member_type_at, member_kind_at}
use Rattle.table.specs.Inner.Words.{first_octet, how, Worded}
use Rattle.value.specs.Decode.{starts_here}
use Rattle.value.specs.Inner.Work.{same_tag, plain_of, plain_checked, absent_checked, member_checked}
use Rattle.value.proofs.ModeSteps.{plain-choice, plain_tag}
use Rattle.value.proofs.TagSteps.{begins-same, first_usable, starts-past, starts_is}
use Rattle.value.proofs.MemberSteps.{member_absent, by-plain}

module _ (t w : List ℕ) (row : ℕ) (ok : Worded t w) (here : row < length (table_rows t)) (member : is_member (kind_at t (place_at t row)) ≡ true)
    (plain : how (member_kind_at t row) (mode_at t (place_at t row)) ≡ 0) (v : List ℕ) (i stop : ℕ) where
  abbrev p : ℕ
  p = place_at t row

  abbrev k : ℕ
  k = member_kind_at t row

  abbrev g : Tagging
  g = tagging_at t row

  pub plain-past : (r : Option ℕ) → stop ≤ i → r ≡ absent_checked t p i → r ≡ member_checked (member_at t row) (member_type_at t row) v stop i
  plain-past r h e =
      member_absent table_limits.chain t (table_rows t) ok.m row ok.ready here member v i stop false
      (starts-past t w row ok here member v stop i h) r refl e

  pub seen_usable : octet v i ≡ first_octet g k → number (octet v i) < 31
  seen_usable e = first_usable t w row ok here member (octet v i) e

  module _ (l : i < stop) (f u : ℕ) (first : f ≡ first_octet g k) (read : u ≡ octet v i) where
    pub seen-is : u ≡ f → octet v i ≡ first_octet (tagging_at t row) (member_kind_at t row)
    seen-is h = sym read ∙ h ∙ first

    starts : same_tag f u ≡ starts_here (member_at t row) (member_type_at t row) v stop i
    starts =
        ap (same_tag f) read
        ∙ starts_is t w row ok here member v stop i (same_tag f (octet v i)) l
        (begins-same t w row ok here member f (octet v i) first (plain-choice k (mode_at t p) plain))

    pub plain_absent : (x : Bool) (r : Option ℕ) → x ≡ same_tag f u → x ≡ false → r ≡ absent_checked t p i
        → r ≡ member_checked (member_at t row) (member_type_at t row) v stop i
    plain_absent x r a h e = member_absent table_limits.chain t (table_rows t) ok.m row ok.ready here member v i stop x (a ∙ starts) r (ap not h) e

    there : same_tag f u ≡ true → plain_checked t p k g v i stop ≡ member_checked (member_at t row) (member_type_at t row) v stop i
    there h = by-plain table_limits.chain t (table_rows t) ok.m row ok.ready here member v i stop (same_tag f u) starts h plain

    pub plain_here : (r : Option ℕ) → u ≡ f → r ≡ plain_checked t p k g v i stop → r ≡ member_checked (member_at t row) (member_type_at t row) v stop i
    unfolding same_tag
    plain_here r h e = e ∙ there (rw (h, eq-eqb (number f) (number f) refl, eq-eqb (class f) (class f) refl))

    pub plain-wrong : (x : Bool) → (u ≡ f → ⊥) → x ≡ same_tag f u → x ≡ true → None ≡ member_checked (member_at t row) (member_type_at t row) v stop i
    unfolding plain_checked
    plain-wrong x h a b =
        ap (plain_of t p k v)
        (sym (ap (λ (y : ℕ). inside_at y v i stop) (sym (plain_tag k (mode_at t p) plain (number_at t p) f first))
        ∙ other-octet f v i stop (λ z. h (read ∙ z))))
        ∙ there (sym a ∙ b)
