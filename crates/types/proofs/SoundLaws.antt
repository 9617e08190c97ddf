-- An admitted table with its sets of tags, for the layers above: `Sound`, and what its sets say of a member.
use mathlib.Core.Path.{◌≡◌, ap, ◌∙◌, refl}
use mathlib.Core.Bool.{true}
use mathlib.Core.List.{List}
use Prim.Native.Nat.{ℕ, ◌<◌, ◌/◌, ◌^◌}
use lib.Dec.{eqb}
use lib.Bits.{bit_and}
use Rattle.der.specs.Tag.{tag_of}
use Rattle.der.proofs.Laws.{tag_small}
use Rattle.rows.specs.Limits.{Limits}
use Rattle.rows.specs.Row.{rows}
use Rattle.types.specs.Types.{type_at}
use Rattle.types.specs.Admitted.{admitted}
use Rattle.types.specs.Inner.Work.{bit_of, Masked, Sound}
use Rattle.types.proofs.BitSets.{bit_is}
use Rattle.types.proofs.Laws.{names-later, type-step, member-stands, member-formed, default-legal}

pub sound : (l : Limits) (t m : List ℕ) → admitted l t ≡ true → Masked l.chain t (rows l.rows t) m → Sound l.chain t (rows l.rows t) m
unfolding type_at
sound l t m ok masked = record {
  later = names-later l t ok;
  step = type-step l t ok;
  stands = λ i h j g. (member-stands l t ok i h j g).0;
  members = λ i h j g. (member-stands l t ok i h j g).1;
  presence = λ i h k. (member-formed l t ok i h k).presence;
  defaults = default-legal l t ok;
  masked = masked;
}

-- ---- a bit of a set, by the octet whose tag it is
pub tag_fits : (o g : ℕ) → g ≡ tag_of o → g < 64
tag_fits o g e = rw e (tag_small o)

pub tag_bit : (o g a : ℕ) → g ≡ tag_of o → eqb (bit_and (a / 2 ^ g) 1) 1 ≡ bit_of a (tag_of o)
tag_bit o g a e = bit_is a a g refl ∙ ap (bit_of a) e
