-- A value that is decoded before one end is decoded before any end that it lies within.
use mathlib.Core.Path.{◌≡◌, sym, ap, ◌∙◌}
use mathlib.Core.Bool.{Bool}
use mathlib.Core.List.{List}
use Prim.Native.Nat.{ℕ, ◌≤◌, ◌<◌}
use native.Mathlib.Omega.{arith}
use borrow.Author.Tests.{lt-ltb}
use Rattle.octets.specs.Pick.{both}
use Rattle.octets.specs.Octets.{octet}
use Rattle.der.specs.Tag.{tag_of, wrapper_octet}
use Rattle.der.proofs.Laws.{inside-before}
use Rattle.types.specs.Types.{Tagging, Member, Ty, Members}
use Rattle.types.specs.Begins.{member_begins}
use Rattle.value.specs.Value.{Spot, Value}
use Rattle.value.specs.Decode.{starts_here}
use Rattle.value.proofs.Decodes.{Behind, Decodes, is_basic_type, is-sequence, is-choice, is-list, Tagged, bare, filling, Chosen, this, other}
use Rattle.value.proofs.Decodes.{framed, own-choice}
use Rattle.value.proofs.Laws.{framed_long, framed_within}

-- whether a member can begin here doesn't depend on the end
pub starts-before : (m : Member) (ty : Ty) (v : List ℕ) (end stop at : ℕ) → at < end → at < stop → starts_here m ty v end at ≡ starts_here m ty v stop at
unfolding starts_here
starts-before m ty v end stop at h g = ap (λ (x : Bool). both x (member_begins m ty (tag_of (octet v at)))) (lt-ltb at end h ∙ sym (lt-ltb at stop g))

module _ {v : List ℕ} (stop : ℕ) where
  starts-same : (m : Member) (ty : Ty) {end at : ℕ} {ms : Members} {x : Value} {after : ℕ} → Chosen v end at ms x after → after ≤ stop
      → starts_here m ty v stop at ≡ starts_here m ty v end at
  starts-same m ty {end = end} {at = at} c h =
      let f = framed (own-choice c) in
      let a = framed_long f in
      let b = framed_within f in
      starts-before m ty v stop end at (omega arith) (omega arith)

  behind-before : {o at end start n : ℕ} {s : Spot} {after : ℕ} → Behind v o at end start n s after → after ≤ stop → Behind v o at stop start n s after
  behind-before {o = o} {at = at} {end = end} {start = start} {n = n} b h =
      let z = b.ends in
      record { header = inside-before o v at end stop start n b.header (omega arith); spot = b.spot; ends = z }

  mutual
    pub before : {ty : Ty} {g : Tagging} {at end : ℕ} {x : Value} {after : ℕ} → Decodes v ty g at end x after → after ≤ stop → Decodes v ty g at stop x after
    before (is_basic_type b l) h = is_basic_type (behind-before b h) l
    before (is-sequence b w) h = is-sequence (behind-before b h) w
    before (is-choice c) h = is-choice (choice-before c h)
    before (is-list b w r) h = is-list (behind-before b h) w r

    tagged-before : {ty : Ty} {g : Tagging} {at end : ℕ} {x : Value} {after : ℕ} → Tagged v ty g at end x after → after ≤ stop → Tagged v ty g at stop x after
    tagged-before (bare q d) h = bare q (before d h)
    tagged-before (filling {k = k} {at = at} {end = end} {start = start} {n = n} e d q) h =
        filling (inside-before (wrapper_octet k) v at end stop start n e (omega arith)) d q

    pub choice-before : {end at : ℕ} {ms : Members} {x : Value} {after : ℕ} → Chosen v end at ms x after → after ≤ stop → Chosen v stop at ms x after
    choice-before (this {m = m} {ty = ty} {ms = ms} q t b) h = this (starts-same m ty (this {ms = ms} q t b) h ∙ q) (tagged-before t h) (behind-before b h)
    choice-before (other {m = m} {ty = ty} q c) h = other (starts-same m ty c h ∙ q) (choice-before c h)
