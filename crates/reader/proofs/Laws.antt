-- A reader sees each value of a stored value at that value's place.
use mathlib.Core.Path.{◌≡◌, subst}
use Rattle.std.specs.Prelude.{Some}
use mathlib.Core.List.{List}
use Prim.Native.Nat.{ℕ, ◌≤◌}
use native.Mathlib.Omega.{arith}
use lib.ListN.{length}
use Rattle.der.specs.Tag.{wrapper_octet}
use Rattle.der.specs.Header.{header_at}
use Rattle.der.proofs.Laws.{header-within, header-before, inside_view, inside-within}
use Rattle.types.specs.Types.{Tagging, Ty, Members}
use Rattle.value.specs.Value.{Spot, spot_at, Value, Fields, Values}
use Rattle.value.specs.Decode.{stored_value}
use Rattle.value.proofs.Decodes.{Behind, Decodes, is_basic_type, is-sequence, is-choice, is-list, Tagged, bare, filling}
use Rattle.value.proofs.Decodes.{Fielded, none_left, there, lacks, Chosen, this, other, Elements, ends, goes, decodes-stored}
use Rattle.reader.specs.There.{header_there, contents_there}
use Rattle.reader.specs.Inner.Reads.{size_there, next_there, value_there}
use Rattle.reader.specs.Inner.Sees.{Sees, SeesAll, SeesFields, SeesElements}

sees_there : (v : List ℕ) (at o start n : ℕ) → header_there v at ≡ Some (o, start, n) → Sees v (spot_at v at start n)
unfolding size_there next_there value_there contents_there spot_at
sees_there v at o start n e = record { size = rw e; after = rw e; octets = rw e; contents = rw e }

-- the header before an end within the octets is the one before the octets' end
sees_header : (v : List ℕ) (at end o start n : ℕ) → end ≤ length v → header_at v at end ≡ Some (o, start, n) → Sees v (spot_at v at start n)
unfolding header_there
sees_header v at end o start n h e = let w = header-within v at end o start n e in sees_there v at o start n (header-before v at end (length v) o start n e (omega arith))

module _ {v : List ℕ} where
  module _ {o at end start n : ℕ} {s : Spot} {after : ℕ} (b : Behind v o at end start n s after) (h : end ≤ length v) where
    sees_behind : Sees v s
    sees_behind = subst (Sees v) b.spot (sees_header v at end o start n h (inside_view o v at end start n b.header))

    behind-within : after ≤ length v
    behind-within = let w = inside-within o v at end start n b.header in let e = b.ends in omega arith

  mutual
    unfolding SeesAll

    sees : {ty : Ty} {g : Tagging} {at end : ℕ} {x : Value} {after : ℕ} → Decodes v ty g at end x after → end ≤ length v → SeesAll v x
    sees (is_basic_type b l) h = sees_behind b h
    sees (is-sequence b w) h = (sees_behind b h, sees-fields w (behind-within b h))
    sees (is-choice c) h = sees_choice c h
    sees (is-list b w r) h = (sees_behind b h, sees_elements w (behind-within b h))

    -- under any tag mode
    sees_tagged : {ty : Ty} {g : Tagging} {at end : ℕ} {x : Value} {after : ℕ} → Tagged v ty g at end x after → end ≤ length v → SeesAll v x
    sees_tagged (bare q d) h = sees d h
    sees_tagged (filling {k = k} {at = at} {end = end} {start = start} {n = n} e d q) h =
        let w = inside-within (wrapper_octet k) v at end start n e in sees d (omega arith)

    sees_choice : {end at : ℕ} {ms : Members} {x : Value} {after : ℕ} → Chosen v end at ms x after → end ≤ length v → SeesAll v x
    sees_choice (this q t b) h = (sees_behind b h, sees_tagged t h)
    sees_choice (other q c) h = sees_choice c h

    sees-fields : {stop : ℕ} {ms : Members} {i : ℕ} {fs : Fields} → Fielded v stop ms i fs → stop ≤ length v → SeesFields v fs
    sees-fields (none_left q) h = tt
    sees-fields (there q t d w) h = (sees_tagged t h, sees-fields w h)
    sees-fields (lacks q m w) h = sees-fields w h

    sees_elements : {ty : Ty} {stop k i : ℕ} {xs : Values} → Elements v ty stop k i xs → stop ≤ length v → SeesElements v xs
    sees_elements (ends q) h = tt
    sees_elements (goes q d w) h = (sees d h, sees_elements w h)

-- of a stored value, at the place of each value in it
pub stored-seen : (ty : Ty) (v : List ℕ) (x : Value) → stored_value ty v ≡ Some x → SeesAll v x
stored-seen ty v x e = sees (decodes-stored ty v x e) (omega arith)
