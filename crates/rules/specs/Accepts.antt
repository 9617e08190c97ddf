-- Rules: "A rule accepts a named value where it is TRUE for it: presentMatch for any, an ordering rule for one less than the asserted, each other
-- rule here for an equal one, strings as prepared below." What the value text asserts is put to the contents c of a value.
use Rattle.std.specs.Prelude.{ℕ, Bool, true, false, List}
use Rattle.octets.specs.Pick.{pick, no}
use Rattle.octets.specs.Octets.{same, below}
use Rattle.der.specs.Time.{time_of, same_time, earlier}
use Rattle.der.specs.Meaning.{Whole, plus, same_whole, less_whole, integer_of, boolean_of, arcs_of, bits_of}
use Rattle.digits.specs.Named.{trimmed}
use Rattle.strings.specs.Prepared.{prepared}
use Rattle.names.specs.Compared.{same_rdn, same_name, stored_rdn, stored_name}
use Rattle.value.specs.Value.{spot_of}
use Rattle.reference.specs.Named.{Held, value, default_value, count_value}
use Rattle.reference.specs.Numbers.{Component, stored, by_default, by_count, contents_of}
use Rattle.rules.specs.Rule.{Rule, present, equal, less}
use Rattle.rules.specs.Asserted.{Asserted, any_value, truth, integer, arcs, octets, bits, named_bits, text, time, name, rdn}

-- an equal one; bits "equal in number and bit by bit", with names without their trailing zeros (document 02, Q-2);
-- distinguished names RDN by RDN (document 02, Q-3)
unfoldable pub is_equal : Asserted → List ℕ → Bool
is_equal any_value c = true
is_equal (truth b) c = pick (boolean_of c) b (no b)
is_equal (integer n) c = same_whole (integer_of c) n
is_equal (arcs l) c = same (arcs_of c) l
is_equal (octets l) c = same c l
is_equal (bits l) c = same (bits_of c) l
is_equal (named_bits l) c = same (trimmed (bits_of c)) (trimmed l)
is_equal (text fold l) c = same (prepared fold c) (prepared fold l)
is_equal (time u) c = same_time (time_of c) u
is_equal (name n) c = same_name (stored_name c) n
is_equal (rdn l) c = same_rdn (stored_rdn c) l

-- "Ordering is TRUE if the stored value is less"; of integers, octets and times
unfoldable pub is_less : Asserted → List ℕ → Bool
is_less any_value c = false
is_less (truth b) c = false
is_less (integer n) c = less_whole (integer_of c) n
is_less (arcs l) c = false
is_less (octets l) c = below c l
is_less (bits l) c = false
is_less (named_bits l) c = false
is_less (text fold l) c = false
is_less (time u) c = earlier (time_of c) u
is_less (name n) c = false
is_less (rdn l) c = false

unfoldable pub accepts_contents : Rule → Asserted → List ℕ → Bool
accepts_contents present a c = true
accepts_contents (equal s) a c = is_equal a c
accepts_contents (less s) a c = is_less a c

-- a test of an asserted integer; none is asserted where it is something else
abbrev pub of_integer : (Whole → Bool) → Asserted → Bool
of_integer test any_value = false
of_integer test (truth b) = false
of_integer test (integer n) = test n
of_integer test (arcs l) = false
of_integer test (octets l) = false
of_integer test (bits l) = false
of_integer test (named_bits l) = false
of_integer test (text fold l) = false
of_integer test (time u) = false
of_integer test (name n) = false
of_integer test (rdn l) = false

-- a count is an INTEGER
unfoldable pub accepts_count : Rule → Asserted → ℕ → Bool
accepts_count present a n = true
accepts_count (equal s) a n = of_integer (same_whole (plus n)) a
accepts_count (less s) a n = of_integer (less_whole (plus n)) a

-- what a reference names, in a decoded value
unfoldable pub accepts : Rule → Asserted → Held → Bool
accepts r a (value x) = accepts_contents r a (spot_of x).contents
accepts r a (default_value place m) = accepts_contents r a (contents_of m.presence)
accepts r a (count_value place n) = accepts_count r a n

-- the same of a component, as the octets have it
unfoldable pub accepts_component : Rule → Asserted → Component → Bool
accepts_component r a (stored s) = accepts_contents r a s.contents
accepts_component r a (by_default place m) = accepts_contents r a (contents_of m.presence)
accepts_component r a (by_count place n) = accepts_count r a n
