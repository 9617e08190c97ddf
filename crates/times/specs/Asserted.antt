-- Rules: "Times: quoted, only the stored form; order by date and time, then fraction." What a time says and the order are in der/specs/Time.
use Rattle.std.specs.Prelude.{ℕ, Bool, List}
use Rattle.std.specs.Prelude.{Option, None, Some}
use Rattle.octets.specs.Pick.{pick, both}
use Rattle.der.specs.Time.{legal_time, time_of}
use Rattle.der.specs.declared.Time.{Time}
use Rattle.strings.specs.Asserted.{is_text, asserted_text}

unfoldable pub is_time : List ℕ → Bool
is_time t = both (is_text t) (legal_time (asserted_text t))

-- the time that a value text asserts; none where it doesn't conform
unfoldable pub asserted_time : List ℕ → Option Time
asserted_time t = pick (is_time t) (Some (time_of (asserted_text t))) None
