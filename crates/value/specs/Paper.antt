-- Document 01's numbers and its licence record, for computed examples.
use Rattle.std.specs.Prelude.{ℕ, List}
use Rattle.octets.specs.Octets.{hex}
use Rattle.value.specs.Limits.{Limits}

abbrev pub value_limits : Limits
value_limits = record { least = 2; most = 4096 }

-- "Value, 23 octets"
abbrev pub licence_record : List ℕ
licence_record = hex "30150C026531300F30041302566C300713025661800103"
