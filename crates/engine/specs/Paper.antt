-- Document 01's numbers.
use Rattle.rows.specs.Paper.{table_limits}
use Rattle.value.specs.Paper.{value_limits}
use Rattle.filter.specs.Paper.{filter_limits}
use Rattle.engine.specs.Limits.{Limits}

abbrev pub limits : Limits
limits = record { table = table_limits; value = value_limits; filter = filter_limits; reference = 2048; budget = 65535 }
