-- Document 01's limits of a filter.
use Rattle.filter.specs.Limits.{Limits}

abbrev pub filter_limits : Limits
filter_limits = record { bytes = 2048; depth = 16; items = 64 }
