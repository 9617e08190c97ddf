use Rattle.octets.proofs.Steps.{pair-times, pair-plus}
use Rattle.octets.proofs.hex_octet.Goals as goal

pub overflow_mul-result : goal.overflow_mul-result
overflow_mul-result c = record { fits = search pair-times }

pub overflow_add-result : goal.overflow_add-result
overflow_add-result c = record { fits = search pair-plus }
