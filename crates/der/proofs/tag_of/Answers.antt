use Rattle.der.proofs.Steps.{tag_fits}
use Rattle.der.proofs.tag_of.Goals as goal

pub overflow_add-result : goal.overflow_add-result
overflow_add-result c = record { fits = search tag_fits }
