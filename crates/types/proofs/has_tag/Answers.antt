use Rattle.types.proofs.SoundLaws.{tag_fits, tag_bit}
use Rattle.types.proofs.has_tag.Goals as goal

pub overflow_shr-result : goal.overflow_shr-result
overflow_shr-result c = search tag_fits

pub returns : goal.returns
returns c = search tag_bit
