use Rattle.cc_typed.proofs.Partings.{field-part, element-part, offset-known, part-room, part-value}
use Rattle.cc_typed.proofs.laws.parts_of_types.Goals as goal

pub returns : goal.returns
returns c = record { field = field-part; element = element-part; offset = offset-known; room = part-room; value = part-value }
