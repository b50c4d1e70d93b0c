use Rattle.cc_typed.proofs.Partings.{same-type, type-same}
use Rattle.cc_typed.proofs.laws.types_are_the_same.Goals as goal

pub returns : goal.returns
returns c = record { equal = same-type; alike = type-same }
