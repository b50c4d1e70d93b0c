use Rattle.cc_source.specs.Safe.{eval-safe}
use Rattle.cc_source.proofs.laws.straight_expressions_give_values_of_their_types.Goals as goal

pub returns : goal.returns
returns c = record { value = eval-safe }
