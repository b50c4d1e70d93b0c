use Rattle.types_tests.proofs.Parsed.{hold}
use Rattle.types_tests.proofs.plain_trees.Goals as goal

pub returns : goal.returns
returns c = record { trees = hold }
