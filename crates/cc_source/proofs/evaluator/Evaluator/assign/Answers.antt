use Rattle.cc_source.proofs.Evaluations.{straight-variable}
use Rattle.cc_source.specs.Gives.{around}
use Rattle.cc_source.proofs.evaluator.Evaluator.assign.Goals as goal

pub set-requires-clause-typed : goal.set-requires-clause-typed
set-requires-clause-typed c = straight-variable (around c.args.self.now) c.args.to.now c.requires.straight c.requires.typed
