use Rattle.cc_source.proofs.Conversions.{convert-err}
use Rattle.cc_source.specs.Gives.{left, scope, structures_of}
use Rattle.cc_source.proofs.evaluator.Evaluator.convert_number.Goals as goal

pub returns-in-Err-clause-value : goal.returns-in-Err-clause-value
returns-in-Err-clause-value c =
    let self = c.args.self.now in
    let run = c.args.run.now in
    convert-err (structures_of self) c.args.from c.args.to c.args.cells.now c.in-Err.kind (scope self run) (left run) c.requires.arithmetic c.requires.assignable c.in-Err.ensures.number
