use Rattle.std.proofs.Common.{rules}
use Rattle.cc_types.proofs.Passings.{goes-function}
use Rattle.cc_types.proofs.progress.Progress.function.Goals as goal

pub returns-clause-goes : goal.returns-clause-goes
returns-clause-goes c =
    goes-function c.args.self.now _ c.args.least.now c.function.new.least c.args.of c.args.x c.args.parameters.now c.args.block.now (search rules) (search rules) (search rules) (search rules, search rules, search rules, search rules)
