use Rattle.std.proofs.Common.{rules}
use Rattle.cc_types.proofs.Passings.{goes-body}
use Rattle.cc_types.proofs.progress.Progress.body.Goals as goal

pub returns-clause-goes : goal.returns-clause-goes
returns-clause-goes c =
    goes-body c.args.self.now _ c.args.least.now c.body.new.least c.args.x c.args.names.now c.args.block.now c.in_ok-taken.taken (search rules) (search rules) (search rules) (search rules) (search rules) (search rules) (search rules) (search rules)
