use Rattle.std.proofs.Common.{rules}
use Rattle.cc_types.proofs.Passings.{goes-enumeration}
use Rattle.cc_types.proofs.progress.Progress.enumeration.Goals as goal

pub returns-clause-goes : goal.returns-clause-goes
returns-clause-goes c =
    goes-enumeration c.args.self.now _ c.args.least.now c.enumeration.new.least c.args.x c.args.constants.now (search rules) (search rules) (search rules, search rules, search rules, search rules) (search rules)
