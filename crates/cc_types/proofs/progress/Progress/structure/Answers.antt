use Rattle.std.proofs.Common.{rules}
use Rattle.cc_types.proofs.Passings.{goes-structure}
use Rattle.cc_types.proofs.progress.Progress.structure.Goals as goal

pub returns-clause-goes : goal.returns-clause-goes
returns-clause-goes c =
    goes-structure c.args.self.now _ c.args.least.now c.structure.new.least c.args.x c.args.fields.now (search rules) (search rules) (search rules, search rules, search rules, search rules) (search rules)
