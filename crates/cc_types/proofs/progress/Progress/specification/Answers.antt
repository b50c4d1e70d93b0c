use Rattle.std.proofs.Common.{rules, refl}
use Rattle.cc_types.proofs.Passings.{goes-specification}
use Rattle.cc_types.proofs.progress.Progress.specification.Goals as goal

pub returns-clause-goes : goal.returns-clause-goes
returns-clause-goes c =
    goes-specification c.args.self.now _ c.args.least.now c.specification.new.least c.args.x c.args.types.now c.args.transactions.now _ c.in_ok-taken.taken c.contains-there.result c.in_ok-number.number refl (search rules) (search rules) (search rules) (search rules) (search rules) (search rules) (search rules) (search rules) (search rules) (search rules)
