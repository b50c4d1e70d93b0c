use Rattle.std.proofs.Common.{ap, ◌∙◌}
use Rattle.cc_faults.specs.Scopes.{is_among}
use Rattle.cc_declared.proofs.Keys.{among}
use Rattle.cc_declared.proofs.seen.Seen.contains.Goals as goal

pub returns : goal.returns
returns c =
    record { contains = c.contains.ensures ∙ among c.args.name c.self.inside.set.keys ∙ ap (λ ks. is_among ks c.args.name) c.self.view_is }
