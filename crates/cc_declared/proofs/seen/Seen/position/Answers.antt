use Rattle.std.proofs.Common.{Some, ap, ◌∙◌}
use Rattle.cc_faults.specs.Scopes.{position}
use Rattle.cc_declared.proofs.Keys.{placed}
use Rattle.cc_declared.proofs.seen.Seen.position.Goals as goal

pub returns-in-None : goal.returns-in-None
returns-in-None c =
    record { position = c.in-None.ensures.index ∙ placed c.args.name c.self.inside.set.keys ∙ ap (λ ks. position ks c.args.name) c.self.view_is }

pub returns-in_ok-short-in-Some : goal.returns-in_ok-short-in-Some
returns-in_ok-short-in-Some c =
    record {
      position =
          ap Some c.in_ok-short-in-Some.ensures ∙ c.in-Some.ensures.index ∙ placed c.args.name c.self.inside.set.keys
          ∙ ap (λ ks. position ks c.args.name) c.self.view_is;
    }
