use Rattle.std.proofs.Common.{not, ap, ◌∙◌}
use Rattle.std.specs.List.{list_any}
use Rattle.std.specs.Prelude.{nat_eq}
use Rattle.cc_faults.specs.Scopes.{is_among}
use Rattle.cc_declared.specs.Lists.{and_once}
use Rattle.cc_declared.proofs.Keys.{among, inserted, twice-not}
use Rattle.cc_declared.proofs.seen.Seen.see.Goals as goal

pub returns-clause-before : goal.returns-clause-before
returns-clause-before c =
    ap not c.in_ok-is_new.ensures.added
    ∙ twice-not (list_any (nat_eq c.args.name) c.self.inside.set.keys)
    ∙ among c.args.name c.self.inside.set.keys
    ∙ ap (λ ks. is_among ks c.args.name) c.self.view_is

pub returns-clause-names : goal.returns-clause-names
returns-clause-names c =
    c.in_ok-is_new.ensures.keys ∙ inserted c.args.name c.self.inside.set.keys ∙ ap (λ ks. and_once ks c.args.name) c.self.view_is
