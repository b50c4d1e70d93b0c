use Rattle.std.proofs.Common.{◌≡◌, ap, ◌∙◌, map}
use Rattle.cc_names.specs.Names.{with_mention}
use Rattle.cc_names.proofs.Keys.{inserted}
use Rattle.cc_names.proofs.strings.Strings.mention.Goals as goal

pub returns : goal.returns
returns c =
    ap (map (λ k. k.now)) c.in_ok-insert_full.ensures.keys
    ∙ inserted (λ k. k.now) c.args.string c.self.inside.set.keys
    ∙ ap (λ xs. with_mention xs c.args.string.now) c.self.view_is
