use Rattle.std.proofs.Common.{◌≡◌, sym, ap, ◌∙◌}
use Rattle.cc_names.specs.Names.{number_in}
use Rattle.cc_names.proofs.Keys.{number-found, number-missing}
use Rattle.cc_names.proofs.strings.Strings.found.Goals as goal

pub returns-in-Some : goal.returns-in-Some
returns-in-Some c =
    number-found (λ k. k.now) c.args.string.now c.self.inside.set.keys c.in-Some.at (sym c.in-Some.ensures.index)
    ∙ ap (λ xs. number_in xs c.args.string.now) c.self.view_is

pub returns-in-None : goal.returns-in-None
returns-in-None c =
    c.len.ensures.len
    ∙ number-missing (λ k. k.now) c.args.string.now c.self.inside.set.keys (sym c.in-None.ensures.index)
    ∙ ap (λ xs. number_in xs c.args.string.now) c.self.view_is
