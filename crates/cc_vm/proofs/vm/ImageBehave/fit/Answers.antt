use Rattle.std.proofs.Common.{ap, sym, ◌∙◌}
use Rattle.cc_code.specs.Meaning.{fit}
use Rattle.cc_code.specs.declared.code.RawCode.{RawCode}
use Rattle.cc_vm.specs.Lawful.{image-fits}
use Rattle.cc_vm.proofs.vm.ImageBehave.fit.Goals as goal

pub returns : goal.returns
returns c =
    c.fit.ensures ∙ ap (λ (k : RawCode). fit k c.args.site c.args.env.now c.args.args.now) c.self.view_is ∙ sym (image-fits c.args.self.now c.args.site c.args.env.now c.args.args.now)
