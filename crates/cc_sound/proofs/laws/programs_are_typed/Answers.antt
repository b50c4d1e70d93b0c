use Rattle.cc_sound.proofs.Texts.{program-means, program-typed}
use Rattle.cc_sound.proofs.laws.programs_are_typed.Goals as goal

pub returns : goal.returns
returns c =
    record { typed = λ form. program-typed c.args.tree.now form; means = λ form. program-means c.args.tree.now form }
