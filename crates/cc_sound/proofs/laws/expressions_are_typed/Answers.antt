use Rattle.cc_sound.proofs.Expressions.{expression-typed}
use Rattle.cc_sound.proofs.laws.expressions_are_typed.Goals as goal

pub returns : goal.returns
returns c =
    record { typed = λ t s a whole here front form. expression-typed t s c.args.around a whole here front c.args.phrase.now form }
