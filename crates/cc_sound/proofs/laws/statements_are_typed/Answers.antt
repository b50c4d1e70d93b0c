use Rattle.cc_sound.proofs.Statements.{judged-sound}
use Rattle.cc_sound.proofs.laws.statements_are_typed.Goals as goal

pub returns : goal.returns
returns c =
    record { typed = λ t s a stands inside ends form. judged-sound t c.args.around s a c.args.statement.now form stands inside ends }
