use Rattle.cc_faults.proofs.Holds.{holds-weaker}
use Rattle.cc_faults.specs.Expressions.{expression, is_place}
use Rattle.cc_sound.proofs.Pure.{IsPureAt, expression-pure, value-pure}
use Rattle.cc_sound.proofs.laws.clauses_are_pure.Goals as goal

pub returns : goal.returns
returns c =
    record { pure = λ t s d pure le. holds-weaker (IsPureAt d (is_place s c.args.phrase.now)) _ (λ v i. value-pure d v i.0) (expression t s c.args.around c.args.phrase.now) (expression-pure t s c.args.around pure d c.args.phrase.now le) }
