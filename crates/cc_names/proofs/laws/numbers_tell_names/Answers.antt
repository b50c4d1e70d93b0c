use Rattle.cc_names.proofs.Numbers.{main-first, numbers-tell}
use Rattle.cc_names.proofs.laws.numbers_tell_names.Goals as goal

pub returns-clause-names : goal.returns-clause-names
returns-clause-names c = numbers-tell

pub returns-clause-main : goal.returns-clause-main
returns-clause-main c = main-first
