use Rattle.cc_command.proofs.Meanings as meanings
use Rattle.cc_command.proofs.laws.one_program.Goals as goal

pub returns : goal.returns
returns c = record { same = meanings.one_program }
