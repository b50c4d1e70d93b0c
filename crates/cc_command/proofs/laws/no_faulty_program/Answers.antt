use Rattle.cc_command.proofs.Meanings as meanings
use Rattle.cc_command.proofs.laws.no_faulty_program.Goals as goal

pub returns : goal.returns
returns c = record { none = meanings.no_faulty_program }
