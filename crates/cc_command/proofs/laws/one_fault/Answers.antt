use Rattle.cc_command.proofs.Meanings as meanings
use Rattle.cc_command.proofs.laws.one_fault.Goals as goal

pub returns : goal.returns
returns c = record { same = meanings.one_fault }
