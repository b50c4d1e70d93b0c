use Rattle.types_tests.proofs.Held06.{hold as hold_06}
use Rattle.types_tests.proofs.Held07.{hold as hold_07}
use Rattle.types_tests.proofs.Held08.{hold as hold_08}
use Rattle.types_tests.proofs.Held09.{hold as hold_09}
use Rattle.types_tests.proofs.Held10.{hold as hold_10}
use Rattle.types_tests.proofs.Held11.{hold as hold_11}
use Rattle.types_tests.proofs.texts_2.Goals as goal

pub returns-clause-text06 : goal.returns-clause-text06
returns-clause-text06 c = hold_06

pub returns-clause-text07 : goal.returns-clause-text07
returns-clause-text07 c = hold_07

pub returns-clause-text08 : goal.returns-clause-text08
returns-clause-text08 c = hold_08

pub returns-clause-text09 : goal.returns-clause-text09
returns-clause-text09 c = hold_09

pub returns-clause-text10 : goal.returns-clause-text10
returns-clause-text10 c = hold_10

pub returns-clause-text11 : goal.returns-clause-text11
returns-clause-text11 c = hold_11
