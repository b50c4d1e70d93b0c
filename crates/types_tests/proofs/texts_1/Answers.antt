use Rattle.types_tests.proofs.Held00.{hold as hold_00}
use Rattle.types_tests.proofs.Held01.{hold as hold_01}
use Rattle.types_tests.proofs.Held02.{hold as hold_02}
use Rattle.types_tests.proofs.Held03.{hold as hold_03}
use Rattle.types_tests.proofs.Held04.{hold as hold_04}
use Rattle.types_tests.proofs.Held05.{hold as hold_05}
use Rattle.types_tests.proofs.texts_1.Goals as goal

pub returns-clause-text00 : goal.returns-clause-text00
returns-clause-text00 c = hold_00

pub returns-clause-text01 : goal.returns-clause-text01
returns-clause-text01 c = hold_01

pub returns-clause-text02 : goal.returns-clause-text02
returns-clause-text02 c = hold_02

pub returns-clause-text03 : goal.returns-clause-text03
returns-clause-text03 c = hold_03

pub returns-clause-text04 : goal.returns-clause-text04
returns-clause-text04 c = hold_04

pub returns-clause-text05 : goal.returns-clause-text05
returns-clause-text05 c = hold_05
