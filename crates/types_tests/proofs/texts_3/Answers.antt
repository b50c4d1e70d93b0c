use Rattle.types_tests.proofs.Held12.{hold as hold_12}
use Rattle.types_tests.proofs.Held13.{hold as hold_13}
use Rattle.types_tests.proofs.Held14.{hold as hold_14}
use Rattle.types_tests.proofs.Held15.{hold as hold_15}
use Rattle.types_tests.proofs.Held16.{hold as hold_16}
use Rattle.types_tests.proofs.Held17.{hold as hold_17}
use Rattle.types_tests.proofs.texts_3.Goals as goal

pub returns-clause-text12 : goal.returns-clause-text12
returns-clause-text12 c = hold_12

pub returns-clause-text13 : goal.returns-clause-text13
returns-clause-text13 c = hold_13

pub returns-clause-text14 : goal.returns-clause-text14
returns-clause-text14 c = hold_14

pub returns-clause-text15 : goal.returns-clause-text15
returns-clause-text15 c = hold_15

pub returns-clause-text16 : goal.returns-clause-text16
returns-clause-text16 c = hold_16

pub returns-clause-text17 : goal.returns-clause-text17
returns-clause-text17 c = hold_17
