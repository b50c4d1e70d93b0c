use Rattle.types_tests.proofs.Held18.{hold as hold_18}
use Rattle.types_tests.proofs.Held19.{hold as hold_19}
use Rattle.types_tests.proofs.Held20.{hold as hold_20}
use Rattle.types_tests.proofs.Held21.{hold as hold_21}
use Rattle.types_tests.proofs.Held22.{hold as hold_22}
use Rattle.types_tests.proofs.Held23.{hold as hold_23}
use Rattle.types_tests.proofs.texts_4.Goals as goal

pub returns-clause-text18 : goal.returns-clause-text18
returns-clause-text18 c = hold_18

pub returns-clause-text19 : goal.returns-clause-text19
returns-clause-text19 c = hold_19

pub returns-clause-text20 : goal.returns-clause-text20
returns-clause-text20 c = hold_20

pub returns-clause-text21 : goal.returns-clause-text21
returns-clause-text21 c = hold_21

pub returns-clause-text22 : goal.returns-clause-text22
returns-clause-text22 c = hold_22

pub returns-clause-text23 : goal.returns-clause-text23
returns-clause-text23 c = hold_23
