use Rattle.types_tests.proofs.Held30.{hold as hold_30}
use Rattle.types_tests.proofs.Held31.{hold as hold_31}
use Rattle.types_tests.proofs.Held32.{hold as hold_32}
use Rattle.types_tests.proofs.Held33.{hold as hold_33}
use Rattle.types_tests.proofs.Held34.{hold as hold_34}
use Rattle.types_tests.proofs.Held35.{hold as hold_35}
use Rattle.types_tests.proofs.texts_6.Goals as goal

pub returns-clause-text30 : goal.returns-clause-text30
returns-clause-text30 c = hold_30

pub returns-clause-text31 : goal.returns-clause-text31
returns-clause-text31 c = hold_31

pub returns-clause-text32 : goal.returns-clause-text32
returns-clause-text32 c = hold_32

pub returns-clause-text33 : goal.returns-clause-text33
returns-clause-text33 c = hold_33

pub returns-clause-text34 : goal.returns-clause-text34
returns-clause-text34 c = hold_34

pub returns-clause-text35 : goal.returns-clause-text35
returns-clause-text35 c = hold_35
