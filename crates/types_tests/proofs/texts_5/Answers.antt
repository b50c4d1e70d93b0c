use Rattle.types_tests.proofs.Held24.{hold as hold_24}
use Rattle.types_tests.proofs.Held25.{hold as hold_25}
use Rattle.types_tests.proofs.Held26.{hold as hold_26}
use Rattle.types_tests.proofs.Held27.{hold as hold_27}
use Rattle.types_tests.proofs.Held28.{hold as hold_28}
use Rattle.types_tests.proofs.Held29.{hold as hold_29}
use Rattle.types_tests.proofs.texts_5.Goals as goal

pub returns-clause-text24 : goal.returns-clause-text24
returns-clause-text24 c = hold_24

pub returns-clause-text25 : goal.returns-clause-text25
returns-clause-text25 c = hold_25

pub returns-clause-text26 : goal.returns-clause-text26
returns-clause-text26 c = hold_26

pub returns-clause-text27 : goal.returns-clause-text27
returns-clause-text27 c = hold_27

pub returns-clause-text28 : goal.returns-clause-text28
returns-clause-text28 c = hold_28

pub returns-clause-text29 : goal.returns-clause-text29
returns-clause-text29 c = hold_29
