use Rattle.types_tests.proofs.Held42.{hold as hold_42}
use Rattle.types_tests.proofs.Held43.{hold as hold_43}
use Rattle.types_tests.proofs.Held44.{hold as hold_44}
use Rattle.types_tests.proofs.Held45.{hold as hold_45}
use Rattle.types_tests.proofs.Held46.{hold as hold_46}
use Rattle.types_tests.proofs.texts_8.Goals as goal

pub returns-clause-text42 : goal.returns-clause-text42
returns-clause-text42 c = hold_42

pub returns-clause-text43 : goal.returns-clause-text43
returns-clause-text43 c = hold_43

pub returns-clause-text44 : goal.returns-clause-text44
returns-clause-text44 c = hold_44

pub returns-clause-text45 : goal.returns-clause-text45
returns-clause-text45 c = hold_45

pub returns-clause-text46 : goal.returns-clause-text46
returns-clause-text46 c = hold_46
