use Rattle.types_tests.proofs.Held36.{hold as hold_36}
use Rattle.types_tests.proofs.Held37.{hold as hold_37}
use Rattle.types_tests.proofs.Held38.{hold as hold_38}
use Rattle.types_tests.proofs.Held39.{hold as hold_39}
use Rattle.types_tests.proofs.Held40.{hold as hold_40}
use Rattle.types_tests.proofs.Held41.{hold as hold_41}
use Rattle.types_tests.proofs.texts_7.Goals as goal

pub returns-clause-text36 : goal.returns-clause-text36
returns-clause-text36 c = hold_36

pub returns-clause-text37 : goal.returns-clause-text37
returns-clause-text37 c = hold_37

pub returns-clause-text38 : goal.returns-clause-text38
returns-clause-text38 c = hold_38

pub returns-clause-text39 : goal.returns-clause-text39
returns-clause-text39 c = hold_39

pub returns-clause-text40 : goal.returns-clause-text40
returns-clause-text40 c = hold_40

pub returns-clause-text41 : goal.returns-clause-text41
returns-clause-text41 c = hold_41
