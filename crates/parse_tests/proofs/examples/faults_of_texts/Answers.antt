use Rattle.cc_grammar.proofs.Computed as computed
use Rattle.parse_tests.proofs.examples.faults_of_texts.Goals as goal

pub returns-clause-items : goal.returns-clause-items
returns-clause-items c = computed.items_hold

pub returns-clause-declarations : goal.returns-clause-declarations
returns-clause-declarations c = computed.declarations_hold

pub returns-clause-statements : goal.returns-clause-statements
returns-clause-statements c = computed.statements_hold

pub returns-clause-expressions : goal.returns-clause-expressions
returns-clause-expressions c = computed.expressions_hold
