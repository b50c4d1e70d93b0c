use Rattle.cc_grammar.proofs.Computed as computed
use Rattle.parse_tests.proofs.examples.trees_of_texts.Goals as goal

pub returns-clause-rows : goal.returns-clause-rows
returns-clause-rows c = computed.rows

pub returns-clause-nearest_if : goal.returns-clause-nearest_if
returns-clause-nearest_if c = computed.nearest_if

pub returns-clause-voids : goal.returns-clause-voids
returns-clause-voids c = computed.voids
