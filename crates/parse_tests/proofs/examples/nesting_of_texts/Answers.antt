use Rattle.cc_grammar.proofs.Computed as computed
use Rattle.parse_tests.proofs.examples.nesting_of_texts.Goals as goal

pub returns : goal.returns
returns c = computed.nesting_hold
