use Rattle.cc_source.specs.Examples.{worked-programs}
use Rattle.cc_source.proofs.laws.worked_programs_ask_as_the_language_says.Goals as goal

pub returns : goal.returns
returns c = record { asks = worked-programs }
