-- The phrases that hold other phrases, as patterns.
use Rattle.std.specs.Prelude.{Option}
use Rattle.cc_base.specs.declared.names.Place.{Place}
use Rattle.cc_base.specs.declared.numbers.Operator.{Operator}
use Rattle.cc_faults.specs.declared.plain.Phrase.{Phrase, PutChar', Parenthesized', StepAfter', StepBefore', Negate', Plus', Not', Choose', Assign', Update', Within', end_of-Phrase, more_of-Phrase}
use Rattle.cc_faults.specs.declared.plain.Statement.{Statement, If', IfElse', While', DoWhile', For', end_of-Statement, more_of-Statement}
use Rattle.cc_faults.specs.declared.plain.StepWord.{StepWord}

pattern abbrev pub put_char : Place → Phrase → Phrase
put_char p e = PutChar' p tt (more_of-Phrase e end_of-Phrase)

pattern abbrev pub parenthesized : Place → Phrase → Phrase
parenthesized p e = Parenthesized' p tt (more_of-Phrase e end_of-Phrase)

pattern abbrev pub step_after : Phrase → StepWord → Phrase
step_after e d = StepAfter' tt (more_of-Phrase e end_of-Phrase) d

pattern abbrev pub step_before : Place → StepWord → Phrase → Phrase
step_before p d e = StepBefore' p d tt (more_of-Phrase e end_of-Phrase)

pattern abbrev pub negate : Place → Phrase → Phrase
negate p e = Negate' p tt (more_of-Phrase e end_of-Phrase)

pattern abbrev pub plus : Place → Phrase → Phrase
plus p e = Plus' p tt (more_of-Phrase e end_of-Phrase)

pattern abbrev pub not_of : Place → Phrase → Phrase
not_of p e = Not' p tt (more_of-Phrase e end_of-Phrase)

pattern abbrev pub choose : Phrase → Phrase → Phrase → Phrase
choose c a b = Choose' tt (more_of-Phrase c end_of-Phrase) tt (more_of-Phrase a end_of-Phrase) tt (more_of-Phrase b end_of-Phrase)

pattern abbrev pub assign : Phrase → Phrase → Phrase
assign a b = Assign' tt (more_of-Phrase a end_of-Phrase) tt (more_of-Phrase b end_of-Phrase)

pattern abbrev pub update : Phrase → Operator → Phrase → Phrase
update a o b = Update' tt (more_of-Phrase a end_of-Phrase) o tt (more_of-Phrase b end_of-Phrase)

pattern abbrev pub within : Place → Phrase → Phrase → Phrase → Phrase
within p d m e = Within' p tt (more_of-Phrase d end_of-Phrase) tt (more_of-Phrase m end_of-Phrase) tt (more_of-Phrase e end_of-Phrase)

pattern abbrev pub branch : Phrase → Statement → Statement
branch c a = If' c tt (more_of-Statement a end_of-Statement)

pattern abbrev pub branches : Phrase → Statement → Statement → Statement
branches c a b = IfElse' c tt (more_of-Statement a end_of-Statement) tt (more_of-Statement b end_of-Statement)

pattern abbrev pub while_loop : Phrase → Statement → Statement
while_loop c a = While' c tt (more_of-Statement a end_of-Statement)

pattern abbrev pub do_loop : Statement → Phrase → Statement
do_loop a c = DoWhile' tt (more_of-Statement a end_of-Statement) c

pattern abbrev pub for_loop : Option Phrase → Option Phrase → Option Phrase → Statement → Statement
for_loop first c next a = For' first c next tt (more_of-Statement a end_of-Statement)
