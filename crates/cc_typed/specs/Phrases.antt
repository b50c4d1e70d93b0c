-- The phrases that hold other phrases, as patterns.
use Rattle.std.specs.Prelude.{Option}
use Rattle.cc_base.specs.declared.numbers.NumberType.{NumberType}
use Rattle.cc_typed.specs.declared.tree.Expression.{Expression, Negate', Not', Plus', Parenthesized', Choose', PutChar', end_of-Expression, more_of-Expression}
use Rattle.cc_typed.specs.declared.tree.Statement.{Statement, If', IfElse', While', DoWhile', For', end_of-Statement, more_of-Statement}
use Rattle.cc_typed.specs.declared.types.DataType.{DataType}

pattern abbrev pub negate : Expression → NumberType → Expression
negate e t = Negate' tt (more_of-Expression e end_of-Expression) t

pattern abbrev pub not_of : Expression → Expression
not_of e = Not' tt (more_of-Expression e end_of-Expression)

pattern abbrev pub plus : Expression → NumberType → Expression
plus e t = Plus' tt (more_of-Expression e end_of-Expression) t

pattern abbrev pub parenthesized : Expression → DataType → Expression
parenthesized e t = Parenthesized' tt (more_of-Expression e end_of-Expression) t

pattern abbrev pub choose : Expression → Expression → Expression → DataType → Expression
choose c a b t = Choose' tt (more_of-Expression c end_of-Expression) tt (more_of-Expression a end_of-Expression) tt (more_of-Expression b end_of-Expression) t

pattern abbrev pub put_char : Expression → Expression
put_char e = PutChar' tt (more_of-Expression e end_of-Expression)

pattern abbrev pub branch : Expression → Statement → Statement
branch c s = If' c tt (more_of-Statement s end_of-Statement)

pattern abbrev pub branches : Expression → Statement → Statement → Statement
branches c s r = IfElse' c tt (more_of-Statement s end_of-Statement) tt (more_of-Statement r end_of-Statement)

pattern abbrev pub while_loop : Expression → Statement → Statement
while_loop c s = While' c tt (more_of-Statement s end_of-Statement)

pattern abbrev pub do_loop : Statement → Expression → Statement
do_loop s c = DoWhile' tt (more_of-Statement s end_of-Statement) c

pattern abbrev pub for_loop : Option Expression → Option Expression → Option Expression → Statement → Statement
for_loop first c each s = For' first c each tt (more_of-Statement s end_of-Statement)
