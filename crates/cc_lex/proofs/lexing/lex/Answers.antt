use Rattle.cc_lex.specs.Spells.{too_long}
use Rattle.cc_lex.proofs.Unique.{gives_tokens, gives_fault}
use Rattle.cc_lex.proofs.lexing.lex.Goals as goal

pub returns-then-text-gt-LONGEST_TEXT-clause-fault :
    goal.returns-then-text-gt-LONGEST_TEXT-clause-fault
returns-then-text-gt-LONGEST_TEXT-clause-fault c = too_long c.if-text-gt-LONGEST_TEXT.true

pub returns-clause-only : goal.returns-clause-only
returns-clause-only c = λ tokens h s. gives_tokens c.args.text.now c.read.result c.read.ensures tokens h s

pub returns-clause-first : goal.returns-clause-first
returns-clause-first c = λ place kind h. gives_fault c.args.text.now c.read.result c.read.ensures place kind h
