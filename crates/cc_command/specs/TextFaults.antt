-- The names of the faults of texts.
use Rattle.std.specs.Prelude.{ℕ, List, codes}
use Rattle.cc_lex.specs.declared.fault.LexKind.{LexKind}
use Rattle.cc_lex.specs.declared.fault.LexKind.TheVariants as lex
use Rattle.cc_command.specs.declared.text_fault.TextFaultKind.{TextFaultKind}
use Rattle.cc_command.specs.declared.text_fault.TextFaultKind.TheVariants.{Tokens, Syntax, TooDeep, Unbuilt}

abbrev pub lex_name : LexKind → List ℕ
lex_name lex.TextTooLong = codes "TextTooLong"
lex_name lex.NoToken = codes "NoToken"
lex_name lex.BadNumber = codes "BadNumber"
lex_name lex.NumberTooLarge = codes "NumberTooLarge"
lex_name lex.BadCharacter = codes "BadCharacter"
lex_name lex.BadString = codes "BadString"
lex_name lex.OpenComment = codes "OpenComment"

abbrev pub kind_name : TextFaultKind → List ℕ
kind_name (Tokens kind) = lex_name kind
kind_name Syntax = codes "Syntax"
kind_name TooDeep = codes "TooDeep"
kind_name Unbuilt = codes "Unbuilt"
