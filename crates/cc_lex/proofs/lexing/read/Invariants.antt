use Rattle.std.proofs.Common.{◌+◌, ◌≤◌, List, ◌++◌, length}
use Rattle.cc_base.specs.declared.names.Place.{Place}
use Rattle.cc_lex.specs.Spells.{Reads, Ending, start}
use Rattle.cc_lex.specs.declared.token.Token.{Token}
use Rattle.cc_lex.proofs.lexing.read.Given as goal

-- what is read of the rest completes what is read of the text
abbrev pub invariant-loop-rest : goal.invariant-loop-rest
invariant-loop-rest l = record {
  completes : (tokens : List Token) (end : Place) (ending : Ending) → Reads l.place l.rest tokens end ending → Reads start l.text (l.tokens.tokens ++ tokens) end ending;
  line : l.place.line + length l.rest ≤ 1048577;
  column : l.place.column + length l.rest ≤ 1048577;
}

abbrev pub decreases-loop-rest : goal.decreases-loop-rest
decreases-loop-rest l = length l.rest
