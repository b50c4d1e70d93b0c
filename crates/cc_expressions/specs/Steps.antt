-- What a reader of the program ensures: it gives the answer, and stops where the answer does, unless memory is wanting.
use Rattle.std.specs.Prelude.{◌≡◌, List, Result, Ok, Err}
use denote.Ref.{Bor}
use Rattle.cc_lex.specs.declared.token.Token.{Token}
use Rattle.cc_grammar.specs.Reading.{Answer, Got, Bad, Deep}
use Rattle.cc_expressions.specs.declared.cursor.Stop.{Stop}
use Rattle.cc_expressions.specs.declared.cursor.Stop.TheVariants as stop

abbrev pub Reads : {A : Type 0} → Answer A → Result A Stop → List Token → Type 0
Reads answer (Ok x) new = answer ≡ (Got x, new)
Reads answer (Err stop.Bad) new = answer ≡ (Bad, new)
Reads answer (Err stop.Deep) new = answer ≡ (Deep, new)
Reads answer (Err stop.Memory) new = Unit {0}

-- likewise of a token that is lent
abbrev pub Takes : Answer Token → Result (Bor Token) Stop → List Token → Type 0
Takes answer (Ok t) new = answer ≡ (Got t.now, new)
Takes answer (Err stop.Bad) new = answer ≡ (Bad, new)
Takes answer (Err stop.Deep) new = answer ≡ (Deep, new)
Takes answer (Err stop.Memory) new = Unit {0}
