-- The plain trees of texts, as tokens.
use Rattle.std.specs.Prelude.{◌≡◌, List, [], ◌∷◌, Option, Some, None, Result, Ok, Err}
use Rattle.cc_lex.specs.TokenList.{TokenList}
use Rattle.cc_grammar.specs.Reading.{parsed}
use Rattle.cc_grammar.specs.declared.fault.ParseError.{ParseError}
use Rattle.cc_grammar.specs.declared.tree.Tree.{Tree}
use Rattle.cc_faults.specs.declared.plain.Plain.{Plain}
use Rattle.cc_names.specs.Plains.{plain}

-- the plain tree of an answer
abbrev pub plain_answer : Result Tree ParseError → Option Plain
plain_answer (Ok tree) = Some (plain tree)
plain_answer (Err fault) = None

abbrev pub Row : Type 0
Row = TokenList × Option Plain

-- each text has the plain tree that is written beside it
abbrev pub HaveTrees : List Row → Type 0
HaveTrees [] = Unit {0}
HaveTrees (row ∷ rows) = (plain_answer (parsed row.0) ≡ row.1) × HaveTrees rows
