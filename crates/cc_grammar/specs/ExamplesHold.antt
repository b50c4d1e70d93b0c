-- Each example is answered as it says.
use Rattle.std.specs.Prelude.{◌≡◌, List, [], ◌∷◌}
use Rattle.cc_grammar.specs.Examples.{Row, seen, listed}
use Rattle.cc_grammar.specs.Reading.{parsed}

abbrev pub Hold : List Row → Type 0
Hold [] = Unit {0}
Hold (row ∷ rows) = (seen (parsed (listed row.0)) ≡ row.1) × Hold rows
