-- The program of a list of `putchar` statements.
use Rattle.std.specs.Prelude.{ℕ, pos, List, [], ◌∷◌, map}
use Rattle.cc_base.specs.Meaning.{Meaning}
use Rattle.cc_typed.specs.Parts.{Parts}
use Rattle.cc_typed.specs.Types.{Int}
use Rattle.cc_source.specs.Programs.{meaning}
use Rattle.cc_base.specs.declared.numbers.NumberType.TheVariants as numeric
use Rattle.cc_typed.specs.declared.tree.Expression.{Constant, PutChar}
use Rattle.cc_typed.specs.declared.tree.Statement.{Statement, Evaluate}

-- `putchar(byte);`
abbrev pub puts : ℕ → Statement
puts byte = Evaluate (PutChar (Constant (pos byte) numeric.Int))

-- `main` puts one byte after the other, and nothing else is there
abbrev pub program_of : List ℕ → Parts
program_of bytes =
    record {
      structures = [];
      kinds = record { parameters = 0; variables = []; result = Int; body = map puts bytes } ∷ [];
      functions = [];
      transactions = [];
      sites = [];
      formats = [];
    }

-- what it means
abbrev pub means : List ℕ → Meaning
means bytes = meaning (program_of bytes)
