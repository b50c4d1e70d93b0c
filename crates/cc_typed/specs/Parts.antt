-- The parts of a program.
use Rattle.std.specs.Prelude.{ℕ, List}
use Rattle.cc_typed.specs.declared.tree.Function.{Function}
use Rattle.cc_typed.specs.declared.tree.Kind.{Kind}
use Rattle.cc_typed.specs.declared.tree.Site.{Site}
use Rattle.cc_typed.specs.declared.tree.Transaction.{Transaction}
use Rattle.cc_typed.specs.declared.types.Structure.{Structure}

pub record Parts : Type 0 where
  -- in the order of declaration
  pub structures : List Structure
  -- `main` first, and then the process types as written
  pub kinds : List Kind
  pub functions : List Function
  pub transactions : List Transaction
  pub sites : List Site
  pub formats : List (List ℕ)
