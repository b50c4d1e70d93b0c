-- Functions that read phrases which add to the nesting.
use Rattle.std.specs.Prelude.{ℕ, Result, List}
use Rattle.std.specs.declared.alloc.Global.{Global}
use denote.Ref.{MutBor}
use Rattle.cc_lex.specs.declared.token.Token.{Token}
use Rattle.cc_grammar.specs.Reading.{level}
use Rattle.cc_expressions.specs.Steps.{Reads}
use Rattle.cc_grammar.specs.Symbols.{Symbol}
use Rattle.cc_grammar.specs.Trees.{TreeOf}
use Rattle.cc_expressions.specs.declared.cursor.Stop.{Stop}

pub record Nests (s : Symbol) (room : ℕ) (pre : Global → MutBor (List Token) → ℕ → Type 0)
    (post : Global → MutBor (List Token) → ℕ → Result (TreeOf s) Stop → MutBor (List Token) → Type 0) : Type 0 where
  pub callable : (alloc : Global) (old : MutBor (List Token)) → pre alloc old room
  pub reads : (alloc : Global) (old new : MutBor (List Token)) (r : Result (TreeOf s) Stop) → post alloc old room r new → Reads (level room s old.now) r new.now
