-- Some texts and their trees, written out.
use Rattle.std.specs.Prelude.{◌≡◌, ℕ, List, [], ◌∷◌, None, Ok}
use Rattle.cc_base.specs.declared.names.Place.{Place}
use Rattle.cc_lex.specs.declared.token.Mark.TheVariants as mark
use Rattle.cc_lex.specs.declared.token.What.{What}
use Rattle.cc_lex.specs.declared.token.What.TheVariants as what
use Rattle.cc_lex.specs.declared.token.Word.TheVariants as word
use Rattle.cc_grammar.specs.Examples.{listed, w, m}
use Rattle.cc_grammar.specs.Reading.{parsed}
use Rattle.cc_grammar.specs.declared.tree.Entry.TheVariants as entry
use Rattle.cc_grammar.specs.declared.tree.Expression.{Expression}
use Rattle.cc_grammar.specs.declared.tree.Expression.TheVariants as expression
use Rattle.cc_grammar.specs.declared.tree.Identifier.{Identifier}
use Rattle.cc_grammar.specs.declared.tree.Item.TheVariants as item
use Rattle.cc_grammar.specs.declared.tree.PrefixOperator.TheVariants as prefix_operator
use Rattle.cc_grammar.specs.declared.tree.Statement.{Statement}
use Rattle.cc_grammar.specs.declared.tree.Statement.TheVariants as statement
use Rattle.cc_grammar.specs.declared.tree.SumOperator.TheVariants as sum_operator
use Rattle.cc_grammar.specs.declared.tree.SumStep.{roll-SumStep}
use Rattle.cc_grammar.specs.declared.tree.Tree.{Tree}

abbrev at : ℕ → Place
at column = record { line = 1; column = column }

abbrev a : What
a = what.Name (97 ∷ [])

abbrev b : What
b = what.Name (98 ∷ [])

abbrev c : What
c = what.Name (99 ∷ [])

abbrev called : ℕ → ℕ → Identifier
called byte column = record { place = at column; name = byte ∷ [] }

abbrev variable : ℕ → ℕ → Expression
variable byte column = expression.Name (called byte column)

-- `a() { .. }` with one statement
abbrev in_function : Statement → Tree
in_function s = record {
  items = item.Function None (record { name = called 97 0; parameters = []; block = entry.Statement s ∷ [] }) ∷ [];
}

abbrev function : List What → List What
function xs = a ∷ m mark.OpenParenthesis ∷ m mark.CloseParenthesis ∷ m mark.OpenBrace ∷ xs

-- a() { a - b - c; }
abbrev row : List What
row = function (a ∷ m mark.Minus ∷ b ∷ m mark.Minus ∷ c ∷ m mark.Semicolon ∷ m mark.CloseBrace ∷ [])

abbrev row_tree : Tree
row_tree = in_function (statement.Expression (expression.Sum (variable 97 4) (
    roll-SumStep (record { operator = sum_operator.Minus; operand = variable 98 6 })
    ∷ roll-SumStep (record { operator = sum_operator.Minus; operand = variable 99 8 }) ∷ [])))

-- a() { - ! a; }
abbrev prefixes : List What
prefixes = function (m mark.Minus ∷ m mark.Not ∷ a ∷ m mark.Semicolon ∷ m mark.CloseBrace ∷ [])

abbrev prefixes_tree : Tree
prefixes_tree = in_function (statement.Expression (
    expression.Prefixed (record { place = at 4; operator = prefix_operator.Minus })
    (expression.Prefixed (record { place = at 5; operator = prefix_operator.Not }) (variable 97 6))))

-- a() { if (a) if (b) ; else ; }
abbrev two_ifs : List What
two_ifs = function (
    w word.If ∷ m mark.OpenParenthesis ∷ a ∷ m mark.CloseParenthesis ∷ w word.If ∷ m mark.OpenParenthesis ∷ b ∷
    m mark.CloseParenthesis ∷ m mark.Semicolon ∷ w word.Else ∷ m mark.Semicolon ∷ m mark.CloseBrace ∷ [])

abbrev two_ifs_tree : Tree
two_ifs_tree = in_function (
    statement.If (at 4) (variable 97 6)
    (statement.IfElse (at 8) (variable 98 10) (statement.Empty (at 12)) (statement.Empty (at 14))))

-- a(void) { } and process spec b(void);
abbrev voids : List What
voids =
    a ∷ m mark.OpenParenthesis ∷ w word.Void ∷ m mark.CloseParenthesis ∷ m mark.OpenBrace ∷ m mark.CloseBrace ∷
    w word.Process ∷ w word.Spec ∷ b ∷ m mark.OpenParenthesis ∷ w word.Void ∷ m mark.CloseParenthesis ∷ m mark.Semicolon ∷ []

abbrev voids_tree : Tree
voids_tree = record {
  items = item.Function None (record { name = called 97 0; parameters = []; block = [] }) ∷ item.Specification (called 98 8) [] None ∷ [];
}

abbrev Is : List What → Tree → Type 0
Is tokens tree = parsed (listed tokens) ≡ Ok tree

-- A row of operators groups from the left: it is kept as a list. Prefix operators stand within each other.
abbrev pub Rows : Type 0
Rows = Is row row_tree × Is prefixes prefixes_tree

-- An `else` belongs to the nearest `if` that may have it.
abbrev pub NearestIf : Type 0
NearestIf = Is two_ifs two_ifs_tree

-- A list of one `void` is empty.
abbrev pub Voids : Type 0
Voids = Is voids voids_tree
