-- A text as its plain tree, and the program that it means, by hand: a structure, two process types whose bodies stand in the other order than
-- their specifications, a function and `main`.
use Rattle.std.specs.Prelude.{ℕ, pos, true, false, List, [], ◌∷◌, Some, None}
use Rattle.cc_base.specs.declared.names.Place.{Place}
use Rattle.cc_base.specs.declared.numbers.Comparison.TheVariants.{Greater}
use Rattle.cc_base.specs.declared.numbers.NumberType.TheVariants as numeric
use Rattle.cc_typed.specs.Parts.{Parts}
use Rattle.cc_typed.specs.Types.{Int, of_number, of_struct}
use Rattle.cc_typed.specs.declared.tree.Argument.{Argument}
use Rattle.cc_typed.specs.declared.tree.Expression.{Expression}
use Rattle.cc_typed.specs.declared.tree.Expression.TheVariants as expression
use Rattle.cc_typed.specs.declared.tree.Function.{Function}
use Rattle.cc_typed.specs.declared.tree.Kind.{Kind}
use Rattle.cc_typed.specs.declared.tree.Location.{Location}
use Rattle.cc_typed.specs.declared.tree.PartStep.TheVariants as part
use Rattle.cc_typed.specs.declared.tree.Site.{Site}
use Rattle.cc_typed.specs.declared.tree.Statement.{Statement as TypedStatement}
use Rattle.cc_typed.specs.declared.tree.Statement.TheVariants as typed_statement
use Rattle.cc_typed.specs.declared.tree.Transaction.{Transaction}
use Rattle.cc_typed.specs.declared.types.DataType.{DataType}
use Rattle.cc_typed.specs.declared.types.DataType.TheVariants.{Void, Array}
use Rattle.cc_typed.specs.declared.types.ElementType.TheVariants as element
use Rattle.cc_typed.specs.declared.types.Structure.{Structure}
use Rattle.cc_faults.specs.declared.plain.Clause.{Clause}
use Rattle.cc_faults.specs.declared.plain.ClauseWord.TheVariants.{SuchThat}
use Rattle.cc_faults.specs.declared.plain.Identifier.{Identifier}
use Rattle.cc_faults.specs.declared.plain.Item.{Item}
use Rattle.cc_faults.specs.declared.plain.Item.TheVariants as item
use Rattle.cc_faults.specs.declared.plain.Length.TheVariants as some_length
use Rattle.cc_faults.specs.declared.plain.LocalForm.TheVariants as form
use Rattle.cc_faults.specs.declared.plain.Phrase.{Phrase}
use Rattle.cc_faults.specs.declared.plain.Phrase.TheVariants as phrase
use Rattle.cc_faults.specs.declared.plain.Plain.{Plain}
use Rattle.cc_faults.specs.declared.plain.Statement.{Statement}
use Rattle.cc_faults.specs.declared.plain.Statement.TheVariants as statement
use Rattle.cc_faults.specs.declared.plain.Step.TheVariants as step
use Rattle.cc_faults.specs.declared.plain.TypeName.{TypeName}
use Rattle.cc_faults.specs.declared.plain.TypeName.TheVariants as type_name

-- places tell nothing here
abbrev here : Place
here = record { line = 1; column = 1 }

abbrev named : ℕ → Identifier
named n = record { place = here; name = n }

abbrev int_type : TypeName
int_type = type_name.Number numeric.Int

abbrev char_type : TypeName
char_type = type_name.Number numeric.Char

abbrev name : ℕ → Phrase
name n = phrase.Name (named n)

abbrev literal : ℕ → Phrase
literal n = phrase.Number here (pos n) numeric.Int

-- an accept in a text: its transaction, its names, its clauses and its block
abbrev accept : ℕ → List Identifier → List Clause → List Statement → Statement
accept t names clauses block =
    statement.Accept (record { head = record { place = here; name = named t; names = names; clauses = clauses }; block = block })

-- main 0, S 1, n 2, c 3, A 4, t 5, B 6, u 7, x 8, f 9, k 10, s 11

-- struct S { int n; char c[3]; };
abbrev text_structure : Item
text_structure =
    item.Structure (named 1)
    (record { of = int_type; name = named 2; length = None }
    ∷ record { of = char_type; name = named 3; length = Some (some_length.Number here (pos 3)) }
    ∷ [])

-- process spec A(char) { trans int t(int); };
abbrev specification_a : Item
specification_a =
    item.Specification (named 4) (char_type ∷ [])
    (record { result = Some int_type; name = named 5; parameters = int_type ∷ [] } ∷ [])

-- process spec B() { async u(); };
abbrev specification_b : Item
specification_b = item.Specification (named 6) [] (record { result = None; name = named 7; parameters = [] } ∷ [])

-- process body B() { accept u(); }
abbrev body_b : Item
body_b = item.Body (named 6) [] (accept 7 [] [] [] ∷ [])

-- suchthat (x > c)
abbrev greater : Clause
greater =
    record {
      word = SuchThat;
      expression = phrase.Compare (name 8) (record { comparison = Greater; operand = name 3 } ∷ []);
    }

-- process body A(c) { accept t(x) suchthat (x > c) { treturn x; } }
abbrev body_a : Item
body_a =
    item.Body (named 4) (named 3 ∷ [])
    (accept 5 (named 8 ∷ []) (greater ∷ []) (statement.TransactionReturn here (Some (name 8)) ∷ []) ∷ [])

-- int f(int k) { return k; }
abbrev text_function : Item
text_function =
    item.Function int_type (named 9) (record { of = int_type; name = named 10 } ∷ [])
    (statement.Return here (Some (name 10)) ∷ [])

-- int main() { struct S s; s.n = f(1); create A(65); }
abbrev text_main : Item
text_main =
    item.Function int_type (named 0) []
    (statement.Declare (record { of = type_name.Structure (named 1); name = named 11; form = form.Plain })
    ∷ statement.Evaluate (phrase.Assign (phrase.Chain (name 11) (step.Field (named 2) ∷ [])) (phrase.Call (named 9) (literal 1 ∷ [])))
    ∷ statement.Evaluate (phrase.Create here (named 4) (literal 65 ∷ []))
    ∷ [])

abbrev pub two_bodies : Plain
two_bodies =
    record {
      names = 12;
      formats = [];
      items = text_structure ∷ specification_a ∷ specification_b ∷ body_b ∷ body_a ∷ text_function ∷ text_main ∷ [];
    }

-- a variable as a whole
abbrev variable : ℕ → DataType → Location
variable n t = record { variable = n; of = t; steps = []; data_type = t }

abbrev value : ℕ → DataType → Expression
value n t = expression.Read (variable n t)

abbrev number : ℕ → Expression
number n = expression.Constant (pos n) numeric.Int

abbrev Char : DataType
Char = of_number numeric.Char

abbrev argument : DataType → Expression → Argument
argument t e = record { value = e; data_type = t }

abbrev structure : Structure
structure =
    record {
      fields = record { data_type = Int; offset = 0 } ∷ record { data_type = Array (element.Number numeric.Char) 3; offset = 1 } ∷ [];
      cells = 4;
    }

abbrev field_n : Location
field_n = record { variable = 0; of = of_struct 0; steps = part.Field 0 Int ∷ []; data_type = Int }

abbrev main : Kind
main =
    record {
      parameters = 0;
      variables = of_struct 0 ∷ [];
      result = Int;
      body =
          typed_statement.Declare 0 (of_struct 0)
          ∷ typed_statement.Evaluate (expression.Assign field_n (expression.CallFunction 0 (argument Int (number 1) ∷ []) Int))
          ∷ typed_statement.Evaluate (expression.CreateProcess 1 (argument Char (number 65) ∷ []))
          ∷ [];
    }

abbrev accepting : ℕ → List TypedStatement → TypedStatement
accepting site block = typed_statement.Accept (record { site = site; block = block })

abbrev kind_a : Kind
kind_a =
    record {
      parameters = 1;
      variables = Char ∷ Int ∷ [];
      result = Void;
      body = accepting 1 (typed_statement.TransactionReturn (Some (value 1 Int)) Int ∷ []) ∷ [];
    }

abbrev kind_b : Kind
kind_b = record { parameters = 0; variables = []; result = Void; body = accepting 0 [] ∷ [] }

abbrev function : Function
function =
    record {
      parameters = 1;
      variables = Int ∷ [];
      result = Int;
      body = typed_statement.Return (Some (value 0 Int)) Int ∷ [];
    }

abbrev transaction_t : Transaction
transaction_t = record { kind = 1; is_async = false; parameters = Int ∷ []; value = Int }

abbrev transaction_u : Transaction
transaction_u = record { kind = 2; is_async = true; parameters = []; value = Void }

abbrev site_in_b : Site
site_in_b =
    record { kind = 2; transaction = 1; first = 0; environment = []; such_that = None; least_by = None }

abbrev site_in_a : Site
site_in_a =
    record {
      kind = 1;
      transaction = 0;
      first = 1;
      environment = 0 ∷ [];
      such_that = Some (expression.Compare (value 1 Int) (record { comparison = Greater; operand = value 0 Char } ∷ []));
      least_by = None;
    }

-- B's body stands first, and so its accept has the first site; A is specified first, and has number 1
abbrev pub two_kinds : Parts
two_kinds =
    record {
      structures = structure ∷ [];
      kinds = main ∷ kind_a ∷ kind_b ∷ [];
      functions = function ∷ [];
      transactions = transaction_t ∷ transaction_u ∷ [];
      sites = site_in_b ∷ site_in_a ∷ [];
      formats = [];
    }

-- no text has a structure without a field
abbrev pub no_field : Plain
no_field =
    record { names = 2; formats = []; items = item.Structure (named 1) [] ∷ item.Function int_type (named 0) [] [] ∷ [] }

-- what is found of it is not typed
abbrev pub without_field : Parts
without_field =
    record {
      structures = record { fields = []; cells = 0 } ∷ [];
      kinds = record { parameters = 0; variables = []; result = Int; body = [] } ∷ [];
      functions = [];
      transactions = [];
      sites = [];
      formats = [];
    }
