-- Straight phrases and programs: the simplest phrases of each kind, no function but `main`, and no clauses of an accept.
use Rattle.std.specs.List.{list_all}
use Rattle.std.specs.Prelude.{Bool, true, false, ◌&&◌, Option, Some, None}
use Rattle.cc_base.specs.Numbers.{is_int}
use Rattle.cc_base.specs.declared.numbers.NumberType.TheVariants as numeric
use Rattle.cc_typed.specs.Parts.{Parts}
use Rattle.cc_typed.specs.Sequences.{is_empty}
use Rattle.cc_typed.specs.Phrases.{parenthesized, put_char}
use Rattle.cc_typed.specs.Types.{of_number, of_process}
use Rattle.cc_typed.specs.declared.tree.Argument.{Argument}
use Rattle.cc_typed.specs.declared.tree.ChainStep.{ChainStep, Part, Call', Send', Row_of-Argument, end_of-Argument, more_of-Argument}
use Rattle.cc_typed.specs.declared.tree.Expression.{Expression, Constant, Read', Chain', Assign', CreateProcess', end_of-Expression, more_of-Expression, Row_of-PartStep, end_of-PartStep, more_of-PartStep, Row_of-ChainStep, end_of-ChainStep, more_of-ChainStep}
use Rattle.cc_typed.specs.declared.tree.Kind.{Kind}
use Rattle.cc_typed.specs.declared.tree.Location.{Location}
use Rattle.cc_typed.specs.declared.tree.Site.{Site}
use Rattle.cc_typed.specs.declared.tree.Statement.{Statement, Empty, Evaluate, Declare, Block', TransactionReturn, Accept', Row_of-Statement, end_of-Statement, more_of-Statement}
use Rattle.cc_typed.specs.declared.tree.Transaction.{Transaction}
use Rattle.cc_typed.specs.declared.types.DataType.{DataType}
use Rattle.cc_typed.specs.declared.types.DataType.TheVariants.{Void}

-- `int` and process types
unfoldable pub is_straight_type : DataType → Bool
is_straight_type (of_number numeric.Int) = true
is_straight_type (of_process kind) = true
is_straight_type _ = false

-- the value of a transaction may also be `void`
unfoldable pub is_straight_value : DataType → Bool
is_straight_value Void = true
is_straight_value (of_number numeric.Int) = true
is_straight_value (of_process kind) = true
is_straight_value _ = false

-- a variable as a whole, of a straight type
unfoldable pub is_straight_place : {n : _} → Row_of-PartStep n → DataType → Bool
is_straight_place end_of-PartStep u = is_straight_type u
is_straight_place (more_of-PartStep s rest) u = false

unfoldable mutual
  pub is_straight : Expression → Bool
  is_straight (Constant n t) = is_int t
  is_straight (Read' x t _ steps u) = is_straight_place steps u
  is_straight (Chain' _ (more_of-Expression e end_of-Expression) _ steps u) =
      is_straight e && are_straight_steps steps && is_straight_value u
  is_straight (parenthesized e t) = is_straight e && is_straight_value t
  is_straight (Assign' x t _ steps u _ (more_of-Expression e end_of-Expression)) = is_straight_place steps u && is_straight e
  is_straight (CreateProcess' k _ args) = are_straight_row args
  is_straight (put_char e) = is_straight e
  is_straight _ = false

  -- a synchronous call
  pub is_straight_step : ChainStep → Bool
  is_straight_step (Part s) = false
  is_straight_step (Call' trans _ args u) = are_straight_row args && is_straight_value u
  is_straight_step (Send' trans _ args) = false

  pub are_straight_steps : {n : _} → Row_of-ChainStep n → Bool
  are_straight_steps end_of-ChainStep = true
  are_straight_steps (more_of-ChainStep s rest) = is_straight_step s && are_straight_steps rest

  pub are_straight_row : {n : _} → Row_of-Argument n → Bool
  are_straight_row end_of-Argument = true
  are_straight_row (more_of-Argument e t rest) = (is_straight e && is_straight_type t) && are_straight_row rest

abbrev pub is_straight_location : Location → Bool
is_straight_location l = is_empty l.steps && is_straight_type l.data_type

abbrev pub is_straight_argument : Argument → Bool
is_straight_argument a = is_straight a.value && is_straight_type a.data_type

abbrev pub is_straight_option : Option Expression → Bool
is_straight_option None = true
is_straight_option (Some e) = is_straight e

unfoldable mutual
  pub is_straight_statement : Statement → Bool
  is_straight_statement Empty = true
  is_straight_statement (Evaluate e) = is_straight e
  is_straight_statement (Declare x t) = is_straight_type t
  is_straight_statement (Block' _ all) = are_straight_statements all
  is_straight_statement (Accept' site _ block) = are_straight_statements block
  is_straight_statement (TransactionReturn e t) = is_straight_option e && is_straight_value t
  is_straight_statement _ = false

  pub are_straight_statements : {n : _} → Row_of-Statement n → Bool
  are_straight_statements end_of-Statement = true
  are_straight_statements (more_of-Statement s rest) = is_straight_statement s && are_straight_statements rest

-- the type of `main` counts as those of its variables do
abbrev pub is_straight_kind : Kind → Bool
is_straight_kind k =
    list_all is_straight_type k.variables && is_straight_value k.result && list_all is_straight_statement k.body

abbrev pub is_straight_transaction : Transaction → Bool
is_straight_transaction t = list_all is_straight_type t.parameters && is_straight_value t.value

abbrev pub is_nothing : Option Expression → Bool
is_nothing None = true
is_nothing (Some e) = false

-- no clauses, and so no environment
abbrev pub is_straight_site : Site → Bool
is_straight_site s = is_nothing s.such_that && is_nothing s.least_by && is_empty s.environment

-- no function but `main`, which is a kind
abbrev pub is_straight_program : Parts → Bool
is_straight_program p =
    list_all is_straight_kind p.kinds
    && list_all is_straight_transaction p.transactions
    && list_all is_straight_site p.sites
    && is_empty p.functions
