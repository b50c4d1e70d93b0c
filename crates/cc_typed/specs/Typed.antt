-- Typed phrases and programs: each number names a thing that is there, and each phrase has the types that it wants.
use Rattle.std.specs.List.{list_all}
use Rattle.std.specs.Prelude.{ℕ, ℤ, suc, ◌^◌, Bool, true, false, not, ◌&&◌, ◌||◌, if◌then◌else◌, nat_eq, nat_le, nat_lt, List, [], ◌∷◌, length, take, drop, Option, Some, None, slice_get}
use Rattle.cc_base.specs.Formats.{conversions, is_format}
use Rattle.cc_base.specs.Limits.{most_pure_depth}
use Rattle.cc_base.specs.Numbers.{fits, wider}
use Rattle.cc_typed.specs.Accepts.{are_each_once, sites_of_kinds}
use Rattle.cc_typed.specs.Clauses.{are_numbers, clause_noted, is_pure}
use Rattle.cc_typed.specs.KnownTypes.{are_parameters, is_known, is_known_structure, is_process_type, is_whole}
use Rattle.cc_typed.specs.Missing.{parameters_at, transaction_at, value_type_at, variables_of}
use Rattle.cc_typed.specs.Parting.{is_element_of, is_field_of, is_of_type}
use Rattle.cc_typed.specs.Parts.{Parts}
use Rattle.cc_typed.specs.Phrases.{negate, not_of, plus, parenthesized, choose, put_char, branch, branches, while_loop, do_loop, for_loop}
use Rattle.cc_typed.specs.Table.{is_table}
use Rattle.cc_typed.specs.Types.{Int, is_arithmetic, is_assignable, is_process, is_process_of, is_same, is_same_all, is_same_number, is_struct, is_void, number_in, of_number, type_after, type_after_step, type_of}
use Rattle.cc_typed.specs.declared.clauses.Own.{Own}
use Rattle.cc_base.specs.declared.numbers.Comparison.{Comparison}
use Rattle.cc_base.specs.declared.numbers.Comparison.TheVariants.{Less, AtMost, Greater, AtLeast, Equal, Different}
use Rattle.cc_base.specs.declared.numbers.NumberType.{NumberType}
use Rattle.cc_base.specs.declared.numbers.NumberType.TheVariants as numeric
use Rattle.cc_typed.specs.declared.tree.ChainStep.{ChainStep, Part, Call', Send', Row_of-Argument, end_of-Argument, more_of-Argument}
use Rattle.cc_typed.specs.declared.tree.Choice.{Choice, Accept' as AcceptChoice', Delay as DelayChoice, Immediate, Terminate}
use Rattle.cc_typed.specs.declared.tree.Expression.{Expression, Constant, GetChar, Read', Chain', ChangeBefore', ChangeAfter', Arithmetic', Compare', Both', Either', Assign', Update', CallFunction', CreateProcess', Within', PrintFormat', Row_of-Expression, end_of-Expression, more_of-Expression, Row_of-PartStep, end_of-PartStep, more_of-PartStep, Row_of-ChainStep, end_of-ChainStep, more_of-ChainStep, Row_of-Operation, end_of-Operation, more_of-Operation, Row_of-Compared, end_of-Compared, more_of-Compared}
use Rattle.cc_typed.specs.declared.tree.Function.{Function}
use Rattle.cc_typed.specs.declared.tree.Kind.{Kind}
use Rattle.cc_typed.specs.declared.tree.PartStep.{PartStep, Field, Element}
use Rattle.cc_typed.specs.declared.tree.Site.{Site}
use Rattle.cc_typed.specs.declared.tree.Statement.{Statement, Empty, Evaluate, Declare, Initialize, Block', Break, Continue, Return, Finish, TransactionReturn, Delay, Accept', Select', Row_of-Statement, end_of-Statement, more_of-Statement, Row_of-Alternative, end_of-Alternative, more_of-Alternative}
use Rattle.cc_typed.specs.declared.tree.Transaction.{Transaction}
use Rattle.cc_typed.specs.declared.types.DataType.{DataType}

-- where a phrase stands
pub record Surroundings : Type 0 where
  pub parts : Parts
  -- the types of the variables of the function or body
  pub variables : List DataType
  -- the kind of process whose body it is; none in a function
  pub kind : Option ℕ
  -- the type of the function's value, or the one that the kind is declared with; none in a clause
  pub result : Option DataType
  -- the type of the value with which the accept replies in whose block it stands; none outside
  pub replies : Option DataType
  -- `break` has a loop to leave, within the same accept's block
  pub may_break : Bool
  -- `continue` has a loop to go on with, within the same accept's block
  pub may_continue : Bool

abbrev pub is_equality : Comparison → Bool
is_equality Less = false
is_equality AtMost = false
is_equality Greater = false
is_equality AtLeast = false
is_equality Equal = true
is_equality Different = true

-- values of these types may be compared so
abbrev pub is_comparable : Comparison → DataType → DataType → Bool
is_comparable c u w = is_arithmetic u && is_arithmetic w || is_equality c && is_process u && is_same u w

-- the type of a choice between values of two types
abbrev pub is_choice : DataType → DataType → DataType → Bool
is_choice u w t =
    if is_arithmetic u && is_arithmetic w
    then is_same (of_number (wider (number_in u) (number_in w))) t
    else (is_process u || is_struct u || is_void u) && is_same u w && is_same u t

-- a synchronous transaction of this process type, with a value of this type
abbrev pub is_called : Option Transaction → DataType → DataType → Bool
is_called None process t = false
is_called (Some tr) process t = not tr.is_async && is_process_of tr.kind process && is_same tr.value t

-- an asynchronous transaction of this process type
abbrev pub is_sent : Option Transaction → DataType → Bool
is_sent None process = false
is_sent (Some tr) process = tr.is_async && is_process_of tr.kind process

-- a synchronous transaction with a value of this type, a duration, and what stands for the value where the call is late
abbrev pub is_timed : Option Transaction → DataType → DataType → DataType → DataType → Bool
is_timed tr wait process other t = is_arithmetic wait && is_called tr process t && is_assignable other t

abbrev pub kind_parameters : Option Kind → List DataType
kind_parameters None = []
kind_parameters (Some k) = take k.parameters k.variables

abbrev pub function_parameters : Option Function → List DataType
function_parameters None = []
function_parameters (Some f) = take f.parameters f.variables

-- a function with a value of this type
abbrev pub is_function : Option Function → DataType → Bool
is_function None t = false
is_function (Some f) t = is_same f.result t

abbrev pub is_kind : Option ℕ → ℕ → Bool
is_kind None k = false
is_kind (Some j) k = nat_eq j k

-- a format that takes so many numbers
abbrev pub takes_numbers : Option (List ℕ) → ℕ → Bool
takes_numbers None n = false
takes_numbers (Some format) n = is_format format && nat_eq (conversions format) n

unfoldable pub count_row : {n : _} → Row_of-Expression n → ℕ
count_row end_of-Expression = 0
count_row (more_of-Expression e rest) = suc (count_row rest)

-- the expression is a place, also within parentheses
unfoldable pub is_place : Expression → Bool
is_place (Read' x t _ steps u) = true
is_place (parenthesized e t) = is_place e
is_place _ = false

abbrev pub is_part_step : ChainStep → Bool
is_part_step (Part s) = true
is_part_step (Call' trans _ args t) = false
is_part_step (Send' trans _ args) = false

abbrev pub begins_with_part : {n : _} → Row_of-ChainStep n → Bool
begins_with_part end_of-ChainStep = false
begins_with_part (more_of-ChainStep s rest) = is_part_step s

-- the constants of a type: each number of `int`, and of `long`
abbrev pub is_constant : NumberType → ℤ → Bool
is_constant numeric.Char n = false
is_constant numeric.Int n = fits 31 n
is_constant numeric.Long n = fits 63 n

module _ (s : Surroundings) where
  unfoldable mutual
    -- a step from a value of this type to a part of it
    pub is_typed_part : DataType → PartStep → Bool
    is_typed_part t (Field k u) = is_field_of s.parts.structures t k u
    is_typed_part t (Element e u) = is_element_of t u && is_typed e && is_arithmetic (type_of e)

    -- steps from a value of the first type to a part of the last; a place is a variable with steps from its type
    pub are_typed_parts : {n : _} → DataType → Row_of-PartStep n → DataType → Bool
    are_typed_parts t end_of-PartStep u = is_same t u
    are_typed_parts t (more_of-PartStep p rest) u = is_typed_part t p && are_typed_parts (type_after p) rest u

    -- a step from a value of this type
    pub is_typed_step : DataType → ChainStep → Bool
    is_typed_step t (Part p) = is_typed_part t p
    is_typed_step t (Call' trans _ args u) =
        is_called (slice_get s.parts.transactions trans) t u
        && are_typed_arguments args (parameters_at (slice_get s.parts.transactions trans))
    is_typed_step t (Send' trans _ args) =
        is_sent (slice_get s.parts.transactions trans) t
        && are_typed_arguments args (parameters_at (slice_get s.parts.transactions trans))

    -- steps from a value of the first type to one of the last
    pub are_typed_steps : {n : _} → DataType → Row_of-ChainStep n → DataType → Bool
    are_typed_steps t end_of-ChainStep u = is_same t u
    are_typed_steps t (more_of-ChainStep c rest) u = is_typed_step t c && are_typed_steps (type_after_step c) rest u

    pub is_typed : Expression → Bool
    is_typed (Constant n t) = is_constant t n
    is_typed GetChar = true
    is_typed (Read' x t _ steps u) = is_of_type (slice_get s.variables x) t && are_typed_parts t steps u
    -- a part of a place is a place
    is_typed (Chain' _ (more_of-Expression e end_of-Expression) _ steps u) =
        not (is_place e && begins_with_part steps) && is_typed e && are_typed_steps (type_of e) steps u
    is_typed (negate e t) = is_typed e && is_arithmetic (type_of e) && is_same_number (wider (number_in (type_of e)) numeric.Int) t
    is_typed (not_of e) = is_typed e && is_arithmetic (type_of e)
    is_typed (plus e t) = is_typed e && is_arithmetic (type_of e) && is_same_number (wider (number_in (type_of e)) numeric.Int) t
    is_typed (parenthesized e t) = is_typed e && is_same (type_of e) t
    is_typed (ChangeBefore' x t _ steps u d) = (is_of_type (slice_get s.variables x) t && are_typed_parts t steps u) && is_arithmetic u
    is_typed (ChangeAfter' x t _ steps u d) = (is_of_type (slice_get s.variables x) t && are_typed_parts t steps u) && is_arithmetic u
    is_typed (Arithmetic' _ (more_of-Expression a end_of-Expression) _ rest t) =
        is_typed a && is_arithmetic (type_of a) && are_typed_operations (number_in (type_of a)) rest t
    is_typed (Compare' _ (more_of-Expression a end_of-Expression) _ rest) =
        is_typed a && are_typed_comparisons (type_of a) rest
    is_typed (Both' _ (more_of-Expression a end_of-Expression) _ rest) =
        is_typed a && is_arithmetic (type_of a) && are_typed_operands (type_of a) rest
    is_typed (Either' _ (more_of-Expression a end_of-Expression) _ rest) =
        is_typed a && is_arithmetic (type_of a) && are_typed_operands (type_of a) rest
    is_typed (choose c a b t) =
        is_typed c && is_arithmetic (type_of c) && is_typed a && is_typed b && is_choice (type_of a) (type_of b) t
    is_typed (Assign' x t _ steps u _ (more_of-Expression e end_of-Expression)) =
        (is_of_type (slice_get s.variables x) t && are_typed_parts t steps u) && is_typed e && is_assignable (type_of e) u
    is_typed (Update' x t _ steps u o _ (more_of-Expression e end_of-Expression)) =
        (is_of_type (slice_get s.variables x) t && are_typed_parts t steps u) && is_arithmetic u && is_typed e && is_arithmetic (type_of e)
    is_typed (CallFunction' f _ args t) =
        is_function (slice_get s.parts.functions f) t
        && are_typed_arguments args (function_parameters (slice_get s.parts.functions f))
    is_typed (CreateProcess' k _ args) =
        is_process_type s.parts k && are_typed_arguments args (kind_parameters (slice_get s.parts.kinds k))
    is_typed (Within' _ (more_of-Expression d end_of-Expression) _ (more_of-Expression e end_of-Expression) trans _ args _ (more_of-Expression other end_of-Expression) t) =
        is_timed (slice_get s.parts.transactions trans) (type_of d) (type_of e) (type_of other) t
        && is_typed d
        && is_typed e
        && are_typed_arguments args (parameters_at (slice_get s.parts.transactions trans))
        && is_typed other
    is_typed (put_char e) = is_typed e && is_arithmetic (type_of e)
    is_typed (PrintFormat' f _ args) =
        takes_numbers (slice_get s.parts.formats f) (count_row args) && are_typed_numbers args

    -- operations of which the first has a left operand of the first type, and the last a result of the last; a row without one is
    -- as its first operand, an `int` or a `long`
    pub are_typed_operations : {n : _} → NumberType → Row_of-Operation n → NumberType → Bool
    are_typed_operations u end_of-Operation t = is_same_number u t && not (is_same_number t numeric.Char)
    are_typed_operations u (more_of-Operation o b v rest) t =
        (is_typed b && is_arithmetic (type_of b) && is_same_number (wider u (number_in (type_of b))) v)
        && are_typed_operations v rest t

    -- comparisons, of which each but the first has an `int` on its left; a row without one is as its first operand, an `int`
    pub are_typed_comparisons : {n : _} → DataType → Row_of-Compared n → Bool
    are_typed_comparisons u end_of-Compared = is_same u Int
    are_typed_comparisons u (more_of-Compared c b rest) =
        (is_typed b && is_comparable c u (type_of b)) && are_typed_comparisons Int rest

    -- the operands of `&&` or `||` after the first; a row without one is as its first operand, an `int`
    pub are_typed_operands : {n : _} → DataType → Row_of-Expression n → Bool
    are_typed_operands u end_of-Expression = is_same u Int
    are_typed_operands u (more_of-Expression b rest) =
        (is_typed b && is_arithmetic (type_of b)) && are_typed_operands Int rest

    pub are_typed_numbers : {n : _} → Row_of-Expression n → Bool
    are_typed_numbers end_of-Expression = true
    are_typed_numbers (more_of-Expression e rest) = (is_typed e && is_arithmetic (type_of e)) && are_typed_numbers rest

    -- an argument for each parameter, converted to its type
    pub are_typed_arguments : {n : _} → Row_of-Argument n → List DataType → Bool
    are_typed_arguments end_of-Argument [] = true
    are_typed_arguments end_of-Argument (u ∷ us) = false
    are_typed_arguments (more_of-Argument e t rest) [] = false
    are_typed_arguments (more_of-Argument e t rest) (u ∷ us) =
        (is_typed e && is_assignable (type_of e) t && is_same u t) && are_typed_arguments rest us

  -- a typed expression of an arithmetic type
  abbrev pub is_number : Expression → Bool
  is_number e = is_typed e && is_arithmetic (type_of e)

  abbrev pub is_typed_option : Option Expression → Bool
  is_typed_option None = true
  is_typed_option (Some e) = is_typed e

  abbrev pub is_number_option : Option Expression → Bool
  is_number_option None = true
  is_number_option (Some e) = is_number e

  -- a value that is given for this type, or none
  abbrev pub is_given : Option Expression → DataType → Bool
  is_given None t = true
  is_given (Some e) t = is_typed e && is_assignable (type_of e) t

  -- a value of this type, where there is one
  abbrev pub is_for : Option DataType → Expression → Bool
  is_for None e = false
  is_for (Some t) e = is_typed e && is_assignable (type_of e) t

  -- the value of `return` in `main`, for the type of `main`; a process body has none, since nothing is assigned to `void`
  abbrev pub is_finish : Option Expression → Bool
  is_finish None = true
  is_finish (Some e) = is_for s.result e

-- a body, of `main` or of a process type
abbrev pub is_body : Option ℕ → Bool
is_body None = false
is_body (Some k) = true

abbrev pub is_process_body : Option ℕ → Bool
is_process_body None = false
is_process_body (Some k) = nat_lt 0 k

abbrev pub is_outside : Option DataType → Bool
is_outside None = true
is_outside (Some t) = false

abbrev pub is_of_kind : Option Transaction → ℕ → Bool
is_of_kind None k = false
is_of_kind (Some t) k = nat_eq t.kind k

-- an accept of the kind in whose body it stands
abbrev pub is_accepted : Surroundings → Option Site → Bool
is_accepted s None = false
is_accepted s (Some site) =
    is_kind s.kind site.kind && is_of_kind (slice_get s.parts.transactions site.transaction) site.kind

abbrev pub in_accept : Surroundings → ℕ → Surroundings
in_accept s site =
    record s { replies = Some (value_type_at (slice_get s.parts.transactions (transaction_at (slice_get s.parts.sites site)))); may_break = false; may_continue = false }

abbrev pub inside_loop : Surroundings → Surroundings
inside_loop s = record s { may_break = true; may_continue = true }

abbrev pub is_terminate : Choice → Bool
is_terminate (AcceptChoice' site _ block) = false
is_terminate (DelayChoice e) = false
is_terminate Immediate = false
is_terminate Terminate = true

abbrev pub is_empty_row : {n : _} → Row_of-Statement n → Bool
is_empty_row end_of-Statement = true
is_empty_row (more_of-Statement a rest) = false

abbrev pub count_alternatives : {n : _} → Row_of-Alternative n → ℕ
count_alternatives end_of-Alternative = 0
count_alternatives (more_of-Alternative guard choice _ entries rest) = suc (count_alternatives rest)

-- so many things can have numbers
abbrev pub most_things : ℕ
most_things = 2 ^ 32

unfoldable mutual
  pub is_typed_statement : Surroundings → Statement → Bool
  is_typed_statement s Empty = true
  is_typed_statement s (Evaluate e) = is_typed s e
  is_typed_statement s (Declare x t) = is_of_type (slice_get s.variables x) t
  is_typed_statement s (Initialize x t e) =
      is_of_type (slice_get s.variables x) t && is_typed s e && is_assignable (type_of e) t
  is_typed_statement s (Block' _ all) = are_typed_statements s all
  is_typed_statement s (branch c a) = is_number s c && is_typed_statement s a
  is_typed_statement s (branches c a b) = is_number s c && is_typed_statement s a && is_typed_statement s b
  is_typed_statement s (while_loop c a) = is_number s c && is_typed_statement (inside_loop s) a
  is_typed_statement s (do_loop a c) = is_typed_statement (inside_loop s) a && is_number s c
  is_typed_statement s (for_loop first c next a) =
      is_typed_option s first
      && is_number_option s c
      && is_typed_option s next
      && is_typed_statement (inside_loop s) a
  is_typed_statement s Break = s.may_break
  is_typed_statement s Continue = s.may_continue
  is_typed_statement s (Return e t) = not (is_body s.kind) && is_of_type s.result t && is_given s e t
  is_typed_statement s (Finish e) = is_body s.kind && is_outside s.replies && is_finish s e
  is_typed_statement s (TransactionReturn e t) = is_of_type s.replies t && is_given s e t
  is_typed_statement s (Delay e) = is_number s e
  is_typed_statement s (Accept' site _ block) =
      is_accepted s (slice_get s.parts.sites site) && are_typed_statements (in_accept s site) block
  is_typed_statement s (Select' _ all) =
      is_process_body s.kind && nat_le (count_alternatives all) most_things && are_typed_alternatives s all

  pub are_typed_statements : {n : _} → Surroundings → Row_of-Statement n → Bool
  are_typed_statements s end_of-Statement = true
  are_typed_statements s (more_of-Statement a rest) = is_typed_statement s a && are_typed_statements s rest

  -- `terminate` has no entries
  pub are_typed_alternatives : {n : _} → Surroundings → Row_of-Alternative n → Bool
  are_typed_alternatives s end_of-Alternative = true
  are_typed_alternatives s (more_of-Alternative guard choice _ entries rest) =
      (is_number_option s guard
      && is_typed_choice s choice
      && (not (is_terminate choice) || is_empty_row entries)
      && are_typed_statements s entries)
      && are_typed_alternatives s rest

  pub is_typed_choice : Surroundings → Choice → Bool
  is_typed_choice s (AcceptChoice' site _ block) =
      is_accepted s (slice_get s.parts.sites site) && are_typed_statements (in_accept s site) block
  is_typed_choice s (DelayChoice e) = is_number s e
  is_typed_choice s Immediate = true
  is_typed_choice s Terminate = true

abbrev pub in_kind : Parts → ℕ → Kind → Surroundings
in_kind p number k =
    record { parts = p; variables = k.variables; kind = Some number; result = Some k.result; replies = None; may_break = false; may_continue = false }

abbrev pub are_few : {A : Type 0} → List A → Bool
are_few xs = nat_le (length xs) most_things

abbrev pub are_variables : Parts → ℕ → List DataType → Bool
are_variables p parameters ts =
    are_few ts && nat_le parameters (length ts) && are_parameters p (take parameters ts) && list_all (is_known p) ts

abbrev pub is_typed_kind : Parts → ℕ → Kind → Bool
is_typed_kind p number k =
    are_variables p k.parameters k.variables
    && (is_void k.result || nat_eq number 0 && is_whole p k.result)
    && list_all (is_typed_statement (in_kind p number k)) k.body

-- kinds from this number on
abbrev pub are_typed_kinds : Parts → ℕ → List Kind → Bool
are_typed_kinds p number [] = true
are_typed_kinds p number (k ∷ rest) = is_typed_kind p number k && are_typed_kinds p (suc number) rest

abbrev pub in_function : Parts → Function → Surroundings
in_function p f =
    record { parts = p; variables = f.variables; kind = None; result = Some f.result; replies = None; may_break = false; may_continue = false }

abbrev pub is_typed_function : Parts → Function → Bool
is_typed_function p f =
    are_variables p f.parameters f.variables
    && (is_void f.result || is_whole p f.result)
    && list_all (is_typed_statement (in_function p f)) f.body

-- an asynchronous transaction has no value
abbrev pub is_typed_transaction : Parts → Transaction → Bool
is_typed_transaction p t =
    is_process_type p t.kind
    && are_parameters p t.parameters
    && (is_void t.value || not t.is_async && is_whole p t.value)

abbrev pub at_clauses : Parts → Site → Surroundings
at_clauses p s =
    record { parts = p; variables = variables_of (slice_get p.kinds s.kind); kind = Some s.kind; result = None; replies = None; may_break = false; may_continue = false }

abbrev pub is_clause : Surroundings → Option Expression → Bool
is_clause s None = true
is_clause s (Some e) = is_pure most_pure_depth e && is_number s e

-- there are variables of these types from this number on; where there is no type, the number is at most that after the last
abbrev pub have_types_from : List DataType → List DataType → ℕ → Bool
have_types_from types variables first =
    nat_le first (length variables) && is_same_all types (take (length types) (drop first variables))

-- the variables for the parameters of an accept
abbrev pub has_parameter_variables : Parts → Site → Bool
has_parameter_variables p s =
    have_types_from (parameters_at (slice_get p.transactions s.transaction)) (variables_of (slice_get p.kinds s.kind)) s.first

abbrev pub own_variables : Parts → Site → Own
own_variables p s =
    record { first = s.first; count = length (parameters_at (slice_get p.transactions s.transaction)) }

-- the environment is the variables that the clauses name, in the order of the text, where either may stand first
abbrev pub is_environment : Own → Site → Bool
is_environment own s =
    are_numbers s.environment (clause_noted own (clause_noted own [] s.such_that) s.least_by)
    || are_numbers s.environment (clause_noted own (clause_noted own [] s.least_by) s.such_that)

abbrev pub is_typed_site : Parts → Site → Bool
is_typed_site p s =
    is_process_type p s.kind
    && is_of_kind (slice_get p.transactions s.transaction) s.kind
    && has_parameter_variables p s
    && is_clause (at_clauses p s) s.such_that
    && is_clause (at_clauses p s) s.least_by
    && is_environment (own_variables p s) s

-- `main` is there, without parameters
abbrev pub has_main : List Kind → Bool
has_main [] = false
has_main (k ∷ rest) = nat_eq k.parameters 0

abbrev pub has_few_parts : Parts → Bool
has_few_parts p =
    are_few p.structures
    && are_few p.kinds
    && are_few p.functions
    && are_few p.transactions
    && are_few p.sites
    && are_few p.formats

abbrev pub are_typed_structures : Parts → Bool
are_typed_structures p = is_table p.structures && list_all (is_known_structure p) p.structures

-- all but the sites
abbrev pub is_typed_but_for_sites : Parts → Bool
is_typed_but_for_sites p =
    has_main p.kinds
    && has_few_parts p
    && are_typed_structures p
    && are_typed_kinds p 0 p.kinds
    && list_all (is_typed_function p) p.functions
    && list_all (is_typed_transaction p) p.transactions

-- each site stands in one accept of the bodies
abbrev pub is_typed_program : Parts → Bool
is_typed_program p =
    is_typed_but_for_sites p
    && list_all (is_typed_site p) p.sites
    && are_each_once (length p.sites) (sites_of_kinds p.kinds)
