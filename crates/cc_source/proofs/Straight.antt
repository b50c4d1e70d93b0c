-- Which phrases are straight, by the names that the code has.
use Rattle.std.proofs.Common.{◌≡◌, ℕ, ℤ, true, false, ◌&&◌, List, Option, refl, ap, ◌∙◌}
use Rattle.std.specs.List.{list_all}
use Rattle.cc_base.specs.Numbers.{is_int}
use Rattle.cc_base.specs.declared.numbers.NumberType.{NumberType}
use Rattle.cc_base.specs.declared.numbers.Operator.{Operator}
use Rattle.cc_source.specs.Straight.{is_straight, are_straight_row, are_straight_steps, is_straight_argument, is_straight_location, is_straight_option, is_straight_place, is_straight_statement, is_straight_step, are_straight_statements, is_straight_type, is_straight_value}
use Rattle.cc_typed.specs.Sequences.{is_empty}
use Rattle.cc_typed.specs.declared.tree.AcceptPart.{AcceptPart}
use Rattle.cc_typed.specs.declared.tree.Alternative.{Alternative}
use Rattle.cc_typed.specs.declared.tree.Argument.{Argument}
use Rattle.cc_typed.specs.declared.tree.ChainStep.{ChainStep, Part, Call, Send, Row_of-Argument, end_of-Argument, more_of-Argument, items-the_row-Argument, items_hidden-the_row-Argument-0}
use Rattle.cc_typed.specs.declared.tree.ChainStep.TheBlock as E
use Rattle.cc_typed.specs.declared.tree.Choice.TheBlock as S
use Rattle.cc_typed.specs.declared.tree.Compared.{Compared}
use Rattle.cc_typed.specs.declared.tree.Expression.{Expression, Constant, GetChar, Read, Chain, Negate, Not, Plus, Parenthesized, ChangeBefore, ChangeAfter, Arithmetic, Compare, Both, Either, Choose, Assign, Update, CallFunction, CreateProcess, Within, PutChar, PrintFormat, Row_of-PartStep, end_of-PartStep, more_of-PartStep, items-the_row-PartStep, items_hidden-the_row-PartStep-1, Row_of-ChainStep, end_of-ChainStep, more_of-ChainStep, items-the_row-ChainStep, items_hidden-the_row-ChainStep-3}
use Rattle.cc_typed.specs.declared.tree.Location.{Location}
use Rattle.cc_typed.specs.declared.tree.Operation.{Operation}
use Rattle.cc_typed.specs.declared.tree.PartStep.{PartStep}
use Rattle.cc_typed.specs.declared.tree.Statement.{Statement, Empty, Evaluate, Declare, Initialize, Block, If, IfElse, While, DoWhile, For, Break, Continue, Return, Finish, TransactionReturn, Delay, Accept, Select, Row_of-Statement, end_of-Statement, more_of-Statement, items-the_row-Statement, items_hidden-the_row-Statement-0}
use Rattle.cc_typed.specs.declared.tree.Change.{Change}
use Rattle.cc_typed.specs.declared.types.DataType.{DataType}
use denote.Hole.Carrier.{hidden}

place-row : {n : _} (row : Row_of-PartStep n) (u : DataType) → is_straight_place row u ≡ (is_empty (items-the_row-PartStep n row) && is_straight_type u)
unfolding is_straight_place
place-row end_of-PartStep u = refl
place-row (more_of-PartStep s rest) u = refl

place-hidden : (l : Location) → is_straight_place (E.hidden-the_row-PartStep-1 l.steps) l.data_type ≡ is_straight_location l
place-hidden l =
    place-row (E.hidden-the_row-PartStep-1 l.steps) l.data_type
    ∙ ap (λ xs. is_empty xs && is_straight_type l.data_type) (items_hidden-the_row-PartStep-1 l.steps)

arguments-row : {n : _} (row : Row_of-Argument n) → are_straight_row row ≡ list_all is_straight_argument (items-the_row-Argument n row)
unfolding is_straight
arguments-row end_of-Argument = refl
arguments-row (more_of-Argument e t rest) = ap (λ b. (is_straight e && is_straight_type t) && b) (arguments-row rest)

arguments-hidden : (args : List Argument) → are_straight_row (E.hidden-the_row-Argument-0 args) ≡ list_all is_straight_argument args
arguments-hidden args = arguments-row (E.hidden-the_row-Argument-0 args) ∙ ap (list_all is_straight_argument) (items_hidden-the_row-Argument-0 args)

steps-row : {n : _} (row : Row_of-ChainStep n) → are_straight_steps row ≡ list_all is_straight_step (items-the_row-ChainStep n row)
unfolding is_straight
steps-row end_of-ChainStep = refl
steps-row (more_of-ChainStep s rest) = ap (λ b. is_straight_step s && b) (steps-row rest)

steps-hidden : (steps : List ChainStep) → are_straight_steps (E.hidden-the_row-ChainStep-3 steps) ≡ list_all is_straight_step steps
steps-hidden steps = steps-row (E.hidden-the_row-ChainStep-3 steps) ∙ ap (list_all is_straight_step) (items_hidden-the_row-ChainStep-3 steps)

pub straight-Constant : (n : ℤ) (t : NumberType) → is_straight (Constant n t) ≡ is_int t
unfolding is_straight
straight-Constant n t = refl

pub straight-GetChar : is_straight GetChar ≡ false
unfolding is_straight
straight-GetChar = refl

pub straight-Read : (l : Location) → is_straight (Read l) ≡ is_straight_location l
unfolding is_straight
straight-Read l = place-hidden l

pub straight-Chain : (e : Expression) (steps : List ChainStep) (u : DataType)
    → is_straight (Chain e steps u) ≡ (is_straight e && list_all is_straight_step steps && is_straight_value u)
unfolding is_straight E.shape-the_row-Expression-2 E.hidden-the_row-Expression-2 hidden
straight-Chain e steps u = ap (λ b. is_straight e && b && is_straight_value u) (steps-hidden steps)

pub straight-Parenthesized : (e : Expression) (t : DataType) → is_straight (Parenthesized e t) ≡ (is_straight e && is_straight_value t)
unfolding is_straight E.shape-the_row-Expression-2 E.hidden-the_row-Expression-2 hidden
straight-Parenthesized e t = refl

pub straight-Assign : (l : Location) (e : Expression) → is_straight (Assign l e) ≡ (is_straight_location l && is_straight e)
unfolding is_straight E.shape-the_row-Expression-2 E.hidden-the_row-Expression-2 hidden
straight-Assign l e = ap (λ b. b && is_straight e) (place-hidden l)

pub straight-CreateProcess : (k : ℕ) (args : List Argument) → is_straight (CreateProcess k args) ≡ list_all is_straight_argument args
unfolding is_straight
straight-CreateProcess k args = arguments-hidden args

pub straight-PutChar : (e : Expression) → is_straight (PutChar e) ≡ is_straight e
unfolding is_straight E.shape-the_row-Expression-2 E.hidden-the_row-Expression-2 hidden
straight-PutChar e = refl

pub step-Part : (s : PartStep) → is_straight_step (Part s) ≡ false
unfolding is_straight
step-Part s = refl

pub step-Call : (trans : ℕ) (args : List Argument) (u : DataType)
    → is_straight_step (Call trans args u) ≡ (list_all is_straight_argument args && is_straight_value u)
unfolding is_straight
step-Call trans args u = ap (λ b. b && is_straight_value u) (arguments-hidden args)

pub step-Send : (trans : ℕ) (args : List Argument) → is_straight_step (Send trans args) ≡ false
unfolding is_straight
step-Send trans args = refl

pub straight-Negate : (e : Expression) (t : NumberType) → is_straight (Negate e t) ≡ false
unfolding is_straight
straight-Negate e t = refl

pub straight-Not : (e : Expression) → is_straight (Not e) ≡ false
unfolding is_straight
straight-Not e = refl

pub straight-Plus : (e : Expression) (t : NumberType) → is_straight (Plus e t) ≡ false
unfolding is_straight
straight-Plus e t = refl

pub straight-ChangeBefore : (l : Location) (s : Change) → is_straight (ChangeBefore l s) ≡ false
unfolding is_straight
straight-ChangeBefore l s = refl

pub straight-ChangeAfter : (l : Location) (s : Change) → is_straight (ChangeAfter l s) ≡ false
unfolding is_straight
straight-ChangeAfter l s = refl

pub straight-Arithmetic : (a : Expression) (rest : List Operation) (t : NumberType) → is_straight (Arithmetic a rest t) ≡ false
unfolding is_straight
straight-Arithmetic a rest t = refl

pub straight-Compare : (a : Expression) (rest : List Compared) → is_straight (Compare a rest) ≡ false
unfolding is_straight
straight-Compare a rest = refl

pub straight-Both : (a : Expression) (rest : List Expression) → is_straight (Both a rest) ≡ false
unfolding is_straight
straight-Both a rest = refl

pub straight-Either : (a : Expression) (rest : List Expression) → is_straight (Either a rest) ≡ false
unfolding is_straight
straight-Either a rest = refl

pub straight-Choose : (c a b : Expression) (t : DataType) → is_straight (Choose c a b t) ≡ false
unfolding is_straight
straight-Choose c a b t = refl

pub straight-Update : (l : Location) (o : Operator) (e : Expression) → is_straight (Update l o e) ≡ false
unfolding is_straight
straight-Update l o e = refl

pub straight-CallFunction : (f : ℕ) (args : List Argument) (t : DataType) → is_straight (CallFunction f args t) ≡ false
unfolding is_straight
straight-CallFunction f args t = refl

pub straight-Within : (d e : Expression) (k : ℕ) (args : List Argument) (o : Expression) (t : DataType) → is_straight (Within d e k args o t) ≡ false
unfolding is_straight
straight-Within d e k args o t = refl

pub straight-PrintFormat : (f : ℕ) (args : List Expression) → is_straight (PrintFormat f args) ≡ false
unfolding is_straight
straight-PrintFormat f args = refl

pub statement-Initialize : (x : ℕ) (t : DataType) (e : Expression) → is_straight_statement (Initialize x t e) ≡ false
unfolding is_straight_statement
statement-Initialize x t e = refl

pub statement-If : (c : Expression) (a : Statement) → is_straight_statement (If c a) ≡ false
unfolding is_straight_statement
statement-If c a = refl

pub statement-IfElse : (c : Expression) (a b : Statement) → is_straight_statement (IfElse c a b) ≡ false
unfolding is_straight_statement
statement-IfElse c a b = refl

pub statement-While : (c : Expression) (a : Statement) → is_straight_statement (While c a) ≡ false
unfolding is_straight_statement
statement-While c a = refl

pub statement-DoWhile : (a : Statement) (c : Expression) → is_straight_statement (DoWhile a c) ≡ false
unfolding is_straight_statement
statement-DoWhile a c = refl

pub statement-For : (a c b : Option Expression) (s : Statement) → is_straight_statement (For a c b s) ≡ false
unfolding is_straight_statement
statement-For a c b s = refl

pub statement-Break : is_straight_statement Break ≡ false
unfolding is_straight_statement
statement-Break = refl

pub statement-Continue : is_straight_statement Continue ≡ false
unfolding is_straight_statement
statement-Continue = refl

pub statement-Return : (e : Option Expression) (t : DataType) → is_straight_statement (Return e t) ≡ false
unfolding is_straight_statement
statement-Return e t = refl

pub statement-Finish : (e : Option Expression) → is_straight_statement (Finish e) ≡ false
unfolding is_straight_statement
statement-Finish e = refl

pub statement-Delay : (e : Expression) → is_straight_statement (Delay e) ≡ false
unfolding is_straight_statement
statement-Delay e = refl

pub statement-Select : (all : List Alternative) → is_straight_statement (Select all) ≡ false
unfolding is_straight_statement
statement-Select all = refl

row-statements : (n : _) (row : Row_of-Statement n) → are_straight_statements row ≡ list_all is_straight_statement (items-the_row-Statement n row)
unfolding is_straight_statement
row-statements n end_of-Statement = refl
row-statements n (more_of-Statement s rest) = ap (λ b. is_straight_statement s && b) (row-statements _ rest)

pub statement-Empty : is_straight_statement Empty ≡ true
unfolding is_straight_statement
statement-Empty = refl

pub statement-Evaluate : (e : Expression) → is_straight_statement (Evaluate e) ≡ is_straight e
unfolding is_straight_statement
statement-Evaluate e = refl

pub statement-Declare : (x : ℕ) (t : DataType) → is_straight_statement (Declare x t) ≡ is_straight_type t
unfolding is_straight_statement
statement-Declare x t = refl

pub statement-TransactionReturn : (e : Option Expression) (t : DataType)
    → is_straight_statement (TransactionReturn e t) ≡ (is_straight_option e && is_straight_value t)
unfolding is_straight_statement
statement-TransactionReturn e t = refl

pub statement-Block : (all : List Statement) → is_straight_statement (Block all) ≡ list_all is_straight_statement all
unfolding is_straight_statement
statement-Block all = row-statements _ (S.hidden-the_row-Statement-0 all) ∙ ap (list_all is_straight_statement) (items_hidden-the_row-Statement-0 all)

pub statement-Accept : (part : AcceptPart) → is_straight_statement (Accept part) ≡ list_all is_straight_statement part.block
unfolding is_straight_statement
statement-Accept part =
    row-statements _ (S.hidden-the_row-Statement-0 part.block) ∙ ap (list_all is_straight_statement) (items_hidden-the_row-Statement-0 part.block)

pub ruleset straight_expressions =
    (straight-Constant, straight-GetChar, straight-Read, straight-Chain, straight-Negate, straight-Not, straight-Plus, straight-Parenthesized, straight-ChangeBefore, straight-ChangeAfter, straight-Arithmetic, straight-Compare, straight-Both, straight-Either, straight-Choose, straight-Assign, straight-Update, straight-CallFunction, straight-CreateProcess, straight-Within, straight-PutChar, straight-PrintFormat, step-Part, step-Call, step-Send)

pub ruleset straight_statements =
    (statement-Empty, statement-Evaluate, statement-Declare, statement-TransactionReturn, statement-Block, statement-Accept, statement-Initialize, statement-If, statement-IfElse, statement-While, statement-DoWhile, statement-For, statement-Break, statement-Continue, statement-Return, statement-Finish, statement-Delay, statement-Select)
