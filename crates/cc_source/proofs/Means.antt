-- The meaning of straight phrases, by the names that the code has.
use Rattle.std.proofs.Common.{◌≡◌, ℕ, ℤ, true, List, [], ◌∷◌, ◌++◌, Option, refl, ap, ◌∙◌}
use Rattle.std.specs.Prelude.{set}
use Rattle.cc_base.specs.Outcome.{Left, Outcome, Through, Asked, Eval, ◌>>=◌, ◌>>◌, and_then, pure}
use Rattle.cc_base.specs.declared.numbers.NumberType.{NumberType}
use Rattle.cc_source.specs.Known.{and-left}
use Rattle.cc_source.specs.Lists.{assigned, byte_put, called_value, cells_given, created, process_from, exec_all, path_of, value_after}
use Rattle.cc_source.specs.Meaning.{Caller, Ended, Flow, Replied, Scope, accepted, arguments, converted_value, eval, exec, exec_row, given, part_number, path_along, step_from, stored, unless_left, value_along, value_at, value_of, zero_in}
use Rattle.cc_source.specs.Straight.{is_straight_location}
use Rattle.cc_typed.specs.Parts.{Parts}
use Rattle.cc_typed.specs.Sequences.{is_empty}
use Rattle.cc_typed.specs.Types.{type_after, type_after_step, type_of}
use Rattle.cc_typed.specs.Values.{Number, Value, flat, flats, number}
use Rattle.cc_typed.specs.declared.tree.AcceptPart.{AcceptPart}
use Rattle.cc_typed.specs.declared.tree.Argument.{Argument}
use Rattle.cc_typed.specs.declared.tree.ChainStep.{ChainStep, Call, Row_of-Argument, end_of-Argument, more_of-Argument, items-the_row-Argument, items_hidden-the_row-Argument-0}
use Rattle.cc_typed.specs.declared.tree.ChainStep.TheBlock as E
use Rattle.cc_typed.specs.declared.tree.Choice.TheBlock as S
use Rattle.cc_typed.specs.declared.tree.Expression.{Expression, Constant, Read, Chain, Parenthesized, Assign, CreateProcess, PutChar, Row_of-PartStep, end_of-PartStep, more_of-PartStep, items-the_row-PartStep, items_hidden-the_row-PartStep-1, Row_of-ChainStep, end_of-ChainStep, more_of-ChainStep, items-the_row-ChainStep, items_hidden-the_row-ChainStep-3}
use Rattle.cc_typed.specs.declared.tree.Location.{Location}
use Rattle.cc_typed.specs.declared.tree.PartStep.{PartStep}
use Rattle.cc_typed.specs.declared.tree.Statement.{Statement, Empty, Evaluate, Declare, Block, Accept, TransactionReturn, Row_of-Statement, end_of-Statement, more_of-Statement, items-the_row-Statement, items_hidden-the_row-Statement-0}
use Rattle.cc_typed.specs.declared.types.DataType.{DataType}
use denote.Hole.Carrier.{hidden}

same-then : {A B : Type 0} (o : Outcome Scope A) (f g : A → Eval Scope B) → ((a : A) (sc : Scope) (l : Left) → f a sc l ≡ g a sc l)
    → and_then o f ≡ and_then o g
same-then (Through a sc l) f g h = h a sc l
same-then (Asked q) f g h = refl

module _ (p : Parts) (call : Caller) where
  path-row : {n : _} (t : DataType) (path : List ℕ) (row : Row_of-PartStep n) (sc : Scope) (l : Left)
      → path_along p call t path row sc l ≡ path_of p call t path (items-the_row-PartStep n row) sc l
  unfolding eval
  path-row t path end_of-PartStep sc l = refl
  path-row t path (more_of-PartStep s rest) sc l = same-then (part_number p call t s sc l) _ _ (λ k. path-row (type_after s) (path ++ k ∷ []) rest)

  path-hidden : (at : Location) (sc : Scope) (l : Left)
      → path_along p call at.of [] (E.hidden-the_row-PartStep-1 at.steps) sc l ≡ path_of p call at.of [] at.steps sc l
  path-hidden at sc l =
      path-row at.of [] (E.hidden-the_row-PartStep-1 at.steps) sc l ∙ ap (λ xs. path_of p call at.of [] xs sc l) (items_hidden-the_row-PartStep-1 at.steps)

  values-row : {n : _} (t : DataType) (v : Value) (row : Row_of-ChainStep n) (sc : Scope) (l : Left)
      → value_along p call t v row sc l ≡ value_after p call t v (items-the_row-ChainStep n row) sc l
  unfolding eval
  values-row t v end_of-ChainStep sc l = refl
  values-row t v (more_of-ChainStep s rest) sc l = same-then (step_from p call t v s sc l) _ _ (λ w. values-row (type_after_step s) w rest)

  -- what stands after the arguments of a call sees their cells alone
  cells-row : {A : Type 0} {n : _} (row : Row_of-Argument n) (f : List ℤ → Eval Scope A) (sc : Scope) (l : Left)
      → and_then (arguments p call row sc l) (λ vs. f (flats vs)) ≡ and_then (cells_given p call (items-the_row-Argument n row) sc l) f
  unfolding eval
  cells-row end_of-Argument f sc l = refl
  cells-row (more_of-Argument e t rest) f sc l = evaluated (λ w. cells-row rest (λ cs. f (flat w ++ cs))) (eval p call e sc l)
    where
      listed : (w : Value) (o : Outcome Scope (List Value))
          → and_then (and_then o (λ ws sc1 l1. Through (w ∷ ws) sc1 l1)) (λ vs. f (flats vs)) ≡ and_then o (λ ws. f (flat w ++ flats ws))
      listed w (Through ws sc1 l1) = refl
      listed w (Asked q) = refl

      joined : (w : Value) (o : Outcome Scope (List ℤ))
          → and_then o (λ cs. f (flat w ++ cs)) ≡ and_then (and_then o (λ cs sc1 l1. Through (flat w ++ cs) sc1 l1)) f
      joined w (Through cs sc1 l1) = refl
      joined w (Asked q) = refl

      converted : ((w : Value) (sc1 : Scope) (l1 : Left) → and_then (arguments p call rest sc1 l1) (λ vs. f (flat w ++ flats vs)) ≡ and_then (cells_given p call (items-the_row-Argument _ rest) sc1 l1) (λ cs. f (flat w ++ cs)))
          → (o : Outcome Scope Value)
          → and_then (and_then o (λ w. arguments p call rest >>= (λ ws. pure (w ∷ ws)))) (λ vs. f (flats vs))
          ≡ and_then (and_then o (λ w. cells_given p call (items-the_row-Argument _ rest) >>= (λ cs. pure (flat w ++ cs)))) f
      converted more (Through w sc1 l1) =
          listed w (arguments p call rest sc1 l1)
          ∙ more w sc1 l1
          ∙ joined w (cells_given p call (items-the_row-Argument _ rest) sc1 l1)
      converted more (Asked q) = refl

      evaluated : ((w : Value) (sc1 : Scope) (l1 : Left) → and_then (arguments p call rest sc1 l1) (λ vs. f (flat w ++ flats vs)) ≡ and_then (cells_given p call (items-the_row-Argument _ rest) sc1 l1) (λ cs. f (flat w ++ cs)))
          → (o : Outcome Scope Value)
          → and_then (and_then o (λ v. converted_value (type_of e) t v >>= (λ w. arguments p call rest >>= (λ ws. pure (w ∷ ws))))) (λ vs. f (flats vs))
          ≡ and_then (and_then o (λ v. converted_value (type_of e) t v >>= (λ w. cells_given p call (items-the_row-Argument _ rest) >>= (λ cs. pure (flat w ++ cs))))) f
      evaluated more (Through v sc1 l1) = converted more (converted_value (type_of e) t v sc1 l1)
      evaluated more (Asked q) = refl

  cells-hidden : {A : Type 0} (args : List Argument) (f : List ℤ → Eval Scope A) (sc : Scope) (l : Left)
      → and_then (arguments p call (E.hidden-the_row-Argument-0 args) sc l) (λ vs. f (flats vs)) ≡ and_then (cells_given p call args sc l) f
  cells-hidden args f sc l =
      cells-row (E.hidden-the_row-Argument-0 args) f sc l ∙ ap (λ xs. and_then (cells_given p call xs sc l) f) (items_hidden-the_row-Argument-0 args)

  no-path : (at : Location) (sc : Scope) (l : Left) → is_straight_location at ≡ true → path_of p call at.of [] at.steps sc l ≡ Through [] sc l
  no-path at sc l s = ap (λ xs. path_of p call at.of [] xs sc l) (none-there at.steps (and-left _ _ s))
    where
      none-there : (xs : List PartStep) → is_empty xs ≡ true → xs ≡ []
      none-there [] e = refl
      none-there (x ∷ xs) e = cc

  pub eval-Constant : (n : ℤ) (t : NumberType) (sc : Scope) (l : Left) → eval p call (Constant n t) sc l ≡ Through (Number n) sc l
  unfolding eval
  eval-Constant n t sc l = refl

  -- a variable as a whole
  pub eval-Read : (at : Location) (sc : Scope) (l : Left) → is_straight_location at ≡ true
      → eval p call (Read at) sc l ≡ Through (value_at sc at.variable) sc l
  unfolding eval
  eval-Read at sc l s = ap (λ o. and_then o (value_of at.variable)) (path-hidden at sc l ∙ no-path at sc l s)

  pub eval-Chain : (e : Expression) (steps : List ChainStep) (u : DataType) (sc : Scope) (l : Left)
      → eval p call (Chain e steps u) sc l ≡ (eval p call e >>= (λ v. value_after p call (type_of e) v steps)) sc l
  unfolding eval E.shape-the_row-Expression-2 E.hidden-the_row-Expression-2 hidden
  eval-Chain e steps u sc l =
      same-then (eval p call e sc l) _ _
      (λ v sc l. values-row (type_of e) v (E.hidden-the_row-ChainStep-3 steps) sc l ∙ ap (λ xs. value_after p call (type_of e) v xs sc l) (items_hidden-the_row-ChainStep-3 steps))

  pub eval-Parenthesized : (e : Expression) (t : DataType) (sc : Scope) (l : Left) → eval p call (Parenthesized e t) sc l ≡ eval p call e sc l
  unfolding eval E.shape-the_row-Expression-2 E.hidden-the_row-Expression-2 hidden
  eval-Parenthesized e t sc l = refl

  pub eval-Assign : (at : Location) (e : Expression) (sc : Scope) (l : Left) → is_straight_location at ≡ true
      → eval p call (Assign at e) sc l ≡ (eval p call e >>= assigned (type_of e) at.data_type at.variable) sc l
  unfolding eval E.shape-the_row-Expression-2 E.hidden-the_row-Expression-2 hidden
  eval-Assign at e sc l s =
      ap (λ o. and_then o (λ path. eval p call e >>= (λ v. converted_value (type_of e) at.data_type v >>= stored at.variable path))) (path-hidden at sc l ∙ no-path at sc l s)

  pub eval-CreateProcess : (k : ℕ) (args : List Argument) (sc : Scope) (l : Left)
      → eval p call (CreateProcess k args) sc l ≡ created p call k args sc l
  unfolding eval
  eval-CreateProcess k args sc l = cells-hidden args (process_from k) sc l

  pub eval-PutChar : (e : Expression) (sc : Scope) (l : Left) → eval p call (PutChar e) sc l ≡ (eval p call e >>= (λ v. byte_put (number v))) sc l
  unfolding eval E.shape-the_row-Expression-2 E.hidden-the_row-Expression-2 hidden
  eval-PutChar e sc l = refl

  pub step-Call : (t : DataType) (v : Value) (trans : ℕ) (args : List Argument) (u : DataType) (sc : Scope) (l : Left)
      → step_from p call t v (Call trans args u) sc l ≡ (cells_given p call args >>= called_value p trans u (number v)) sc l
  unfolding eval
  step-Call t v trans args u sc l = cells-hidden args (called_value p trans u (number v)) sc l

  exec-row : {n : _} (row : Row_of-Statement n) → exec_row p call row ≡ exec_all p call (items-the_row-Statement n row)
  unfolding exec
  exec-row end_of-Statement = refl
  exec-row (more_of-Statement s rest) = ap (λ f. exec p call s >>= (λ flow. unless_left flow f)) (exec-row rest)

  exec-hidden : (all : List Statement) → exec_row p call (S.hidden-the_row-Statement-0 all) ≡ exec_all p call all
  exec-hidden all = exec-row (S.hidden-the_row-Statement-0 all) ∙ ap (exec_all p call) (items_hidden-the_row-Statement-0 all)

  pub exec-Empty : (sc : Scope) (l : Left) → exec p call Empty sc l ≡ Through Ended sc l
  unfolding exec
  exec-Empty sc l = refl

  pub exec-Evaluate : (e : Expression) (sc : Scope) (l : Left) → exec p call (Evaluate e) sc l ≡ (eval p call e >> pure Ended) sc l
  unfolding exec
  exec-Evaluate e sc l = refl

  pub exec-Declare : (x : ℕ) (t : DataType) (sc : Scope) (l : Left) → exec p call (Declare x t) sc l ≡ Through Ended (set sc x (zero_in p t)) l
  unfolding exec
  exec-Declare x t sc l = refl

  pub exec-Block : (all : List Statement) (sc : Scope) (l : Left) → exec p call (Block all) sc l ≡ exec_all p call all sc l
  unfolding exec
  exec-Block all sc l = ap (λ (f : Eval Scope Flow). f sc l) (exec-hidden all)

  pub exec-TransactionReturn : (e : Option Expression) (t : DataType) (sc : Scope) (l : Left)
      → exec p call (TransactionReturn e t) sc l ≡ (given p call e t >>= (λ v. pure (Replied v))) sc l
  unfolding exec
  exec-TransactionReturn e t sc l = refl

  pub exec-Accept : (part : AcceptPart) (sc : Scope) (l : Left) → exec p call (Accept part) sc l ≡ accepted p call part.site (exec_all p call part.block) sc l
  unfolding exec
  exec-Accept part sc l = ap (λ (f : Eval Scope Flow). accepted p call part.site f sc l) (exec-hidden part.block)

pub ruleset means = (eval-Constant, eval-Read, eval-Chain, eval-Parenthesized, eval-Assign, eval-CreateProcess, eval-PutChar, step-Call)

pub ruleset does = (exec-Empty, exec-Evaluate, exec-Declare, exec-Block, exec-TransactionReturn, exec-Accept)
