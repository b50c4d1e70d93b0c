-- What a phrase does, on values.
use Rattle.std.specs.Prelude.{ℕ, zero, suc, ℤ, pos, negsuc, List, [], ◌∷◌, ◌++◌, map, get_or, set, Option, Some, None, true, false, slice_get, Result}
use Rattle.cc_base.specs.Granted.{alternative_taken, args_taken, create, delay, get_byte, or_fault, print_format, put_byte, reply, select, send, transact, transact_within}
use Rattle.cc_base.specs.Loops.{loops}
use Rattle.cc_base.specs.Numbers.{at_zero, compared, converted, indexed, logical_not, operated, opposite, truth, truth_of, updated}
use Rattle.cc_base.specs.Outcome.{Eval, ◌>>=◌, ◌>>◌, pure, variables, set_variables}
use Rattle.cc_base.specs.declared.alternatives.Alt.{Alt}
use Rattle.cc_base.specs.declared.alternatives.Alt.TheVariants as alt
use Rattle.cc_base.specs.declared.names.FaultKind.{FaultKind}
use Rattle.cc_base.specs.declared.numbers.NumberType.{NumberType}
use Rattle.cc_base.specs.declared.numbers.NumberType.TheVariants as numeric
use Rattle.cc_base.specs.declared.numbers.Operator.{Operator}
use Rattle.cc_base.specs.declared.numbers.Operator.TheVariants.{Add}
use Rattle.cc_base.specs.declared.request.Grant.{Grant}
use Rattle.cc_typed.specs.Layout.{cells}
use Rattle.cc_typed.specs.Missing.{environment_at, first_at, parameters_at, transaction_at, value_type_at}
use Rattle.cc_typed.specs.Parts.{Parts}
use Rattle.cc_typed.specs.Phrases.{negate, not_of, plus, parenthesized, choose, put_char, branch, branches, while_loop, do_loop, for_loop}
use Rattle.cc_typed.specs.Table.{layout_of, layouts_of}
use Rattle.cc_typed.specs.Types.{array_length, number_in, of_number, type_after, type_after_step, type_of}
use Rattle.cc_typed.specs.Values.{Value, Number, flat, flats, nought, number, part, read, store, unflat, unflats, zero_of}
use Rattle.cc_typed.specs.declared.tree.ChainStep.{ChainStep, Part, Call', Send', Row_of-Argument, end_of-Argument, more_of-Argument}
use Rattle.cc_typed.specs.declared.tree.Choice.{Choice, Accept' as AcceptChoice', Delay as DelayChoice, Immediate, Terminate}
use Rattle.cc_typed.specs.declared.tree.Expression.{Expression, Constant, GetChar, Read', Chain', ChangeBefore', ChangeAfter', Arithmetic', Compare', Both', Either', Assign', Update', CallFunction', CreateProcess', Within', PrintFormat', Row_of-Expression, end_of-Expression, more_of-Expression, Row_of-PartStep, end_of-PartStep, more_of-PartStep, Row_of-ChainStep, end_of-ChainStep, more_of-ChainStep, Row_of-Operation, end_of-Operation, more_of-Operation, Row_of-Compared, end_of-Compared, more_of-Compared}
use Rattle.cc_typed.specs.declared.tree.PartStep.{PartStep, Field, Element}
use Rattle.cc_typed.specs.declared.tree.Statement.{Statement, Empty, Evaluate, Declare, Initialize, Block', Break, Continue, Return, Finish, TransactionReturn, Delay, Accept', Select', Row_of-Statement, end_of-Statement, more_of-Statement, Row_of-Alternative, end_of-Alternative, more_of-Alternative}
use Rattle.cc_typed.specs.declared.tree.Change.{Change}
use Rattle.cc_typed.specs.declared.tree.Change.TheVariants.{Up, Down}
use Rattle.cc_typed.specs.declared.tree.Transaction.{Transaction}
use Rattle.cc_typed.specs.declared.types.DataType.{DataType}
use Rattle.cc_typed.specs.declared.types.DataType.TheVariants.{Void}

-- how a statement ended: by itself, by `break`, by `continue`, by `return` in a function with its value, by `treturn` with the
-- value of the transaction, or by `return` in `main` or a process body
pub data Flow : Type 0 where
  Ended : Flow
  Broke : Flow
  Continued : Flow
  Returned : Value → Flow
  Replied : Value → Flow
  Finished : Flow

-- the variables of a function or body, by their numbers
abbrev pub Scope : Type 0
Scope = List Value

abbrev pub value_at : Scope → ℕ → Value
value_at scope x = get_or scope x nought

-- a place is told by its variable and a path from there
abbrev pub value_of : ℕ → List ℕ → Eval Scope Value
value_of x path = do
  scope ← variables
  pure (read path (value_at scope x))

-- the value is stored at the place
abbrev pub stored : ℕ → List ℕ → Value → Eval Scope Value
stored x path v = do
  scope ← variables
  set_variables (set scope x (store path v (value_at scope x)))
  pure v

-- what arithmetic gives, as a value, or its fault
abbrev pub number_or_fault : Result ℤ FaultKind → Eval Scope Value
number_or_fault r = do
  n ← or_fault r
  pure (Number n)

-- a value of the first type as one of the second: a number is converted, and any other stays
abbrev pub converted_value : DataType → DataType → Value → Eval Scope Value
converted_value (of_number t) (of_number u) v = number_or_fault (converted t u (number v))
converted_value _ _ v = pure v

-- a place of type t is updated by an operation with a number of type u; the last value is what stood there
abbrev pub changed : ℕ → List ℕ → DataType → Operator → NumberType → ℤ → Value → Eval Scope Value
changed x path t o u amount old = do
  v ← number_or_fault (updated o (number_in t) u (number old) amount)
  stored x path v

abbrev pub amount_of : Change → ℤ
amount_of Up = pos 1
amount_of Down = negsuc 0

-- variables from number x on are set, one after the other
abbrev pub set_from : ℕ → List Value → Scope → Scope
set_from x [] scope = scope
set_from x (v ∷ vs) scope = set_from (suc x) vs (set scope x v)

-- `call function args` is what the call of a function does
abbrev pub Caller : Type 0
Caller = ℕ → List Value → Eval Scope Value

-- goes on after what ended by itself
abbrev pub unless_left : Flow → Eval Scope Flow → Eval Scope Flow
unless_left Ended rest = rest
unless_left flow rest = pure flow

-- goes on after a loop's body, unless that leaves the loop
abbrev pub after_turn : Flow → Eval Scope Flow → Eval Scope Flow
after_turn Ended next = next
after_turn Continued next = next
after_turn Broke next = pure Ended
after_turn flow next = pure flow

-- the transaction of a site
abbrev pub transaction_of : Parts → ℕ → Option Transaction
transaction_of p site = slice_get p.transactions (transaction_at (slice_get p.sites site))

-- the alternative that an accept opens: its environment is the cells of its variables
abbrev pub alternative_at : Parts → ℕ → Scope → Alt
alternative_at p site scope =
    alt.Accept (transaction_at (slice_get p.sites site)) site (flats (map (value_at scope) (environment_at (slice_get p.sites site))))

module _ (p : Parts) where
  abbrev pub zero_in : DataType → Value
  zero_in t = zero_of (layout_of p.structures t)

  -- the value of a type that has these cells
  abbrev pub value_in : DataType → List ℤ → Value
  value_in t cs = unflat (layout_of p.structures t) cs

  abbrev pub cells_of_type : DataType → ℕ
  cells_of_type t = cells (layout_of p.structures t)

  -- a synchronous call of the process that this value names, of a transaction with a value of this type
  abbrev pub transacted : ℕ → DataType → Value → List Value → Eval Scope Value
  transacted trans t v vs = do
    cs ← transact trans (cells_of_type t) (number v) (flats vs)
    pure (value_in t cs)

  abbrev pub sent : ℕ → Value → List Value → Eval Scope Value
  sent trans v vs = do
    send trans (number v) (flats vs)
    pure (zero_in Void)

  -- the value of a timed call, and what stands for it where the call was withdrawn
  abbrev pub in_time : DataType → Eval Scope Value → Option (List ℤ) → Eval Scope Value
  in_time t otherwise None = otherwise
  in_time t otherwise (Some cs) = pure (value_in t cs)

  -- the parameters of an accept are set to the arguments of the call that was taken
  abbrev pub scope_taken : ℕ → Grant → Scope → Scope
  scope_taken site g scope =
      set_from (first_at (slice_get p.sites site)) (unflats (layouts_of p.structures (parameters_at (transaction_of p site))) (args_taken g)) scope

  -- the value with which an accept's block replies
  abbrev pub reply_of : DataType → Flow → Value
  reply_of t (Replied v) = v
  reply_of t _ = zero_in t

  abbrev pub reply_cells : ℕ → Flow → List ℤ
  reply_cells site flow = flat (reply_of (value_type_at (transaction_of p site)) flow)

module _ (p : Parts) (call : Caller) where
  unfoldable mutual
    -- the number of the part to which a step leads from a value of this type
    pub part_number : DataType → PartStep → Eval Scope ℕ
    part_number t (Field k u) = pure k
    part_number t (Element e u) = do
      i ← eval e
      or_fault (indexed (array_length t) (number i))

    -- the path along steps from a place of this type, after this path
    pub path_along : {n : _} → DataType → List ℕ → Row_of-PartStep n → Eval Scope (List ℕ)
    path_along t path end_of-PartStep = pure path
    path_along t path (more_of-PartStep s rest) = do
      k ← part_number t s
      path_along (type_after s) (path ++ k ∷ []) rest

    -- the value after a step from a value of this type
    pub step_from : DataType → Value → ChainStep → Eval Scope Value
    step_from t v (Part s) = do
      k ← part_number t s
      pure (part v k)
    step_from t v (Call' trans _ args u) = do
      vs ← arguments args
      transacted p trans u v vs
    step_from t v (Send' trans _ args) = do
      vs ← arguments args
      sent p trans v vs

    -- the value after steps from a value of this type
    pub value_along : {n : _} → DataType → Value → Row_of-ChainStep n → Eval Scope Value
    value_along t v end_of-ChainStep = pure v
    value_along t v (more_of-ChainStep s rest) = do
      w ← step_from t v s
      value_along (type_after_step s) w rest

    pub eval : Expression → Eval Scope Value
    eval (Constant n t) = pure (Number n)
    eval GetChar = do
      n ← get_byte
      pure (Number n)
    eval (Read' x t _ steps u) = do
      path ← path_along t [] steps
      value_of x path
    eval (Chain' _ (more_of-Expression e end_of-Expression) _ steps u) = do
      v ← eval e
      value_along (type_of e) v steps
    eval (negate e t) = do
      v ← eval e
      number_or_fault (opposite t (number v))
    eval (not_of e) = do
      v ← eval e
      pure (Number (logical_not (number v)))
    eval (plus e t) = eval e
    eval (parenthesized e t) = eval e
    eval (ChangeBefore' x t _ steps u s) = do
      path ← path_along t [] steps
      old ← value_of x path
      changed x path u Add numeric.Int (amount_of s) old
    eval (ChangeAfter' x t _ steps u s) = do
      path ← path_along t [] steps
      old ← value_of x path
      changed x path u Add numeric.Int (amount_of s) old
      pure old
    eval (Arithmetic' _ (more_of-Expression a end_of-Expression) _ rest t) = do
      x ← eval a
      operations x rest
    eval (Compare' _ (more_of-Expression a end_of-Expression) _ rest) = do
      x ← eval a
      comparisons x rest
    eval (Both' _ (more_of-Expression a end_of-Expression) _ rest) = do
      x ← eval a
      both_row x rest
    eval (Either' _ (more_of-Expression a end_of-Expression) _ rest) = do
      x ← eval a
      either_row x rest
    eval (choose c a b t) = do
      x ← eval c
      at_zero (number x) (eval b) (eval a)
    eval (Assign' x t _ steps u _ (more_of-Expression e end_of-Expression)) = do
      path ← path_along t [] steps
      v ← eval e
      w ← converted_value (type_of e) u v
      stored x path w
    eval (Update' x t _ steps u o _ (more_of-Expression e end_of-Expression)) = do
      path ← path_along t [] steps
      old ← value_of x path
      v ← eval e
      changed x path u o (number_in (type_of e)) (number v) old
    eval (CallFunction' f _ args t) = do
      vs ← arguments args
      call f vs
    eval (CreateProcess' k _ args) = do
      vs ← arguments args
      n ← create k (flats vs)
      pure (Number n)
    eval (Within' _ (more_of-Expression d end_of-Expression) _ (more_of-Expression e end_of-Expression) trans _ args _ (more_of-Expression other end_of-Expression) t) =
        do
          wait ← eval d
          v ← eval e
          vs ← arguments args
          cs ← transact_within trans (cells_of_type p t) (number wait) (number v) (flats vs)
          in_time p t (eval other >>= converted_value (type_of other) t) cs
    eval (put_char e) = do
      v ← eval e
      n ← put_byte (number v)
      pure (Number n)
    eval (PrintFormat' f _ args) = do
      vs ← eval_row args
      n ← print_format (get_or p.formats f []) (map number vs)
      pure (Number n)

    -- operations from the left, of which the first has this value on its left
    pub operations : {n : _} → Value → Row_of-Operation n → Eval Scope Value
    operations x end_of-Operation = pure x
    operations x (more_of-Operation o b t rest) = do
      y ← eval b
      z ← number_or_fault (operated o t (number x) (number y))
      operations z rest

    pub comparisons : {n : _} → Value → Row_of-Compared n → Eval Scope Value
    comparisons x end_of-Compared = pure x
    comparisons x (more_of-Compared o b rest) = do
      y ← eval b
      comparisons (Number (truth (compared o (number x) (number y)))) rest

    -- what stands on the right of `&&` is evaluated only where its left is not 0
    pub both_row : {n : _} → Value → Row_of-Expression n → Eval Scope Value
    both_row x end_of-Expression = pure x
    both_row x (more_of-Expression b rest) = do
      y ← at_zero (number x) (pure (Number (truth false))) (eval b >>= (λ v. pure (Number (truth_of (number v)))))
      both_row y rest

    pub either_row : {n : _} → Value → Row_of-Expression n → Eval Scope Value
    either_row x end_of-Expression = pure x
    either_row x (more_of-Expression b rest) = do
      y ← at_zero (number x) (eval b >>= (λ v. pure (Number (truth_of (number v))))) (pure (Number (truth true)))
      either_row y rest

    -- arguments from the left, each converted to the type of its parameter before the next
    pub arguments : {n : _} → Row_of-Argument n → Eval Scope (List Value)
    arguments end_of-Argument = pure []
    arguments (more_of-Argument e t rest) = do
      v ← eval e
      w ← converted_value (type_of e) t v
      ws ← arguments rest
      pure (w ∷ ws)

    -- from the left
    pub eval_row : {n : _} → Row_of-Expression n → Eval Scope (List Value)
    eval_row end_of-Expression = pure []
    eval_row (more_of-Expression e rest) = do
      v ← eval e
      vs ← eval_row rest
      pure (v ∷ vs)

  -- a value converted to a type, or the zero of the type
  abbrev pub given : Option Expression → DataType → Eval Scope Value
  given None t = pure (zero_in p t)
  given (Some e) t = do
    v ← eval e
    converted_value (type_of e) t v

  abbrev pub if_there : Option Expression → Eval Scope (Unit {0})
  if_there None = pure tt
  if_there (Some e) = do
    eval e
    pure tt

  -- a condition or a guard that may be missing
  abbrev pub condition_of : Option Expression → Eval Scope ℤ
  condition_of None = pure (pos 1)
  condition_of (Some e) = do
    v ← eval e
    pure (number v)

  -- the alternative of an accept, with the variables as they are
  abbrev pub opened : ℕ → Eval Scope Alt
  opened site = do
    scope ← variables
    pure (alternative_at p site scope)

  -- a call that was taken: the accept's parameters are set, its block runs, and one reply ends it
  abbrev pub served : ℕ → Grant → Eval Scope Flow → Eval Scope Flow
  served site g block = do
    scope ← variables
    set_variables (scope_taken p site g scope)
    flow ← block
    reply (reply_cells p site flow)
    pure Ended

  -- an accept alone is a select with the one alternative 0
  abbrev pub accepted : ℕ → Eval Scope Flow → Eval Scope Flow
  accepted site block = do
    a ← opened site
    g ← select ((0, a) ∷ [])
    served site g block

  abbrev pub opened_choice : Choice → Eval Scope Alt
  opened_choice (AcceptChoice' site _ block) = opened site
  opened_choice (DelayChoice e) = do
    v ← eval e
    pure (alt.After (number v))
  opened_choice Immediate = pure alt.Now
  opened_choice Terminate = pure alt.Terminate

  -- the open alternatives of a select, with their numbers
  abbrev pub open_row : {n : _} → ℕ → Row_of-Alternative n → Eval Scope (List (ℕ × Alt))
  open_row i end_of-Alternative = pure []
  open_row i (more_of-Alternative guard choice _ entries rest) = do
    n ← condition_of guard
    alts ← at_zero n (pure []) (opened_choice choice >>= (λ a. pure ((i, a) ∷ [])))
    others ← open_row (suc i) rest
    pure (alts ++ others)

  unfoldable mutual
    pub exec : Statement → Eval Scope Flow
    exec Empty = pure Ended
    exec (Evaluate e) = do
      eval e
      pure Ended
    exec (Declare x t) = do
      scope ← variables
      set_variables (set scope x (zero_in p t))
      pure Ended
    exec (Initialize x t e) = do
      v ← eval e
      w ← converted_value (type_of e) t v
      scope ← variables
      set_variables (set scope x w)
      pure Ended
    exec (Block' _ all) = exec_row all
    exec (branch c s) = do
      v ← eval c
      at_zero (number v) (pure Ended) (exec s)
    exec (branches c s r) = do
      v ← eval c
      at_zero (number v) (exec r) (exec s)
    exec (while_loop c s) = loops (λ next. do
      v ← eval c
      at_zero (number v) (pure Ended) (do
        flow ← exec s
        after_turn flow next))
    exec (do_loop s c) = loops (λ next. do
      flow ← exec s
      after_turn flow (do
        v ← eval c
        at_zero (number v) (pure Ended) next))
    exec (for_loop first c each s) = do
      if_there first
      loops (λ next. do
        n ← condition_of c
        at_zero n (pure Ended) (do
          flow ← exec s
          after_turn flow (do
            if_there each
            next)))
    exec Break = pure Broke
    exec Continue = pure Continued
    exec (Return e t) = do
      v ← given e t
      pure (Returned v)
    exec (Finish e) = do
      if_there e
      pure Finished
    exec (TransactionReturn e t) = do
      v ← given e t
      pure (Replied v)
    exec (Delay e) = do
      v ← eval e
      delay (number v)
      pure Ended
    exec (Accept' site _ block) = accepted site (exec_row block)
    exec (Select' _ all) = do
      alts ← open_row 0 all
      g ← select alts
      chosen_row (alternative_taken g) g all

    pub exec_row : {n : _} → Row_of-Statement n → Eval Scope Flow
    exec_row end_of-Statement = pure Ended
    exec_row (more_of-Statement s rest) = do
      flow ← exec s
      unless_left flow (exec_row rest)

    -- the alternative that was taken or chosen, and then its entries
    pub chosen_row : {n : _} → ℕ → Grant → Row_of-Alternative n → Eval Scope Flow
    chosen_row i g end_of-Alternative = pure Ended
    chosen_row zero g (more_of-Alternative guard choice _ entries rest) = do
      taken_choice g choice
      exec_row entries
    chosen_row (suc i) g (more_of-Alternative guard choice _ entries rest) = chosen_row i g rest

    pub taken_choice : Grant → Choice → Eval Scope Flow
    taken_choice g (AcceptChoice' site _ block) = served site g (exec_row block)
    taken_choice g (DelayChoice e) = pure Ended
    taken_choice g Immediate = pure Ended
    taken_choice g Terminate = pure Ended
