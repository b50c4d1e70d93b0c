-- Phrases in a list.
use Rattle.std.specs.Prelude.{ℕ, ℤ, List, [], ◌∷◌, ◌++◌}
use Rattle.cc_base.specs.Granted.{call_cells, create, put_byte, transact}
use Rattle.cc_base.specs.Outcome.{Eval, ◌>>=◌, pure}
use Rattle.cc_base.specs.declared.request.Grant.{Grant}
use Rattle.cc_source.specs.Meaning.{Caller, Ended, Flow, Scope, cells_of_type, converted_value, eval, exec, part_number, step_from, stored, unless_left, value_in}
use Rattle.cc_typed.specs.Parts.{Parts}
use Rattle.cc_typed.specs.Types.{type_after, type_after_step, type_of}
use Rattle.cc_typed.specs.Values.{Number, Value, flat}
use Rattle.cc_typed.specs.declared.tree.Argument.{Argument}
use Rattle.cc_typed.specs.declared.tree.ChainStep.{ChainStep}
use Rattle.cc_typed.specs.declared.tree.PartStep.{PartStep}
use Rattle.cc_typed.specs.declared.tree.Statement.{Statement}
use Rattle.cc_typed.specs.declared.types.DataType.{DataType}

-- a new process of this kind with these cells
abbrev pub process_from : ℕ → List ℤ → Eval Scope Value
process_from k cs = do
  n ← create k cs
  pure (Number n)

module _ (p : Parts) (call : Caller) where
  -- the path along steps from a place of this type, after this path
  abbrev pub path_of : DataType → List ℕ → List PartStep → Eval Scope (List ℕ)
  path_of t path [] = pure path
  path_of t path (s ∷ rest) = do
    k ← part_number p call t s
    path_of (type_after s) (path ++ k ∷ []) rest

  -- the value after steps from a value of this type
  abbrev pub value_after : DataType → Value → List ChainStep → Eval Scope Value
  value_after t v [] = pure v
  value_after t v (s ∷ rest) = do
    w ← step_from p call t v s
    value_after (type_after_step s) w rest

  -- the cells of arguments from the left, each converted before the next
  abbrev pub cells_given : List Argument → Eval Scope (List ℤ)
  cells_given [] = pure []
  cells_given (a ∷ rest) = do
    v ← eval p call a.value
    w ← converted_value (type_of a.value) a.data_type v
    cs ← cells_given rest
    pure (flat w ++ cs)

  -- statements in a row, up to one that leaves
  abbrev pub exec_all : List Statement → Eval Scope Flow
  exec_all [] = pure Ended
  exec_all (s ∷ rest) = do
    flow ← exec p call s
    unless_left flow (exec_all rest)

  -- a new process of this kind with these arguments
  abbrev pub created : ℕ → List Argument → Eval Scope Value
  created k args = cells_given args >>= process_from k

-- the value with which a call of a transaction was answered that gives one of this type
abbrev pub answer_value : Parts → DataType → Grant → Eval Scope Value
answer_value p t g = do
  cs ← call_cells (cells_of_type p t) g
  pure (value_in p t cs)

-- a synchronous call of the process of this number with these cells, of a transaction with a value of this type
abbrev pub called_value : Parts → ℕ → DataType → ℤ → List ℤ → Eval Scope Value
called_value p trans t process args = do
  cs ← transact trans (cells_of_type p t) process args
  pure (value_in p t cs)

-- a value of the first type is stored in a variable of the second
abbrev pub assigned : DataType → DataType → ℕ → Value → Eval Scope Value
assigned t u x v = do
  w ← converted_value t u v
  stored x [] w

-- a number is printed as one byte
abbrev pub byte_put : ℤ → Eval Scope Value
byte_put number = do
  n ← put_byte number
  pure (Number n)
