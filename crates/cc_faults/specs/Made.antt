-- What is made of parts without a fault: typed phrases.
use Rattle.std.specs.Prelude.{ℕ, ℤ, pos, Bool, true, false, ◌&&◌, if◌then◌else◌, List, [], ◌∷◌, ◌++◌}
use Rattle.cc_base.specs.Numbers.{fits, is_int, wider}
use Rattle.cc_base.specs.declared.numbers.Comparison.{Comparison}
use Rattle.cc_base.specs.declared.numbers.NumberType.{NumberType}
use Rattle.cc_base.specs.declared.numbers.NumberType.TheVariants as numeric
use Rattle.cc_base.specs.declared.numbers.Operator.{Operator}
use Rattle.cc_typed.specs.Types.{Int, is_arithmetic, number_in, of_number, type_after, type_of}
use Rattle.cc_typed.specs.declared.tree.Argument.{Argument}
use Rattle.cc_typed.specs.declared.tree.ChainStep.{ChainStep}
use Rattle.cc_typed.specs.declared.tree.ChainStep.TheVariants as chain_step
use Rattle.cc_typed.specs.declared.tree.Compared.{Compared}
use Rattle.cc_typed.specs.declared.tree.Expression.{Expression}
use Rattle.cc_typed.specs.declared.tree.Expression.TheVariants as expression
use Rattle.cc_typed.specs.declared.tree.Location.{Location}
use Rattle.cc_typed.specs.declared.tree.Operation.{Operation}
use Rattle.cc_typed.specs.declared.tree.PartStep.{PartStep}
use Rattle.cc_typed.specs.declared.tree.Change.{Change}
use Rattle.cc_typed.specs.declared.tree.Change.TheVariants as change
use Rattle.cc_typed.specs.declared.types.DataType.{DataType}
use Rattle.cc_typed.specs.declared.types.DataType.TheVariants.{Void, Single, Array}
use Rattle.cc_faults.specs.declared.plain.StepWord.{StepWord}
use Rattle.cc_faults.specs.declared.plain.StepWord.TheVariants as word
use Rattle.cc_faults.specs.declared.scope.Found.{Found}
use Rattle.cc_faults.specs.declared.scope.Found.TheVariants as found

-- the type of what is found
abbrev pub type_in : Found → DataType
type_in (found.Place l) = l.data_type
type_in (found.Value e) = type_of e
type_in (found.Chain e steps t) = t
type_in (found.Call e steps process trans args t) = t

-- an expression with steps behind it, of which there may be none
abbrev pub behind : Expression → List ChainStep → DataType → Expression
behind e [] t = e
behind e (s ∷ steps) t = expression.Chain e (s ∷ steps) t

-- its first value and the steps behind that
abbrev pub first_of : Found → Expression
first_of (found.Place l) = expression.Read l
first_of (found.Value e) = e
first_of (found.Chain e steps t) = e
first_of (found.Call e steps process trans args t) = e

abbrev pub steps_of : Found → List ChainStep
steps_of (found.Place l) = []
steps_of (found.Value e) = []
steps_of (found.Chain e steps t) = steps
steps_of (found.Call e steps process trans args t) = steps ++ chain_step.Call trans args t ∷ []

-- it as a value
abbrev pub value_of : Found → Expression
value_of v = behind (first_of v) (steps_of v) (type_in v)

-- what is found with a step behind it that leads to a value of this type
abbrev pub with_step : Found → ChainStep → DataType → Found
with_step v s t = found.Chain (first_of v) (steps_of v ++ s ∷ []) t

-- a number of the text, which is an `int` only in the range of that; no token has one that is no `long`
abbrev pub constant : ℤ → NumberType → Found
constant n t =
    found.Value (expression.Constant (if fits 63 n then n else pos 0) (if is_int t && fits 31 n then numeric.Int else numeric.Long))

-- the variable of this number and type
abbrev pub variable : ℕ → DataType → Found
variable n t = found.Place (record { variable = n; of = t; steps = []; data_type = t })

-- a part of a place is a place
abbrev pub with_part : Location → PartStep → Found
with_part l s =
    found.Place (record { variable = l.variable; of = l.of; steps = l.steps ++ s ∷ []; data_type = type_after s })

abbrev pub part_of : Found → PartStep → Found
part_of (found.Place l) s = with_part l s
part_of v s = with_step v (chain_step.Part s) (type_after s)

-- a call of a transaction behind what is found
abbrev pub call_of : Found → Bool → ℕ → List Argument → DataType → Found
call_of v true trans args t = with_step v (chain_step.Send trans args) Void
call_of v false trans args t = found.Call (first_of v) (steps_of v) (type_in v) trans args t

-- a place within parentheses is a place
abbrev pub within_parentheses : Found → Found
within_parentheses (found.Place l) = found.Place l
within_parentheses v = found.Value (expression.Parenthesized (value_of v) (type_in v))

abbrev pub change_of : StepWord → Change
change_of word.Up = change.Up
change_of word.Down = change.Down

-- the type of an operation with one operand of this type
abbrev pub alone : DataType → NumberType
alone t = wider (number_in t) numeric.Int

-- ---- rows of operators, which group from the left: what stands before an operator is its left operand

abbrev pub Sum : Type 0
Sum = Expression × List Operation × NumberType

abbrev pub sum_from : Expression → Sum
sum_from e = (e, [], number_in (type_of e))

abbrev pub added : Operator → Sum × Expression → Sum
added o v = (
  v.0.0,
  v.0.1 ++ record { operator = o; operand = v.1; number_type = wider v.0.2 (number_in (type_of v.1)) } ∷ [],
  wider v.0.2 (number_in (type_of v.1)),
)

abbrev pub summed : Sum → Found
summed v = found.Value (expression.Arithmetic v.0 v.1 v.2)

-- the first operand, the comparisons, and what stands before the next one: its type
abbrev pub Row : Type 0
Row = Expression × List Compared × DataType

abbrev pub row_from : Found → Row
row_from v = (value_of v, [], type_in v)

abbrev pub with_comparison : Comparison → Row × Expression → Row
with_comparison c v = (v.0.0, v.0.1 ++ record { comparison = c; operand = v.1 } ∷ [], Int)

abbrev pub compared_in : Row → Found
compared_in v = found.Value (expression.Compare v.0 v.1)

-- ---- arguments

abbrev pub argument_for : DataType → Expression → Argument
argument_for t e = record { value = e; data_type = t }

-- ---- types

-- an array of so many; a type that is no element's has none
abbrev pub array_of : DataType → ℕ → DataType
array_of (Single e) n = Array e n
array_of t n = t

abbrev pub element_of : DataType → DataType
element_of (Array e n) = Single e
element_of t = t

-- the type of a choice between arms that fit each other
abbrev pub choice_of : DataType → DataType → DataType
choice_of t u = if is_arithmetic t && is_arithmetic u then of_number (wider (number_in t) (number_in u)) else t
