-- The rows of the table of faults, in its order: what is wrong, at which place, and what is known where it isn't. Most are asked of
-- parts that have a type; 25 and 28 are asked whatever the parts hold, and 15, 26 and 27 also of parts without a type that hold no
-- fault. `Expressions`, `Statements`, `Declarations` and `Programs` say of which phrases.
use Rattle.std.specs.Prelude.{ℕ, ℤ, pos, nat_abs, int_le, Bool, true, false, not, ◌&&◌, ◌||◌, if◌then◌else◌, nat_eq, nat_le, List, [], ◌∷◌, Option, Some, None, Result, Err, slice_get}
use Rattle.cc_base.specs.Formats.{is_format}
use Rattle.cc_base.specs.Limits.{most_elements, most_parameter_cells, most_pure_depth, most_type_cells}
use Rattle.cc_base.specs.Numbers.{fits}
use Rattle.cc_base.specs.declared.names.Place.{Place}
use Rattle.cc_base.specs.declared.numbers.Comparison.{Comparison}
use Rattle.cc_base.specs.declared.numbers.NumberType.TheVariants as numeric
use Rattle.cc_typed.specs.Table.{cells_in, cells_in_all}
use Rattle.cc_typed.specs.Typed.{is_equality}
use Rattle.cc_typed.specs.Types.{Int, is_arithmetic, is_array, is_assignable, is_process, is_same, is_struct, is_void, of_number, of_process, of_struct}
use Rattle.cc_typed.specs.declared.tree.Argument.{Argument}
use Rattle.cc_typed.specs.declared.tree.Expression.{Expression}
use Rattle.cc_typed.specs.declared.tree.Expression.TheVariants as expression
use Rattle.cc_typed.specs.declared.tree.Location.{Location}
use Rattle.cc_typed.specs.declared.types.DataType.{DataType}
use Rattle.cc_typed.specs.declared.types.DataType.TheVariants.{Void}
use Rattle.cc_typed.specs.declared.types.Structure.{Structure}
use Rattle.cc_faults.specs.Judged.{Judged, Good, fault, known, map, checked}
use Rattle.cc_faults.specs.Made.{behind, type_in, value_of, variable}
use Rattle.cc_faults.specs.Scopes.{Scope, entry_at, meaning_at}
use Rattle.cc_faults.specs.declared.fault.FaultAt.{FaultAt}
use Rattle.cc_faults.specs.declared.fault.TypeKind.{TypeKind}
use Rattle.cc_faults.specs.declared.fault.TypeKind.TheVariants as kind
use Rattle.cc_faults.specs.declared.plain.Identifier.{Identifier}
use Rattle.cc_faults.specs.declared.plain.Item.{Item}
use Rattle.cc_faults.specs.declared.plain.Item.TheVariants as item
use Rattle.cc_faults.specs.declared.plain.Length.{Length}
use Rattle.cc_faults.specs.declared.plain.Length.TheVariants as some_length
use Rattle.cc_faults.specs.declared.plain.TypeName.{TypeName}
use Rattle.cc_faults.specs.declared.plain.TypeName.TheVariants as type_name
use Rattle.cc_faults.specs.declared.scope.Around.{Around}
use Rattle.cc_faults.specs.declared.scope.Found.{Found}
use Rattle.cc_faults.specs.declared.scope.Found.TheVariants as found
use Rattle.cc_faults.specs.declared.scope.KindHead.{KindHead}
use Rattle.cc_faults.specs.declared.scope.Leaves.{Leaves}
use Rattle.cc_faults.specs.declared.scope.Leaves.TheVariants as leaves
use Rattle.cc_faults.specs.declared.scope.Meaning.{Meaning}
use Rattle.cc_faults.specs.declared.scope.Meaning.TheVariants as meaning
use Rattle.cc_faults.specs.declared.scope.Named.{Named}
use Rattle.cc_faults.specs.declared.scope.Reply.{Reply}
use Rattle.cc_faults.specs.declared.scope.Reply.TheVariants as reply
use Rattle.cc_faults.specs.declared.scope.Role.{Role}
use Rattle.cc_faults.specs.declared.scope.Role.TheVariants as role
use Rattle.cc_faults.specs.declared.scope.TransactionHead.{TransactionHead}

-- right, or this fault at this place
abbrev pub unless : {A : Type 0} → Bool → Place → TypeKind → A → Judged A
unless true p k v = Good v
unless false p k v = fault p k

-- ---- 1 NoMain: the text has no function of the name 0, which is `main`
abbrev pub is_main : Item → Bool
is_main (item.Function result name parameters block) = nat_eq name.name 0
is_main _ = false

abbrev pub has_main : List Item → Bool
has_main [] = false
has_main (i ∷ rest) = is_main i || has_main rest

abbrev pub main_there : List Item → Judged (Unit {0})
main_there items = unless (has_main items) (record { line = 1; column = 1 }) kind.NoMain tt

-- ---- 2 Duplicate: the name is declared already, in this scope and space
abbrev pub fresh : Bool → Identifier → Judged (Unit {0})
fresh taken x = unless (not taken) x.place kind.Duplicate tt

-- ---- 3 UnknownName: a name in an expression, a length or an enumeration value
abbrev pub visible : Identifier → Option Named → Judged Meaning
visible x None = fault x.place kind.UnknownName
visible x (Some n) = Good n.meaning

-- ---- 4 UnknownType: a structure, an enumeration or a process type
abbrev pub visible_type : {A : Type 0} → Identifier → Option A → Judged A
visible_type x None = fault x.place kind.UnknownType
visible_type x (Some t) = Good t

abbrev pub int_of : {A : Type 0} → A → DataType
int_of t = Int

-- the type that is written, which may be `void`
abbrev pub written : Scope → TypeName → Judged DataType
written s (type_name.Void p) = Good Void
written s (type_name.Number n) = Good (of_number n)
written s (type_name.Structure x) = map of_struct (checked (visible_type x (entry_at s.structures_named x)) known)
written s (type_name.Enumeration x) = map int_of (checked (visible_type x (entry_at s.enumerations_named x)) known)
written s (type_name.Process x) = map of_process (visible_type x (entry_at s.processes_named x))

-- ---- 5 VoidHere: the type of a variable, a parameter or a field
abbrev pub value_type : Scope → TypeName → Judged DataType
value_type s (type_name.Void p) = fault p kind.VoidHere
value_type s t = written s t

-- ---- 6 BadLength: a number outside 1 to 65,536, or a name that is no constant
abbrev pub length_in_range : Place → ℤ → Judged ℕ
length_in_range p n = unless (int_le (pos 1) n && int_le n (pos most_elements)) p kind.BadLength (nat_abs n)

abbrev pub length_named : Place → Meaning → Judged ℕ
length_named p (meaning.Constant n) = length_in_range p n
length_named p (meaning.Valueless f) = known (Err f)
length_named p _ = fault p kind.BadLength

abbrev pub array_length : Scope → Length → Judged ℕ
array_length s (some_length.Number p n) = length_in_range p n
array_length s (some_length.Name x) = checked (visible x (meaning_at s x)) (length_named x.place)

-- ---- 7 EnumRange, at the constant x: a value outside `int`, or a name that is no constant
abbrev pub value_in_range : Identifier → ℤ → Judged ℤ
value_in_range x n = unless (fits 31 n) x.place kind.EnumRange n

abbrev pub value_named : Identifier → Meaning → Judged ℤ
value_named x (meaning.Constant n) = Good n
value_named x (meaning.Valueless f) = known (Err f)
value_named x _ = fault x.place kind.EnumRange

abbrev pub value_given : Scope → Identifier → Length → Judged ℤ
value_given s x (some_length.Number p n) = Good n
value_given s x (some_length.Name y) = checked (visible y (meaning_at s y)) (value_named x)

-- ---- 8 LargeType, at the name declared: a structure or array of more than 65,536 cells
abbrev pub not_large : List Structure → Identifier → DataType → Judged DataType
not_large structures x t = unless (nat_le (cells_in structures t) most_type_cells) x.place kind.LargeType t

abbrev pub structure_not_large : Identifier → Structure → Judged Structure
structure_not_large x c = unless (nat_le c.cells most_type_cells) x.place kind.LargeType c

-- ---- 9 ManyCells, at the name declared: parameters of more than 256 cells
abbrev pub few_cells : List Structure → Identifier → List DataType → Judged (List DataType)
few_cells structures x ts = unless (nat_le (cells_in_all structures ts) most_parameter_cells) x.place kind.ManyCells ts

-- ---- 10 NoBody, at a specification's name
abbrev pub with_body : Bool → Identifier → Judged (Unit {0})
with_body there x = unless there x.place kind.NoBody tt

-- ---- 11 NoSpec, at a body's name
abbrev pub with_specification : Identifier → Option ℕ → Judged ℕ
with_specification x None = fault x.place kind.NoSpec
with_specification x (Some k) = Good k

-- ---- 12 BodyNames, at a body's name: another number of names than its specification has parameters, whatever their types
abbrev pub as_many_names : Identifier → ℕ → ℕ → Judged (Unit {0})
as_many_names x names parameters = unless (nat_eq names parameters) x.place kind.BodyNames tt

-- ---- 13 Arity: another number of arguments or names than there are parameters or conversions
abbrev pub as_many : {A : Type 0} → Place → ℕ → ℕ → A → Judged A
as_many p given wanted v = unless (nat_eq given wanted) p kind.Arity v

-- ---- 14 Mismatch, at the first token of the part whose type is not allowed

-- an arithmetic operand, condition, guard, duration, index, argument of `putchar` or `printf`, or target of `++`, `--` or an
-- operator with `=`
abbrev pub number : Place → Found → Judged Expression
number p v = unless (is_arithmetic (type_in v)) p kind.Mismatch (value_of v)

-- a value that is assigned to a type: an argument, an initialiser, a value that is given back, the last part of `within`.
-- Where the type isn't known, an array or `void` has the fault all the same, as no type could make it right.
abbrev pub may_be_assigned : Option DataType → DataType → Bool
may_be_assigned None t = not (is_void t || is_array t)
may_be_assigned (Some u) t = is_assignable t u

abbrev pub assigned : Place → Option DataType → Found → Judged Expression
assigned p u v = unless (may_be_assigned u (type_in v)) p kind.Mismatch (value_of v)

-- the operand of `.name`
abbrev pub structure_in : Place → Found → Judged Found
structure_in p v = unless (is_struct (type_in v)) p kind.Mismatch v

-- the operand of `.name(`
abbrev pub process_in : Place → Found → Judged Found
process_in p v = unless (is_process (type_in v)) p kind.Mismatch v

-- the operand of `[`
abbrev pub array_in : Place → Found → Judged Found
array_in p v = unless (is_array (type_in v)) p kind.Mismatch v

-- an operand of a comparison, beside the type of the other one, which may have none. An operand that is not arithmetic has
-- the fault itself; only a process value may stand beside one of its own type, and is not blamed beside one without a type.
abbrev pub is_partner : Option DataType → DataType → Bool
is_partner None t = true
is_partner (Some u) t = is_same u t

abbrev pub may_be_compared : Comparison → Option DataType → DataType → Bool
may_be_compared c other t = is_arithmetic t || is_equality c && is_process t && is_partner other t

abbrev pub comparable : {A : Type 0} → Comparison → Option DataType → Place → DataType → A → Judged A
comparable c other p t v = unless (may_be_compared c other t) p kind.Mismatch v

-- an arm of `? :` and the target of `=`: an array is indexed, or stands as a statement, and nothing else
abbrev pub no_array : Place → Found → Judged Found
no_array p v = unless (not (is_array (type_in v))) p kind.Mismatch v

-- arms of `? :` that do not fit each other are a fault of the last

abbrev pub may_be_arms : DataType → DataType → Bool
may_be_arms t u = is_arithmetic t && is_arithmetic u || not (is_arithmetic t) && is_same t u

abbrev pub fitting : Place → Found × Found → Judged (Found × Found)
fitting p v = unless (may_be_arms (type_in v.0) (type_in v.1)) p kind.Mismatch v

-- ---- 15 NotAPlace, at the target's first token: of a target with a type, and of one without
abbrev pub target : Place → Found → Judged Location
target p (found.Place l) = Good l
target p _ = fault p kind.NotAPlace

abbrev pub a_place : Bool → Place → Judged (Unit {0})
a_place there p = unless there p kind.NotAPlace tt

-- ---- 16 NotAFunction: what is called
abbrev pub function_called : Place → Meaning → Judged ℕ
function_called p (meaning.Function f) = Good f
function_called p _ = fault p kind.NotAFunction

-- ---- 17 NotAValue: what is named without a call
abbrev pub type_or_void : Option DataType → DataType
type_or_void None = Void
type_or_void (Some t) = t

abbrev pub value_named_by : List DataType → Place → Meaning → Judged Found
value_named_by variables p (meaning.Variable n) = Good (variable n (type_or_void (slice_get variables n)))
value_named_by variables p (meaning.Constant n) = Good (found.Value (expression.Constant n numeric.Int))
value_named_by variables p (meaning.Typeless f) = known (Err f)
value_named_by variables p (meaning.Valueless f) = known (Err f)
value_named_by variables p _ = fault p kind.NotAValue

-- ---- 18 UnknownField
abbrev pub names_of : Option (List ℕ) → List ℕ
names_of None = []
names_of (Some xs) = xs

abbrev pub fields_named : Scope → DataType → List ℕ
fields_named s (of_struct n) = names_of (slice_get s.members n)
fields_named s _ = []

abbrev pub has_field : Identifier → Option ℕ → Judged ℕ
has_field x None = fault x.place kind.UnknownField
has_field x (Some k) = Good k

-- ---- 19 UnknownTransaction
abbrev pub transaction_named : List TransactionHead → ℕ → Option TransactionHead
transaction_named [] x = None
transaction_named (t ∷ ts) x = if nat_eq t.name x then Some t else transaction_named ts x

abbrev pub transactions_of : Option KindHead → List TransactionHead
transactions_of None = []
transactions_of (Some k) = k.transactions

abbrev pub has_transaction : Identifier → Option TransactionHead → Judged TransactionHead
has_transaction x None = fault x.place kind.UnknownTransaction
has_transaction x (Some t) = Good t

-- ---- 20 AcceptPlace, at the word: `accept` and `select` stand in a process body
abbrev pub in_body : Role → Place → Judged (Result ℕ FaultAt)
in_body (role.Body k) p = Good k
in_body _ p = fault p kind.AcceptPlace

-- ---- 21 TreturnPlace, at the word
abbrev pub replying : Reply → Place → Judged DataType
replying reply.Nowhere p = fault p kind.TreturnPlace
replying (reply.With t) p = known t

-- ---- 22 LoopPlace and 23 LeavesAccept, at the word, of `break` and `continue`
abbrev pub leaving : Leaves → Place → Judged (Unit {0})
leaving leaves.Nothing p = fault p kind.LoopPlace
leaving leaves.Inside p = Good tt
leaving leaves.Outside p = fault p kind.LeavesAccept

-- ---- 23 LeavesAccept, at the word, of `return`
abbrev pub outside_accept : Reply → Place → Judged (Unit {0})
outside_accept reply.Nowhere p = Good tt
outside_accept r p = fault p kind.LeavesAccept

-- ---- 24 ValueHere, at the word: a value where the type is `void`
abbrev pub has_value : Place → DataType → Judged DataType
has_value p t = unless (not (is_void t)) p kind.ValueHere t

-- ---- 25 NotPure, at the part's first token: a part of a kind that no pure expression is made of
abbrev pub impure : Around → Place → Judged (Unit {0})
impure w p = unless (not w.pure) p kind.NotPure tt

-- ---- 26 PureTooDeep, at the clause's first token: one that holds no other fault and has a greater depth than 64
abbrev pub not_deep : Place → ℕ → Judged (Unit {0})
not_deep p depth = unless (nat_le depth most_pure_depth) p kind.PureTooDeep tt

-- ---- 27 NotTimed, at the middle's first token: a middle that is no call of a synchronous transaction, with a type or without
abbrev pub Timed : Type 0
Timed = Expression × ℕ × List Argument × DataType

abbrev pub timed : Place → Found → Judged Timed
timed p (found.Call e steps process trans args t) = Good (behind e steps process, trans, args, t)
timed p _ = fault p kind.NotTimed

abbrev pub a_timed_call : Bool → Place → Judged (Unit {0})
a_timed_call may_be p = unless may_be p kind.NotTimed tt

-- ---- 28 BadFormat, at the STRING
abbrev pub format_bytes : Option (List ℕ) → List ℕ
format_bytes None = []
format_bytes (Some bytes) = bytes

abbrev pub well_formed : Place → List ℕ → Judged (List ℕ)
well_formed p bytes = unless (is_format bytes) p kind.BadFormat bytes
