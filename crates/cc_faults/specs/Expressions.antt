-- What is found of an expression: what it means, or its faults. Each clause says which rows are asked of the phrase and of its
-- parts. A rule behind `checked` is asked only of parts with a type, one behind `asked` also of parts without one that hold no
-- fault; parts that stand beside each other in `both` are each judged, whatever the other is.
use Rattle.std.specs.Prelude.{ℕ, suc, ◌+◌, Bool, true, false, not, ◌&&◌, if◌then◌else◌, List, [], length, Option, Some, None, Result, slice_get}
use Rattle.cc_base.specs.Formats.{conversions}
use Rattle.cc_base.specs.declared.names.Place.{Place}
use Rattle.cc_base.specs.declared.numbers.Operator.{Operator}
use Rattle.cc_typed.specs.Table.{fields_of}
use Rattle.cc_typed.specs.Types.{of_process, of_struct, type_of}
use Rattle.cc_typed.specs.declared.tree.Argument.{Argument}
use Rattle.cc_typed.specs.declared.tree.Expression.{Expression}
use Rattle.cc_typed.specs.declared.tree.Expression.TheVariants as typed
use Rattle.cc_typed.specs.declared.tree.Location.{Location}
use Rattle.cc_typed.specs.declared.tree.PartStep.TheVariants as part_step
use Rattle.cc_typed.specs.declared.types.DataType.{DataType}
use Rattle.cc_typed.specs.declared.types.DataType.TheVariants.{Void}
use Rattle.cc_typed.specs.declared.types.Field.{Field as TypedField}
use Rattle.cc_typed.specs.declared.types.Structure.{Structure}
use Rattle.cc_faults.specs.Judged.{Judged, Good, found, map, mapped, checked, both, asked, known, in_front, second}
use Rattle.cc_faults.specs.Made.{Row, Sum, added, alone, argument_for, call_of, choice_of, compared_in, constant, element_of, part_of, row_from, change_of, sum_from, summed, type_in, value_of, with_comparison, within_parentheses}
use Rattle.cc_faults.specs.Phrases.{assign, choose, negate, not_of, parenthesized, plus, put_char, step_after, step_before, update, within}
use Rattle.cc_faults.specs.Rows.{Timed, a_place, a_timed_call, array_in, as_many, assigned, comparable, fields_named, fitting, format_bytes, function_called, has_field, has_transaction, impure, no_array, number, process_in, structure_in, target, timed, transaction_named, transactions_of, type_or_void, value_named_by, visible, visible_type, well_formed}
use Rattle.cc_faults.specs.Scopes.{Scope, Text, entry_at, meaning_at, position}
use Rattle.cc_faults.specs.declared.fault.FaultAt.{FaultAt}
use Rattle.cc_faults.specs.declared.plain.Identifier.{Identifier}
use Rattle.cc_faults.specs.declared.plain.Phrase.{Phrase, Number, Name, Call', Create', GetChar, PrintFormat', Chain', Arithmetic', Compare', Both', Either', Row_of-Phrase, end_of-Phrase, more_of-Phrase, Row_of-Step, end_of-Step, more_of-Step, Row_of-Operation, end_of-Operation, more_of-Operation, Row_of-Compared, end_of-Compared, more_of-Compared}
use Rattle.cc_faults.specs.declared.plain.Step.{Step, Field, Index', Call' as CallStep'}
use Rattle.cc_faults.specs.declared.plain.StepWord.{StepWord}
use Rattle.cc_faults.specs.declared.scope.Around.{Around}
use Rattle.cc_faults.specs.declared.scope.Found.{Found}
use Rattle.cc_faults.specs.declared.scope.Found.TheVariants as found_as
use Rattle.cc_faults.specs.declared.scope.KindHead.{KindHead}
use Rattle.cc_faults.specs.declared.scope.Meaning.{Meaning}
use Rattle.cc_faults.specs.declared.scope.Meaning.TheVariants as meaning
use Rattle.cc_faults.specs.declared.scope.Named.{Named}
use Rattle.cc_faults.specs.declared.scope.Signature.{Signature}
use Rattle.cc_faults.specs.declared.scope.TransactionHead.{TransactionHead}

-- the first token of an expression
unfoldable pub place_of : Phrase → Place
place_of (Number p v t) = p
place_of (Name x) = x.place
place_of (Call' x _ args) = x.place
place_of (Create' p x _ args) = p
place_of (put_char p e) = p
place_of (GetChar p) = p
place_of (PrintFormat' p f _ args) = p
place_of (parenthesized p e) = p
place_of (Chain' _ (more_of-Phrase e end_of-Phrase) _ steps) = place_of e
place_of (step_after e d) = place_of e
place_of (step_before p d e) = p
place_of (negate p e) = p
place_of (plus p e) = p
place_of (not_of p e) = p
place_of (Arithmetic' _ (more_of-Phrase a end_of-Phrase) _ rest) = place_of a
place_of (Compare' _ (more_of-Phrase a end_of-Phrase) _ rest) = place_of a
place_of (Both' _ (more_of-Phrase a end_of-Phrase) _ rest) = place_of a
place_of (Either' _ (more_of-Phrase a end_of-Phrase) _ rest) = place_of a
place_of (choose c a b) = place_of c
place_of (assign a b) = place_of a
place_of (update a o b) = place_of a
place_of (within p d m e) = p

unfoldable pub count_row : {n : _} → Row_of-Phrase n → ℕ
count_row end_of-Phrase = 0
count_row (more_of-Phrase e rest) = suc (count_row rest)

-- ---- what a place is: a variable, with a type or without, a field of a place, an element of a place, also within parentheses

abbrev pub means_variable : Meaning → Bool
means_variable (meaning.Variable v) = true
means_variable (meaning.Typeless f) = true
means_variable _ = false

abbrev pub is_variable : Option Named → Bool
is_variable None = false
is_variable (Some n) = means_variable n.meaning

abbrev pub is_part_step : Step → Bool
is_part_step (Field x) = true
is_part_step (Index' _ e) = true
is_part_step (CallStep' x _ args) = false

abbrev pub are_part_steps : {n : _} → Row_of-Step n → Bool
are_part_steps end_of-Step = true
are_part_steps (more_of-Step s rest) = is_part_step s && are_part_steps rest

unfoldable pub is_place : Scope → Phrase → Bool
is_place s (Name x) = is_variable (meaning_at s x)
is_place s (parenthesized p e) = is_place s e
is_place s (Chain' _ (more_of-Phrase e end_of-Phrase) _ steps) = is_place s e && are_part_steps steps
is_place s _ = false

-- ---- words on what is found of parts

abbrev pub type_found : Judged Found → Option DataType
type_found j = mapped type_in (found j)

abbrev pub row_type : Row → DataType
row_type v = v.2

abbrev pub element_type : Found → DataType
element_type v = element_of (type_in v)

abbrev pub field_type : Option TypedField → DataType
field_type None = Void
field_type (Some f) = f.data_type

abbrev pub kind_in : DataType → ℕ
kind_in (of_process k) = k
kind_in _ = 0

abbrev pub timed_type : Judged Timed → Option DataType
timed_type j = mapped (λ (v : Timed). v.3) (found j)

abbrev pub function_types : ℕ × Signature → List DataType
function_types h = h.1.parameters

abbrev pub kind_types : ℕ × List DataType → List DataType
kind_types h = h.1

abbrev pub transaction_types : Found × (TransactionHead × Signature) → List DataType
transaction_types h = h.1.1.parameters

abbrev pub no_types : Option (List DataType) → List DataType
no_types None = []
no_types (Some ts) = ts

-- ---- what is made of good parts

abbrev pub value : Expression → Found
value e = found_as.Value e

abbrev pub negated : Expression → Found
negated e = value (typed.Negate e (alone (type_of e)))

abbrev pub plussed : Expression → Found
plussed e = value (typed.Plus e (alone (type_of e)))

abbrev pub complemented : Expression → Found
complemented e = value (typed.Not e)

abbrev pub both_of : Expression × List Expression → Found
both_of v = value (typed.Both v.0 v.1)

abbrev pub either_of : Expression × List Expression → Found
either_of v = value (typed.Either v.0 v.1)

abbrev pub chosen : Expression × (Found × Found) → Found
chosen v =
    value (typed.Choose v.0 (value_of v.1.0) (value_of v.1.1) (choice_of (type_in v.1.0) (type_in v.1.1)))

abbrev pub stored : Location × Expression → Found
stored v = value (typed.Assign v.0 v.1)

abbrev pub updated : Operator → Location × Expression → Found
updated o v = value (typed.Update v.0 o v.1)

abbrev pub stepped_before : StepWord → Location → Found
stepped_before d l = value (typed.ChangeBefore l (change_of d))

abbrev pub stepped_after : StepWord → Location → Found
stepped_after d l = value (typed.ChangeAfter l (change_of d))

abbrev pub put_out : Expression → Found
put_out e = value (typed.PutChar e)

abbrev pub printed : ℕ → Unit {0} × List Expression → Found
printed f v = value (typed.PrintFormat f v.1)

abbrev pub function_applied : (ℕ × Signature) × List Argument → Found
function_applied v = value (typed.CallFunction v.0.0 v.1 v.0.1.result)

abbrev pub created : (ℕ × List DataType) × List Argument → Found
created v = value (typed.CreateProcess v.0.0 v.1)

abbrev pub transacted : (Found × (TransactionHead × Signature)) × List Argument → Found
transacted v = call_of v.0.0 v.0.1.0.is_async v.0.1.0.number v.1 v.0.1.1.result

abbrev pub waited : Expression × (Timed × Expression) → Found
waited v = value (typed.Within v.0 v.1.0.0 v.1.0.1 v.1.0.2 v.1.1 v.1.0.3)

abbrev pub structure_at : Scope → DataType → Option Structure
structure_at s (of_struct n) = slice_get s.structures n
structure_at s _ = None

abbrev pub field_in : Scope → Found → ℕ → Found
field_in s v k = part_of v (part_step.Field k (field_type (slice_get (fields_of (structure_at s (type_in v))) k)))

abbrev pub indexed : Found × Expression → Found
indexed v = part_of v.0 (part_step.Element v.1 (element_type v.0))

-- ---- what a call needs to know of what it calls

-- the function: 3, 16; its types aren't known where its head has a fault
abbrev pub with_signature : {A : Type 0} → A → Option (Result Signature FaultAt) → Judged (A × Signature)
with_signature f None = Good (f, record { parameters = []; result = Void })
with_signature f (Some g) = map (λ (h : Signature). (f, h)) (known g)

abbrev pub function_head : Text → Scope → Identifier → Judged (ℕ × Signature)
function_head t s x =
    checked (checked (visible x (meaning_at s x)) (function_called x.place)) (λ (f : ℕ). with_signature f (slice_get t.functions f))

-- the process type that is created: 4
abbrev pub with_parameters : ℕ → Option KindHead → Judged (ℕ × List DataType)
with_parameters k None = Good (k, [])
with_parameters k (Some h) = map (λ (ts : List DataType). (k, ts)) (known h.parameters)

abbrev pub kind_head : Text → Scope → Identifier → Judged (ℕ × List DataType)
kind_head t s x = checked (visible_type x (entry_at s.processes_named x)) (λ (k : ℕ). with_parameters k (slice_get t.kinds k))

-- the transaction of this name of a process type: 19; whether it is asynchronous is known whatever its line holds, its types aren't
-- where that has a fault
abbrev pub transaction_at : Text → ℕ → Identifier → Judged TransactionHead
transaction_at t k x = has_transaction x (transaction_named (transactions_of (slice_get t.kinds k)) x.name)

abbrev pub transaction_head : Text → ℕ → Identifier → Judged (TransactionHead × Signature)
transaction_head t k x = checked (transaction_at t k x) (λ (h : TransactionHead). with_signature h (Some h.signature))

abbrev pub transaction_of : Text → Identifier → Found → Judged (Found × (TransactionHead × Signature))
transaction_of t x v = map (λ (h : TransactionHead × Signature). (v, h)) (transaction_head t (kind_in (type_in v)) x)

-- the target of `++`, `--` or an operator with `=`, and that of `=`: 14 and 15, each by itself
abbrev pub number_target : Place → Found → Judged Location
number_target p v = map second (both (number p v) (target p v))

abbrev pub any_target : Place → Found → Judged Location
any_target p v = map second (both (no_array p v) (target p v))

-- a call behind what is found: it may be synchronous where it isn't known to be asynchronous
abbrev pub may_be_synchronous : Option TransactionHead → Bool
may_be_synchronous None = true
may_be_synchronous (Some h) = not h.is_async

abbrev pub transaction_behind : Text → Option DataType → Identifier → Option TransactionHead
transaction_behind t (Some (of_process k)) x = transaction_named (transactions_of (slice_get t.kinds k)) x.name
transaction_behind t _ x = None

abbrev pub may_be_timed_step : Text → Judged Found → Step → Bool
may_be_timed_step t j (CallStep' x _ args) = may_be_synchronous (transaction_behind t (type_found j) x)
may_be_timed_step t j _ = false

-- a part of a kind that no pure expression is made of: 25
abbrev pub not_pure : Around → Place → Judged Found → Judged Found
not_pure w p j = map second (both (impure w p) j)

-- a field or an element: pure where it is one of a place
abbrev pub pure_of_place : Bool → Around → Place → Judged Found → Judged Found
pure_of_place place w p j = if place then j else not_pure w p j

module _ (t : Text) (s : Scope) (w : Around) where
  unfoldable mutual
    pub expression : Phrase → Judged Found
    expression (Number p v n) = Good (constant v n)
    expression (Name x) = checked (visible x (meaning_at s x)) (value_named_by s.variables x.place)
    expression (parenthesized p e) = map within_parentheses (expression e)
    expression (Chain' _ (more_of-Phrase e end_of-Phrase) _ steps) =
        along (place_of e) (is_place s e) (expression e) steps
    -- operands: 14
    expression (negate p e) = map negated (checked (expression e) (number (place_of e)))
    expression (plus p e) = map plussed (checked (expression e) (number (place_of e)))
    expression (not_of p e) = map complemented (checked (expression e) (number (place_of e)))
    expression (Arithmetic' _ (more_of-Phrase a end_of-Phrase) _ rest) =
        map summed (sum (map sum_from (checked (expression a) (number (place_of a)))) rest)
    expression (Compare' _ (more_of-Phrase a end_of-Phrase) _ rest) =
        map compared_in (comparisons (place_of a) (map row_from (expression a)) rest)
    expression (Both' _ (more_of-Phrase a end_of-Phrase) _ rest) =
        map both_of (both (checked (expression a) (number (place_of a))) (numbers rest))
    expression (Either' _ (more_of-Phrase a end_of-Phrase) _ rest) =
        map either_of (both (checked (expression a) (number (place_of a))) (numbers rest))
    expression (choose c a b) =
        map chosen
        (both (checked (expression c) (number (place_of c)))
        (checked (both (checked (expression a) (no_array (place_of a))) (checked (expression b) (no_array (place_of b)))) (fitting (place_of b))))
    -- stores: 15, 14
    expression (assign a b) =
        not_pure w (place_of a)
        (map stored
        (both (asked (expression a) (any_target (place_of a)) (a_place (is_place s a) (place_of a)))
        (checked (expression b) (assigned (place_of b) (type_found (expression a))))))
    expression (update a o b) =
        not_pure w (place_of a)
        (map (updated o)
        (both (asked (expression a) (number_target (place_of a)) (a_place (is_place s a) (place_of a))) (checked (expression b) (number (place_of b)))))
    expression (step_before p d e) =
        not_pure w p (map (stepped_before d) (asked (expression e) (number_target (place_of e)) (a_place (is_place s e) (place_of e))))
    expression (step_after e d) =
        not_pure w (place_of e) (map (stepped_after d) (asked (expression e) (number_target (place_of e)) (a_place (is_place s e) (place_of e))))
    -- calls: 13, 14
    expression (Call' x _ args) =
        not_pure w x.place
        (map function_applied
        (both (checked (function_head t s x) (λ (h : ℕ × Signature). as_many x.place (count_row args) (length h.1.parameters) h))
        (arguments (no_types (mapped function_types (found (function_head t s x)))) 0 args)))
    expression (Create' p x _ args) =
        not_pure w p
        (map created
        (both (checked (kind_head t s x) (λ (h : ℕ × List DataType). as_many x.place (count_row args) (length h.1) h))
        (arguments (no_types (mapped kind_types (found (kind_head t s x)))) 0 args)))
    expression (put_char p e) = not_pure w p (map put_out (checked (expression e) (number (place_of e))))
    expression (GetChar p) = not_pure w p (Good (value typed.GetChar))
    -- 28, and else 13
    expression (PrintFormat' p f _ args) =
        not_pure w p
        (map (printed f.number)
        (both (checked (well_formed f.place (format_bytes (slice_get t.formats f.number))) (λ (bytes : List ℕ). as_many p (count_row args) (conversions bytes) tt))
        (numbers args)))
    -- 27, 14
    expression (within p d m e) =
        not_pure w p
        (map waited
        (both (checked (expression d) (number (place_of d)))
        (both (asked (expression m) (timed (place_of m)) (a_timed_call (may_be_timed m) (place_of m)))
        (checked (expression e) (assigned (place_of e) (timed_type (checked (expression m) (timed (place_of m)))))))))

    -- a phrase that isn't known to be anything but a call of a synchronous transaction
    pub may_be_timed : Phrase → Bool
    may_be_timed (Chain' _ (more_of-Phrase e end_of-Phrase) _ steps) =
        may_be_timed_along false (place_of e) (is_place s e) (expression e) steps
    may_be_timed _ = false

    -- the same of steps behind what is found so far, from what is known of the step before them
    pub may_be_timed_along : {n : _} → Bool → Place → Bool → Judged Found → Row_of-Step n → Bool
    may_be_timed_along last p place j end_of-Step = last
    may_be_timed_along last p place j (more_of-Step c rest) =
        may_be_timed_along (may_be_timed_step t j c) p (place && is_part_step c) (stepped p place j c) rest

    -- steps behind what is found so far, whose first token is p, and which is a place or not
    pub along : {n : _} → Place → Bool → Judged Found → Row_of-Step n → Judged Found
    along p place j end_of-Step = j
    along p place j (more_of-Step c rest) = along p (place && is_part_step c) (stepped p place j c) rest

    pub stepped : Place → Bool → Judged Found → Step → Judged Found
    -- 14, 18
    stepped p place j (Field x) =
        pure_of_place place w p
        (checked (checked j (structure_in p))
        (λ (v : Found). map (field_in s v) (has_field x (position (fields_named s (type_in v)) x.name))))
    -- 14
    stepped p place j (Index' _ (more_of-Phrase e end_of-Phrase)) =
        pure_of_place place w p
        (map indexed (both (checked j (array_in p)) (checked (expression e) (number (place_of e)))))
    -- 14, 19, 13
    stepped p place j (CallStep' x _ args) =
        not_pure w p
        (map transacted
        (both (checked (checked (checked j (process_in p)) (transaction_of t x)) (λ (h : Found × (TransactionHead × Signature)). as_many x.place (count_row args) (length h.1.1.parameters) h))
        (arguments (no_types (mapped transaction_types (found (checked (checked j (process_in p)) (transaction_of t x))))) 0 args)))

    -- arguments for the parameters from the k-th on: 14
    pub arguments : {n : _} → List DataType → ℕ → Row_of-Phrase n → Judged (List Argument)
    arguments ts k end_of-Phrase = Good []
    arguments ts k (more_of-Phrase a rest) =
        map in_front
        (both (map (argument_for (type_or_void (slice_get ts k))) (checked (expression a) (assigned (place_of a) (slice_get ts k))))
        (arguments ts (k + 1) rest))

    -- arithmetic operands or arguments: 14
    pub numbers : {n : _} → Row_of-Phrase n → Judged (List Expression)
    numbers end_of-Phrase = Good []
    numbers (more_of-Phrase a rest) = map in_front (both (checked (expression a) (number (place_of a))) (numbers rest))

    -- operators and right operands behind what is found so far: 14
    pub sum : {n : _} → Judged Sum → Row_of-Operation n → Judged Sum
    sum j end_of-Operation = j
    sum j (more_of-Operation o b rest) = sum (map (added o) (both j (checked (expression b) (number (place_of b))))) rest

    -- comparisons and right operands behind what is found so far, whose first token is p: 14, for each operand by itself
    pub comparisons : {n : _} → Place → Judged Row → Row_of-Compared n → Judged Row
    comparisons p j end_of-Compared = j
    comparisons p j (more_of-Compared c b rest) =
        comparisons p
        (map (with_comparison c)
        (both (checked j (λ (v : Row). comparable c (type_found (expression b)) p (row_type v) v))
        (checked (expression b) (λ (v : Found). comparable c (mapped row_type (found j)) (place_of b) (type_in v) (value_of v)))))
        rest
