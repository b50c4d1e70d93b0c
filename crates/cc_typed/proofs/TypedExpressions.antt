-- Which expressions are typed, by the names that the code has.
use Rattle.std.proofs.Common.{not, ◌≡◌, ℕ, ◌+◌, ◌<◌, ℤ, suc, true, false, ◌&&◌, ◌||◌, List, [], ◌∷◌, length, drop, get_or, refl, ap, ◌∙◌, arith}
use Rattle.std.proofs.Math.Bool.{and-false}
use Rattle.std.proofs.lemmas.Int.{to_z-of_z}
use Rattle.std.proofs.lemmas.List.{drop_all}
use Rattle.std.specs.List.{list_all}
use Rattle.std.specs.Prelude.{slice_get}
use Rattle.cc_base.specs.Numbers.{wider}
use Rattle.cc_base.specs.declared.numbers.NumberType.{NumberType}
use Rattle.cc_base.specs.declared.numbers.NumberType.TheVariants as numeric
use Rattle.cc_base.specs.declared.numbers.Operator.{Operator}
use Rattle.cc_typed.specs.KnownTypes.{is_process_type}
use Rattle.cc_typed.specs.Missing.{parameters_at}
use Rattle.cc_typed.specs.Parting.{is_element_of, is_field_of, is_of_type}
use Rattle.cc_typed.specs.Sequences.{drop-at}
use Rattle.cc_typed.specs.Typed.{Surroundings, are_typed_arguments, are_typed_comparisons, are_typed_numbers, are_typed_operands, are_typed_operations, are_typed_parts, are_typed_steps, begins_with_part, count_row, function_parameters, is_called, is_choice, is_comparable, is_constant, is_function, is_number, is_place, is_sent, is_timed, is_typed, is_typed_part, is_typed_step, kind_parameters, takes_numbers}
use Rattle.cc_typed.specs.TypedLists.{arguments_typed, comparisons_typed, is_part_first, is_typed_location, operands_typed, operations_typed, parts_typed, steps_typed}
use Rattle.cc_typed.specs.Types.{Int, is_arithmetic, is_assignable, is_same, is_same_number, number_in, type_after, type_after_step, type_of}
use Rattle.cc_typed.specs.declared.tree.Argument.{Argument}
use Rattle.cc_typed.specs.declared.tree.ChainStep.{ChainStep, Part, Call, Send, Row_of-Argument, end_of-Argument, more_of-Argument, items-the_row-Argument, items_hidden-the_row-Argument-0}
use Rattle.cc_typed.specs.declared.tree.ChainStep.TheBlock as E
use Rattle.cc_typed.specs.declared.tree.Compared.{Compared}
use Rattle.cc_typed.specs.declared.tree.Expression.{Expression, Constant, GetChar, Read, Chain, Negate, Not, Plus, Parenthesized, ChangeBefore, ChangeAfter, Arithmetic, Compare, Both, Either, Choose, Assign, Update, CallFunction, CreateProcess, Within, PutChar, PrintFormat, Row_of-Expression, end_of-Expression, more_of-Expression, items-the_row-Expression, items_hidden-the_row-Expression-6, Row_of-PartStep, end_of-PartStep, more_of-PartStep, items-the_row-PartStep, items_hidden-the_row-PartStep-1, Row_of-ChainStep, end_of-ChainStep, more_of-ChainStep, items-the_row-ChainStep, items_hidden-the_row-ChainStep-3, Row_of-Operation, end_of-Operation, more_of-Operation, items-the_row-Operation, items_hidden-the_row-Operation-4, Row_of-Compared, end_of-Compared, more_of-Compared, items-the_row-Compared, items_hidden-the_row-Compared-5}
use Rattle.cc_typed.specs.declared.tree.Location.{Location}
use Rattle.cc_typed.specs.declared.tree.Operation.{Operation}
use Rattle.cc_typed.specs.declared.tree.PartStep.{PartStep, Field, Element}
use Rattle.cc_typed.specs.declared.tree.Change.{Change}
use Rattle.cc_typed.specs.declared.types.DataType.{DataType}
use denote.Hole.Carrier.{hidden}

module _ (s : Surroundings) where
  parts-row : {n : _} (t : DataType) (row : Row_of-PartStep n) (u : DataType) → are_typed_parts s t row u ≡ parts_typed s t (items-the_row-PartStep n row) u
  unfolding is_typed
  parts-row t end_of-PartStep u = refl
  parts-row t (more_of-PartStep p rest) u = ap (λ b. is_typed_part s t p && b) (parts-row (type_after p) rest u)

  parts-hidden : (t : DataType) (steps : List PartStep) (u : DataType) → are_typed_parts s t (E.hidden-the_row-PartStep-1 steps) u ≡ parts_typed s t steps u
  parts-hidden t steps u = parts-row t (E.hidden-the_row-PartStep-1 steps) u ∙ ap (λ xs. parts_typed s t xs u) (items_hidden-the_row-PartStep-1 steps)

  place-hidden : (l : Location) → (is_of_type (slice_get s.variables l.variable) l.of && are_typed_parts s l.of (E.hidden-the_row-PartStep-1 l.steps) l.data_type) ≡ is_typed_location s l
  place-hidden l = ap (λ b. is_of_type (slice_get s.variables l.variable) l.of && b) (parts-hidden l.of l.steps l.data_type)

  steps-row : {n : _} (t : DataType) (row : Row_of-ChainStep n) (u : DataType) → are_typed_steps s t row u ≡ steps_typed s t (items-the_row-ChainStep n row) u
  unfolding is_typed
  steps-row t end_of-ChainStep u = refl
  steps-row t (more_of-ChainStep p rest) u = ap (λ b. is_typed_step s t p && b) (steps-row (type_after_step p) rest u)

  steps-hidden : (t : DataType) (steps : List ChainStep) (u : DataType) → are_typed_steps s t (E.hidden-the_row-ChainStep-3 steps) u ≡ steps_typed s t steps u
  steps-hidden t steps u = steps-row t (E.hidden-the_row-ChainStep-3 steps) u ∙ ap (λ xs. steps_typed s t xs u) (items_hidden-the_row-ChainStep-3 steps)

  first-row : {n : _} (row : Row_of-ChainStep n) → begins_with_part row ≡ is_part_first (items-the_row-ChainStep n row)
  first-row end_of-ChainStep = refl
  first-row (more_of-ChainStep p rest) = refl

  first-hidden : (steps : List ChainStep) → begins_with_part (E.hidden-the_row-ChainStep-3 steps) ≡ is_part_first steps
  first-hidden steps = first-row (E.hidden-the_row-ChainStep-3 steps) ∙ ap is_part_first (items_hidden-the_row-ChainStep-3 steps)

  operations-row : {n : _} (u : NumberType) (row : Row_of-Operation n) (t : NumberType) → are_typed_operations s u row t ≡ operations_typed s u (items-the_row-Operation n row) t
  unfolding is_typed
  operations-row u end_of-Operation t = refl
  operations-row u (more_of-Operation o b v rest) t = ap (λ c. (is_typed s b && is_arithmetic (type_of b) && is_same_number (wider u (number_in (type_of b))) v) && c) (operations-row v rest t)

  operations-hidden : (u : NumberType) (rest : List Operation) (t : NumberType) → are_typed_operations s u (E.hidden-the_row-Operation-4 rest) t ≡ operations_typed s u rest t
  operations-hidden u rest t = operations-row u (E.hidden-the_row-Operation-4 rest) t ∙ ap (λ xs. operations_typed s u xs t) (items_hidden-the_row-Operation-4 rest)

  comparisons-row : {n : _} (u : DataType) (row : Row_of-Compared n) → are_typed_comparisons s u row ≡ comparisons_typed s u (items-the_row-Compared n row)
  unfolding is_typed
  comparisons-row u end_of-Compared = refl
  comparisons-row u (more_of-Compared c b rest) = ap (λ x. (is_typed s b && is_comparable c u (type_of b)) && x) (comparisons-row Int rest)

  comparisons-hidden : (u : DataType) (rest : List Compared) → are_typed_comparisons s u (E.hidden-the_row-Compared-5 rest) ≡ comparisons_typed s u rest
  comparisons-hidden u rest = comparisons-row u (E.hidden-the_row-Compared-5 rest) ∙ ap (comparisons_typed s u) (items_hidden-the_row-Compared-5 rest)

  operands-row : {n : _} (u : DataType) (row : Row_of-Expression n) → are_typed_operands s u row ≡ operands_typed s u (items-the_row-Expression n row)
  unfolding is_typed
  operands-row u end_of-Expression = refl
  operands-row u (more_of-Expression b rest) = ap (λ x. (is_typed s b && is_arithmetic (type_of b)) && x) (operands-row Int rest)

  operands-hidden : (u : DataType) (rest : List Expression) → are_typed_operands s u (E.hidden-the_row-Expression-6 rest) ≡ operands_typed s u rest
  operands-hidden u rest = operands-row u (E.hidden-the_row-Expression-6 rest) ∙ ap (operands_typed s u) (items_hidden-the_row-Expression-6 rest)

  numbers-row : {n : _} (row : Row_of-Expression n) → are_typed_numbers s row ≡ list_all (is_number s) (items-the_row-Expression n row)
  unfolding is_typed
  numbers-row end_of-Expression = refl
  numbers-row (more_of-Expression b rest) = ap (λ x. is_number s b && x) (numbers-row rest)

  numbers-hidden : (rest : List Expression) → are_typed_numbers s (E.hidden-the_row-Expression-6 rest) ≡ list_all (is_number s) rest
  numbers-hidden rest = numbers-row (E.hidden-the_row-Expression-6 rest) ∙ ap (list_all (is_number s)) (items_hidden-the_row-Expression-6 rest)

  count-row : {n : _} (row : Row_of-Expression n) → count_row row ≡ length (items-the_row-Expression n row)
  unfolding count_row
  count-row end_of-Expression = refl
  count-row (more_of-Expression b rest) = ap suc (count-row rest)

  count-hidden : (rest : List Expression) → count_row (E.hidden-the_row-Expression-6 rest) ≡ length rest
  count-hidden rest = count-row (E.hidden-the_row-Expression-6 rest) ∙ ap length (items_hidden-the_row-Expression-6 rest)

  arguments-row : {n : _} (row : Row_of-Argument n) (us : List DataType) → are_typed_arguments s row us ≡ arguments_typed s (items-the_row-Argument n row) us
  unfolding is_typed
  arguments-row end_of-Argument [] = refl
  arguments-row end_of-Argument (u ∷ us) = refl
  arguments-row (more_of-Argument e t rest) [] = refl
  arguments-row (more_of-Argument e t rest) (u ∷ us) = ap (λ x. (is_typed s e && is_assignable (type_of e) t && is_same u t) && x) (arguments-row rest us)

  arguments-hidden : (args : List Argument) (us : List DataType) → are_typed_arguments s (E.hidden-the_row-Argument-0 args) us ≡ arguments_typed s args us
  arguments-hidden args us = arguments-row (E.hidden-the_row-Argument-0 args) us ∙ ap (λ xs. arguments_typed s xs us) (items_hidden-the_row-Argument-0 args)

  pub typed-Constant : (n : ℤ) (t : NumberType) → is_typed s (Constant n t) ≡ is_constant t n
  unfolding is_typed
  typed-Constant n t = refl

  pub typed-GetChar : is_typed s GetChar ≡ true
  unfolding is_typed
  typed-GetChar = refl

  pub typed-Read : (l : Location) → is_typed s (Read l) ≡ is_typed_location s l
  unfolding is_typed
  typed-Read l = place-hidden l

  pub typed-Chain : (e : Expression) (steps : List ChainStep) (u : DataType) → is_typed s (Chain e steps u) ≡ (not (is_place e && is_part_first steps) && is_typed s e && steps_typed s (type_of e) steps u)
  unfolding is_typed E.shape-the_row-Expression-2 E.hidden-the_row-Expression-2 hidden
  typed-Chain e steps u = ap (λ b. not (is_place e && b) && is_typed s e && are_typed_steps s (type_of e) (E.hidden-the_row-ChainStep-3 steps) u) (first-hidden steps) ∙ ap (λ b. not (is_place e && is_part_first steps) && is_typed s e && b) (steps-hidden (type_of e) steps u)

  pub typed-Negate : (e : Expression) (t : NumberType) → is_typed s (Negate e t) ≡ (is_typed s e && is_arithmetic (type_of e) && is_same_number (wider (number_in (type_of e)) numeric.Int) t)
  unfolding is_typed E.shape-the_row-Expression-2 E.hidden-the_row-Expression-2 hidden
  typed-Negate e t = refl

  pub typed-Plus : (e : Expression) (t : NumberType) → is_typed s (Plus e t) ≡ (is_typed s e && is_arithmetic (type_of e) && is_same_number (wider (number_in (type_of e)) numeric.Int) t)
  unfolding is_typed E.shape-the_row-Expression-2 E.hidden-the_row-Expression-2 hidden
  typed-Plus e t = refl

  pub typed-Not : (e : Expression) → is_typed s (Not e) ≡ (is_typed s e && is_arithmetic (type_of e))
  unfolding is_typed E.shape-the_row-Expression-2 E.hidden-the_row-Expression-2 hidden
  typed-Not e = refl

  pub typed-Parenthesized : (e : Expression) (t : DataType) → is_typed s (Parenthesized e t) ≡ (is_typed s e && is_same (type_of e) t)
  unfolding is_typed E.shape-the_row-Expression-2 E.hidden-the_row-Expression-2 hidden
  typed-Parenthesized e t = refl

  pub typed-ChangeBefore : (l : Location) (d : Change) → is_typed s (ChangeBefore l d) ≡ (is_typed_location s l && is_arithmetic l.data_type)
  unfolding is_typed
  typed-ChangeBefore l d = ap (λ b. b && is_arithmetic l.data_type) (place-hidden l)

  pub typed-ChangeAfter : (l : Location) (d : Change) → is_typed s (ChangeAfter l d) ≡ (is_typed_location s l && is_arithmetic l.data_type)
  unfolding is_typed
  typed-ChangeAfter l d = ap (λ b. b && is_arithmetic l.data_type) (place-hidden l)

  pub typed-Arithmetic : (a : Expression) (rest : List Operation) (t : NumberType) → is_typed s (Arithmetic a rest t) ≡ (is_typed s a && is_arithmetic (type_of a) && operations_typed s (number_in (type_of a)) rest t)
  unfolding is_typed E.shape-the_row-Expression-2 E.hidden-the_row-Expression-2 hidden
  typed-Arithmetic a rest t = ap (λ b. is_typed s a && is_arithmetic (type_of a) && b) (operations-hidden (number_in (type_of a)) rest t)

  pub typed-Compare : (a : Expression) (rest : List Compared) → is_typed s (Compare a rest) ≡ (is_typed s a && comparisons_typed s (type_of a) rest)
  unfolding is_typed E.shape-the_row-Expression-2 E.hidden-the_row-Expression-2 hidden
  typed-Compare a rest = ap (λ b. is_typed s a && b) (comparisons-hidden (type_of a) rest)

  pub typed-Both : (a : Expression) (rest : List Expression) → is_typed s (Both a rest) ≡ (is_typed s a && is_arithmetic (type_of a) && operands_typed s (type_of a) rest)
  unfolding is_typed E.shape-the_row-Expression-2 E.hidden-the_row-Expression-2 hidden
  typed-Both a rest = ap (λ b. is_typed s a && is_arithmetic (type_of a) && b) (operands-hidden (type_of a) rest)

  pub typed-Either : (a : Expression) (rest : List Expression) → is_typed s (Either a rest) ≡ (is_typed s a && is_arithmetic (type_of a) && operands_typed s (type_of a) rest)
  unfolding is_typed E.shape-the_row-Expression-2 E.hidden-the_row-Expression-2 hidden
  typed-Either a rest = ap (λ b. is_typed s a && is_arithmetic (type_of a) && b) (operands-hidden (type_of a) rest)

  pub typed-Choose : (c a b : Expression) (t : DataType) → is_typed s (Choose c a b t) ≡ (is_typed s c && is_arithmetic (type_of c) && is_typed s a && is_typed s b && is_choice (type_of a) (type_of b) t)
  unfolding is_typed E.shape-the_row-Expression-2 E.hidden-the_row-Expression-2 hidden
  typed-Choose c a b t = refl

  pub typed-Assign : (l : Location) (e : Expression) → is_typed s (Assign l e) ≡ (is_typed_location s l && is_typed s e && is_assignable (type_of e) l.data_type)
  unfolding is_typed E.shape-the_row-Expression-2 E.hidden-the_row-Expression-2 hidden
  typed-Assign l e = ap (λ b. b && is_typed s e && is_assignable (type_of e) l.data_type) (place-hidden l)

  pub typed-Update : (l : Location) (o : Operator) (e : Expression) → is_typed s (Update l o e) ≡ (is_typed_location s l && is_arithmetic l.data_type && is_typed s e && is_arithmetic (type_of e))
  unfolding is_typed E.shape-the_row-Expression-2 E.hidden-the_row-Expression-2 hidden
  typed-Update l o e = ap (λ b. b && is_arithmetic l.data_type && is_typed s e && is_arithmetic (type_of e)) (place-hidden l)

  pub typed-CallFunction : (f : ℕ) (args : List Argument) (t : DataType) → is_typed s (CallFunction f args t) ≡ (is_function (slice_get s.parts.functions f) t && arguments_typed s args (function_parameters (slice_get s.parts.functions f)))
  unfolding is_typed
  typed-CallFunction f args t = ap (λ b. is_function (slice_get s.parts.functions f) t && b) (arguments-hidden args (function_parameters (slice_get s.parts.functions f)))

  pub typed-CreateProcess : (k : ℕ) (args : List Argument) → is_typed s (CreateProcess k args) ≡ (is_process_type s.parts k && arguments_typed s args (kind_parameters (slice_get s.parts.kinds k)))
  unfolding is_typed
  typed-CreateProcess k args = ap (λ b. is_process_type s.parts k && b) (arguments-hidden args (kind_parameters (slice_get s.parts.kinds k)))

  pub typed-Within : (d e : Expression) (k : ℕ) (args : List Argument) (other : Expression) (t : DataType) → is_typed s (Within d e k args other t) ≡ (is_timed (slice_get s.parts.transactions k) (type_of d) (type_of e) (type_of other) t && is_typed s d && is_typed s e && arguments_typed s args (parameters_at (slice_get s.parts.transactions k)) && is_typed s other)
  unfolding is_typed E.shape-the_row-Expression-2 E.hidden-the_row-Expression-2 hidden
  typed-Within d e k args other t = ap (λ b. is_timed (slice_get s.parts.transactions k) (type_of d) (type_of e) (type_of other) t && is_typed s d && is_typed s e && b && is_typed s other) (arguments-hidden args (parameters_at (slice_get s.parts.transactions k)))

  pub typed-PutChar : (e : Expression) → is_typed s (PutChar e) ≡ (is_typed s e && is_arithmetic (type_of e))
  unfolding is_typed E.shape-the_row-Expression-2 E.hidden-the_row-Expression-2 hidden
  typed-PutChar e = refl

  pub typed-PrintFormat : (f : ℕ) (args : List Expression) → is_typed s (PrintFormat f args) ≡ (takes_numbers (slice_get s.parts.formats f) (length args) && list_all (is_number s) args)
  unfolding is_typed
  typed-PrintFormat f args = ap (λ m. takes_numbers (slice_get s.parts.formats f) m && are_typed_numbers s (E.hidden-the_row-Expression-6 args)) (count-hidden args) ∙ ap (λ b. takes_numbers (slice_get s.parts.formats f) (length args) && b) (numbers-hidden args)

  pub part-Field : (t : DataType) (k : ℕ) (u : DataType) → is_typed_part s t (Field k u) ≡ is_field_of s.parts.structures t k u
  unfolding is_typed
  part-Field t k u = refl

  pub part-Element : (t : DataType) (e : Expression) (u : DataType) → is_typed_part s t (Element e u) ≡ (is_element_of t u && is_typed s e && is_arithmetic (type_of e))
  unfolding is_typed
  part-Element t e u = refl

  pub step-Part : (t : DataType) (p : PartStep) → is_typed_step s t (Part p) ≡ is_typed_part s t p
  unfolding is_typed
  step-Part t p = refl

  pub step-Call : (t : DataType) (trans : ℕ) (args : List Argument) (u : DataType) → is_typed_step s t (Call trans args u) ≡ (is_called (slice_get s.parts.transactions trans) t u && arguments_typed s args (parameters_at (slice_get s.parts.transactions trans)))
  unfolding is_typed
  step-Call t trans args u = ap (λ b. is_called (slice_get s.parts.transactions trans) t u && b) (arguments-hidden args (parameters_at (slice_get s.parts.transactions trans)))

  pub step-Send : (t : DataType) (trans : ℕ) (args : List Argument) → is_typed_step s t (Send trans args) ≡ (is_sent (slice_get s.parts.transactions trans) t && arguments_typed s args (parameters_at (slice_get s.parts.transactions trans)))
  unfolding is_typed
  step-Send t trans args = ap (λ b. is_sent (slice_get s.parts.transactions trans) t && b) (arguments-hidden args (parameters_at (slice_get s.parts.transactions trans)))

  pub arguments-lengths : (args : List Argument) (us : List DataType) → (length args ≡ length us → ⊥) → arguments_typed s args us ≡ false
  arguments-lengths [] [] differ = absurd (differ refl)
  arguments-lengths [] (u ∷ us) differ = refl
  arguments-lengths (a ∷ rest) [] differ = refl
  arguments-lengths (a ∷ rest) (u ∷ us) differ = ap (λ b. (is_typed s a.value && is_assignable (type_of a.value) a.data_type && is_same u a.data_type) && b) (arguments-lengths rest us (λ e. differ (ap suc e))) ∙ and-false _

  pub arguments-step : (args : List Argument) (us : List DataType) (k : ℕ) (d : Argument) (v : DataType) → k < length args → k < length us
      → arguments_typed s (drop k args) (drop k us) ≡ ((is_typed s (get_or args k d).value && is_assignable (type_of (get_or args k d).value) (get_or args k d).data_type && is_same (get_or us k v) (get_or args k d).data_type) && arguments_typed s (drop (k + 1) args) (drop (k + 1) us))
  arguments-step args us k d v lt mt = ap (λ xs. arguments_typed s xs (drop k us)) (drop-at args k d lt) ∙ ap (λ xs. arguments_typed s (get_or args k d ∷ drop (k + 1) args) xs) (drop-at us k v mt)

  pub arguments-end : (args : List Argument) (us : List DataType) (k : ℕ) → k ≡ length args → k ≡ length us → arguments_typed s (drop k args) (drop k us) ≡ true
  arguments-end args us k e f = ap (λ xs. arguments_typed s xs (drop k us)) (drop_all k args (omega (arith, e))) ∙ ap (λ xs. arguments_typed s [] xs) (drop_all k us (omega (arith, f)))

pub ruleset typed_expressions = (to_z-of_z, typed-Constant, typed-GetChar, typed-Read, typed-Chain, typed-Negate, typed-Not, typed-Plus, typed-Parenthesized, typed-ChangeBefore, typed-ChangeAfter, typed-Arithmetic, typed-Compare, typed-Both, typed-Either, typed-Choose, typed-Assign, typed-Update, typed-CallFunction, typed-CreateProcess, typed-Within, typed-PutChar, typed-PrintFormat, part-Field, part-Element, step-Part, step-Call, step-Send, arguments-lengths, arguments-step, arguments-end)
