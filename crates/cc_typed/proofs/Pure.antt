-- Which expressions are pure, by the names that the code has.
use Rattle.std.proofs.Common.{◌≡◌, ℕ, ◌-◌, ℤ, true, false, ◌&&◌, List, refl, ap, ◌∙◌}
use Rattle.std.specs.List.{list_all}
use Rattle.std.specs.Prelude.{nat_lt}
use Rattle.cc_typed.specs.Clauses.{are_pure, are_pure_comparisons, are_pure_operations, are_pure_parts, is_pure, is_pure_part}
use Rattle.cc_typed.specs.declared.tree.Argument.{Argument}
use Rattle.cc_typed.specs.declared.tree.Compared.{Compared}
use Rattle.cc_base.specs.declared.numbers.NumberType.{NumberType}
use Rattle.cc_typed.specs.declared.types.DataType.{DataType}
use Rattle.cc_typed.specs.declared.tree.Expression.{Expression, Constant, GetChar, Read, Chain, Negate, Not, Plus, Parenthesized, ChangeBefore, ChangeAfter, Arithmetic, Compare, Both, Either, Choose, Assign, Update, CallFunction, CreateProcess, Within, PutChar, PrintFormat, Row_of-Expression, end_of-Expression, more_of-Expression, items-the_row-Expression, items_hidden-the_row-Expression-6, Row_of-PartStep, end_of-PartStep, more_of-PartStep, items-the_row-PartStep, items_hidden-the_row-PartStep-1, Row_of-Operation, end_of-Operation, more_of-Operation, items-the_row-Operation, items_hidden-the_row-Operation-4, Row_of-Compared, end_of-Compared, more_of-Compared, items-the_row-Compared, items_hidden-the_row-Compared-5}
use Rattle.cc_typed.specs.declared.tree.ChainStep.TheBlock as E
use Rattle.cc_typed.specs.declared.tree.ChainStep.{ChainStep}
use Rattle.cc_typed.specs.declared.tree.Location.{Location}
use Rattle.cc_typed.specs.declared.tree.PartStep.{PartStep, Field, Element}
use Rattle.cc_typed.specs.declared.tree.Operation.{Operation}
use Rattle.cc_base.specs.declared.numbers.Operator.{Operator}
use Rattle.cc_typed.specs.declared.tree.Change.{Change}
use denote.Hole.Carrier.{hidden}

pure_operations-row : {m : _} (n0 : ℕ) (row : Row_of-Operation m) → are_pure_operations n0 row ≡ list_all (λ o. is_pure n0 o.operand) (items-the_row-Operation m row)
unfolding is_pure
pure_operations-row n0 end_of-Operation = refl
pure_operations-row n0 (more_of-Operation o b v rest) = ap (λ c. is_pure n0 b && c) (pure_operations-row n0 rest)

pure_operations-hidden : (n0 : ℕ) (rest : List Operation) → are_pure_operations n0 (E.hidden-the_row-Operation-4 rest) ≡ list_all (λ o. is_pure n0 o.operand) rest
pure_operations-hidden n0 rest = pure_operations-row n0 (E.hidden-the_row-Operation-4 rest) ∙ ap (list_all (λ (o : Operation). is_pure n0 o.operand)) (items_hidden-the_row-Operation-4 rest)

pure_comparisons-row : {m : _} (n0 : ℕ) (row : Row_of-Compared m) → are_pure_comparisons n0 row ≡ list_all (λ c. is_pure n0 c.operand) (items-the_row-Compared m row)
unfolding is_pure
pure_comparisons-row n0 end_of-Compared = refl
pure_comparisons-row n0 (more_of-Compared o b rest) = ap (λ c. is_pure n0 b && c) (pure_comparisons-row n0 rest)

pure_comparisons-hidden : (n0 : ℕ) (rest : List Compared) → are_pure_comparisons n0 (E.hidden-the_row-Compared-5 rest) ≡ list_all (λ c. is_pure n0 c.operand) rest
pure_comparisons-hidden n0 rest = pure_comparisons-row n0 (E.hidden-the_row-Compared-5 rest) ∙ ap (list_all (λ (o : Compared). is_pure n0 o.operand)) (items_hidden-the_row-Compared-5 rest)

pure_row-row : {m : _} (n0 : ℕ) (row : Row_of-Expression m) → are_pure n0 row ≡ list_all (is_pure n0) (items-the_row-Expression m row)
unfolding is_pure
pure_row-row n0 end_of-Expression = refl
pure_row-row n0 (more_of-Expression b rest) = ap (λ c. is_pure n0 b && c) (pure_row-row n0 rest)

pure_row-hidden : (n0 : ℕ) (rest : List Expression) → are_pure n0 (E.hidden-the_row-Expression-6 rest) ≡ list_all (is_pure n0) rest
pure_row-hidden n0 rest = pure_row-row n0 (E.hidden-the_row-Expression-6 rest) ∙ ap (list_all (is_pure n0)) (items_hidden-the_row-Expression-6 rest)

pure_parts-row : {m : _} (n0 : ℕ) (row : Row_of-PartStep m) → are_pure_parts n0 row ≡ list_all (is_pure_part n0) (items-the_row-PartStep m row)
unfolding is_pure
pure_parts-row n0 end_of-PartStep = refl
pure_parts-row n0 (more_of-PartStep p rest) = ap (λ c. is_pure_part n0 p && c) (pure_parts-row n0 rest)

pure_parts-hidden : (n0 : ℕ) (steps : List PartStep) → are_pure_parts n0 (E.hidden-the_row-PartStep-1 steps) ≡ list_all (is_pure_part n0) steps
pure_parts-hidden n0 steps = pure_parts-row n0 (E.hidden-the_row-PartStep-1 steps) ∙ ap (list_all (is_pure_part n0)) (items_hidden-the_row-PartStep-1 steps)

pub pure-Constant : (n0 : ℕ) (n : ℤ) (t : NumberType) → is_pure n0 (Constant n t) ≡ (nat_lt 0 n0)
unfolding is_pure
pure-Constant n0 n t = refl

pub pure-GetChar : (n0 : ℕ) → is_pure n0 GetChar ≡ false
unfolding is_pure
pure-GetChar n0 = refl

pub pure-Read : (n0 : ℕ) (l : Location) → is_pure n0 (Read l) ≡ (nat_lt 0 n0 && list_all (is_pure_part (n0 - 1)) l.steps)
unfolding is_pure
pure-Read n0 l = ap (λ b. nat_lt 0 n0 && b) (pure_parts-hidden (n0 - 1) l.steps)

pub pure-Chain : (n0 : ℕ) (e : Expression) (steps : List ChainStep) (u : DataType) → is_pure n0 (Chain e steps u) ≡ false
unfolding is_pure
pure-Chain n0 e steps u = refl

pub pure-Negate : (n0 : ℕ) (e : Expression) (t : NumberType) → is_pure n0 (Negate e t) ≡ (is_pure n0 e)
unfolding is_pure E.shape-the_row-Expression-2 E.hidden-the_row-Expression-2 hidden
pure-Negate n0 e t = refl

pub pure-Not : (n0 : ℕ) (e : Expression) → is_pure n0 (Not e) ≡ (is_pure n0 e)
unfolding is_pure E.shape-the_row-Expression-2 E.hidden-the_row-Expression-2 hidden
pure-Not n0 e = refl

pub pure-Plus : (n0 : ℕ) (e : Expression) (t : NumberType) → is_pure n0 (Plus e t) ≡ (is_pure n0 e)
unfolding is_pure E.shape-the_row-Expression-2 E.hidden-the_row-Expression-2 hidden
pure-Plus n0 e t = refl

pub pure-Parenthesized : (n0 : ℕ) (e : Expression) (t : DataType) → is_pure n0 (Parenthesized e t) ≡ (is_pure n0 e)
unfolding is_pure E.shape-the_row-Expression-2 E.hidden-the_row-Expression-2 hidden
pure-Parenthesized n0 e t = refl

pub pure-ChangeBefore : (n0 : ℕ) (l : Location) (d : Change) → is_pure n0 (ChangeBefore l d) ≡ false
unfolding is_pure
pure-ChangeBefore n0 l d = refl

pub pure-ChangeAfter : (n0 : ℕ) (l : Location) (d : Change) → is_pure n0 (ChangeAfter l d) ≡ false
unfolding is_pure
pure-ChangeAfter n0 l d = refl

pub pure-Arithmetic : (n0 : ℕ) (a : Expression) (rest : List Operation) (t : NumberType) → is_pure n0 (Arithmetic a rest t) ≡ (is_pure n0 a && list_all (λ o. is_pure (n0 - 1) o.operand) rest)
unfolding is_pure E.shape-the_row-Expression-2 E.hidden-the_row-Expression-2 hidden
pure-Arithmetic n0 a rest t = ap (λ x. is_pure n0 a && x) (pure_operations-hidden (n0 - 1) rest)

pub pure-Compare : (n0 : ℕ) (a : Expression) (rest : List Compared) → is_pure n0 (Compare a rest) ≡ (is_pure n0 a && list_all (λ c. is_pure (n0 - 1) c.operand) rest)
unfolding is_pure E.shape-the_row-Expression-2 E.hidden-the_row-Expression-2 hidden
pure-Compare n0 a rest = ap (λ x. is_pure n0 a && x) (pure_comparisons-hidden (n0 - 1) rest)

pub pure-Both : (n0 : ℕ) (a : Expression) (rest : List Expression) → is_pure n0 (Both a rest) ≡ (is_pure n0 a && list_all (is_pure n0) rest)
unfolding is_pure E.shape-the_row-Expression-2 E.hidden-the_row-Expression-2 hidden
pure-Both n0 a rest = ap (λ x. is_pure n0 a && x) (pure_row-hidden n0 rest)

pub pure-Either : (n0 : ℕ) (a : Expression) (rest : List Expression) → is_pure n0 (Either a rest) ≡ (is_pure n0 a && list_all (is_pure n0) rest)
unfolding is_pure E.shape-the_row-Expression-2 E.hidden-the_row-Expression-2 hidden
pure-Either n0 a rest = ap (λ x. is_pure n0 a && x) (pure_row-hidden n0 rest)

pub pure-Choose : (n0 : ℕ) (c : Expression) (a : Expression) (b : Expression) (t : DataType) → is_pure n0 (Choose c a b t) ≡ (is_pure n0 c && is_pure n0 a && is_pure n0 b)
unfolding is_pure E.shape-the_row-Expression-2 E.hidden-the_row-Expression-2 hidden
pure-Choose n0 c a b t = refl

pub pure-Assign : (n0 : ℕ) (l : Location) (e : Expression) → is_pure n0 (Assign l e) ≡ false
unfolding is_pure E.shape-the_row-Expression-2 E.hidden-the_row-Expression-2 hidden
pure-Assign n0 l e = refl

pub pure-Update : (n0 : ℕ) (l : Location) (o : Operator) (e : Expression) → is_pure n0 (Update l o e) ≡ false
unfolding is_pure E.shape-the_row-Expression-2 E.hidden-the_row-Expression-2 hidden
pure-Update n0 l o e = refl

pub pure-CallFunction : (n0 : ℕ) (f : ℕ) (args : List Argument) (t : DataType) → is_pure n0 (CallFunction f args t) ≡ false
unfolding is_pure
pure-CallFunction n0 f args t = refl

pub pure-CreateProcess : (n0 : ℕ) (k : ℕ) (args : List Argument) → is_pure n0 (CreateProcess k args) ≡ false
unfolding is_pure
pure-CreateProcess n0 k args = refl

pub pure-Within : (n0 : ℕ) (d : Expression) (e : Expression) (k : ℕ) (args : List Argument) (other : Expression) (t : DataType) → is_pure n0 (Within d e k args other t) ≡ false
unfolding is_pure E.shape-the_row-Expression-2 E.hidden-the_row-Expression-2 hidden
pure-Within n0 d e k args other t = refl

pub pure-PutChar : (n0 : ℕ) (e : Expression) → is_pure n0 (PutChar e) ≡ false
unfolding is_pure E.shape-the_row-Expression-2 E.hidden-the_row-Expression-2 hidden
pure-PutChar n0 e = refl

pub pure-PrintFormat : (n0 : ℕ) (f : ℕ) (args : List Expression) → is_pure n0 (PrintFormat f args) ≡ false
unfolding is_pure
pure-PrintFormat n0 f args = refl

pub pure-Field : (n0 : ℕ) (k : ℕ) (t : DataType) → is_pure_part n0 (Field k t) ≡ true
unfolding is_pure
pure-Field n0 k t = refl

pub pure-Element : (n0 : ℕ) (e : Expression) (t : DataType) → is_pure_part n0 (Element e t) ≡ is_pure n0 e
unfolding is_pure
pure-Element n0 e t = refl

pub ruleset pure_expressions = (pure-Constant, pure-GetChar, pure-Read, pure-Chain, pure-Field, pure-Element, pure-Negate, pure-Not, pure-Plus, pure-Parenthesized, pure-ChangeBefore, pure-ChangeAfter, pure-Arithmetic, pure-Compare, pure-Both, pure-Either, pure-Choose, pure-Assign, pure-Update, pure-CallFunction, pure-CreateProcess, pure-Within, pure-PutChar, pure-PrintFormat)
