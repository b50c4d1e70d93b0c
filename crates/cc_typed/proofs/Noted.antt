-- The variables that a pure expression names, by the names that the code has.
use Rattle.std.proofs.Common.{◌≡◌, ℕ, ◌+◌, ◌<◌, ℤ, suc, true, false, ◌&&◌, List, [], ◌∷◌, length, drop, get_or, nat_eq, refl, ap, ◌∙◌, arith}
use Rattle.std.proofs.lemmas.List.{drop_all}
use Rattle.std.proofs.Math.Bool.{and-false}
use Rattle.cc_typed.specs.ClauseLists.{comparisons_noted_in, operations_noted_in, parts_noted_in, row_noted_in}
use Rattle.cc_typed.specs.Clauses.{all_noted, are_numbers, comparisons_noted, noted, operations_noted, part_noted, parts_noted, row_noted}
use Rattle.cc_typed.specs.Sequences.{drop-at}
use Rattle.cc_typed.specs.declared.clauses.Own.{Own}
use Rattle.cc_typed.specs.declared.tree.Argument.{Argument}
use Rattle.cc_typed.specs.declared.tree.Compared.{Compared}
use Rattle.cc_base.specs.declared.numbers.NumberType.{NumberType}
use Rattle.cc_typed.specs.declared.types.DataType.{DataType}
use Rattle.cc_typed.specs.declared.tree.Expression.{Expression, Constant, GetChar, Read, Chain, Negate, Not, Plus, Parenthesized, ChangeBefore, ChangeAfter, Arithmetic, Compare, Both, Either, Choose, Assign, Update, CallFunction, CreateProcess, Within, PutChar, PrintFormat, Row_of-Expression, end_of-Expression, more_of-Expression, items-the_row-Expression, items_hidden-the_row-Expression-6, Row_of-PartStep, end_of-PartStep, more_of-PartStep, items-the_row-PartStep, items_hidden-the_row-PartStep-1, Row_of-Operation, end_of-Operation, more_of-Operation, items-the_row-Operation, items_hidden-the_row-Operation-4, Row_of-Compared, end_of-Compared, more_of-Compared, items-the_row-Compared, items_hidden-the_row-Compared-5}
use Rattle.cc_typed.specs.declared.tree.ChainStep.TheBlock as E
use Rattle.cc_typed.specs.declared.tree.ChainStep.{ChainStep}
use Rattle.cc_typed.specs.declared.tree.Location.{Location}
use Rattle.cc_typed.specs.declared.tree.PartStep.{PartStep, Field, Element}
use Rattle.cc_typed.specs.declared.tree.Operation.{Operation}
use Rattle.cc_base.specs.declared.numbers.Operator.{Operator}
use Rattle.cc_typed.specs.declared.tree.Change.{Change}
use denote.Hole.Carrier.{hidden}

operations-row : {m : _} (own : Own) (seen : List ℕ) (row : Row_of-Operation m) → operations_noted own seen row ≡ operations_noted_in own seen (items-the_row-Operation m row)
unfolding all_noted
operations-row own seen end_of-Operation = refl
operations-row own seen (more_of-Operation o b v rest) = operations-row own (all_noted own seen b) rest

operations-hidden : (own : Own) (seen : List ℕ) (rest : List Operation) → operations_noted own seen (E.hidden-the_row-Operation-4 rest) ≡ operations_noted_in own seen rest
operations-hidden own seen rest = operations-row own seen (E.hidden-the_row-Operation-4 rest) ∙ ap (operations_noted_in own seen) (items_hidden-the_row-Operation-4 rest)

comparisons-row : {m : _} (own : Own) (seen : List ℕ) (row : Row_of-Compared m) → comparisons_noted own seen row ≡ comparisons_noted_in own seen (items-the_row-Compared m row)
unfolding all_noted
comparisons-row own seen end_of-Compared = refl
comparisons-row own seen (more_of-Compared c b rest) = comparisons-row own (all_noted own seen b) rest

comparisons-hidden : (own : Own) (seen : List ℕ) (rest : List Compared) → comparisons_noted own seen (E.hidden-the_row-Compared-5 rest) ≡ comparisons_noted_in own seen rest
comparisons-hidden own seen rest = comparisons-row own seen (E.hidden-the_row-Compared-5 rest) ∙ ap (comparisons_noted_in own seen) (items_hidden-the_row-Compared-5 rest)

row-row : {m : _} (own : Own) (seen : List ℕ) (row : Row_of-Expression m) → row_noted own seen row ≡ row_noted_in own seen (items-the_row-Expression m row)
unfolding all_noted
row-row own seen end_of-Expression = refl
row-row own seen (more_of-Expression b rest) = row-row own (all_noted own seen b) rest

row-hidden : (own : Own) (seen : List ℕ) (rest : List Expression) → row_noted own seen (E.hidden-the_row-Expression-6 rest) ≡ row_noted_in own seen rest
row-hidden own seen rest = row-row own seen (E.hidden-the_row-Expression-6 rest) ∙ ap (row_noted_in own seen) (items_hidden-the_row-Expression-6 rest)

parts-row : {m : _} (own : Own) (seen : List ℕ) (row : Row_of-PartStep m) → parts_noted own seen row ≡ parts_noted_in own seen (items-the_row-PartStep m row)
unfolding all_noted
parts-row own seen end_of-PartStep = refl
parts-row own seen (more_of-PartStep p rest) = parts-row own (part_noted own seen p) rest

parts-hidden : (own : Own) (seen : List ℕ) (steps : List PartStep) → parts_noted own seen (E.hidden-the_row-PartStep-1 steps) ≡ parts_noted_in own seen steps
parts-hidden own seen steps = parts-row own seen (E.hidden-the_row-PartStep-1 steps) ∙ ap (parts_noted_in own seen) (items_hidden-the_row-PartStep-1 steps)

pub noted-Constant : (own : Own) (seen : List ℕ) (n : ℤ) (t : NumberType) → all_noted own seen (Constant n t) ≡ seen
unfolding all_noted
noted-Constant own seen n t = refl

pub noted-GetChar : (own : Own) (seen : List ℕ) → all_noted own seen GetChar ≡ seen
unfolding all_noted
noted-GetChar own seen = refl

pub noted-Read : (own : Own) (seen : List ℕ) (l : Location) → all_noted own seen (Read l) ≡ parts_noted_in own (noted own seen l.variable) l.steps
unfolding all_noted
noted-Read own seen l = parts-hidden own (noted own seen l.variable) l.steps

pub noted-Chain : (own : Own) (seen : List ℕ) (e : Expression) (steps : List ChainStep) (u : DataType) → all_noted own seen (Chain e steps u) ≡ seen
unfolding all_noted
noted-Chain own seen e steps u = refl

pub noted-Negate : (own : Own) (seen : List ℕ) (e : Expression) (t : NumberType) → all_noted own seen (Negate e t) ≡ all_noted own seen e
unfolding all_noted E.shape-the_row-Expression-2 E.hidden-the_row-Expression-2 hidden
noted-Negate own seen e t = refl

pub noted-Not : (own : Own) (seen : List ℕ) (e : Expression) → all_noted own seen (Not e) ≡ all_noted own seen e
unfolding all_noted E.shape-the_row-Expression-2 E.hidden-the_row-Expression-2 hidden
noted-Not own seen e = refl

pub noted-Plus : (own : Own) (seen : List ℕ) (e : Expression) (t : NumberType) → all_noted own seen (Plus e t) ≡ all_noted own seen e
unfolding all_noted E.shape-the_row-Expression-2 E.hidden-the_row-Expression-2 hidden
noted-Plus own seen e t = refl

pub noted-Parenthesized : (own : Own) (seen : List ℕ) (e : Expression) (t : DataType) → all_noted own seen (Parenthesized e t) ≡ all_noted own seen e
unfolding all_noted E.shape-the_row-Expression-2 E.hidden-the_row-Expression-2 hidden
noted-Parenthesized own seen e t = refl

pub noted-ChangeBefore : (own : Own) (seen : List ℕ) (l : Location) (d : Change) → all_noted own seen (ChangeBefore l d) ≡ seen
unfolding all_noted
noted-ChangeBefore own seen l d = refl

pub noted-ChangeAfter : (own : Own) (seen : List ℕ) (l : Location) (d : Change) → all_noted own seen (ChangeAfter l d) ≡ seen
unfolding all_noted
noted-ChangeAfter own seen l d = refl

pub noted-Arithmetic : (own : Own) (seen : List ℕ) (a : Expression) (rest : List Operation) (t : NumberType) → all_noted own seen (Arithmetic a rest t) ≡ operations_noted_in own (all_noted own seen a) rest
unfolding all_noted E.shape-the_row-Expression-2 E.hidden-the_row-Expression-2 hidden
noted-Arithmetic own seen a rest t = operations-hidden own (all_noted own seen a) rest

pub noted-Compare : (own : Own) (seen : List ℕ) (a : Expression) (rest : List Compared) → all_noted own seen (Compare a rest) ≡ comparisons_noted_in own (all_noted own seen a) rest
unfolding all_noted E.shape-the_row-Expression-2 E.hidden-the_row-Expression-2 hidden
noted-Compare own seen a rest = comparisons-hidden own (all_noted own seen a) rest

pub noted-Both : (own : Own) (seen : List ℕ) (a : Expression) (rest : List Expression) → all_noted own seen (Both a rest) ≡ row_noted_in own (all_noted own seen a) rest
unfolding all_noted E.shape-the_row-Expression-2 E.hidden-the_row-Expression-2 hidden
noted-Both own seen a rest = row-hidden own (all_noted own seen a) rest

pub noted-Either : (own : Own) (seen : List ℕ) (a : Expression) (rest : List Expression) → all_noted own seen (Either a rest) ≡ row_noted_in own (all_noted own seen a) rest
unfolding all_noted E.shape-the_row-Expression-2 E.hidden-the_row-Expression-2 hidden
noted-Either own seen a rest = row-hidden own (all_noted own seen a) rest

pub noted-Choose : (own : Own) (seen : List ℕ) (c : Expression) (a : Expression) (b : Expression) (t : DataType) → all_noted own seen (Choose c a b t) ≡ all_noted own (all_noted own (all_noted own seen c) a) b
unfolding all_noted E.shape-the_row-Expression-2 E.hidden-the_row-Expression-2 hidden
noted-Choose own seen c a b t = refl

pub noted-Assign : (own : Own) (seen : List ℕ) (l : Location) (e : Expression) → all_noted own seen (Assign l e) ≡ seen
unfolding all_noted E.shape-the_row-Expression-2 E.hidden-the_row-Expression-2 hidden
noted-Assign own seen l e = refl

pub noted-Update : (own : Own) (seen : List ℕ) (l : Location) (o : Operator) (e : Expression) → all_noted own seen (Update l o e) ≡ seen
unfolding all_noted E.shape-the_row-Expression-2 E.hidden-the_row-Expression-2 hidden
noted-Update own seen l o e = refl

pub noted-CallFunction : (own : Own) (seen : List ℕ) (f : ℕ) (args : List Argument) (t : DataType) → all_noted own seen (CallFunction f args t) ≡ seen
unfolding all_noted
noted-CallFunction own seen f args t = refl

pub noted-CreateProcess : (own : Own) (seen : List ℕ) (k : ℕ) (args : List Argument) → all_noted own seen (CreateProcess k args) ≡ seen
unfolding all_noted
noted-CreateProcess own seen k args = refl

pub noted-Within : (own : Own) (seen : List ℕ) (d : Expression) (e : Expression) (k : ℕ) (args : List Argument) (other : Expression) (t : DataType) → all_noted own seen (Within d e k args other t) ≡ seen
unfolding all_noted E.shape-the_row-Expression-2 E.hidden-the_row-Expression-2 hidden
noted-Within own seen d e k args other t = refl

pub noted-PutChar : (own : Own) (seen : List ℕ) (e : Expression) → all_noted own seen (PutChar e) ≡ seen
unfolding all_noted E.shape-the_row-Expression-2 E.hidden-the_row-Expression-2 hidden
noted-PutChar own seen e = refl

pub noted-PrintFormat : (own : Own) (seen : List ℕ) (f : ℕ) (args : List Expression) → all_noted own seen (PrintFormat f args) ≡ seen
unfolding all_noted
noted-PrintFormat own seen f args = refl

pub noted-Field : (own : Own) (seen : List ℕ) (k : ℕ) (t : DataType) → part_noted own seen (Field k t) ≡ seen
unfolding all_noted
noted-Field own seen k t = refl

pub noted-Element : (own : Own) (seen : List ℕ) (e : Expression) (t : DataType) → part_noted own seen (Element e t) ≡ all_noted own seen e
unfolding all_noted
noted-Element own seen e t = refl

pub ruleset noted_expressions = (noted-Constant, noted-GetChar, noted-Read, noted-Chain, noted-Field, noted-Element, noted-Negate, noted-Not, noted-Plus, noted-Parenthesized, noted-ChangeBefore, noted-ChangeAfter, noted-Arithmetic, noted-Compare, noted-Both, noted-Either, noted-Choose, noted-Assign, noted-Update, noted-CallFunction, noted-CreateProcess, noted-Within, noted-PutChar, noted-PrintFormat)

pub number-lengths : (xs ys : List ℕ) → (length xs ≡ length ys → ⊥) → are_numbers xs ys ≡ false
number-lengths [] [] differ = absurd (differ refl)
number-lengths [] (y ∷ ys) differ = refl
number-lengths (x ∷ xs) [] differ = refl
number-lengths (x ∷ xs) (y ∷ ys) differ = ap (λ b. nat_eq x y && b) (number-lengths xs ys (λ e. differ (ap suc e))) ∙ and-false (nat_eq x y)

pub number-step : (xs ys : List ℕ) (k d : ℕ) → k < length xs → k < length ys → are_numbers (drop k xs) (drop k ys) ≡ (nat_eq (get_or xs k d) (get_or ys k d) && are_numbers (drop (k + 1) xs) (drop (k + 1) ys))
number-step xs ys k d lt mt = ap (λ zs. are_numbers zs (drop k ys)) (drop-at xs k d lt) ∙ ap (λ zs. are_numbers (get_or xs k d ∷ drop (k + 1) xs) zs) (drop-at ys k d mt)

pub number-end : (xs ys : List ℕ) (k : ℕ) → k ≡ length xs → k ≡ length ys → are_numbers (drop k xs) (drop k ys) ≡ true
number-end xs ys k e f = ap (λ zs. are_numbers zs (drop k ys)) (drop_all k xs (omega (arith, e))) ∙ ap (λ zs. are_numbers [] zs) (drop_all k ys (omega (arith, f)))

pub ruleset numbers = (number-lengths, number-step, number-end)
