-- How deep an expression is, by the names that the code has.
use Rattle.std.proofs.Common.{◌≡◌, ℕ, suc, max, ◌-◌, ◌≤◌, ℤ, Bool, true, false, ◌&&◌, leb, ltb, List, refl, ap, ◌∙◌, arith}
use Rattle.std.proofs.Math.Dec.{leb-zero}
use Rattle.std.proofs.Math.Nat.{le-max_left, le-max_right, max-le}
use Rattle.std.proofs.lemmas.Bool.{le-leb, leb-true, lt-ltb, ltb-true}
use Rattle.std.specs.List.{list_all}
use Rattle.std.specs.Prelude.{nat_le, nat_lt}
use Rattle.cc_base.specs.declared.names.Place.{Place}
use Rattle.cc_base.specs.declared.numbers.Comparison.{Comparison}
use Rattle.cc_base.specs.declared.numbers.NumberType.{NumberType}
use Rattle.cc_base.specs.declared.numbers.Operator.{Operator}
use Rattle.cc_faults.specs.Depths.{depth_of, depth_of_comparisons, depth_of_operations, depth_of_row, depth_of_step, depth_of_steps}
use Rattle.cc_faults.specs.declared.plain.Compared.{Compared}
use Rattle.cc_faults.specs.declared.plain.Format.{Format}
use Rattle.cc_faults.specs.declared.plain.Identifier.{Identifier}
use Rattle.cc_faults.specs.declared.plain.Operation.{Operation}
use Rattle.cc_faults.specs.declared.plain.Phrase.{Phrase, Number, Name, Call, Create, PutChar, GetChar, PrintFormat, Parenthesized, Chain, StepAfter, StepBefore, Negate, Plus, Not, Arithmetic, Compare, Both, Either, Choose, Assign, Update, Within, Row_of-Phrase, end_of-Phrase, more_of-Phrase, items-the_row-Phrase, items_hidden-the_row-Phrase-0, Row_of-Step, end_of-Step, more_of-Step, items-the_row-Step, items_hidden-the_row-Step-2, Row_of-Operation, end_of-Operation, more_of-Operation, items-the_row-Operation, items_hidden-the_row-Operation-3, Row_of-Compared, end_of-Compared, more_of-Compared, items-the_row-Compared, items_hidden-the_row-Compared-4}
use Rattle.cc_faults.specs.declared.plain.Phrase.TheBlock as P
use Rattle.cc_faults.specs.declared.plain.Step.{Step, Field, Index, Call as CallStep}
use Rattle.cc_faults.specs.declared.plain.StepWord.{StepWord}
use Rattle.cc_rows.specs.Within.{is_within, is_comparison_within, is_operation_within, is_step_within}
use denote.Hole.Carrier.{hidden}

through : (a m n : ℕ) → a ≤ m → m ≤ n → a ≤ n
through a m n p q = omega (arith, p, q)

max-cases : (a b n : ℕ) (x y z : Bool) → leb a n ≡ x → leb b n ≡ y → leb (max a b) n ≡ z → z ≡ (x && y)
max-cases a b n true true true p q r = refl
max-cases a b n true true false p q r =
    absurd (let fit = le-leb (max a b) n (max-le (leb-true a n p) (leb-true b n q)) in cc)
max-cases a b n true false true p q r = absurd (let fit = le-leb b n (through b (max a b) n (le-max_right a b) (leb-true (max a b) n r)) in cc)
max-cases a b n true false false p q r = refl
max-cases a b n false y true p q r = absurd (let fit = le-leb a n (through a (max a b) n (le-max_left a b) (leb-true (max a b) n r)) in cc)
max-cases a b n false y false p q r = refl

max-within : (a b n : ℕ) → leb (max a b) n ≡ (leb a n && leb b n)
max-within a b n = max-cases a b n (leb a n) (leb b n) (leb (max a b) n) refl refl refl

suc-cases : (a n : ℕ) (x y z : Bool) → leb (suc a) n ≡ x → ltb 0 n ≡ y → leb a (n - 1) ≡ z → x ≡ (y && z)
suc-cases a n true true true p q r = refl
suc-cases a n true true false p q r = absurd (let fit = le-leb a (n - 1) (omega (arith, leb-true (suc a) n p)) in cc)
suc-cases a n true false z p q r = absurd (let fit = lt-ltb 0 n (omega (arith, leb-true (suc a) n p)) in cc)
suc-cases a n false true true p q r =
    absurd (let fit = le-leb (suc a) n (omega (arith, ltb-true 0 n q, leb-true a (n - 1) r)) in cc)
suc-cases a n false true false p q r = refl
suc-cases a n false false z p q r = refl

suc-within : (a n : ℕ) → leb (suc a) n ≡ (nat_lt 0 n && leb a (n - 1))
suc-within a n = suc-cases a n (leb (suc a) n) (ltb 0 n) (leb a (n - 1)) refl refl refl

steps-row : {m : _} (n : ℕ) (row : Row_of-Step m) → leb (depth_of_steps row) n ≡ list_all (is_step_within n) (items-the_row-Step m row)
unfolding depth_of
steps-row n end_of-Step = leb-zero n
steps-row n (more_of-Step s rest) =
    max-within (depth_of_step s) (depth_of_steps rest) n ∙ ap (λ c. leb (depth_of_step s) n && c) (steps-row n rest)

steps-hidden : (n : ℕ) (rest : List Step) → leb (depth_of_steps (P.hidden-the_row-Step-2 rest)) n ≡ list_all (is_step_within n) rest
steps-hidden n rest = steps-row n (P.hidden-the_row-Step-2 rest) ∙ ap (list_all (is_step_within n)) (items_hidden-the_row-Step-2 rest)

row-row : {m : _} (n : ℕ) (row : Row_of-Phrase m) → leb (depth_of_row row) n ≡ list_all (is_within n) (items-the_row-Phrase m row)
unfolding depth_of
row-row n end_of-Phrase = leb-zero n
row-row n (more_of-Phrase e rest) =
    max-within (depth_of e) (depth_of_row rest) n ∙ ap (λ c. leb (depth_of e) n && c) (row-row n rest)

row-hidden : (n : ℕ) (rest : List Phrase) → leb (depth_of_row (P.hidden-the_row-Phrase-0 rest)) n ≡ list_all (is_within n) rest
row-hidden n rest = row-row n (P.hidden-the_row-Phrase-0 rest) ∙ ap (list_all (is_within n)) (items_hidden-the_row-Phrase-0 rest)

operations-row : {m : _} (n : ℕ) (row : Row_of-Operation m) → leb (depth_of_operations row) n ≡ list_all (is_operation_within n) (items-the_row-Operation m row)
unfolding depth_of
operations-row n end_of-Operation = leb-zero n
operations-row n (more_of-Operation o b rest) =
    max-within (suc (depth_of b)) (depth_of_operations rest) n ∙ ap (λ c. leb (suc (depth_of b)) n && c) (operations-row n rest) ∙ ap (λ c. c && list_all (is_operation_within n) (items-the_row-Operation _ rest)) (suc-within (depth_of b) n)

operations-hidden : (n : ℕ) (rest : List Operation) → leb (depth_of_operations (P.hidden-the_row-Operation-3 rest)) n ≡ list_all (is_operation_within n) rest
operations-hidden n rest = operations-row n (P.hidden-the_row-Operation-3 rest) ∙ ap (list_all (is_operation_within n)) (items_hidden-the_row-Operation-3 rest)

comparisons-row : {m : _} (n : ℕ) (row : Row_of-Compared m) → leb (depth_of_comparisons row) n ≡ list_all (is_comparison_within n) (items-the_row-Compared m row)
unfolding depth_of
comparisons-row n end_of-Compared = leb-zero n
comparisons-row n (more_of-Compared c b rest) =
    max-within (suc (depth_of b)) (depth_of_comparisons rest) n ∙ ap (λ c. leb (suc (depth_of b)) n && c) (comparisons-row n rest) ∙ ap (λ c. c && list_all (is_comparison_within n) (items-the_row-Compared _ rest)) (suc-within (depth_of b) n)

comparisons-hidden : (n : ℕ) (rest : List Compared) → leb (depth_of_comparisons (P.hidden-the_row-Compared-4 rest)) n ≡ list_all (is_comparison_within n) rest
comparisons-hidden n rest = comparisons-row n (P.hidden-the_row-Compared-4 rest) ∙ ap (list_all (is_comparison_within n)) (items_hidden-the_row-Compared-4 rest)

one-within : (n : ℕ) → leb 1 n ≡ nat_lt 0 n
one-within n = refl

pub within-Number : (n : ℕ) (p : Place) (v : ℤ) (t : NumberType) → is_within n (Number p v t) ≡ (nat_lt 0 n)
unfolding depth_of
within-Number n p v t = one-within n

pub within-Name : (n : ℕ) (x : Identifier) → is_within n (Name x) ≡ (nat_lt 0 n)
unfolding depth_of
within-Name n x = one-within n

pub within-Call : (n : ℕ) (x : Identifier) (args : List Phrase) → is_within n (Call x args) ≡ true
unfolding depth_of
within-Call n x args = leb-zero n

pub within-Create : (n : ℕ) (p : Place) (x : Identifier) (args : List Phrase) → is_within n (Create p x args) ≡ true
unfolding depth_of
within-Create n p x args = leb-zero n

pub within-PutChar : (n : ℕ) (p : Place) (e : Phrase) → is_within n (PutChar p e) ≡ true
unfolding depth_of P.shape-the_row-Phrase-1 P.hidden-the_row-Phrase-1 hidden
within-PutChar n p e = leb-zero n

pub within-GetChar : (n : ℕ) (p : Place) → is_within n (GetChar p) ≡ true
unfolding depth_of
within-GetChar n p = leb-zero n

pub within-PrintFormat : (n : ℕ) (p : Place) (f : Format) (args : List Phrase) → is_within n (PrintFormat p f args) ≡ true
unfolding depth_of
within-PrintFormat n p f args = leb-zero n

pub within-Parenthesized : (n : ℕ) (p : Place) (e : Phrase) → is_within n (Parenthesized p e) ≡ (is_within n e)
unfolding depth_of P.shape-the_row-Phrase-1 P.hidden-the_row-Phrase-1 hidden
within-Parenthesized n p e = refl

pub within-Chain : (n : ℕ) (e : Phrase) (steps : List Step) → is_within n (Chain e steps) ≡ (is_within n e && list_all (is_step_within n) steps)
unfolding depth_of P.shape-the_row-Phrase-1 P.hidden-the_row-Phrase-1 hidden
within-Chain n e steps = max-within (depth_of e) (depth_of_steps (P.hidden-the_row-Step-2 steps)) n ∙ ap (λ b. is_within n e && b) (steps-hidden n steps)

pub within-StepAfter : (n : ℕ) (e : Phrase) (d : StepWord) → is_within n (StepAfter e d) ≡ true
unfolding depth_of P.shape-the_row-Phrase-1 P.hidden-the_row-Phrase-1 hidden
within-StepAfter n e d = leb-zero n

pub within-StepBefore : (n : ℕ) (p : Place) (d : StepWord) (e : Phrase) → is_within n (StepBefore p d e) ≡ true
unfolding depth_of P.shape-the_row-Phrase-1 P.hidden-the_row-Phrase-1 hidden
within-StepBefore n p d e = leb-zero n

pub within-Negate : (n : ℕ) (p : Place) (e : Phrase) → is_within n (Negate p e) ≡ (is_within n e)
unfolding depth_of P.shape-the_row-Phrase-1 P.hidden-the_row-Phrase-1 hidden
within-Negate n p e = refl

pub within-Plus : (n : ℕ) (p : Place) (e : Phrase) → is_within n (Plus p e) ≡ (is_within n e)
unfolding depth_of P.shape-the_row-Phrase-1 P.hidden-the_row-Phrase-1 hidden
within-Plus n p e = refl

pub within-Not : (n : ℕ) (p : Place) (e : Phrase) → is_within n (Not p e) ≡ (is_within n e)
unfolding depth_of P.shape-the_row-Phrase-1 P.hidden-the_row-Phrase-1 hidden
within-Not n p e = refl

pub within-Arithmetic : (n : ℕ) (a : Phrase) (rest : List Operation) → is_within n (Arithmetic a rest) ≡ (is_within n a && list_all (is_operation_within n) rest)
unfolding depth_of P.shape-the_row-Phrase-1 P.hidden-the_row-Phrase-1 hidden
within-Arithmetic n a rest = max-within (depth_of a) (depth_of_operations (P.hidden-the_row-Operation-3 rest)) n ∙ ap (λ b. is_within n a && b) (operations-hidden n rest)

pub within-Compare : (n : ℕ) (a : Phrase) (rest : List Compared) → is_within n (Compare a rest) ≡ (is_within n a && list_all (is_comparison_within n) rest)
unfolding depth_of P.shape-the_row-Phrase-1 P.hidden-the_row-Phrase-1 hidden
within-Compare n a rest = max-within (depth_of a) (depth_of_comparisons (P.hidden-the_row-Compared-4 rest)) n ∙ ap (λ b. is_within n a && b) (comparisons-hidden n rest)

pub within-Both : (n : ℕ) (a : Phrase) (rest : List Phrase) → is_within n (Both a rest) ≡ (is_within n a && list_all (is_within n) rest)
unfolding depth_of P.shape-the_row-Phrase-1 P.hidden-the_row-Phrase-1 hidden
within-Both n a rest = max-within (depth_of a) (depth_of_row (P.hidden-the_row-Phrase-0 rest)) n ∙ ap (λ b. is_within n a && b) (row-hidden n rest)

pub within-Either : (n : ℕ) (a : Phrase) (rest : List Phrase) → is_within n (Either a rest) ≡ (is_within n a && list_all (is_within n) rest)
unfolding depth_of P.shape-the_row-Phrase-1 P.hidden-the_row-Phrase-1 hidden
within-Either n a rest = max-within (depth_of a) (depth_of_row (P.hidden-the_row-Phrase-0 rest)) n ∙ ap (λ b. is_within n a && b) (row-hidden n rest)

pub within-Choose : (n : ℕ) (c : Phrase) (a : Phrase) (b : Phrase) → is_within n (Choose c a b) ≡ (is_within n c && (is_within n a && is_within n b))
unfolding depth_of P.shape-the_row-Phrase-1 P.hidden-the_row-Phrase-1 hidden
within-Choose n c a b = max-within (depth_of c) (max (depth_of a) (depth_of b)) n ∙ ap (λ x. is_within n c && x) (max-within (depth_of a) (depth_of b) n)

pub within-Assign : (n : ℕ) (a : Phrase) (b : Phrase) → is_within n (Assign a b) ≡ true
unfolding depth_of P.shape-the_row-Phrase-1 P.hidden-the_row-Phrase-1 hidden
within-Assign n a b = leb-zero n

pub within-Update : (n : ℕ) (a : Phrase) (o : Operator) (b : Phrase) → is_within n (Update a o b) ≡ true
unfolding depth_of P.shape-the_row-Phrase-1 P.hidden-the_row-Phrase-1 hidden
within-Update n a o b = leb-zero n

pub within-Within : (n : ℕ) (p : Place) (d : Phrase) (m : Phrase) (e : Phrase) → is_within n (Within p d m e) ≡ true
unfolding depth_of P.shape-the_row-Phrase-1 P.hidden-the_row-Phrase-1 hidden
within-Within n p d m e = leb-zero n

pub within-Field : (n : ℕ) (x : Identifier) → is_step_within n (Field x) ≡ true
unfolding depth_of
within-Field n x = leb-zero n

pub within-CallStep : (n : ℕ) (x : Identifier) (args : List Phrase) → is_step_within n (CallStep x args) ≡ true
unfolding depth_of
within-CallStep n x args = leb-zero n

pub within-Index : (n : ℕ) (e : Phrase) → is_step_within n (Index e) ≡ (nat_lt 0 n && is_within (n - 1) e)
unfolding depth_of P.shape-the_row-Phrase-1 P.hidden-the_row-Phrase-1 hidden
within-Index n e = suc-within (depth_of e) n

pub ruleset depths = (within-Number, within-Name, within-Call, within-Create, within-PutChar, within-GetChar, within-PrintFormat, within-Parenthesized, within-Chain, within-StepAfter, within-StepBefore, within-Negate, within-Plus, within-Not, within-Arithmetic, within-Compare, within-Both, within-Either, within-Choose, within-Assign, within-Update, within-Within, within-Field, within-CallStep, within-Index)
