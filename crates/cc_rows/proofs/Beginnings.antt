-- Where an expression begins and whether it is a place, by the names that the code has.
use Rattle.std.proofs.Common.{◌≡◌, ℕ, ℤ, Bool, true, false, ◌&&◌, List, refl, ap, ◌∙◌}
use Rattle.std.specs.List.{list_all}
use Rattle.cc_base.specs.declared.names.Place.{Place}
use Rattle.cc_base.specs.declared.numbers.NumberType.{NumberType}
use Rattle.cc_base.specs.declared.numbers.Operator.{Operator}
use Rattle.cc_faults.specs.Expressions.{are_part_steps, is_part_step, is_place, is_variable, place_of}
use Rattle.cc_faults.specs.Scopes.{Scope, meaning_at}
use Rattle.cc_faults.specs.declared.plain.Compared.{Compared}
use Rattle.cc_faults.specs.declared.plain.Format.{Format}
use Rattle.cc_faults.specs.declared.plain.Identifier.{Identifier}
use Rattle.cc_faults.specs.declared.plain.Operation.{Operation}
use Rattle.cc_faults.specs.declared.plain.Phrase.{Phrase, Number, Name, Call, Create, PutChar, GetChar, PrintFormat, Parenthesized, Chain, StepAfter, StepBefore, Negate, Plus, Not, Arithmetic, Compare, Both, Either, Choose, Assign, Update, Within, Row_of-Step, end_of-Step, more_of-Step, items-the_row-Step, items_hidden-the_row-Step-2}
use Rattle.cc_faults.specs.declared.plain.Phrase.TheBlock as P
use Rattle.cc_faults.specs.declared.plain.Step.{Step}
use Rattle.cc_faults.specs.declared.plain.StepWord.{StepWord}
use denote.Hole.Carrier.{hidden}

pub place-Number : (p : Place) (v : ℤ) (t : NumberType) → place_of (Number p v t) ≡ p
unfolding place_of
place-Number p v t = refl

pub place-Name : (x : Identifier) → place_of (Name x) ≡ x.place
unfolding place_of
place-Name x = refl

pub place-Call : (x : Identifier) (args : List Phrase) → place_of (Call x args) ≡ x.place
unfolding place_of
place-Call x args = refl

pub place-Create : (p : Place) (x : Identifier) (args : List Phrase) → place_of (Create p x args) ≡ p
unfolding place_of
place-Create p x args = refl

pub place-PutChar : (p : Place) (e : Phrase) → place_of (PutChar p e) ≡ p
unfolding place_of P.shape-the_row-Phrase-1 P.hidden-the_row-Phrase-1 hidden
place-PutChar p e = refl

pub place-GetChar : (p : Place) → place_of (GetChar p) ≡ p
unfolding place_of
place-GetChar p = refl

pub place-PrintFormat : (p : Place) (f : Format) (args : List Phrase) → place_of (PrintFormat p f args) ≡ p
unfolding place_of
place-PrintFormat p f args = refl

pub place-Parenthesized : (p : Place) (e : Phrase) → place_of (Parenthesized p e) ≡ p
unfolding place_of P.shape-the_row-Phrase-1 P.hidden-the_row-Phrase-1 hidden
place-Parenthesized p e = refl

pub place-Chain : (e : Phrase) (steps : List Step) → place_of (Chain e steps) ≡ place_of e
unfolding place_of P.shape-the_row-Phrase-1 P.hidden-the_row-Phrase-1 hidden
place-Chain e steps = refl

pub place-StepAfter : (e : Phrase) (d : StepWord) → place_of (StepAfter e d) ≡ place_of e
unfolding place_of P.shape-the_row-Phrase-1 P.hidden-the_row-Phrase-1 hidden
place-StepAfter e d = refl

pub place-StepBefore : (p : Place) (d : StepWord) (e : Phrase) → place_of (StepBefore p d e) ≡ p
unfolding place_of P.shape-the_row-Phrase-1 P.hidden-the_row-Phrase-1 hidden
place-StepBefore p d e = refl

pub place-Negate : (p : Place) (e : Phrase) → place_of (Negate p e) ≡ p
unfolding place_of P.shape-the_row-Phrase-1 P.hidden-the_row-Phrase-1 hidden
place-Negate p e = refl

pub place-Plus : (p : Place) (e : Phrase) → place_of (Plus p e) ≡ p
unfolding place_of P.shape-the_row-Phrase-1 P.hidden-the_row-Phrase-1 hidden
place-Plus p e = refl

pub place-Not : (p : Place) (e : Phrase) → place_of (Not p e) ≡ p
unfolding place_of P.shape-the_row-Phrase-1 P.hidden-the_row-Phrase-1 hidden
place-Not p e = refl

pub place-Arithmetic : (a : Phrase) (rest : List Operation) → place_of (Arithmetic a rest) ≡ place_of a
unfolding place_of P.shape-the_row-Phrase-1 P.hidden-the_row-Phrase-1 hidden
place-Arithmetic a rest = refl

pub place-Compare : (a : Phrase) (rest : List Compared) → place_of (Compare a rest) ≡ place_of a
unfolding place_of P.shape-the_row-Phrase-1 P.hidden-the_row-Phrase-1 hidden
place-Compare a rest = refl

pub place-Both : (a : Phrase) (rest : List Phrase) → place_of (Both a rest) ≡ place_of a
unfolding place_of P.shape-the_row-Phrase-1 P.hidden-the_row-Phrase-1 hidden
place-Both a rest = refl

pub place-Either : (a : Phrase) (rest : List Phrase) → place_of (Either a rest) ≡ place_of a
unfolding place_of P.shape-the_row-Phrase-1 P.hidden-the_row-Phrase-1 hidden
place-Either a rest = refl

pub place-Choose : (c : Phrase) (a : Phrase) (b : Phrase) → place_of (Choose c a b) ≡ place_of c
unfolding place_of P.shape-the_row-Phrase-1 P.hidden-the_row-Phrase-1 hidden
place-Choose c a b = refl

pub place-Assign : (a : Phrase) (b : Phrase) → place_of (Assign a b) ≡ place_of a
unfolding place_of P.shape-the_row-Phrase-1 P.hidden-the_row-Phrase-1 hidden
place-Assign a b = refl

pub place-Update : (a : Phrase) (o : Operator) (b : Phrase) → place_of (Update a o b) ≡ place_of a
unfolding place_of P.shape-the_row-Phrase-1 P.hidden-the_row-Phrase-1 hidden
place-Update a o b = refl

pub place-Within : (p : Place) (d : Phrase) (m : Phrase) (e : Phrase) → place_of (Within p d m e) ≡ p
unfolding place_of P.shape-the_row-Phrase-1 P.hidden-the_row-Phrase-1 hidden
place-Within p d m e = refl

pub ruleset places = (place-Number, place-Name, place-Call, place-Create, place-PutChar, place-GetChar, place-PrintFormat, place-Parenthesized, place-Chain, place-StepAfter, place-StepBefore, place-Negate, place-Plus, place-Not, place-Arithmetic, place-Compare, place-Both, place-Either, place-Choose, place-Assign, place-Update, place-Within)

steps-row : {m : _} (row : Row_of-Step m) → are_part_steps row ≡ list_all is_part_step (items-the_row-Step m row)
steps-row end_of-Step = refl
steps-row (more_of-Step s rest) = ap (λ c. is_part_step s && c) (steps-row rest)

pub steps-hidden : (steps : List Step) → are_part_steps (P.hidden-the_row-Step-2 steps) ≡ list_all is_part_step steps
steps-hidden steps = steps-row (P.hidden-the_row-Step-2 steps) ∙ ap (list_all is_part_step) (items_hidden-the_row-Step-2 steps)

module _ (s : Scope) where
  pub is-Number : (p : Place) (v : ℤ) (t : NumberType) → is_place s (Number p v t) ≡ false
  unfolding is_place
  is-Number p v t = refl

  pub is-Name : (x : Identifier) → is_place s (Name x) ≡ (is_variable (meaning_at s x))
  unfolding is_place
  is-Name x = refl

  pub is-Call : (x : Identifier) (args : List Phrase) → is_place s (Call x args) ≡ false
  unfolding is_place
  is-Call x args = refl

  pub is-Create : (p : Place) (x : Identifier) (args : List Phrase) → is_place s (Create p x args) ≡ false
  unfolding is_place
  is-Create p x args = refl

  pub is-PutChar : (p : Place) (e : Phrase) → is_place s (PutChar p e) ≡ false
  unfolding is_place P.shape-the_row-Phrase-1 P.hidden-the_row-Phrase-1 hidden
  is-PutChar p e = refl

  pub is-GetChar : (p : Place) → is_place s (GetChar p) ≡ false
  unfolding is_place
  is-GetChar p = refl

  pub is-PrintFormat : (p : Place) (f : Format) (args : List Phrase) → is_place s (PrintFormat p f args) ≡ false
  unfolding is_place
  is-PrintFormat p f args = refl

  pub is-Parenthesized : (p : Place) (e : Phrase) → is_place s (Parenthesized p e) ≡ (is_place s e)
  unfolding is_place P.shape-the_row-Phrase-1 P.hidden-the_row-Phrase-1 hidden
  is-Parenthesized p e = refl

  pub is-Chain : (e : Phrase) (steps : List Step) → is_place s (Chain e steps) ≡ (is_place s e && list_all is_part_step steps)
  unfolding is_place P.shape-the_row-Phrase-1 P.hidden-the_row-Phrase-1 hidden
  is-Chain e steps = ap (λ b. is_place s e && b) (steps-hidden steps)

  pub is-StepAfter : (e : Phrase) (d : StepWord) → is_place s (StepAfter e d) ≡ false
  unfolding is_place P.shape-the_row-Phrase-1 P.hidden-the_row-Phrase-1 hidden
  is-StepAfter e d = refl

  pub is-StepBefore : (p : Place) (d : StepWord) (e : Phrase) → is_place s (StepBefore p d e) ≡ false
  unfolding is_place P.shape-the_row-Phrase-1 P.hidden-the_row-Phrase-1 hidden
  is-StepBefore p d e = refl

  pub is-Negate : (p : Place) (e : Phrase) → is_place s (Negate p e) ≡ false
  unfolding is_place P.shape-the_row-Phrase-1 P.hidden-the_row-Phrase-1 hidden
  is-Negate p e = refl

  pub is-Plus : (p : Place) (e : Phrase) → is_place s (Plus p e) ≡ false
  unfolding is_place P.shape-the_row-Phrase-1 P.hidden-the_row-Phrase-1 hidden
  is-Plus p e = refl

  pub is-Not : (p : Place) (e : Phrase) → is_place s (Not p e) ≡ false
  unfolding is_place P.shape-the_row-Phrase-1 P.hidden-the_row-Phrase-1 hidden
  is-Not p e = refl

  pub is-Arithmetic : (a : Phrase) (rest : List Operation) → is_place s (Arithmetic a rest) ≡ false
  unfolding is_place P.shape-the_row-Phrase-1 P.hidden-the_row-Phrase-1 hidden
  is-Arithmetic a rest = refl

  pub is-Compare : (a : Phrase) (rest : List Compared) → is_place s (Compare a rest) ≡ false
  unfolding is_place P.shape-the_row-Phrase-1 P.hidden-the_row-Phrase-1 hidden
  is-Compare a rest = refl

  pub is-Both : (a : Phrase) (rest : List Phrase) → is_place s (Both a rest) ≡ false
  unfolding is_place P.shape-the_row-Phrase-1 P.hidden-the_row-Phrase-1 hidden
  is-Both a rest = refl

  pub is-Either : (a : Phrase) (rest : List Phrase) → is_place s (Either a rest) ≡ false
  unfolding is_place P.shape-the_row-Phrase-1 P.hidden-the_row-Phrase-1 hidden
  is-Either a rest = refl

  pub is-Choose : (c : Phrase) (a : Phrase) (b : Phrase) → is_place s (Choose c a b) ≡ false
  unfolding is_place P.shape-the_row-Phrase-1 P.hidden-the_row-Phrase-1 hidden
  is-Choose c a b = refl

  pub is-Assign : (a : Phrase) (b : Phrase) → is_place s (Assign a b) ≡ false
  unfolding is_place P.shape-the_row-Phrase-1 P.hidden-the_row-Phrase-1 hidden
  is-Assign a b = refl

  pub is-Update : (a : Phrase) (o : Operator) (b : Phrase) → is_place s (Update a o b) ≡ false
  unfolding is_place P.shape-the_row-Phrase-1 P.hidden-the_row-Phrase-1 hidden
  is-Update a o b = refl

  pub is-Within : (p : Place) (d : Phrase) (m : Phrase) (e : Phrase) → is_place s (Within p d m e) ≡ false
  unfolding is_place P.shape-the_row-Phrase-1 P.hidden-the_row-Phrase-1 hidden
  is-Within p d m e = refl

pub ruleset are_places = (is-Number, is-Name, is-Call, is-Create, is-PutChar, is-GetChar, is-PrintFormat, is-Parenthesized, is-Chain, is-StepAfter, is-StepBefore, is-Negate, is-Plus, is-Not, is-Arithmetic, is-Compare, is-Both, is-Either, is-Choose, is-Assign, is-Update, is-Within)
