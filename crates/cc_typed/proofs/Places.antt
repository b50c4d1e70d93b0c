-- Which expressions are places, and which steps lead to parts.
use Rattle.std.proofs.Common.{◌≡◌, ℕ, ℤ, true, false, List, refl}
use Rattle.cc_typed.specs.Typed.{is_part_step, is_place}
use Rattle.cc_base.specs.declared.numbers.NumberType.{NumberType}
use Rattle.cc_base.specs.declared.numbers.Operator.{Operator}
use Rattle.cc_typed.specs.declared.tree.Argument.{Argument}
use Rattle.cc_typed.specs.declared.tree.ChainStep.{ChainStep, Part, Call, Send}
use Rattle.cc_typed.specs.declared.tree.Compared.{Compared}
use Rattle.cc_typed.specs.declared.tree.Expression.{Expression, Constant, GetChar, Read, Chain, Negate, Not, Plus, Parenthesized, ChangeBefore, ChangeAfter, Arithmetic, Compare, Both, Either, Choose, Assign, Update, CallFunction, CreateProcess, Within, PutChar, PrintFormat}
use Rattle.cc_typed.specs.declared.tree.Location.{Location}
use Rattle.cc_typed.specs.declared.tree.Operation.{Operation}
use Rattle.cc_typed.specs.declared.tree.PartStep.{PartStep, Field, Element}
use Rattle.cc_typed.specs.declared.tree.Change.{Change}
use Rattle.cc_typed.specs.declared.types.DataType.{DataType}
use Rattle.cc_typed.specs.declared.tree.ChainStep.TheBlock as E
use denote.Hole.Carrier.{hidden}

pub part-Part : (s : PartStep) → is_part_step (Part s) ≡ true
unfolding is_place
part-Part s = refl

pub part-Call : (trans : ℕ) (args : List Argument) (t : DataType) → is_part_step (Call trans args t) ≡ false
unfolding is_place
part-Call trans args t = refl

pub part-Send : (trans : ℕ) (args : List Argument) → is_part_step (Send trans args) ≡ false
unfolding is_place
part-Send trans args = refl

pub place-Constant : (n : ℤ) (t : NumberType) → is_place (Constant n t) ≡ false
unfolding is_place
place-Constant n t = refl

pub place-GetChar : is_place GetChar ≡ false
unfolding is_place
place-GetChar = refl

pub place-Read : (l : Location) → is_place (Read l) ≡ true
unfolding is_place
place-Read l = refl

pub place-Chain : (e : Expression) (steps : List ChainStep) (u : DataType) → is_place (Chain e steps u) ≡ false
unfolding is_place
place-Chain e steps u = refl

pub place-Negate : (e : Expression) (t : NumberType) → is_place (Negate e t) ≡ false
unfolding is_place
place-Negate e t = refl

pub place-Not : (e : Expression) → is_place (Not e) ≡ false
unfolding is_place
place-Not e = refl

pub place-Plus : (e : Expression) (t : NumberType) → is_place (Plus e t) ≡ false
unfolding is_place
place-Plus e t = refl

pub place-Parenthesized : (e : Expression) (t : DataType) → is_place (Parenthesized e t) ≡ is_place e
unfolding is_place E.shape-the_row-Expression-2 E.hidden-the_row-Expression-2 hidden
place-Parenthesized e t = refl

pub place-ChangeBefore : (l : Location) (d : Change) → is_place (ChangeBefore l d) ≡ false
unfolding is_place
place-ChangeBefore l d = refl

pub place-ChangeAfter : (l : Location) (d : Change) → is_place (ChangeAfter l d) ≡ false
unfolding is_place
place-ChangeAfter l d = refl

pub place-Arithmetic : (a : Expression) (rest : List Operation) (t : NumberType) → is_place (Arithmetic a rest t) ≡ false
unfolding is_place
place-Arithmetic a rest t = refl

pub place-Compare : (a : Expression) (rest : List Compared) → is_place (Compare a rest) ≡ false
unfolding is_place
place-Compare a rest = refl

pub place-Both : (a : Expression) (rest : List Expression) → is_place (Both a rest) ≡ false
unfolding is_place
place-Both a rest = refl

pub place-Either : (a : Expression) (rest : List Expression) → is_place (Either a rest) ≡ false
unfolding is_place
place-Either a rest = refl

pub place-Choose : (c a b : Expression) (t : DataType) → is_place (Choose c a b t) ≡ false
unfolding is_place
place-Choose c a b t = refl

pub place-Assign : (l : Location) (e : Expression) → is_place (Assign l e) ≡ false
unfolding is_place
place-Assign l e = refl

pub place-Update : (l : Location) (o : Operator) (e : Expression) → is_place (Update l o e) ≡ false
unfolding is_place
place-Update l o e = refl

pub place-CallFunction : (f : ℕ) (args : List Argument) (t : DataType) → is_place (CallFunction f args t) ≡ false
unfolding is_place
place-CallFunction f args t = refl

pub place-CreateProcess : (k : ℕ) (args : List Argument) → is_place (CreateProcess k args) ≡ false
unfolding is_place
place-CreateProcess k args = refl

pub place-Within : (d e : Expression) (k : ℕ) (args : List Argument) (other : Expression) (t : DataType) → is_place (Within d e k args other t) ≡ false
unfolding is_place
place-Within d e k args other t = refl

pub place-PutChar : (e : Expression) → is_place (PutChar e) ≡ false
unfolding is_place
place-PutChar e = refl

pub place-PrintFormat : (f : ℕ) (args : List Expression) → is_place (PrintFormat f args) ≡ false
unfolding is_place
place-PrintFormat f args = refl

pub ruleset places = (part-Part, part-Call, part-Send, place-Constant, place-GetChar, place-Read, place-Chain, place-Negate, place-Not, place-Plus, place-Parenthesized, place-ChangeBefore, place-ChangeAfter, place-Arithmetic, place-Compare, place-Both, place-Either, place-Choose, place-Assign, place-Update, place-CallFunction, place-CreateProcess, place-Within, place-PutChar, place-PrintFormat)
