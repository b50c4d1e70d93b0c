-- The types of phrases, by the names that the code has.
use Rattle.std.proofs.Common.{◌≡◌, ℕ, ℤ, List, refl}
use Rattle.cc_typed.specs.Types.{Int, of_number, of_process, type_after, type_after_step, type_of}
use Rattle.cc_base.specs.declared.numbers.NumberType.{NumberType}
use Rattle.cc_base.specs.declared.numbers.Operator.{Operator}
use Rattle.cc_typed.specs.declared.tree.Argument.{Argument}
use Rattle.cc_typed.specs.declared.tree.ChainStep.{ChainStep, Part, Call, Send}
use Rattle.cc_typed.specs.declared.tree.Compared.{Compared}
use Rattle.cc_typed.specs.declared.tree.Expression.{Expression, Constant, GetChar, Read, Chain, Negate, Not, Plus, Parenthesized, ChangeBefore, ChangeAfter, Arithmetic, Compare, Both, Either, Choose, Assign, Update, CallFunction, CreateProcess, Within, PutChar, PrintFormat}
use Rattle.cc_typed.specs.declared.tree.Location.{Location}
use Rattle.cc_typed.specs.declared.tree.Operation.{Operation}
use Rattle.cc_typed.specs.declared.tree.PartStep.{PartStep, Field, Element}
use Rattle.cc_typed.specs.declared.tree.Change.{Change}
use Rattle.cc_typed.specs.declared.types.DataType.{DataType}
use Rattle.cc_typed.specs.declared.types.DataType.TheVariants.{Void}

pub after-Field : (k : ℕ) (t : DataType) → type_after (Field k t) ≡ t
unfolding type_after
after-Field k t = refl

pub after-Element : (e : Expression) (t : DataType) → type_after (Element e t) ≡ t
unfolding type_after
after-Element e t = refl

pub after-Part : (s : PartStep) → type_after_step (Part s) ≡ type_after s
unfolding type_after_step
after-Part s = refl

pub after-Call : (trans : ℕ) (args : List Argument) (t : DataType) → type_after_step (Call trans args t) ≡ t
unfolding type_after_step
after-Call trans args t = refl

pub after-Send : (trans : ℕ) (args : List Argument) → type_after_step (Send trans args) ≡ Void
unfolding type_after_step
after-Send trans args = refl

pub type-Constant : (n : ℤ) (t : NumberType) → type_of (Constant n t) ≡ of_number t
unfolding type_of
type-Constant n t = refl

pub type-GetChar : type_of GetChar ≡ Int
unfolding type_of
type-GetChar = refl

pub type-Read : (l : Location) → type_of (Read l) ≡ l.data_type
unfolding type_of
type-Read l = refl

pub type-Chain : (e : Expression) (steps : List ChainStep) (u : DataType) → type_of (Chain e steps u) ≡ u
unfolding type_of
type-Chain e steps u = refl

pub type-Negate : (e : Expression) (t : NumberType) → type_of (Negate e t) ≡ of_number t
unfolding type_of
type-Negate e t = refl

pub type-Not : (e : Expression) → type_of (Not e) ≡ Int
unfolding type_of
type-Not e = refl

pub type-Plus : (e : Expression) (t : NumberType) → type_of (Plus e t) ≡ of_number t
unfolding type_of
type-Plus e t = refl

pub type-Parenthesized : (e : Expression) (t : DataType) → type_of (Parenthesized e t) ≡ t
unfolding type_of
type-Parenthesized e t = refl

pub type-ChangeBefore : (l : Location) (d : Change) → type_of (ChangeBefore l d) ≡ l.data_type
unfolding type_of
type-ChangeBefore l d = refl

pub type-ChangeAfter : (l : Location) (d : Change) → type_of (ChangeAfter l d) ≡ l.data_type
unfolding type_of
type-ChangeAfter l d = refl

pub type-Arithmetic : (a : Expression) (rest : List Operation) (t : NumberType) → type_of (Arithmetic a rest t) ≡ of_number t
unfolding type_of
type-Arithmetic a rest t = refl

pub type-Compare : (a : Expression) (rest : List Compared) → type_of (Compare a rest) ≡ Int
unfolding type_of
type-Compare a rest = refl

pub type-Both : (a : Expression) (rest : List Expression) → type_of (Both a rest) ≡ Int
unfolding type_of
type-Both a rest = refl

pub type-Either : (a : Expression) (rest : List Expression) → type_of (Either a rest) ≡ Int
unfolding type_of
type-Either a rest = refl

pub type-Choose : (c a b : Expression) (t : DataType) → type_of (Choose c a b t) ≡ t
unfolding type_of
type-Choose c a b t = refl

pub type-Assign : (l : Location) (e : Expression) → type_of (Assign l e) ≡ l.data_type
unfolding type_of
type-Assign l e = refl

pub type-Update : (l : Location) (o : Operator) (e : Expression) → type_of (Update l o e) ≡ l.data_type
unfolding type_of
type-Update l o e = refl

pub type-CallFunction : (f : ℕ) (args : List Argument) (t : DataType) → type_of (CallFunction f args t) ≡ t
unfolding type_of
type-CallFunction f args t = refl

pub type-CreateProcess : (k : ℕ) (args : List Argument) → type_of (CreateProcess k args) ≡ of_process k
unfolding type_of
type-CreateProcess k args = refl

pub type-Within : (d e : Expression) (k : ℕ) (args : List Argument) (other : Expression) (t : DataType) → type_of (Within d e k args other t) ≡ t
unfolding type_of
type-Within d e k args other t = refl

pub type-PutChar : (e : Expression) → type_of (PutChar e) ≡ Int
unfolding type_of
type-PutChar e = refl

pub type-PrintFormat : (f : ℕ) (args : List Expression) → type_of (PrintFormat f args) ≡ Int
unfolding type_of
type-PrintFormat f args = refl

pub ruleset types_of_phrases = (after-Field, after-Element, after-Part, after-Call, after-Send, type-Constant, type-GetChar, type-Read, type-Chain, type-Negate, type-Not, type-Plus, type-Parenthesized, type-ChangeBefore, type-ChangeAfter, type-Arithmetic, type-Compare, type-Both, type-Either, type-Choose, type-Assign, type-Update, type-CallFunction, type-CreateProcess, type-Within, type-PutChar, type-PrintFormat)
