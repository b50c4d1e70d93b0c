-- What evaluating a phrase on cells gives.
use Rattle.std.specs.Prelude.{◌≡◌, ℕ, zero, suc, ℤ, pos, List, [], ◌∷◌, ◌&&◌, Bool, true, false, drop, length, replicate, Option, Some, None, Result, Ok, Err, slice_get}
use Rattle.cc_base.specs.Outcome.{Left, Outcome, Through, Asked}
use Rattle.cc_source.specs.Meaning.{Caller, Flow, Scope, Ended, Broke, Continued, Returned, Replied, Finished}
use Rattle.cc_source.specs.Programs.{call}
use Rattle.cc_source.specs.declared.ending.Ending.{Ending}
use Rattle.cc_source.specs.declared.ending.Ending.TheVariants as ending
use Rattle.cc_source.specs.declared.evaluator.Evaluator.{Evaluator}
use Rattle.cc_source.specs.declared.run.Run.{Run}
use Rattle.cc_source.specs.declared.run.Unfinished.{Unfinished}
use Rattle.cc_source.specs.declared.run.Unfinished.TheVariants as unfinished
use Rattle.cc_typed.specs.Layout.{Layout, cells}
use Rattle.cc_typed.specs.Missing.{variables_of}
use Rattle.cc_typed.specs.Parts.{Parts}
use Rattle.cc_typed.specs.Table.{layout_of}
use Rattle.cc_typed.specs.Typed.{Surroundings, is_typed}
use Rattle.cc_typed.specs.Types.{is_assignable, type_of}
use Rattle.cc_typed.specs.declared.tree.Argument.{Argument}
use Rattle.cc_typed.specs.Values.{Value, unflat}
use Rattle.cc_typed.specs.declared.types.DataType.{DataType}
use Rattle.cc_typed.specs.declared.types.DataType.TheVariants.{Void}
use Rattle.cc_typed.specs.declared.types.Structure.{Structure}

-- where the phrases stand that an evaluator is for
abbrev pub around : Evaluator → Surroundings
around v =
    record { parts = v.program.now; variables = v.variables.now; kind = v.kind; result = v.result; replies = v.replies; may_break = false; may_continue = false }

-- the grants and the ticks that are left to a run
abbrev pub left : Run → Left
left run = record { grants = run.grants.now; ticks = run.ticks }

-- the variables, of which the cells are kept
abbrev pub seen : List Structure → List DataType → List (List ℤ) → Scope
seen structures [] all = []
seen structures (t ∷ ts) [] = []
seen structures (t ∷ ts) (cs ∷ all) = unflat (layout_of structures t) cs ∷ seen structures ts all

-- each variable has its cells
abbrev pub Stand : List Structure → List DataType → List (List ℤ) → Type 0
Stand structures [] [] = Unit {0}
Stand structures [] (cs ∷ all) = ⊥
Stand structures (t ∷ ts) [] = ⊥
Stand structures (t ∷ ts) (cs ∷ all) = (length cs ≡ cells (layout_of structures t)) × Stand structures ts all

abbrev pub structures_of : Evaluator → List Structure
structures_of v = v.program.now.structures

abbrev pub scope : Evaluator → Run → Scope
scope v run = seen (structures_of v) v.variables.now run.scope

abbrev pub Stands : Evaluator → Run → Type 0
Stands v run = Stand (structures_of v) v.variables.now run.scope

abbrev pub value : Evaluator → DataType → List ℤ → Value
value v t cs = unflat (layout_of (structures_of v) t) cs

abbrev pub size : Evaluator → DataType → ℕ
size v t = cells (layout_of (structures_of v) t)

-- what a call of a function does under an evaluator
abbrev pub caller : Evaluator → Caller
caller v = call v.program.now v.calls v.cells

-- the value, which f turns into that of the definition, with the variables and what is left, or the request; nothing is said where
-- it is out of memory
abbrev pub GivesBy : {A B : Type 0} → (A → B) → Evaluator → Result A Unfinished → Run → Outcome Scope B → Type 0
GivesBy f v (Ok a) run o = o ≡ Through (f a) (scope v run) (left run)
GivesBy f v (Err (unfinished.Asked request)) run o = o ≡ Asked request
GivesBy f v (Err unfinished.Memory) run o = Unit {0}

-- this holds of the value; there is no request
abbrev pub IfValue : {A : Type 0} → Result A Unfinished → (A → Type 0) → Type 0
IfValue (Ok a) P = P a
IfValue (Err (unfinished.Asked request)) P = ⊥
IfValue (Err unfinished.Memory) P = Unit {0}

-- the type of the value with which the accept replies in whose block an evaluator stands
abbrev pub reply_type : Option DataType → DataType
reply_type None = Void
reply_type (Some t) = t

-- the type of the value of the function in whose body it stands
abbrev pub result_type : Option DataType → DataType
result_type None = Void
result_type (Some t) = t

-- how a statement ended, on values
abbrev pub flow_in : Evaluator → Ending → Flow
flow_in v ending.Ended = Ended
flow_in v ending.Broke = Broke
flow_in v ending.Continued = Continued
flow_in v (ending.Returned cs) = Returned (value v (result_type v.result) cs)
flow_in v (ending.Replied cs) = Replied (value v (reply_type v.replies) cs)
flow_in v ending.Finished = Finished

-- the value that it gives has its cells
abbrev pub EndsFit : Evaluator → Ending → Type 0
EndsFit v ending.Ended = Unit {0}
EndsFit v ending.Broke = Unit {0}
EndsFit v ending.Continued = Unit {0}
EndsFit v (ending.Returned cs) = length cs ≡ size v (result_type v.result)
EndsFit v (ending.Replied cs) = length cs ≡ size v (reply_type v.replies)
EndsFit v ending.Finished = Unit {0}

-- cells cut to so many, or filled with 0
unfoldable pub fitted : ℕ → List ℤ → List ℤ
fitted zero cs = []
fitted (suc n) [] = pos 0 ∷ fitted n []
fitted (suc n) (c ∷ cs) = c ∷ fitted n cs

-- cells, cut into those of values of these layouts in order; 0 stands for one that is missing
unfoldable pub fitted_each : List Layout → List ℤ → List (List ℤ)
fitted_each [] cs = []
fitted_each (l ∷ ls) cs = fitted (cells l) cs ∷ fitted_each ls (drop (cells l) cs)

-- the cells of zeros of these layouts
unfoldable pub blanks : List Layout → List (List ℤ)
blanks [] = []
blanks (l ∷ ls) = replicate (cells l) (pos 0) ∷ blanks ls

-- an argument that is typed and may be converted to the type of its parameter
abbrev pub is_typed_argument : Surroundings → Argument → Bool
is_typed_argument s a = is_typed s a.value && is_assignable (type_of a.value) a.data_type

-- the types of the variables of a body
abbrev pub body_variables : Parts → Option ℕ → List DataType
body_variables p None = []
body_variables p (Some k) = variables_of (slice_get p.kinds k)

-- a statement ended by itself
abbrev pub is_ended : Ending → Bool
is_ended ending.Ended = true
is_ended ending.Broke = false
is_ended ending.Continued = false
is_ended (ending.Returned cs) = false
is_ended (ending.Replied cs) = false
is_ended ending.Finished = false
