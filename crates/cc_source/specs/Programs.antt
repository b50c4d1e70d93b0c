-- What a program means.
use Rattle.std.specs.Prelude.{ℕ, zero, suc, ◌+◌, ℤ, List, [], ◌∷◌, ◌++◌, length, map, take, drop, get_or, set, Option, Some, None, ◌&&◌, nat_eq, nat_lt, if◌then◌else◌, slice_get}
use Rattle.cc_base.specs.Limits.{most_calls, most_cells, ticks_granted}
use Rattle.cc_base.specs.Meaning.{Meaning}
use Rattle.cc_base.specs.Numbers.{at_zero}
use Rattle.cc_base.specs.Outcome.{Outcome, Through, Asked, Eval, ◌>>=◌, ◌>>◌, Left, pure, stop, inside, tick, asked_by}
use Rattle.cc_base.specs.declared.names.FaultKind.TheVariants.{Cells, Depth}
use Rattle.cc_base.specs.declared.names.Shape.{Shape}
use Rattle.cc_base.specs.declared.request.Grant.{Grant}
use Rattle.cc_base.specs.declared.request.Request.{Request}
use Rattle.cc_base.specs.declared.request.Request.TheVariants.{Done, Fault}
use Rattle.cc_source.specs.Lists.{exec_all}
use Rattle.cc_source.specs.Meaning.{Caller, Flow, Returned, Scope, cells_of_type, condition_of, given, set_from, zero_in}
use Rattle.cc_typed.specs.Layout.{cells_each}
use Rattle.cc_typed.specs.Missing.{parameters_at, variables_of}
use Rattle.cc_typed.specs.Parts.{Parts}
use Rattle.cc_typed.specs.Table.{layouts_of}
use Rattle.cc_typed.specs.Types.{Long}
use Rattle.cc_typed.specs.Values.{Value, number, unflats}
use Rattle.cc_typed.specs.declared.tree.Function.{Function}
use Rattle.cc_typed.specs.declared.tree.Kind.{Kind}
use Rattle.cc_typed.specs.declared.tree.Site.{Site}
use Rattle.cc_typed.specs.declared.tree.Transaction.{Transaction}
use Rattle.cc_typed.specs.declared.types.DataType.{DataType}
use Rattle.cc_typed.specs.declared.types.DataType.TheVariants.{Void}

-- the zeros of these types
abbrev pub zero_all : Parts → List DataType → List Value
zero_all p ts = map (zero_in p) ts

-- how many cells the values of these types have together
abbrev pub cells_all : Parts → List DataType → ℕ
cells_all p ts = cells_each (layouts_of p.structures ts)

-- the values of these types that have these cells in order
abbrev pub values_all : Parts → List DataType → List ℤ → List Value
values_all p ts cs = unflats (layouts_of p.structures ts) cs

abbrev pub returned : Parts → DataType → Flow → Value
returned p t (Returned v) = v
returned p t _ = zero_in p t

-- the entry tick, the body and the exit tick
abbrev pub ticked : Parts → Caller → Function → Eval Scope Value
ticked p call f = do
  tick
  flow ← exec_all p call f.body
  tick
  pure (returned p f.result flow)

-- a call of a function where variables of this many cells are active; a typed program calls none that is not there
abbrev pub entered : Parts → (ℕ → Caller) → ℕ → Option Function → List Value → Eval Scope Value
entered p call active None args = stop (Fault Depth)
entered p call active (Some f) args =
    if nat_lt most_cells (active + cells_all p f.variables)
    then stop (Fault Cells)
    else inside (args ++ zero_all p (drop f.parameters f.variables)) (ticked p (call (active + cells_all p f.variables)) f)

-- a call, where no more than d calls may be active with it
unfoldable pub call : Parts → ℕ → ℕ → Caller
call p zero active f args = stop (Fault Depth)
call p (suc d) active f args = entered p (call p d) active (slice_get p.functions f) args

-- the variables of a kind as a process begins
abbrev pub variables_at_start : Parts → Kind → List ℤ → Scope
variables_at_start p k args = values_all p (take k.parameters k.variables) args ++ zero_all p (drop k.parameters k.variables)

-- what is left once the first grant has let the process begin
abbrev pub left_at_start : List Grant → Left
left_at_start grants = record { grants = drop 1 grants; ticks = ticks_granted }

-- what comes of the body of a process; one of a kind that is not there does nothing
abbrev pub body : Parts → Option Kind → List ℤ → List Grant → Outcome Scope Flow
body p None args grants = Asked Done
body p (Some k) args grants =
    if nat_lt most_cells (cells_all p k.variables)
    then Asked (Fault Cells)
    else exec_all p (call p most_calls (cells_all p k.variables)) k.body (variables_at_start p k args) (left_at_start grants)

-- what a process asks after exactly these grants
unfoldable pub act : Parts → ℕ → List ℤ → List Grant → Request
act p kind args grants = asked_by Done (body p (slice_get p.kinds kind) args grants)

abbrev pub shape_of : Parts → Transaction → Shape
shape_of p t = record { is_async = t.is_async; args = cells_all p t.parameters; value = cells_of_type p t.value }

abbrev pub parameter_cells : Parts → Kind → ℕ
parameter_cells p k = cells_all p (take k.parameters k.variables)

-- a pure expression calls nothing, spends no tick and needs no grant, so these will do
abbrev pub no_call : Caller
no_call f args = stop (Fault Depth)

abbrev pub nothing_left : Left
nothing_left = record { grants = []; ticks = 0 }

-- variables of these numbers are set, one after the other
abbrev pub set_each : List ℕ → List Value → Scope → Scope
set_each [] vs scope = scope
set_each (x ∷ xs) [] scope = scope
set_each (x ∷ xs) (v ∷ vs) scope = set_each xs vs (set scope x v)

abbrev pub types_at : List DataType → List ℕ → List DataType
types_at ts xs = map (λ x. get_or ts x Void) xs

abbrev pub rank_of : Outcome Scope Value → Option ℤ
rank_of (Through v scope left) = Some (number v)
rank_of (Asked request) = None

-- the variables that the clauses of an accept see: the call's arguments and the environment
abbrev pub variables_seen : Parts → Site → List ℤ → List ℤ → Scope
variables_seen p s env args =
    let types = variables_of (slice_get p.kinds s.kind) in
    set_from s.first (values_all p (parameters_at (slice_get p.transactions s.transaction)) args)
    (set_each s.environment (values_all p (types_at types s.environment) env) (zero_all p types))

-- the rank by the clauses of an accept: none where `suchthat` is 0 or one of them faults, and 0 without `by`. Clauses that ask give no
-- rank, whatever they ask, so `Done` stands for that a call does not fit
abbrev pub clause_rank : Parts → Site → Scope → Option ℤ
clause_rank p s scope =
    rank_of
    ((do
      such ← condition_of p no_call s.such_that
      at_zero such (stop Done) (given p no_call s.least_by Long)) scope nothing_left)

abbrev pub site_rank : Parts → Option Site → List ℤ → List ℤ → Option ℤ
site_rank p None env args = None
site_rank p (Some s) env args =
    if nat_eq (length args) (cells_all p (parameters_at (slice_get p.transactions s.transaction)))
    && nat_eq (length env) (cells_all p (types_at (variables_of (slice_get p.kinds s.kind)) s.environment))
    then clause_rank p s (variables_seen p s env args)
    else None

-- the rank of a call with these arguments at an accept site in this environment
unfoldable pub fit : Parts → ℕ → List ℤ → List ℤ → Option ℤ
fit p site env args = site_rank p (slice_get p.sites site) env args

abbrev pub meaning : Parts → Meaning
meaning p =
    record { kinds = map (parameter_cells p) p.kinds; shapes = map (shape_of p) p.transactions; act = act p; fit = fit p }
