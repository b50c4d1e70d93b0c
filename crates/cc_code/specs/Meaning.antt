-- What code means: a program of it, as the machine sees it.
use Rattle.std.specs.Prelude.{ℕ, ℤ, pos, List, [], ◌++◌, length, map, drop, sum_by, slice_get, Option, Some, None, nat_eq, nat_lt, ◌&&◌, if◌then◌else◌}
use Rattle.cc_base.specs.Limits.{most_cells, ticks_granted}
use Rattle.cc_base.specs.Meaning as base
use Rattle.cc_base.specs.Numbers.{at_zero}
use Rattle.cc_base.specs.Outcome.{Left}
use Rattle.cc_base.specs.declared.names.FaultKind.TheVariants.{Cells, Index}
use Rattle.cc_base.specs.declared.names.Shape.{Shape}
use Rattle.cc_base.specs.declared.request.Grant.{Grant}
use Rattle.cc_base.specs.declared.request.Request.{Request}
use Rattle.cc_base.specs.declared.request.Request.TheVariants.{Done, Fault}
use Rattle.cc_code.specs.Steps.{Ran, Asks, Yields, Strays, State, cells_at_start, goes_on}
use Rattle.cc_code.specs.declared.code.EnvironmentPart.{EnvironmentPart}
use Rattle.cc_code.specs.declared.code.Part.{Part}
use Rattle.cc_code.specs.declared.code.RawCode.{RawCode}
use Rattle.cc_code.specs.declared.code.Site.{Site}

-- a part begins here, with these variable cells and with nothing on its stack
abbrev pub begins : ℕ → List ℤ → Left → State
begins address cells left =
    record { address = address; stack = []; store = record { cells = cells; offers = [] }; left = left; count = 0; frames = [] }

-- what is left once the first grant has let a process begin
abbrev pub left_at_start : List Grant → Left
left_at_start grants = record { grants = drop 1 grants; ticks = ticks_granted }

-- what comes of a process of a kind
abbrev pub process : RawCode → Option Part → List ℤ → List Grant → Ran
process k None args grants = Asks Done
process k (Some p) args grants =
    if nat_lt most_cells p.cells
    then Asks (Fault Cells)
    else (if nat_lt p.cells p.args
    then Asks (Fault Index)
    else goes_on k (begins p.entry (cells_at_start p args) (left_at_start grants)))

abbrev pub request_of : Ran → Request
request_of (Asks request) = request
request_of (Yields value) = Done
request_of Strays = Done

-- what a process asks after exactly these grants
unfoldable pub act : RawCode → ℕ → List ℤ → List Grant → Request
act k kind args grants = request_of (process k (slice_get k.kinds kind) args grants)

-- no tick and no grant: what a pure fragment has
abbrev pub nothing_left : Left
nothing_left = record { grants = []; ticks = 0 }

abbrev pub value_of : Ran → Option ℤ
value_of (Asks request) = None
value_of (Yields value) = Some value
value_of Strays = None

-- the value of a pure fragment over these variable cells, none where it faults; or that of a clause that is missing
abbrev pub clause : RawCode → Option ℕ → ℤ → List ℤ → Option ℤ
clause k None missing cells = Some missing
clause k (Some entry) missing cells = value_of (goes_on k (begins entry cells nothing_left))

-- none where `suchthat` is 0 or faults, and else the value of `by`
abbrev pub rank_if : Option ℤ → Option ℤ → Option ℤ
rank_if None least = None
rank_if (Some such) least = at_zero such None least

abbrev pub rank : RawCode → Site → List ℤ → Option ℤ
rank k s cells = rank_if (clause k s.such (pos 1) cells) (clause k s.by (pos 0) cells)

abbrev pub environment_cells : List EnvironmentPart → ℕ
environment_cells env = sum_by (λ (p : EnvironmentPart). p.cells) env

-- the clauses see the call's arguments and then the environment
abbrev pub rank_of_call : RawCode → Site → Option Shape → List ℤ → List ℤ → Option ℤ
rank_of_call k s None env args = None
rank_of_call k s (Some shape) env args =
    if nat_eq (length args) shape.args && nat_eq (length env) (environment_cells s.env)
    then rank k s (args ++ env)
    else None

abbrev pub rank_at : RawCode → Option Site → List ℤ → List ℤ → Option ℤ
rank_at k None env args = None
rank_at k (Some s) env args = rank_of_call k s (slice_get k.transactions s.trans) env args

-- the rank of a call with these arguments at an accept site in this environment
unfoldable pub fit : RawCode → ℕ → List ℤ → List ℤ → Option ℤ
fit k site env args = rank_at k (slice_get k.sites site) env args

-- the code as a program
abbrev pub meaning : RawCode → base.Meaning
meaning k =
    record { kinds = map (λ (p : Part). p.args) k.kinds; shapes = k.transactions; act = act k; fit = fit k }
