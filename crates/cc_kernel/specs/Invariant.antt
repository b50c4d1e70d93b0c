-- When a kernel is one: its journal is a settled run whose last state is kept, and what is made for the next step is there.
use Rattle.std.specs.Prelude.{◌≡◌, ℕ, ◌≤◌, ◌<◌, ◌+◌, ℤ, false, List, [], length}
use Rattle.cc_base.specs.Meaning.{Meaning}
use Rattle.cc_base.specs.declared.request.Grant.{Grant}
use Rattle.cc_kernel.specs.Contract.{Prepared, Nothing, Step, Making, Answering, Moment}
use Rattle.cc_kernel.specs.Resting.{AllRest}
use Rattle.cc_kernel.specs.Stacks.{AreWithin, served_by}
use Rattle.cc_kernel.specs.Store.{IsState, contents}
use Rattle.cc_kernel.specs.declared.need.Need.{Need}
use Rattle.cc_kernel.specs.declared.need.Need.TheVariants as need
use Rattle.cc_kernel.specs.declared.store.Store.{Store}
use Rattle.cc_rules.specs.Ends.{is_unsettled}
use Rattle.cc_base.specs.Limits.{most_processes}
use Rattle.cc_rules.specs.Lists.{FaultList}
use Rattle.cc_rules.specs.Runs.{IsRun, IsSettledRun, state_after, turns}
use Rattle.cc_rules.specs.declared.event.Event.{Event}

-- what callers see of what was made for the next step
abbrev pub prepared_for : {P : Type 0} → Need P → Prepared
prepared_for need.Nothing = Nothing
prepared_for need.Step = Step
prepared_for (need.Making kind args process) = Making kind args
prepared_for (need.Answering value zeros) = Answering value zeros
prepared_for need.Moment = Moment

-- there is room for the events, the calls, the deadline and the process of one step
abbrev pub HasRoom : {P : Type 0} → Store P → ℕ → Type 0
HasRoom store events =
    (4 + length store.deadlines.pairs ≤ events)
    × (0 < store.served.spare)
    × (0 < store.pending.spare)
    × (0 < store.deadlines.spare)
    × (0 < store.seats.spare)

-- there is room for the next step, and what was made for it is right
abbrev pub IsReadyFor : {P : Type 0} → Meaning → (P → ℕ → List ℤ → List Grant → Type 0) → Store P → ℕ → Need P → Type 0
IsReadyFor m located store events need.Nothing = Unit {0}
IsReadyFor m located store events need.Step = HasRoom store events
IsReadyFor m located store events (need.Making kind args process) = HasRoom store events × located process kind args []
IsReadyFor m located store events (need.Answering value zeros) =
    HasRoom store events × AreWithin m zeros (served_by store.served)
IsReadyFor m located store events need.Moment = HasRoom store events

-- the journal is a settled run of at most the allowed turns, its last state is kept, and in it no process can take anything
pub record IsKept {P : Type 0} (m : Meaning) (located : P → ℕ → List ℤ → List Grant → Type 0) (allowed spent : ℕ) (events : List Event) (room : ℕ) (store : Store P) (need : Need P) (faults : FaultList) : Type 0 where
  pub runs : IsRun m store.input events
  pub settled : IsSettledRun m store.input events
  pub state : IsState located (state_after m store.input events) (contents store)
  pub rest : AllRest m (contents store)
  pub quiet : is_unsettled m (state_after m store.input events) ≡ false
  pub spent_turns : spent ≡ turns events
  pub within : spent ≤ allowed
  pub low : store.drawn ≤ spent
  -- the value of each call that is served has no more cells than is kept
  pub cells : AreWithin m store.most (served_by store.served)
  pub ready : IsReadyFor m located store room need
  -- the list of faults has room for every process
  pub unlisted : faults.items ≡ []
  pub listable : most_processes ≤ faults.spare
