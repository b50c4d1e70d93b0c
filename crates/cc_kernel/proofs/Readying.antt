-- The kernel keeps its run where it is prepared.
use Rattle.std.proofs.Common.{◌≡◌, ℕ, ℤ, List, length, refl, sym, ap, ◌∙◌, subst, arith, true, false, Option, Some, None}
use Rattle.std.specs.Prelude.{IfSome, map}
use Rattle.cc_base.specs.Grants.{HasKind}
use Rattle.cc_base.specs.Meaning.{Meaning}
use Rattle.cc_base.specs.Requests.{IsRequestOf}
use Rattle.cc_base.specs.declared.names.Pid.{Pid}
use Rattle.cc_base.specs.declared.request.Grant.{Grant}
use Rattle.cc_base.specs.declared.request.Request.{Request}
use Rattle.cc_base.specs.declared.request.Request.TheVariants.{Create}
use Rattle.cc_base.specs.declared.request.Request.TheVariants as request
use Rattle.cc_kernel.proofs.Outs.{out-at}
use Rattle.cc_kernel.proofs.Seated.{Seated-at, out-running}
use Rattle.cc_kernel.proofs.Stacks.{within-same}
use Rattle.cc_kernel.specs.Stacks.{served_by}
use Rattle.cc_kernel.specs.Resting.{AllRest}
use Rattle.cc_kernel.specs.Contract.{AsksNow, IsEnoughFor, Moment, Nothing, is_out_in}
use Rattle.cc_kernel.specs.Invariant.{HasRoom, IsKept, IsReadyFor, prepared_for}
use Rattle.cc_kernel.specs.Store.{IsState, Contents, Seated, contents}
use Rattle.cc_kernel.specs.Seats.{is_out, seat_at}
use Rattle.cc_kernel.specs.declared.store.Store.{Store}
use Rattle.cc_kernel.specs.declared.need.Need.{Need}
use Rattle.cc_kernel.specs.declared.need.Need.TheVariants as need
use Rattle.cc_kernel.specs.declared.seat.Seat.{Seat}
use Rattle.cc_rules.specs.Ends.{is_unsettled}
use Rattle.cc_rules.specs.Events.{request_at}
use Rattle.cc_rules.specs.Lists.{FaultList}
use Rattle.cc_rules.specs.Runs.{IsRun, IsSettledRun, state_after}
use Rattle.cc_rules.specs.State.{State, is_running, process_at}
use Rattle.cc_rules.specs.declared.event.Event.{Event}

pub where-some : {X : Type 0} (F G : X → Type 0) (o : Option X) → ((x : X) → F x → G x) → IfSome o F → IfSome o G
where-some F G None f h = h
where-some F G (Some x) f h = f x h

module _ {P : Type 0} (m : Meaning) (located : P → ℕ → List ℤ → List Grant → Type 0) where
  -- a process that is out is running
  pub out-runs :
      (s : State) (seats : List (Seat P)) (p : ℕ)
      → Seated located s.processes seats
      → is_out_in (map is_out seats) p ≡ true
      → is_running (process_at s.processes p).standing ≡ true
  out-runs s seats p k h =
      let there = out-at seats p h in
      out-running located (process_at s.processes p) (seat_at seats p) (Seated-at located s.processes seats p there.0 k) there.1

  -- a Create that is asked now is of a kind that exists
  pub kind-asked :
      (input : List ℕ) (events : List Event) (seats : List (Seat P)) (r : Request)
      → Seated located (state_after m input events).processes seats
      → ((p : Pid) → is_running (process_at (state_after m input events).processes p.0).standing ≡ true → IsRequestOf m (request_at m (state_after m input events) p))
      → AsksNow m input events (map is_out seats) r
      → (kind : ℕ) (args : List ℤ)
      → r ≡ Create kind args
      → HasKind m kind (length args)
  kind-asked input events seats r k known a kind args e =
      let F : Request → Type 0 = λ x. IsRequestOf m x in
      subst F (sym a.2 ∙ e) (known a.0 (out-runs (state_after m input events) seats a.0.0 k a.1))

  -- room is made
  pub kept-prepared :
      (allowed spent : ℕ) (events : List Event) (room room' : ℕ) (store store' : Store P) (x x' : Need P) (faults : FaultList)
      → IsKept m located allowed spent events room store x faults
      → contents store' ≡ contents store
      → store'.most ≡ store.most
      → IsReadyFor m located store' room' x'
      → IsKept m located allowed spent events room' store' x' faults
  kept-prepared allowed spent events room room' store store' x x' faults k same same-most ready =
      let same-input : store'.input ≡ store.input = ap (λ (y : Contents P). y.input) same in
      let same-drawn : store'.drawn ≡ store.drawn = ap (λ (y : Contents P). y.drawn) same in
      record {
        runs = (let F : List ℕ → Type 0 = λ input. IsRun m input events in subst F (sym same-input) k.runs);
        settled = (let F : List ℕ → Type 0 = λ input. IsSettledRun m input events in subst F (sym same-input) k.settled);
        state =
            (let F : List ℕ → Type 0 = λ input. IsState located (state_after m input events) (contents store') in
            let G : Contents P → Type 0 = λ y. IsState located (state_after m store.input events) y in
            subst F (sym same-input) (subst G (sym same) k.state));
        rest = (let G : Contents P → Type 0 = λ y. AllRest m y in subst G (sym same) k.rest);
        quiet =
            (let F : List ℕ → Type 0 = λ input. is_unsettled m (state_after m input events) ≡ false in
            subst F (sym same-input) k.quiet);
        spent_turns = k.spent_turns;
        within = k.within;
        low = (let l = k.low in omega (arith, l, same-drawn));
        cells = within-same m store.most store'.most (served_by store.served) (served_by store'.served) same-most (ap (λ (y : Contents P). y.served) same) k.cells;
        ready = ready;
        unlisted = k.unlisted;
        listable = k.listable;
      }

  -- what was made stays enough where the same calls are served and the room stays
  pub ready-stays :
      (store store' : Store P) (room room' : ℕ) (x : Need P)
      → served_by store'.served ≡ served_by store.served
      → (HasRoom store room → HasRoom store' room')
      → IsReadyFor m located store room x
      → IsReadyFor m located store' room' x
  ready-stays store store' room room' need.Nothing e f h = tt
  ready-stays store store' room room' need.Step e f h = f h
  ready-stays store store' room room' (need.Making kind args process) e f h = (f h.0, h.1)
  ready-stays store store' room room' (need.Answering value zeros) e f h =
      (f h.0, within-same m zeros zeros (served_by store.served) (served_by store'.served) refl e h.1)
  ready-stays store store' room room' need.Moment e f h = f h

nothing-enough : (r : Request) → IsEnoughFor Nothing r → ⊥
nothing-enough request.Pause h = cc
nothing-enough (request.Create kind args) h = cc
nothing-enough (request.Call target trans args) h = cc
nothing-enough (request.TimedCall target trans args wait) h = cc
nothing-enough (request.Send target trans args) h = cc
nothing-enough (request.Select alts) h = cc
nothing-enough (request.Delay wait) h = cc
nothing-enough (request.Reply value) h = let e = h.1 in cc
nothing-enough (request.Print bytes) h = cc
nothing-enough request.Get h = cc
nothing-enough request.Done h = cc
nothing-enough (request.Fault kind) h = cc

-- there is room where what is made is enough for a request
pub has-room :
    {P : Type 0} (m : Meaning) (located : P → ℕ → List ℤ → List Grant → Type 0) (store : Store P) (room : ℕ) (x : Need P) (r : Request)
    → IsEnoughFor (prepared_for x) r
    → IsReadyFor m located store room x
    → HasRoom store room
has-room m located store room need.Nothing r h k = absurd (nothing-enough r h)
has-room m located store room need.Step r h k = k
has-room m located store room (need.Making kind args process) r h k = k.0
has-room m located store room (need.Answering value zeros) r h k = k.0
has-room m located store room need.Moment r h k = k

-- or for a Time
pub ready-moment :
    {P : Type 0} (m : Meaning) (located : P → ℕ → List ℤ → List Grant → Type 0) (store : Store P) (room : ℕ) (x : Need P)
    → prepared_for x ≡ Moment
    → IsReadyFor m located store room x
    → HasRoom store room
ready-moment m located store room need.Nothing e h = cc
ready-moment m located store room need.Step e h = h
ready-moment m located store room (need.Making kind args process) e h = h.0
ready-moment m located store room (need.Answering value zeros) e h = h.0
ready-moment m located store room need.Moment e h = h
