-- The kernel keeps its run where a process goes out, and what a process asks is done.
use Rattle.std.proofs.Common.{◌≡◌, ℕ, zero, suc, ◌+◌, ◌<◌, ◌≤◌, ℤ, true, false, List, [], ◌∷◌, ◌++◌, length, set, map, refl, sym, ap, ◌∙◌, subst, arith, append_assoc, None}
use Rattle.std.specs.Prelude.{All}
use Rattle.std.proofs.lemmas.List.Elements.{All-nil}
use Rattle.std.proofs.lemmas.List.{length-set, set-get_or}
use Rattle.cc_base.specs.Meaning.{Meaning}
use Rattle.cc_base.specs.declared.request.Grant.{Grant}
use Rattle.cc_kernel.proofs.Seated.{Seated-at, Seated-out, ready-at}
use Rattle.cc_kernel.specs.Invariant.{IsKept, IsReadyFor}
use Rattle.cc_kernel.proofs.Resting.{rest-out}
use Rattle.cc_kernel.specs.Resting.{AllRest, RestsSo}
use Rattle.cc_kernel.specs.Store.{IsReady, IsState, Contents, Seated, contents}
use Rattle.cc_kernel.specs.Lists.{CallList, SeatList, ServedCalls}
use Rattle.cc_rules.specs.Lists.{FaultList}
use Rattle.cc_base.specs.Limits.{most_processes}
use Rattle.cc_base.specs.declared.request.Grant.TheVariants.{Go}
use Rattle.cc_kernel.specs.Seats.{seat_at, served_call, with_out, with_ready}
use Rattle.cc_kernel.specs.Stacks.{AreWithin, served_by}
use Rattle.cc_base.specs.Grants.{value_cells}
use Rattle.cc_kernel.specs.declared.served.ServedCall.{ServedCall}
use Rattle.cc_kernel.specs.declared.store.Store.{Store}
use Rattle.cc_kernel.specs.declared.need.Need.{Need}
use Rattle.cc_kernel.specs.declared.need.Need.TheVariants as need
use Rattle.cc_kernel.specs.declared.seat.Whereabouts.TheVariants.{Ready}
use Rattle.cc_kernel.specs.declared.seat.Seat.{Seat}
use Rattle.cc_base.specs.declared.names.Pid.{Pid}
use Rattle.cc_base.specs.declared.request.Request.{Request}
use Rattle.cc_base.specs.declared.request.Request.TheVariants as request
use Rattle.cc_kernel.proofs.Plain.{running-not-due}
use Rattle.cc_rules.proofs.NextStays.{running-within}
use Rattle.cc_rules.proofs.Settled.{IsSettled-by_test}
use Rattle.cc_kernel.proofs.Settling.{any-time, state-time}
use Rattle.cc_kernel.proofs.Timed.{deadlines-stay, same-for, set-deadline}
use Rattle.cc_kernel.specs.Timed.{AreDeadlines, DeadlineList, deadline_of, is_moment}
use Rattle.cc_timer.specs.declared.who.Who.TheVariants as who
use Rattle.cc_kernel.specs.Settles.{Settles}
use Rattle.cc_rules.proofs.GoOn.{IsRunFrom-append, IsSettledFrom-append, after-append, turns-append}
use Rattle.cc_rules.proofs.QuietEvents.{settling-settled, settling-turns}
use Rattle.cc_rules.specs.Effects.{effect}
use Rattle.cc_rules.specs.Ends.{is_due, is_unsettled}
use Rattle.cc_rules.specs.Events.{is_legal, next, request_at, same_word, word_of}
use Rattle.cc_rules.specs.Runs.{IsRun, IsSettledRun, after, is_turn, state_after, turns}
use Rattle.cc_rules.specs.State.{State, first_state, is_running, process_at}
use Rattle.cc_rules.specs.declared.event.Event.{Event}
use Rattle.cc_rules.specs.declared.event.Event.TheVariants.{Ask, Accept, Instant, Expire, Withdraw, Time, End}

module _ {P : Type 0} (m : Meaning) (located : P → ℕ → List ℤ → List Grant → Type 0) where
  ready-seats :
      (store : Store P) (room : ℕ) (x : Need P) (seats : SeatList P)
      → seats.spare ≡ store.seats.spare
      → IsReadyFor m located store room x
      → IsReadyFor m located (record store { seats = seats }) room x
  ready-seats store room need.Nothing seats e h = tt
  ready-seats store room need.Step seats e h = (h.0, h.1, h.2, h.3, rw e h.4)
  ready-seats store room (need.Making kind args process) seats e h = ((h.0.0, h.0.1, h.0.2, h.0.3, rw e h.0.4), h.1)
  ready-seats store room (need.Answering value zeros) seats e h = ((h.0.0, h.0.1, h.0.2, h.0.3, rw e h.0.4), h.1)
  ready-seats store room need.Moment seats e h = (h.0, h.1, h.2, h.3, rw e h.4)

  -- a process that is ready goes out
  state-out :
      (s : State) (x : Contents P) (i : ℕ) (process : P) (grant : Grant)
      → IsState located s x
      → i < length x.seats
      → (seat_at x.seats i).whereabouts ≡ Ready process grant
      → IsState located s (record x { seats = set x.seats i (with_out (seat_at x.seats i)) })
  state-out s x i process grant k lt e =
      let r = ready-at located (process_at s.processes i) (seat_at x.seats i) process grant (Seated-at located s.processes x.seats i lt k.seated) e in
      let moved = Seated-out located s.processes x.seats i lt r.0 k.seated in
      record {
        seated = rw set-get_or at moved;
        few = rw length-set k.few;
        pending = k.pending;
        served = k.served;
        drawn = k.drawn;
        input = k.input;
        moment = k.moment;
        rising = k.rising;
        timed =
            deadlines-stay x.seats (set x.seats i (with_out (seat_at x.seats i))) x.pending x.pending x.deadlines
            (same-for x.seats (set x.seats i (with_out (seat_at x.seats i))) x.pending x.pending (λ j. set-deadline x.seats i j (with_out (seat_at x.seats i)) refl) (λ c. refl)) k.timed;
      }

  pub kept-out :
      (allowed spent : ℕ) (events : List Event) (room : ℕ) (store : Store P) (x : Need P) (faults : FaultList) (seats : SeatList P) (i : ℕ) (process : P) (grant : Grant)
      → IsKept m located allowed spent events room store x faults
      → i < length store.seats.items
      → (seat_at store.seats.items i).whereabouts ≡ Ready process grant
      → seats.items ≡ set store.seats.items i (with_out (seat_at store.seats.items i))
      → seats.spare ≡ store.seats.spare
      → IsKept m located allowed spent events room (record store { seats = seats }) x faults
  kept-out allowed spent events room store x faults seats i process grant k lt e same spare =
      record {
        runs = k.runs;
        settled = k.settled;
        state = rw same (state-out (state_after m store.input events) (contents store) i process grant k.state lt e);
        rest = rw same (rest-out m (contents store) i k.rest);
        quiet = k.quiet;
        spent_turns = k.spent_turns;
        within = k.within;
        low = k.low;
        cells = k.cells;
        ready = ready-seats store room x seats spare k.ready;
        unlisted = k.unlisted;
        listable = k.listable;
      }

  -- the first process is ready
  pub kept-first :
      (allowed room : ℕ) (input : List ℕ) (seats : SeatList P) (pending : CallList) (served : ServedCalls) (deadlines : DeadlineList) (events : List Event) (faults : FaultList) (process : P)
      → seats.items ≡ with_ready process Go ∷ []
      → pending.items ≡ []
      → served_by served ≡ (λ p. [])
      → deadlines.pairs ≡ []
      → events ≡ []
      → faults.items ≡ []
      → most_processes ≤ faults.spare
      → located process 0 [] []
      → IsKept m located allowed 0 events room
      (record { seats = seats; pending = pending; served = served; drawn = 0; input = input; taken = 0; moment = 0; deadlines = deadlines; most = 0 })
      need.Nothing faults
  kept-first allowed room input seats pending served deadlines events faults process here none none' undue begun unlisted listable is =
      rw begun
      (record {
        runs = tt;
        settled = IsSettled-by_test m (first_state input) refl;
        state =
            record {
              seated = rw here (record { standing = refl; whereabouts = (refl, ([], refl, is)); numbered = tt }, tt);
              few = rw here (omega arith);
              pending = none;
              served = λ i. ap (λ (f : ℕ → List ServedCall). f i) none' ∙ sym (first-serves i);
              drawn = refl;
              input = refl;
              moment = refl;
              rising = omega arith;
              timed = rw (here, none, undue) first-timed;
            };
        rest = rw (here, none) first-rests;
        quiet = refl;
        spent_turns = refl;
        within = omega arith;
        low = omega arith;
        cells = λ p. subst (λ (f : ℕ → List ServedCall). All (λ call. value_cells m call.trans ≤ 0) (f p)) (sym none') (All-nil (λ call. value_cells m call.trans ≤ 0));
        ready = tt;
        unlisted = unlisted;
        listable = listable;
      })
    where
      first-timed : AreDeadlines (with_ready process Go ∷ []) [] []
      first-timed n (who.Process p) = ap (is_moment n) (sym (no-deadline p.0))
        where
          no-deadline : (i : ℕ) → deadline_of (seat_at (with_ready process Go ∷ []) i).standing ≡ None
          no-deadline zero = refl
          no-deadline (suc i) = refl
      first-timed n (who.Call c) = refl

      first-rests : (i : ℕ) → RestsSo m i (seat_at (with_ready process Go ∷ []) i).standing []
      first-rests zero = (refl, refl)
      first-rests (suc i) = (refl, refl)

      first-serves : (i : ℕ) → map served_call (process_at (first_state input).processes i).serving ≡ []
      first-serves zero = refl
      first-serves (suc i) = refl

  pub kept-ready :
      (input : List ℕ) (events : List Event) (seats : List (Seat P)) (i : ℕ) (process : P) (grant : Grant)
      → Seated located (state_after m input events).processes seats
      → i < length seats
      → (seat_at seats i).whereabouts ≡ Ready process grant
      → IsReady located (process_at (state_after m input events).processes i) process grant
  kept-ready input events seats i process grant k lt e =
      ready-at located (process_at (state_after m input events).processes i) (seat_at seats i) process grant
      (Seated-at located (state_after m input events).processes seats i lt k)
      e

same_word-same : (r : Request) → same_word (word_of r) (word_of r) ≡ true
same_word-same request.Pause = refl
same_word-same (request.Create kind args) = refl
same_word-same (request.Call target trans args) = refl
same_word-same (request.TimedCall target trans args wait) = refl
same_word-same (request.Send target trans args) = refl
same_word-same (request.Select alts) = refl
same_word-same (request.Delay wait) = refl
same_word-same (request.Reply value) = refl
same_word-same (request.Print bytes) = refl
same_word-same request.Get = refl
same_word-same request.Done = refl
same_word-same (request.Fault kind) = refl

-- a process that is running may ask what it asks
legal-ask :
    (m : Meaning) (s : State) (p : Pid) (r : Request)
    → is_due m s ≡ false
    → is_running (process_at s.processes p.0).standing ≡ true
    → r ≡ request_at m s p
    → is_legal m s (Ask p (word_of r)) ≡ true
legal-ask m s p r due h e = rw (due, h, e) (same_word-same (request_at m s p))

pub legal-now :
    (m : Meaning) (s : State) (p : Pid) (r : Request)
    → is_running (process_at s.processes p.0).standing ≡ true
    → r ≡ request_at m s p
    → is_legal m s (Ask p (word_of r)) ≡ true
legal-now m s p r running asks = legal-ask m s p r (running-not-due m s p.0 (running-within s.processes p.0 running) running) running asks

module _ {P : Type 0} (m : Meaning) (located : P → ℕ → List ℤ → List Grant → Type 0) where
  -- the kernel goes on with an event that is a turn, and settles
  kept-turn :
      (allowed spent : ℕ) (events more : List Event) (room room' : ℕ) (store begun store' : Store P) (x : Need P) (faults : FaultList) (e : Event)
      → IsKept m located allowed spent events room store x faults
      → is_legal m (state_after m store.input events) e ≡ true
      → is_turn e ≡ true
      → spent < allowed
      → store'.drawn ≤ store.drawn + 1
      → store'.input ≡ store.input
      → IsState located (next m (state_after m store.input events) e) (contents begun)
      → AllRest m (contents store')
      → AreWithin m store'.most (served_by store'.served)
      → ((s : State) → IsState located s (contents begun) → Settles m located s (events ++ e ∷ []) more (contents store'))
      → IsKept m located allowed (spent + 1) more room' store' need.Nothing faults
  kept-turn allowed spent events more room room' store begun store' x faults e k legal turn left low same-input st rest cells settles =
      let s = state_after m store.input events in
      let first = first_state store.input in
      let done = settles (next m s e) st in
      let es = done.goes_on.more in
      let whole : more ≡ events ++ e ∷ es = done.goes_on.journal ∙ append_assoc events (e ∷ []) es in
      let last : state_after m store.input (events ++ e ∷ es) ≡ after m (next m s e) es = after-append m first events (e ∷ es) in
      let quiet = done.settled in
      let settled = IsSettled-by_test m (after m (next m s e) es) quiet in
      record {
        runs =
            (let F : List ℕ → Type 0 = λ input. IsRun m input more in
            subst F (sym same-input) (rw whole (IsRunFrom-append m first events (e ∷ es) k.runs (legal, done.goes_on.runs))));
        settled =
            (let F : List ℕ → Type 0 = λ input. IsSettledRun m input more in
            subst F (sym same-input)
            (rw whole
            (IsSettledFrom-append m first events (e ∷ es) k.settled
            (λ asked. IsSettled-by_test m s k.quiet, settling-settled m (next m s e) es done.goes_on.settles settled))));
        state =
            (let F : List ℕ → Type 0 = λ input. IsState located (state_after m input more) (contents store') in
            subst F (sym same-input) (rw (whole, last) done.goes_on.state));
        rest = rest;
        quiet =
            (let F : List ℕ → Type 0 = λ input. is_unsettled m (state_after m input more) ≡ false in
            subst F (sym same-input) (rw (whole, last) quiet));
        spent_turns =
            (let t = turns-append events (e ∷ es) in
            let t' = turns-append (e ∷ []) es in
            let o = one-turn e turn in
            let u = k.spent_turns in
            let z = settling-turns es done.goes_on.settles in
            rw whole (omega (arith, t, t', o, u, z)));
        within = omega (arith, left);
        low = (let l = k.low in omega (arith, l, low));
        cells = cells;
        ready = tt;
        unlisted = k.unlisted;
        listable = k.listable;
      }
    where
      one-turn : (e : Event) → is_turn e ≡ true → turns (e ∷ []) ≡ 1
      one-turn (Ask p w) h = refl
      one-turn (Accept p i c) h = cc
      one-turn (Instant p i) h = cc
      one-turn (Expire p i) h = cc
      one-turn (Withdraw c) h = cc
      one-turn (Time t) h = refl
      one-turn End h = cc

  -- with what a process asks
  pub kept-commit :
      (allowed spent : ℕ) (events more : List Event) (room room' : ℕ) (store asked store' : Store P) (x : Need P) (faults : FaultList) (p : Pid) (r : Request)
      → IsKept m located allowed spent events room store x faults
      → is_running (process_at (state_after m store.input events).processes p.0).standing ≡ true
      → r ≡ request_at m (state_after m store.input events) p
      → spent < allowed
      → asked.drawn ≤ store.drawn + 1
      → store'.drawn ≡ asked.drawn
      → store'.input ≡ store.input
      → IsState located (effect m (state_after m store.input events) p r) (contents asked)
      → AllRest m (contents store')
      → AreWithin m store'.most (served_by store'.served)
      → ((s : State) → IsState located s (contents asked) → Settles m located s (events ++ Ask p (word_of r) ∷ []) more (contents store'))
      → IsKept m located allowed (spent + 1) more room' store' need.Nothing faults
  kept-commit allowed spent events more room room' store asked store' x faults p r k running asks left low same-drawn same-input st rest cells settles =
      let s = state_after m store.input events in
      let F : Request → Type 0 = λ y. IsState located (effect m s p y) (contents asked) in
      kept-turn allowed spent events more room room' store asked store' x faults (Ask p (word_of r)) k
      (legal-now m s p r running asks) refl left (omega (arith, low, same-drawn)) same-input
      (any-time m located (effect m s p (request_at m s p)) (contents asked) false (subst F asks st))
      rest cells settles

  -- or with a Time
  pub kept-time :
      (allowed spent : ℕ) (events more : List Event) (room room' : ℕ) (store store' : Store P) (x : Need P) (faults : FaultList) (moment : ℕ)
      → IsKept m located allowed spent events room store x faults
      → is_legal m (state_after m store.input events) (Time moment) ≡ true
      → spent < allowed
      → store'.drawn ≡ store.drawn
      → store'.input ≡ store.input
      → AllRest m (contents store')
      → AreWithin m store'.most (served_by store'.served)
      → ((s : State) → IsState located s (contents (record store { moment = moment })) → Settles m located s (events ++ Time moment ∷ []) more (contents store'))
      → IsKept m located allowed (spent + 1) more room' store' need.Nothing faults
  kept-time allowed spent events more room room' store store' x faults moment k legal left same-drawn same-input rest cells settles =
      kept-turn allowed spent events more room room' store (record store { moment = moment }) store' x faults (Time moment) k
      legal refl left (omega (arith, same-drawn)) same-input (state-time m located (state_after m store.input events) (contents store) moment k.state)
      rest cells settles

-- what holds of the calls that each process serves holds of the kept ones
pub all-served :
    {P : Type 0} (F : ServedCall → Type 0) (located : P → ℕ → List ℤ → List Grant → Type 0) (s : State) (x : Contents P)
    → IsState located s x
    → ((p : ℕ) → All F (map served_call (process_at s.processes p).serving))
    → (p : ℕ)
    → All F (x.served p)
all-served F located s x k h p =
    let G : List ServedCall → Type 0 = λ calls. All F calls in
    subst G (sym (k.served p)) (h p)
