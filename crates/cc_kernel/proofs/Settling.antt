-- A call or an immediate alternative is taken: it is legal, and what is kept goes on as the state does.
use Rattle.std.proofs.Common.{◌≡◌, inl, inr, ℕ, zero, suc, ◌<◌, ◌≤◌, ℤ, Bool, true, false, ◌||◌, not, List, [], ◌∷◌, ◌++◌, length, set, map, refl, sym, ap, ◌∙◌, arith, nat_eq, append_assoc, append-nil, Option, Some, None, ◌&&◌}
use Rattle.std.specs.Prelude.{if◌then◌else◌}
use Rattle.std.specs.List.{filter, list_all, list_any}
use Rattle.std.proofs.lemmas.Bool.{eqb-true, le-leb}
use Rattle.std.proofs.lemmas.List.Folds.{list_any_at}
use Rattle.std.proofs.lemmas.List.{length-set}
use Rattle.std.proofs.lemmas.List.Elements.{All-nil, All-push}
use Rattle.cc_base.specs.Meaning.{Meaning}
use Rattle.cc_base.specs.declared.request.Grant.{Grant}
use Rattle.cc_base.specs.declared.request.Grant.TheVariants.{Chose, Late, Took}
use Rattle.cc_kernel.proofs.Dues.{expires-now}
use Rattle.cc_kernel.proofs.Outs.{length-answered}
use Rattle.cc_kernel.proofs.Plain.{any-numbered, choosing-not-due, false-from, takes-eligible}
use Rattle.cc_kernel.proofs.Seated.{Seated-answered, Seated-at, Seated-length, Seated-set, numbered-at, same-standing, woken-fits}
use Rattle.cc_kernel.proofs.Timed.{answered-timed, goes-timed, taken-timed}
use Rattle.cc_kernel.proofs.Serving.{Rising-filter, found-at}
use Rattle.cc_kernel.proofs.Simulates.{map-append, same-or-not, serving-answered, serving-other, serving-own, serving-set}
use Rattle.cc_base.specs.Alternatives.{numbered}
use Rattle.cc_base.specs.declared.alternatives.Alt.{Alt}
use Rattle.cc_base.specs.declared.alternatives.Alt.TheVariants as alt
use Rattle.cc_base.specs.declared.names.CallId.{CallId}
use Rattle.cc_base.specs.declared.names.Pid.{Pid}
use Rattle.cc_kernel.specs.Choice.{eligible_for, goes_at_once}
use Rattle.cc_rules.specs.Choice.{accepts, call_deadline, call_numbered, goes_before, has_eligible, has_immediate, is_acceptable, is_chosen, is_immediate, rank, takes_at_once}
use Rattle.std.specs.Option.{option_map_or}
use Rattle.std.proofs.lemmas.Bool.{and_parts}
use Rattle.cc_kernel.specs.Counted.{IsWaiting}
use Rattle.cc_kernel.specs.Due.{due_of}
use Rattle.cc_kernel.specs.Store.{IsState, Contents, accepted_contents, chose_contents, expired_contents, withdrawn_contents, woken_contents}
use Rattle.cc_kernel.specs.declared.due.Due.{Due}
use Rattle.cc_kernel.specs.Seats.{no_call, seat_at, served_call, woken}
use Rattle.cc_kernel.proofs.Stacks.{one-more-other, one-more-own}
use Rattle.cc_kernel.specs.Stacks.{one_more}
use Rattle.cc_kernel.specs.Settles.{GoesOn, IsCalm, TakesOne}
use Rattle.cc_kernel.specs.declared.seat.Seat.{Seat}
use Rattle.cc_kernel.specs.declared.served.ServedCall.{ServedCall}
use Rattle.cc_rules.proofs.GoOn.{IsRunFrom-append, after-append}
use Rattle.cc_rules.specs.Effects.{grant_to, granted}
use Rattle.cc_rules.specs.Ends.{is_due}
use Rattle.cc_rules.proofs.Bools.{both-ways}
use Rattle.cc_rules.specs.Events.{accepted, expiry_grant, next, withdrawn}
use Rattle.cc_rules.specs.Runs.{after, is_settling}
use Rattle.cc_rules.specs.State.{Process, State, is_over, is_running, open_alternatives, process_at}
use Rattle.cc_rules.specs.declared.event.Event.{Event}
use Rattle.cc_rules.specs.declared.event.Event.TheVariants.{Accept, Expire, Instant, Time, Withdraw}
use Rattle.cc_rules.specs.declared.process.ProcessStanding.{ProcessStanding}
use Rattle.cc_rules.specs.declared.process.ProcessStanding.TheVariants.{Running, AtSelect, AtDelay, AtCall, Ended, Faulted}
use Rattle.cc_rules.specs.declared.process.TransactionCall.{TransactionCall}

-- who takes a call waits
pub takes-waiting :
    (test : Alt → Bool) (x : ProcessStanding) (i : ℕ)
    → option_map_or test (numbered (open_alternatives x) i) false ≡ true
    → (is_running x ≡ false) × (is_over x ≡ false)
takes-waiting test Running i h = cc
takes-waiting test (AtSelect alts asked) i h = (refl, refl)
takes-waiting test (AtDelay deadline) i h = cc
takes-waiting test (AtCall number) i h = cc
takes-waiting test Ended i h = cc
takes-waiting test (Faulted kind) i h = cc

pub goes-waiting :
    (m : Meaning) (p : ℕ) (x : ProcessStanding) (calls : List TransactionCall) (i : ℕ)
    → goes_at_once m p x calls i ≡ true
    → (is_running x ≡ false) × (is_over x ≡ false)
goes-waiting m p x calls i h = takes-waiting is_immediate x i (and_parts (option_map_or is_immediate (numbered (open_alternatives x) i) false) (not (eligible_for m p x calls)) h).0

-- who waits has a seat
pub waits-within : {P : Type 0} (seats : List (Seat P)) (t : ℕ) → is_over (seat_at seats t).standing ≡ false → t < length seats
waits-within [] t h = cc
waits-within (seat ∷ seats) zero h = omega arith
waits-within (seat ∷ seats) (suc t) h = let r = waits-within seats t h in omega arith

-- a call that is chosen is one of the target's
pub chosen-target :
    (m : Meaning) (p : ℕ) (o : Option Alt) (calls : List TransactionCall) (call : TransactionCall)
    → option_map_or (λ a. is_chosen m p a calls call) o false ≡ true
    → call.target.0 ≡ p
chosen-target m p None calls call h = cc
chosen-target m p (Some (alt.Accept trans site env)) calls call h = here (nat_eq call.target.0 p) refl h
  where
    here :
        (b : Bool)
        → nat_eq call.target.0 p ≡ b
        → option_map_or (λ k. list_all (λ other. goes_before k call.number.0 (rank m p (alt.Accept trans site env) other) other.number.0) calls)
        (if b && nat_eq call.trans trans then m.fit site env call.args else None)
        false
        ≡ true
        → call.target.0 ≡ p
    here true e h = eqb-true call.target.0 p e
    here false e h = cc
chosen-target m p (Some (alt.After wait)) calls call h = cc
chosen-target m p (Some alt.Now) calls call h = cc
chosen-target m p (Some alt.Terminate) calls call h = cc

served-more :
    (i p : ℕ) (call : TransactionCall) (served : ℕ → List ServedCall) (qs : List Process) (q : Process)
    → p < length qs
    → q.serving ≡ (process_at qs p).serving ++ call ∷ []
    → served i ≡ map served_call (process_at qs i).serving
    → one_more served p (served_call call) i ≡ map served_call (process_at (set qs p q) i).serving
served-more i p call served qs q lt e h =
    elim (same-or-not i p) [
      | inl same ↦
          ap (one_more served p (served_call call)) same
          ∙ one-more-own served p (served_call call)
          ∙ ap (λ xs. xs ++ served_call call ∷ []) (sym (ap served same) ∙ h ∙ ap (λ j. map served_call (process_at qs j).serving) same)
          ∙ sym (map-append served_call (process_at qs p).serving (call ∷ []))
          ∙ ap (map served_call) (sym (ap (λ (r : Process). r.serving) (ap (λ j. process_at (set qs p q) j) same ∙ serving-own qs p q lt) ∙ e))
      | inr ne ↦
          one-more-other served p i (served_call call) ne
          ∙ h
          ∙ ap (map served_call) (sym (serving-other qs p i q ne))
    ]

module _ {P : Type 0} (m : Meaning) (located : P → ℕ → List ℤ → List Grant → Type 0) where
  -- whether the last event was a Time does not matter
  pub any-time : (s : State) (x : Contents P) (b : Bool) → IsState located s x → IsState located (record s { after_time = b }) x
  any-time s x b k =
      record {
        seated = k.seated;
        few = k.few;
        pending = k.pending;
        served = k.served;
        drawn = k.drawn;
        input = k.input;
        moment = k.moment;
        rising = k.rising;
        timed = k.timed;
      }

  -- it is another moment
  pub state-time : (s : State) (x : Contents P) (moment : ℕ) → IsState located s x → IsState located (next m s (Time moment)) (record x { moment = moment })
  state-time s x moment k =
      record {
        seated = k.seated;
        few = k.few;
        pending = k.pending;
        served = k.served;
        drawn = k.drawn;
        input = k.input;
        moment = refl;
        rising = k.rising;
        timed = k.timed;
      }

  -- a process that waits goes on with this grant
  state-woken :
      (s : State) (x : Contents P) (p : Pid) (grant : Grant)
      → IsState located s x
      → (is_running (process_at s.processes p.0).standing ≡ false) × (is_over (process_at s.processes p.0).standing ≡ false)
      → IsState located (record s { processes = grant_to s.processes p.0 grant }) (woken_contents x p grant)
  state-woken s x p grant k waits =
      let q = process_at s.processes p.0 in
      let over : is_over (seat_at x.seats p.0).standing ≡ false = ap is_over (same-standing located s.processes x.seats p.0 k.seated) ∙ waits.1 in
      let within = waits-within x.seats p.0 over in
      record {
        seated =
            Seated-set located s.processes x.seats p.0 (granted q grant) (woken (seat_at x.seats p.0) grant) k.seated
            (woken-fits located q (seat_at x.seats p.0) grant q.serving waits.0 waits.1 (Seated-at located s.processes x.seats p.0 within k.seated));
        few = rw length-set k.few;
        pending = k.pending;
        served = λ j. k.served j ∙ ap (map served_call) (sym (serving-set s.processes p.0 j (granted q grant) refl));
        drawn = k.drawn;
        input = k.input;
        moment = k.moment;
        rising = k.rising;
        timed = goes-timed x.seats x.pending x.deadlines p (woken (seat_at x.seats p.0) grant) within refl k.timed;
      }

  -- where the kept calls are written as those of the state
  state-accepted :
      (s : State) (x : Contents P) (p : Pid) (i : ℕ) (call : TransactionCall)
      → IsState located s x
      → call_numbered x.pending call.number.0 ≡ Some call
      → call.target.0 ≡ p.0
      → (is_running (process_at s.processes p.0).standing ≡ false) × (is_over (process_at s.processes p.0).standing ≡ false)
      → IsState located (accepted s p.0 i call) (accepted_contents x p i call)
  state-accepted s x p i call k found here waits =
      let q = process_at s.processes p.0 in
      let over : is_over (seat_at x.seats p.0).standing ≡ false = ap is_over (same-standing located s.processes x.seats p.0 k.seated) ∙ waits.1 in
      let within = waits-within x.seats p.0 over in
      let new : Process = record (granted q (Took i call.args)) { serving = q.serving ++ call ∷ [] } in
      let seat : Seat P = woken (seat_at x.seats p.0) (Took i call.args) in
      record {
        seated =
            Seated-set located s.processes x.seats p.0 new seat k.seated
            (woken-fits located q (seat_at x.seats p.0) (Took i call.args) (q.serving ++ call ∷ []) waits.0 waits.1
            (Seated-at located s.processes x.seats p.0 within k.seated));
        few = rw length-set k.few;
        pending = ap (filter (λ other. not (nat_eq other.number.0 call.number.0))) k.pending;
        served = λ j. served-more j p.0 call x.served s.processes new (rw (Seated-length located s.processes x.seats k.seated) within) refl (k.served j);
        drawn = k.drawn;
        input = k.input;
        moment = k.moment;
        rising = Rising-filter (λ other. not (nat_eq other.number.0 call.number.0)) 0 s.pending s.drawn k.rising;
        timed =
            goes-timed x.seats (filter (λ other. not (nat_eq other.number.0 call.number.0)) x.pending) _ p seat within refl
            (taken-timed x.seats x.pending x.deadlines call.number call found k.timed);
      }

  -- a pending call is withdrawn
  state-withdrawn :
      (s : State) (x : Contents P) (number : CallId) (call : TransactionCall)
      → IsState located s x
      → call_numbered x.pending number.0 ≡ Some call
      → call.number.0 ≡ number.0
      → IsState located (withdrawn s call) (withdrawn_contents x call)
  state-withdrawn s x number call k found same =
      record {
        seated = Seated-answered located s.processes x.seats call Late k.seated;
        few = rw (length-answered x.seats (served_call call) Late) k.few;
        pending = ap (filter (λ other. not (nat_eq other.number.0 call.number.0))) k.pending;
        served = λ j. k.served j ∙ ap (map served_call) (sym (serving-answered s.processes call j Late));
        drawn = k.drawn;
        input = k.input;
        moment = k.moment;
        rising = Rising-filter (λ other. not (nat_eq other.number.0 call.number.0)) 0 s.pending s.drawn k.rising;
        timed =
            answered-timed x.seats (filter (λ other. not (nat_eq other.number.0 call.number.0)) x.pending) _ (served_call call) Late
            (taken-timed x.seats x.pending x.deadlines call.number call (ap (call_numbered x.pending) same ∙ found) k.timed);
      }

  -- its deadline has come, where no call can be taken and the collective end is not due
  pub withdraws-one :
      (s : State) (x : Contents P) (number : CallId) (call : TransactionCall) (deadline : ℕ)
      → IsState located s x
      → IsCalm m s
      → is_due m s ≡ false
      → call_numbered x.pending number.0 ≡ Some call
      → call_deadline call.waiting ≡ Some deadline
      → deadline ≤ x.moment
      → TakesOne m located s (Withdraw number) (withdrawn_contents x call)
  withdraws-one s x number call deadline k calm due found has come =
      let found' : call_numbered s.pending number.0 ≡ Some call = ap (λ calls. call_numbered calls number.0) (sym k.pending) ∙ found in
      let at = found-at s.pending number.0 call found' in
      let now : deadline ≤ s.moment = rw (← k.moment) come in
      let none : is_acceptable m s call ≡ false =
      false-from (is_acceptable m s call)
      (λ h. both-ways (list_any (is_acceptable m s) s.pending) (list_any_at (is_acceptable m s) s.pending at.1.0 no_call at.1.1 (ap (is_acceptable m s) at.1.2 ∙ h)) calm.no_call) in
      record {
        legal = rw (due, found', has, le-leb deadline s.moment now, none) refl;
        settling = refl;
        state = rw found' (any-time (withdrawn s call) (withdrawn_contents x call) false (state-withdrawn s x number call k found at.0));
      }

  -- a call is taken
  pub accepts-one :
      (s : State) (x : Contents P) (p : Pid) (i : ℕ) (number : CallId) (call : TransactionCall)
      → IsState located s x
      → call_numbered x.pending number.0 ≡ Some call
      → option_map_or (λ a. is_chosen m p.0 a x.pending call) (numbered (open_alternatives (seat_at x.seats p.0).standing) i) false ≡ true
      → TakesOne m located s (Accept p i number) (accepted_contents x p i call)
  accepts-one s x p i number call k found t =
      let same = same-standing located s.processes x.seats p.0 k.seated in
      let found' : call_numbered s.pending number.0 ≡ Some call = ap (λ calls. call_numbered calls number.0) (sym k.pending) ∙ found in
      let t' : accepts m s p.0 i call ≡ true = rw (k.pending, same) at t in
      let waits = takes-waiting (λ a. is_chosen m p.0 a s.pending call) (process_at s.processes p.0).standing i t' in
      let at = found-at s.pending number.0 call found' in
      let over : is_over (seat_at x.seats p.0).standing ≡ false = ap is_over same ∙ waits.1 in
      let within : p.0 < length s.processes = rw (Seated-length located s.processes x.seats k.seated) (waits-within x.seats p.0 over) in
      let due = choosing-not-due m s p.0 within waits.1 (or-left (has_eligible m s p.0) (has_immediate s p.0) (takes-eligible m s p.0 i at.1.0 call no_call at.1.1 at.1.2 t')) in
      record {
        legal = rw (due, found') t';
        settling = refl;
        state = rw found' (any-time (accepted s p.0 i call) (accepted_contents x p i call) false (state-accepted s x p i call k (ap (call_numbered x.pending) at.0 ∙ found) (chosen-target m p.0 (numbered (open_alternatives (process_at s.processes p.0).standing) i) s.pending call t') waits));
      }
    where
      or-left : (a b : Bool) → a ≡ true → (a || b) ≡ true
      or-left true b h = refl
      or-left false b h = cc

  -- an immediate alternative is taken
  pub chooses-one :
      (s : State) (x : Contents P) (p : Pid) (i : ℕ)
      → IsState located s x
      → p.0 < length x.seats
      → goes_at_once m p.0 (seat_at x.seats p.0).standing x.pending i ≡ true
      → TakesOne m located s (Instant p i) (chose_contents x p i)
  chooses-one s x p i k lt t =
      let same = same-standing located s.processes x.seats p.0 k.seated in
      let q = process_at s.processes p.0 in
      let t' : takes_at_once m s p.0 i ≡ true = rw (k.pending, same) at t in
      let parts = and_parts (option_map_or is_immediate (numbered (open_alternatives q.standing) i) false) (not (has_eligible m s p.0)) t' in
      let waits = takes-waiting is_immediate q.standing i parts.0 in
      let within : p.0 < length s.processes = rw (Seated-length located s.processes x.seats k.seated) lt in
      let due = choosing-not-due m s p.0 within waits.1 (or-behind (has_eligible m s p.0) (has_immediate s p.0) (any-numbered is_immediate (open_alternatives q.standing) i parts.0)) in
      record {
        legal = rw due t';
        settling = refl;
        state = any-time (record s { processes = grant_to s.processes p.0 (Chose i) }) (chose_contents x p i) false (state-woken s x p (Chose i) k waits);
      }
    where
      or-behind : (a b : Bool) → b ≡ true → (a || b) ≡ true
      or-behind true b h = refl
      or-behind false b h = h

  -- a process has waited until its deadline, where none can take anything and the collective end is not due
  pub expires-one :
      (s : State) (x : Contents P) (p : Pid) (d : Due)
      → IsState located s x
      → is_due m s ≡ false
      → due_of (seat_at x.seats p.0).standing ≡ Some d
      → IsWaiting (seat_at x.seats p.0).standing
      → d.deadline ≤ x.moment
      → (has_eligible m s p.0 ≡ false) × (has_immediate s p.0 ≡ false)
      → TakesOne m located s (Expire p d.alt) (expired_contents x p d.alt)
  expires-one s x p d k due at waits come rests =
      let q = process_at s.processes p.0 in
      let same = same-standing located s.processes x.seats p.0 k.seated in
      let now : d.deadline ≤ s.moment = rw (← k.moment) come in
      let here : due_of q.standing ≡ Some d = ap due_of (sym same) ∙ at in
      record {
        legal = rw due (expires-now m s p.0 q.standing d (numbered-at located s.processes x.seats p.0 k.seated) here now rests.0 rests.1);
        settling = refl;
        state =
            any-time (record s { processes = grant_to s.processes p.0 (expiry_grant d.alt q.standing) }) (expired_contents x p d.alt) false
            (rw (← same) (state-woken s x p (expiry_grant d.alt (seat_at x.seats p.0).standing) k (ap is_running (sym same) ∙ waits.0, ap is_over (sym same) ∙ waits.1)));
      }

  -- the journal is as it was
  pub goes-none : (first : State) (before : List Event) (x : Contents P) → IsState located first x → GoesOn m located first before before x
  goes-none first before x k =
      record { more = []; journal = sym (append-nil before); settles = All-nil (λ e. is_settling e ≡ true); runs = tt; state = k }

  -- the journal goes on with one event more
  pub goes-one :
      (first : State) (before events : List Event) (x y : Contents P) (e : Event)
      → GoesOn m located first before events x
      → ((s : State) → IsState located s x → TakesOne m located s e y)
      → GoesOn m located first before (events ++ e ∷ []) y
  goes-one first before events x y e g takes =
      let s = after m first g.more in
      let one = takes s g.state in
      record {
        more = g.more ++ e ∷ [];
        journal = ap (λ xs. xs ++ e ∷ []) g.journal ∙ append_assoc before g.more (e ∷ []);
        settles = All-push (λ x. is_settling x ≡ true) g.more e g.settles one.settling;
        runs = IsRunFrom-append m first g.more (e ∷ []) g.runs (one.legal, tt);
        state = rw (after-append m first g.more (e ∷ [])) one.state;
      }
