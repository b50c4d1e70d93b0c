-- What is kept goes on as the state does, request by request.
use Rattle.std.proofs.Common.{◌≡◌, ◌≢◌, ℕ, zero, suc, ◌+◌, ◌<◌, ◌≤◌, ℤ, Bool, true, false, not, List, [], ◌∷◌, ◌++◌, length, set, map, refl, sym, ap, ◌∙◌, subst, arith, add-one, drop, length-append, Option, Some, None}
use Rattle.std.specs.Prelude.{if◌then◌else◌, nat_lt, slice_get}
use Rattle.std.specs.List.{filter}
use Rattle.std.specs.Option.{option_map_or}
use Rattle.std.proofs.Common.{◌⊎◌, inl, inr}
use Rattle.std.proofs.lemmas.List.{length-set}
use Rattle.std.proofs.lemmas.Bool.Decides.{nat_tests}
use Rattle.cc_base.specs.declared.names.Pid.{Pid}
use Rattle.cc_base.specs.declared.request.Grant.{Grant}
use Rattle.cc_base.specs.declared.request.Grant.TheVariants.{Go, Made, Gone, Byte}
use Rattle.cc_kernel.proofs.Outs.{gone_seats-append, length-gone}
use Rattle.cc_kernel.proofs.Seated.{Seated-gone, Seated-left, Seated-length, Seated-push, Seated-ready, Seated-waiting}
use Rattle.cc_kernel.proofs.Serving.{Rising-filter, Rising-push, unasked}
use Rattle.cc_kernel.proofs.Stacks.{none-served-other, none-served-own}
use Rattle.cc_kernel.proofs.Timed.{asked-timed, changed-timed, pushed-timed, running-none, waits-timed}
use Rattle.cc_kernel.specs.Stacks.{none_served}
use Rattle.cc_kernel.specs.Timed.{AreDeadlines}
use Rattle.cc_kernel.specs.Store.{IsLocated, AreNumbered, IsState, Contents, called_contents, delayed_contents, got_byte, left_contents, made_contents, sent_contents, waited, went_on}
use Rattle.cc_kernel.specs.Seats.{gone_seats, seat_at, served_call, with_left, with_ready, with_waiting}
use Rattle.cc_kernel.specs.declared.seat.Seat.{Seat}
use Rattle.cc_base.specs.Limits.{most_processes}
use Rattle.cc_rules.specs.Effects.{answered, called, caller_of, deadline_after, each_gets_gone, ended, first_byte, grant_to, granted, is_for, rest_of, waits_for, with_standing}
use Rattle.cc_rules.specs.State.{Process, State, is_over, is_running, made, process_at}
use Rattle.cc_rules.specs.declared.process.ProcessStanding.{ProcessStanding}
use Rattle.cc_rules.specs.declared.process.ProcessStanding.TheVariants.{AtCall, AtDelay}
use Rattle.cc_rules.specs.declared.process.TransactionCall.{TransactionCall}
use Rattle.cc_rules.specs.declared.process.Waiting.{Waiting}
use Rattle.cc_rules.specs.declared.process.Waiting.TheVariants.{Nobody}
use Rattle.cc_timer.specs.declared.who.Who.{Who}

pub same-or-not : (i p : ℕ) → (i ≡ p) ⊎ (i ≢ p)
same-or-not zero zero = inl refl
same-or-not zero (suc p) = inr (λ e. omega (arith, e))
same-or-not (suc i) zero = inr (λ e. omega (arith, e))
same-or-not (suc i) (suc p) = elim (same-or-not i p) [ inl e ↦ inl (ap suc e) | inr ne ↦ inr (λ e. ne (omega (arith, e))) ]

-- what a process serves, where another is changed in other things
pub serving-set :
    (qs : List Process) (p i : ℕ) (q : Process)
    → q.serving ≡ (process_at qs p).serving
    → (process_at (set qs p q) i).serving ≡ (process_at qs i).serving
serving-set [] p i q h = refl
serving-set (r ∷ qs) zero zero q h = h
serving-set (r ∷ qs) zero (suc i) q h = refl
serving-set (r ∷ qs) (suc p) zero q h = refl
serving-set (r ∷ qs) (suc p) (suc i) q h = serving-set qs p i q h

pub serving-other : (qs : List Process) (p i : ℕ) (q : Process) → i ≢ p → (process_at (set qs p q) i).serving ≡ (process_at qs i).serving
serving-other [] p i q ne = refl
serving-other (r ∷ qs) zero zero q ne = absurd (ne refl)
serving-other (r ∷ qs) zero (suc i) q ne = refl
serving-other (r ∷ qs) (suc p) zero q ne = refl
serving-other (r ∷ qs) (suc p) (suc i) q ne = serving-other qs p i q (λ e. ne (ap suc e))

pub serving-own : (qs : List Process) (p : ℕ) (q : Process) → p < length qs → process_at (set qs p q) p ≡ q
serving-own [] p q lt = absurd (omega arith)
serving-own (r ∷ qs) zero q lt = refl
serving-own (r ∷ qs) (suc p) q lt = serving-own qs p q (omega arith)

pub serving-push : (qs : List Process) (q : Process) (i : ℕ) → q.serving ≡ [] → (process_at (qs ++ q ∷ []) i).serving ≡ (process_at qs i).serving
serving-push [] q zero h = h
serving-push [] q (suc i) h = refl
serving-push (r ∷ qs) q zero h = refl
serving-push (r ∷ qs) q (suc i) h = serving-push qs q i h

serving-answered_if :
    (qs : List Process) (caller i : ℕ) (grant : Grant) (b : Bool)
    → (process_at (if b then grant_to qs caller grant else qs) i).serving ≡ (process_at qs i).serving
serving-answered_if qs caller i grant true = serving-set qs caller i (granted (process_at qs caller) grant) refl
serving-answered_if qs caller i grant false = refl

serving-answered_by :
    (qs : List Process) (n i : ℕ) (grant : Grant) (o : Option Pid)
    → (process_at (option_map_or (λ (caller : Pid). if waits_for n (process_at qs caller.0).standing then grant_to qs caller.0 grant else qs) o qs) i).serving
    ≡ (process_at qs i).serving
serving-answered_by qs n i grant None = refl
serving-answered_by qs n i grant (Some caller) =
    serving-answered_if qs caller.0 i grant (waits_for n (process_at qs caller.0).standing)

pub serving-answered :
    (qs : List Process) (call : TransactionCall) (i : ℕ) (grant : Grant)
    → (process_at (answered qs call grant) i).serving ≡ (process_at qs i).serving
serving-answered qs call i grant = serving-answered_by qs call.number.0 i grant (caller_of call.waiting)

pub serving-gone :
    (qs : List Process) (calls : List TransactionCall) (i : ℕ)
    → (process_at (each_gets_gone qs calls) i).serving ≡ (process_at qs i).serving
serving-gone qs [] i = refl
serving-gone qs (call ∷ calls) i = serving-gone (answered qs call Gone) calls i ∙ serving-answered qs call i Gone

first-drop : (xs : List ℕ) (i : ℕ) → first_byte (drop i xs) ≡ slice_get xs i
first-drop [] zero = refl
first-drop [] (suc i) = refl
first-drop (x ∷ xs) zero = refl
first-drop (x ∷ xs) (suc i) = first-drop xs i

rest-suc : (xs : List ℕ) (i : ℕ) → drop (suc i) xs ≡ rest_of (drop i xs)
rest-suc [] zero = refl
rest-suc [] (suc i) = refl
rest-suc (x ∷ xs) zero = refl
rest-suc (x ∷ xs) (suc i) = rest-suc xs i

rest-past : (xs : List ℕ) (i : ℕ) → length xs ≤ i → drop i xs ≡ rest_of (drop i xs)
rest-past [] zero le = refl
rest-past [] (suc i) le = refl
rest-past (x ∷ xs) zero le = absurd (omega arith)
rest-past (x ∷ xs) (suc i) le = rest-past xs i (omega arith)

rest-drop : (xs : List ℕ) (i : ℕ) → drop (if nat_lt i (length xs) then i + 1 else i) xs ≡ rest_of (drop i xs)
rest-drop xs i =
    elim (nat_lt i (length xs)) as (λ b. nat_lt i (length xs) ≡ b → drop (if b then i + 1 else i) xs ≡ rest_of (drop i xs)) [
      | true ↦ λ e. ap (λ n. drop n xs) (add-one i) ∙ rest-suc xs i
      | false ↦ λ e. rest-past xs i (grind (arith, nat_tests))
    ] refl

pub map-append : {A B : Type 0} (f : A → B) (xs ys : List A) → map f (xs ++ ys) ≡ map f xs ++ map f ys
map-append f [] ys = refl
map-append f (x ∷ xs) ys = ap (λ zs. f x ∷ zs) (map-append f xs ys)

module _ {P : Type 0} (located : P → ℕ → List ℤ → List Grant → Type 0) where
  -- it goes on at once
  pub state-go :
      (s : State) (x : Contents P) (p : ℕ) (process : P) (grant : Grant)
      → IsState located s x
      → is_running (seat_at x.seats p).standing ≡ true
      → IsLocated located s p process
      → IsState located (record s { processes = grant_to s.processes p grant }) (went_on x p process grant)
  state-go s x p process grant k r is =
      record {
        seated = Seated-ready located s.processes x.seats p process grant (process_at s.processes p).serving k.seated is;
        few = rw length-set k.few;
        pending = k.pending;
        served = λ i. k.served i ∙ ap (map served_call) (sym (serving-set s.processes p i (granted (process_at s.processes p) grant) refl));
        drawn = k.drawn;
        input = k.input;
        moment = k.moment;
        rising = k.rising;
        timed = changed-timed x.seats x.pending x.deadlines p (with_ready process grant) (running-none (seat_at x.seats p).standing r) refl k.timed;
      }

  -- it waits
  pub state-wait :
      (s : State) (x : Contents P) (p : Pid) (process : P) (standing : ProcessStanding)
      → IsState located s x
      → is_running (seat_at x.seats p.0).standing ≡ true
      → p.0 < length x.seats
      → (is_over standing ≡ false) × (is_running standing ≡ false) × AreNumbered standing
      → IsLocated located s p.0 process
      → IsState located (record s { processes = with_standing s.processes p.0 standing }) (waited x p process standing)
  state-wait s x p process standing k r lt w is =
      record {
        seated = Seated-waiting located s.processes x.seats p.0 process standing k.seated w is;
        few = rw length-set k.few;
        pending = k.pending;
        served = λ i. k.served i ∙ ap (map served_call) (sym (serving-set s.processes p.0 i (record (process_at s.processes p.0) { standing = standing }) refl));
        drawn = k.drawn;
        input = k.input;
        moment = k.moment;
        rising = k.rising;
        timed = waits-timed x.seats x.pending x.deadlines p (with_waiting process standing) lt (running-none (seat_at x.seats p.0).standing r) k.timed;
      }

  -- it waits until the wait is over
  pub state-delay :
      (s : State) (x : Contents P) (p : Pid) (process : P) (wait : ℤ)
      → IsState located s x
      → is_running (seat_at x.seats p.0).standing ≡ true
      → p.0 < length x.seats
      → IsLocated located s p.0 process
      → IsState located (record s { processes = with_standing s.processes p.0 (AtDelay (deadline_after s.moment wait)) }) (delayed_contents x p process wait)
  state-delay s x p process wait k r lt is =
      let F : ℕ → Type 0 = λ n. IsState located (record s { processes = with_standing s.processes p.0 (AtDelay (deadline_after n wait)) }) (delayed_contents x p process wait) in
      subst F k.moment (state-wait s x p process (AtDelay (deadline_after x.moment wait)) k r lt (refl, refl, tt) is)

  -- a call is pending
  state-called :
      (s : State) (x : Contents P) (p : Pid) (process : P) (target : Pid) (trans : ℕ) (args : List ℤ) (waiting : Waiting)
      → IsState located s x
      → is_running (seat_at x.seats p.0).standing ≡ true
      → p.0 < length x.seats
      → IsLocated located s p.0 process
      → IsState located
      (called s (with_standing s.processes p.0 (AtCall (record { 0 = s.drawn }))) target trans args waiting)
      (called_contents (record x { pending = s.pending; drawn = s.drawn }) p process target trans args waiting)
  state-called s x p process target trans args waiting k r lt is =
      let standing : ProcessStanding = AtCall (record { 0 = s.drawn }) in
      let w = state-wait s x p process standing k r lt (refl, refl, tt) is in
      let call : TransactionCall = record { number = record { 0 = s.drawn }; target = target; trans = trans; args = args; waiting = waiting } in
      record {
        seated = w.seated;
        few = w.few;
        pending = refl;
        served = w.served;
        drawn = refl;
        input = k.input;
        moment = k.moment;
        rising = Rising-push 0 s.pending s.drawn call refl k.rising;
        timed =
            asked-timed (set x.seats p.0 (with_waiting process standing)) s.pending x.deadlines call (unasked 0 s.pending s.drawn k.rising)
            (subst (λ calls. AreDeadlines (set x.seats p.0 (with_waiting process standing)) calls x.deadlines) k.pending w.timed);
      }

  pub state-call :
      (s : State) (x : Contents P) (p : Pid) (process : P) (target : Pid) (trans : ℕ) (args : List ℤ) (waiting : Waiting)
      → IsState located s x
      → is_running (seat_at x.seats p.0).standing ≡ true
      → p.0 < length x.seats
      → IsLocated located s p.0 process
      → IsState located
      (called s (with_standing s.processes p.0 (AtCall (record { 0 = s.drawn }))) target trans args waiting)
      (called_contents x p process target trans args waiting)
  state-call s x p process target trans args waiting k r lt is =
      rw (k.pending, k.drawn) (state-called s x p process target trans args waiting k r lt is)

  -- it sends
  pub state-send :
      (s : State) (x : Contents P) (p : Pid) (process : P) (target : Pid) (trans : ℕ) (args : List ℤ)
      → IsState located s x
      → is_running (seat_at x.seats p.0).standing ≡ true
      → IsLocated located s p.0 process
      → IsState located (called s (grant_to s.processes p.0 Go) target trans args Nobody) (sent_contents x p process target trans args)
  state-send s x p process target trans args k r is =
      let go = state-go s x p.0 process Go k r is in
      let call : TransactionCall = record { number = record { 0 = s.drawn }; target = target; trans = trans; args = args; waiting = Nobody } in
      rw (k.pending, k.drawn)
      (record {
        seated = go.seated;
        few = go.few;
        pending = refl;
        served = go.served;
        drawn = refl;
        input = k.input;
        moment = k.moment;
        rising = Rising-push 0 s.pending s.drawn call refl k.rising;
        timed =
            asked-timed (set x.seats p.0 (with_ready process Go)) s.pending x.deadlines call (unasked 0 s.pending s.drawn k.rising)
            (subst (λ calls. AreDeadlines (set x.seats p.0 (with_ready process Go)) calls x.deadlines) k.pending go.timed);
      })

  -- it is over
  pub state-leave :
      (s : State) (x : Contents P) (p : ℕ) (standing : ProcessStanding) (left : List (ℕ × Who))
      → IsState located s x
      → p < length x.seats
      → (is_over standing ≡ true) × AreNumbered standing
      → AreDeadlines (left_contents x p standing left).seats (left_contents x p standing left).pending left
      → IsState located (ended s p standing) (left_contents x p standing left)
  state-leave s x p standing left k lt w timed =
      let q : Process = record (process_at s.processes p) { standing = standing; serving = [] } in
      record {
        seated =
            rw (k.pending, k.served p, ← gone_seats-append (set x.seats p (with_left standing)) (map served_call (filter (is_for p) s.pending)) (map served_call (process_at s.processes p).serving), ← map-append served_call (filter (is_for p) s.pending) (process_at s.processes p).serving)
            (Seated-gone located (set s.processes p q) (set x.seats p (with_left standing))
            (filter (is_for p) s.pending ++ (process_at s.processes p).serving)
            (Seated-left located s.processes x.seats p standing k.seated w));
        few =
            rw (
              length-gone (gone_seats (set x.seats p (with_left standing)) (map served_call (filter (is_for p) x.pending))) (x.served p),
              length-gone (set x.seats p (with_left standing)) (map served_call (filter (is_for p) x.pending)),
              length-set,
            )
            k.few;
        pending = ap (filter (λ call. not (is_for p call))) k.pending;
        served = λ i. left-served s x p q i k lt refl ∙ ap (map served_call) (sym (serving-gone (set s.processes p q) (filter (is_for p) s.pending ++ (process_at s.processes p).serving) i));
        drawn = k.drawn;
        input = k.input;
        moment = k.moment;
        rising = Rising-filter (λ call. not (is_for p call)) 0 s.pending s.drawn k.rising;
        timed = timed;
      }
    where
      left-served :
          (s : State) (x : Contents P) (p : ℕ) (q : Process) (i : ℕ)
          → IsState located s x
          → p < length x.seats
          → q.serving ≡ []
          → none_served x.served p i ≡ map served_call (process_at (set s.processes p q) i).serving
      left-served s x p q i k lt h =
          elim (same-or-not i p) [
            | inl same ↦
                ap (none_served x.served p) same
                ∙ none-served-own x.served p
                ∙ sym (ap (map served_call) (ap (λ (r : Process). r.serving) (ap (λ j. process_at (set s.processes p q) j) same ∙ serving-own s.processes p q (rw (Seated-length located s.processes x.seats k.seated) lt)) ∙ h))
            | inr ne ↦ none-served-other x.served p i ne ∙ k.served i ∙ ap (map served_call) (sym (serving-other s.processes p i q ne))
          ]

  -- it made another
  pub state-make :
      (s : State) (x : Contents P) (p : ℕ) (process new : P) (kind : ℕ) (args : List ℤ)
      → IsState located s x
      → is_running (seat_at x.seats p).standing ≡ true
      → length x.seats < most_processes
      → IsLocated located s p process
      → located new kind args []
      → IsState located
      (record s { processes = grant_to s.processes p (Made (record { 0 = length s.processes })) ++ made kind args ∷ [] })
      (made_contents x p process new)
  state-make s x p process new kind args k r lt is starts =
      let grant : Grant = Made (record { 0 = length s.processes }) in
      let go = state-go s x p process grant k r is in
      rw (← Seated-length located s.processes x.seats k.seated)
      (record {
        seated =
            Seated-push located (grant_to s.processes p grant) (set x.seats p (with_ready process grant)) (made kind args) (with_ready new Go) go.seated
            (record { standing = refl; whereabouts = (refl, ([], refl, starts)); numbered = tt });
        few = pushed-few (set x.seats p (with_ready process grant)) (with_ready new Go) (rw length-set lt);
        pending = k.pending;
        served = λ i. go.served i ∙ ap (map served_call) (sym (serving-push (grant_to s.processes p grant) (made kind args) i refl));
        drawn = k.drawn;
        input = k.input;
        moment = k.moment;
        rising = k.rising;
        timed = pushed-timed (set x.seats p (with_ready process grant)) x.pending x.deadlines (with_ready new Go) refl go.timed;
      })
    where
      pushed-few : (seats : List (Seat P)) (seat : Seat P) → length seats < most_processes → length (seats ++ seat ∷ []) ≤ most_processes
      pushed-few seats seat lt = let e = length-append seats (seat ∷ []) in let lt' : length seats < 4096 = lt in omega (arith, e)

  -- it took a byte
  pub state-get :
      (s : State) (x : Contents P) (p : ℕ) (process : P)
      → IsState located s x
      → is_running (seat_at x.seats p).standing ≡ true
      → IsLocated located s p process
      → IsState located
      (record s { processes = grant_to s.processes p (Byte (first_byte s.input)); input = rest_of s.input })
      (got_byte x p process)
  state-get s x p process k r is =
      let go = state-go s x p process (Byte (slice_get x.input x.taken)) k r is in
      rw (← k.input, first-drop)
      (record {
        seated = go.seated;
        few = go.few;
        pending = k.pending;
        served = go.served;
        drawn = k.drawn;
        input = rest-drop x.input x.taken;
        moment = k.moment;
        rising = k.rising;
        timed = go.timed;
      })
