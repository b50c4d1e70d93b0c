-- The collective end: what is kept follows the machine, and nothing comes after it.
use Rattle.std.proofs.Common.{◌≡◌, inl, inr, ℕ, suc, ◌+◌, ◌<◌, All, ℤ, Bool, true, false, ◌&&◌, ◌||◌, List, [], ◌∷◌, ◌++◌, length, map, refl, sym, ap, ◌∙◌, subst, arith, append_assoc, set}
use Rattle.std.specs.Prelude.{if◌then◌else◌}
use Rattle.std.specs.List.{enumerate_from, list_all, list_any}
use Rattle.std.proofs.lemmas.Bool.{cases_lt}
use Rattle.std.proofs.lemmas.List.{get_or_past}
use Rattle.std.proofs.lemmas.List.Elements.{All-append, All-push}
use Rattle.cc_base.specs.Meaning.{Meaning}
use Rattle.cc_base.specs.declared.request.Grant.{Grant}
use Rattle.cc_kernel.proofs.Plain.{AreLate, CallsAreLate, false-from, not-unsettled, over-quiet}
use Rattle.cc_kernel.proofs.Timed.{of-standing, over-none, stands-for}
use Rattle.cc_kernel.specs.Timed.{AreDeadlines, call_due, deadline_of, is_moment}
use Rattle.cc_timer.specs.declared.who.Who.TheVariants as who
use Rattle.cc_kernel.proofs.Seated.{Seated-length, out-running, same-standing}
use Rattle.cc_kernel.specs.Choice.{after_end, due_in, seat_may_end, seat_waits, waits_so}
use Rattle.cc_kernel.specs.Counted.{ended_seat, may_terminate}
use Rattle.cc_kernel.specs.Settles.{GoesOn, IsCalm, Settles}
use Rattle.cc_kernel.specs.Store.{Contents, IsState, SeatFits, Seated, ended_contents}
use Rattle.cc_kernel.specs.Seats.{is_out, seat_at, served_call, vacant, with_left}
use Rattle.cc_kernel.specs.declared.seat.Seat.{Seat}
use Rattle.cc_kernel.proofs.Places.{enumerated-length}
use Rattle.cc_kernel.proofs.Settling.{any-time}
use Rattle.cc_kernel.proofs.Walking.{walked, walked-at, walked-keep, walked-set}
use Rattle.cc_rules.proofs.Bools.{both-ways}
use Rattle.cc_rules.proofs.EndIsLast.{ended-over}
use Rattle.cc_rules.proofs.GoOn.{IsRunFrom-append, after-append}
use Rattle.cc_rules.specs.Choice.{every_process}
use Rattle.cc_rules.proofs.CollectiveEnd.{length-all_ended, over_or_waits}
use Rattle.cc_rules.proofs.NextStays.{all_ended-at}
use Rattle.cc_rules.specs.Ends.{is_due, waits_at_terminate}
use Rattle.cc_rules.specs.Events.{all_ended, next}
use Rattle.cc_rules.specs.Runs.{after, is_settling}
use Rattle.cc_rules.specs.State.{Process, State, is_over, is_running, nobody, process_at}
use Rattle.cc_rules.specs.declared.event.Event.{Event}
use Rattle.cc_rules.specs.declared.event.Event.TheVariants.{End}
use Rattle.cc_rules.specs.declared.process.ProcessStanding.{ProcessStanding}
use Rattle.cc_rules.specs.declared.process.ProcessStanding.TheVariants.{Running, AtSelect, AtDelay, AtCall, Ended, Faulted}
use Rattle.cc_rules.specs.declared.process.TransactionCall.{TransactionCall}

every-same : {X Y : Type 0} (f g : ℕ → Bool) → ((p : ℕ) → f p ≡ g p) → (n : ℕ) (xs : List X) (ys : List Y) → length xs ≡ length ys → list_all (λ e. f e.0) (enumerate_from n xs) ≡ list_all (λ e. g e.0) (enumerate_from n ys)
every-same f g h n [] [] l = refl
every-same f g h n [] (y ∷ ys) l = absurd (omega (arith, l))
every-same f g h n (x ∷ xs) [] l = absurd (omega (arith, l))
every-same f g h n (x ∷ xs) (y ∷ ys) l = rw (h n, every-same f g h (n + 1) xs ys (omega (arith, l))) refl

some-same : {X Y : Type 0} (f g : ℕ → Bool) → ((p : ℕ) → f p ≡ g p) → (n : ℕ) (xs : List X) (ys : List Y) → length xs ≡ length ys → list_any (λ e. f e.0) (enumerate_from n xs) ≡ list_any (λ e. g e.0) (enumerate_from n ys)
some-same f g h n [] [] l = refl
some-same f g h n [] (y ∷ ys) l = absurd (omega (arith, l))
some-same f g h n (x ∷ xs) [] l = absurd (omega (arith, l))
some-same f g h n (x ∷ xs) (y ∷ ys) l = rw (h n, some-same f g h (n + 1) xs ys (omega (arith, l))) refl

-- one seat of a list that is changed in place
module _ {P : Type 0} (seats : List (Seat P)) where
  pub end-step :
      (now : List (Seat P)) (i : ℕ)
      → i < length seats
      → now ≡ walked vacant ended_seat 0 i seats
      → (if may_terminate (seat_at now i).standing then set now i (with_left Ended) else now) ≡ walked vacant ended_seat 0 (i + 1) seats
  end-step now i lt same =
      ap (λ xs. if may_terminate (seat_at xs i).standing then set xs i (with_left Ended) else xs) same
      ∙ ap (λ (st : Seat P). if may_terminate st.standing then set (walked vacant ended_seat 0 i seats) i (with_left Ended) else walked vacant ended_seat 0 i seats) (walked-at vacant ended_seat i seats lt)
      ∙ step (may_terminate (seat_at seats i).standing) refl
    where
      step :
          (b : Bool)
          → may_terminate (seat_at seats i).standing ≡ b
          → (if b then set (walked vacant ended_seat 0 i seats) i (with_left Ended) else walked vacant ended_seat 0 i seats)
          ≡ walked vacant ended_seat 0 (i + 1) seats
      step true e =
          ap (set (walked vacant ended_seat 0 i seats) i) (sym (ap (λ b. if b then with_left Ended else seat_at seats i) e))
          ∙ walked-set vacant ended_seat i seats lt
      step false e = walked-keep vacant ended_seat i seats lt (ap (λ b. if b then with_left Ended else seat_at seats i) e)

module _ {P : Type 0} (m : Meaning) (located : P → ℕ → List ℤ → List Grant → Type 0) where
  -- who waits at `terminate`, as the seats tell it
  waits-same : (s : State) (x : Contents P) (p : ℕ) → IsState located s x → seat_waits m x.seats x.pending p ≡ waits_at_terminate m s p
  waits-same s x p k =
      ap (λ st. waits_so m p st x.pending) (same-standing located s.processes x.seats p k.seated)
      ∙ ap (waits_so m p (process_at s.processes p).standing) k.pending

  may-end-same : (s : State) (x : Contents P) (p : ℕ) → IsState located s x → seat_may_end m x.seats x.pending p ≡ over_or_waits m s p
  may-end-same s x p k =
      ap (λ st. is_over st || seat_waits m x.seats x.pending p) (same-standing located s.processes x.seats p k.seated)
      ∙ ap (λ b. is_over (process_at s.processes p).standing || b) (waits-same s x p k)

  -- whether the collective end is due, as the seats tell it
  pub due-same : (s : State) (x : Contents P) → IsState located s x → due_in m x.seats x.pending ≡ is_due m s
  due-same s x k =
      let l = sym (Seated-length located s.processes x.seats k.seated) in
      ap (λ b. b && list_any (λ e. seat_waits m x.seats x.pending e.0) (enumerate_from 0 x.seats))
      (every-same (seat_may_end m x.seats x.pending) (over_or_waits m s) (λ p. may-end-same s x p k) 0 x.seats s.processes l)
      ∙ ap (λ b. every_process (over_or_waits m s) s && b)
      (some-same (seat_waits m x.seats x.pending) (waits_at_terminate m s) (λ p. waits-same s x p k) 0 x.seats s.processes l)

  ended-fits : (q : Process) (seat : Seat P) (b : Bool) → SeatFits located q seat → SeatFits located (if b then record q { standing = Ended; serving = [] } else q) (if b then with_left Ended else seat)
  ended-fits q seat true h = record { standing = refl; whereabouts = refl; numbered = tt }
  ended-fits q seat false h = h

  ended-seated :
      (w : ℕ → Bool) (v : ℕ → Bool) (same : (p : ℕ) → v p ≡ w p)
      (n : ℕ) (qs : List Process) (seats : List (Seat P))
      → Seated located qs seats
      → Seated located
      (map (λ e. if w e.0 then record e.1 { standing = Ended; serving = [] } else e.1) (enumerate_from n qs))
      (map (λ e. if v e.0 then with_left Ended else e.1) (enumerate_from n seats))
  ended-seated w v same n [] [] h = tt
  ended-seated w v same n (q ∷ qs) (seat ∷ seats) h = (rw same (ended-fits q seat (w n) h.0), ended-seated w v same (n + 1) qs seats h.1)
  ended-seated w v same n [] (seat ∷ seats) h = absurd h
  ended-seated w v same n (q ∷ qs) [] h = absurd h

  -- who waits at `terminate` is not out
  ended-outs :
      (v : ℕ → Bool) (n : ℕ) (qs : List Process) (seats : List (Seat P))
      → Seated located qs seats
      → ((i : ℕ) → v (n + i) ≡ true → is_running (seat_at seats i).standing ≡ false)
      → map is_out (map (λ e. if v e.0 then with_left Ended else e.1) (enumerate_from n seats)) ≡ map is_out seats
  ended-outs v n [] [] h w = refl
  ended-outs v n (q ∷ qs) (seat ∷ seats) h w =
      let here : n + 0 ≡ n = omega arith in
      let F : List Bool → List Bool = λ bs. is_out seat ∷ bs in
      ap (λ b. b ∷ map is_out (map (λ e. if v e.0 then with_left Ended else e.1) (enumerate_from (n + 1) seats)))
      (same-out q seat (v n) h.0 (λ e. w 0 (ap v here ∙ e)))
      ∙ ap F (ended-outs v (n + 1) qs seats h.1 (λ i e. w (suc i) (let there : n + suc i ≡ n + 1 + i = omega arith in ap v there ∙ e)))
    where
      same-out : (q : Process) (seat : Seat P) (b : Bool) → SeatFits located q seat → (b ≡ true → is_running seat.standing ≡ false) → is_out (if b then with_left Ended else seat) ≡ is_out seat
      same-out q seat true h w =
          sym (false-from (is_out seat) (λ out. both-ways (is_running q.standing) (out-running located q seat h out) (ap is_running (sym h.standing) ∙ w refl)))
      same-out q seat false h w = refl
  ended-outs v n [] (seat ∷ seats) h w = absurd h
  ended-outs v n (q ∷ qs) [] h w = absurd h

  waiting-runs-not : (p : ℕ) (x : ProcessStanding) (calls : List TransactionCall) → waits_so m p x calls ≡ true → is_running x ≡ false
  waiting-runs-not p Running calls h = cc
  waiting-runs-not p (AtSelect alts asked) calls h = refl
  waiting-runs-not p (AtDelay deadline) calls h = refl
  waiting-runs-not p (AtCall call) calls h = refl
  waiting-runs-not p Ended calls h = cc
  waiting-runs-not p (Faulted kind) calls h = cc

  pub outs-ended : (s : State) (x : Contents P) → IsState located s x → map is_out (ended_contents m x).seats ≡ map is_out x.seats
  outs-ended s x k =
      ended-outs (seat_waits m x.seats x.pending) 0 s.processes x.seats k.seated
      (λ i e. let here : 0 + i ≡ i = omega arith in waiting-runs-not i (seat_at x.seats i).standing x.pending (ap (seat_waits m x.seats x.pending) (sym here) ∙ e))

  if-nil : {A B : Type 0} (f : A → B) (b : Bool) (xs : List A) → (if b then [] else map f xs) ≡ map f (if b then [] else xs)
  if-nil f true xs = refl
  if-nil f false xs = refl

  serving-if : (q : Process) (b : Bool) → (if b then record q { standing = Ended; serving = [] } else q).serving ≡ (if b then [] else q.serving)
  serving-if q true = refl
  serving-if q false = refl

  nil-either : {A : Type 0} (b : Bool) (xs : List A) → (if b then xs else xs) ≡ xs
  nil-either true xs = refl
  nil-either false xs = refl

  -- what each serves after the collective end
  ended-serving : (s : State) (i : ℕ) → (process_at (all_ended m s).processes i).serving ≡ (if waits_at_terminate m s i then [] else (process_at s.processes i).serving)
  ended-serving s i =
      elim (cases_lt i (length s.processes)) [
        | inl lt ↦ ap (λ (q : Process). q.serving) (all_ended-at m s i lt) ∙ serving-if (process_at s.processes i) (waits_at_terminate m s i)
        | inr past ↦
            ap (λ (q : Process). q.serving) (get_or_past (all_ended m s).processes i nobody (let same = length-all_ended m s in omega arith))
            ∙ sym (ap (λ (q : Process). if waits_at_terminate m s i then [] else q.serving) (get_or_past s.processes i nobody past) ∙ nil-either (waits_at_terminate m s i) [])
      ]

  length-map' : (f : ℕ × Seat P → Seat P) (xs : List (ℕ × Seat P)) → length (map f xs) ≡ length xs
  length-map' f [] = refl
  length-map' f (x ∷ xs) = ap suc (length-map' f xs)

  -- where no kept deadline has come, none of a process has
  late-at : (s : State) (x : Contents P) → IsState located s x → All (λ d. x.moment < d.0) x.deadlines → AreLate s
  late-at s x k later p n e =
      rw (← k.moment)
      (of-standing (λ d. x.moment < d.0) x.deadlines n (who.Process (record { 0 = p })) later
      (stands-for x.seats x.pending x.deadlines (who.Process (record { 0 = p })) n k.timed (ap deadline_of (same-standing located s.processes x.seats p k.seated) ∙ e)))

  calls-late-at : (s : State) (x : Contents P) → IsState located s x → All (λ d. x.moment < d.0) x.deadlines → CallsAreLate s
  calls-late-at s x k later c n e =
      rw (← k.moment)
      (of-standing (λ d. x.moment < d.0) x.deadlines n (who.Call (record { 0 = c })) later
      (stands-for x.seats x.pending x.deadlines (who.Call (record { 0 = c })) n k.timed (ap (λ calls. call_due calls c) k.pending ∙ e)))

  -- after the collective end no deadline stands
  none-timed : (s : State) (seats : List (Seat P)) → Seated located s.processes seats → ((p : ℕ) → is_over (process_at s.processes p).standing ≡ true) → AreDeadlines seats [] []
  none-timed s seats seated over n (who.Process p) =
      sym (ap (is_moment n) (over-none (seat_at seats p.0).standing (ap is_over (same-standing located s.processes seats p.0 seated) ∙ over p.0)))
  none-timed s seats seated over n (who.Call c) = refl

  -- the collective end comes
  state-ended : (s : State) (x : Contents P) → IsState located s x → is_due m s ≡ true → IsState located (all_ended m s) (ended_contents m x)
  state-ended s x k due =
      let seated = ended-seated (waits_at_terminate m s) (seat_waits m x.seats x.pending) (λ p. waits-same s x p k) 0 s.processes x.seats k.seated in
      record {
        seated = seated;
        few = rw (length-map' (after_end m x.seats x.pending) (enumerate_from 0 x.seats), enumerated-length vacant 0 x.seats) k.few;
        pending = refl;
        served = λ i.
            ap (λ b. if b then [] else x.served i) (waits-same s x i k)
            ∙ ap (λ calls. if waits_at_terminate m s i then [] else calls) (k.served i)
            ∙ if-nil served_call (waits_at_terminate m s i) (process_at s.processes i).serving
            ∙ ap (map served_call) (sym (ended-serving s i));
        drawn = k.drawn;
        input = k.input;
        moment = k.moment;
        rising = omega arith;
        timed = none-timed (all_ended m s) (ended_contents m x).seats seated (ended-over m s due);
      }

  -- the machine has settled by the collective end
  pub settles-ended :
      (first : State) (before events : List Event) (x : Contents P)
      → GoesOn m located first before events x
      → due_in m x.seats x.pending ≡ true
      → Settles m located first before (events ++ End ∷ []) (ended_contents m x)
  settles-ended first before events x g h =
      let s = after m first g.more in
      let due : is_due m s ≡ true = sym (due-same s x g.state) ∙ h in
      let ended : IsState located (next m s End) (ended_contents m x) = any-time m located (all_ended m s) (ended_contents m x) false (state-ended s x g.state due) in
      record {
        goes_on =
            record {
              more = g.more ++ End ∷ [];
              journal = ap (λ xs. xs ++ End ∷ []) g.journal ∙ append_assoc before g.more (End ∷ []);
              settles = All-push (λ e. is_settling e ≡ true) g.more End g.settles refl;
              runs = IsRunFrom-append m first g.more (End ∷ []) g.runs (rw due refl, tt);
              state = rw (after-append m first g.more (End ∷ [])) ended;
            };
        settled =
            rw (after-append m first g.more (End ∷ []))
            (over-quiet m (next m s End) refl (ended-over m s due));
      }

  -- or it has where nothing can be taken, the collective end is not due and no deadline has come
  pub settles-calm :
      (first : State) (before events : List Event) (x : Contents P)
      → GoesOn m located first before events x
      → ((s : State) → IsState located s x → IsCalm m s)
      → due_in m x.seats x.pending ≡ false
      → All (λ d. x.moment < d.0) x.deadlines
      → Settles m located first before events x
  settles-calm first before events x g calm h later =
      let s = after m first g.more in
      record {
        goes_on = g;
        settled =
            not-unsettled m s (late-at s x g.state later) (calls-late-at s x g.state later) g.state.rising (calm s g.state)
            (sym (due-same s x g.state) ∙ h);
      }

  -- it goes on by settling events, and then it has settled
  pub settles-after :
      (first : State) (before mid events : List Event) (x y : Contents P)
      → (g : GoesOn m located first before mid x)
      → Settles m located (after m first g.more) mid events y
      → Settles m located first before events y
  settles-after first before mid events x y g done =
      let es = done.goes_on.more in
      let F : List Event → Type 0 = λ front. events ≡ front ++ es in
      record {
        goes_on =
            record {
              more = g.more ++ es;
              journal = subst F g.journal done.goes_on.journal ∙ append_assoc before g.more es;
              settles = All-append (λ e. is_settling e ≡ true) g.more es g.settles done.goes_on.settles;
              runs = IsRunFrom-append m first g.more es g.runs done.goes_on.runs;
              state = rw (after-append m first g.more es) done.goes_on.state;
            };
        settled = rw (after-append m first g.more es) done.settled;
      }
