-- What each request does to what is kept.
use Rattle.std.proofs.Common.{◌≡◌, ℕ, zero, suc, ◌<◌, ℤ, Bool, true, false, not, List, [], ◌∷◌, ◌++◌, length, set, map, refl, sym, ap, ◌∙◌, subst, arith}
use Rattle.std.specs.Prelude.{if◌then◌else◌, nat_lt, pos, replicate}
use Rattle.std.proofs.lemmas.Bool.Decides.{nat_tests}
use Rattle.std.proofs.lemmas.List.{map-set}
use Rattle.cc_base.specs.Alternatives.{NumbersRise}
use Rattle.cc_base.specs.Meaning.{Meaning}
use Rattle.cc_base.specs.declared.alternatives.Alt.{Alt}
use Rattle.cc_base.specs.declared.names.FaultKind.TheVariants.{TooMany}
use Rattle.cc_base.specs.declared.names.Pid.{Pid}
use Rattle.cc_base.specs.declared.request.Grant.{Grant}
use Rattle.cc_base.specs.declared.request.Grant.TheVariants.{Go, Gone, Made}
use Rattle.cc_base.specs.declared.request.Request.TheVariants.{Call, Create, Send, TimedCall}
use Rattle.cc_kernel.proofs.Outs.{outs-gone}
use Rattle.cc_kernel.proofs.Seated.{Seated-length, same-standing}
use Rattle.cc_kernel.proofs.Simulates.{map-append, state-call, state-go, state-leave, state-make, state-send, state-wait}
use Rattle.cc_kernel.specs.Contract.{Answering, IsEnoughFor, Making, SameOuts, is_out_in}
use Rattle.cc_kernel.specs.Invariant.{IsReadyFor, prepared_for}
use Rattle.cc_kernel.specs.Store.{IsLocated, IsState, Contents, called_contents, left_contents, made_contents, sent_contents, waited, went_on}
use Rattle.cc_kernel.specs.Seats.{is_out, seat_at, served_call, with_left, with_ready, with_waiting}
use Rattle.cc_kernel.specs.declared.store.Store.{Store}
use Rattle.cc_kernel.specs.declared.need.Need.{Need}
use Rattle.cc_kernel.specs.declared.need.Need.TheVariants as need
use Rattle.cc_kernel.specs.declared.seat.Seat.{Seat}
use Rattle.cc_kernel.specs.Stacks.{AreWithin, served_by}
use Rattle.cc_kernel.specs.declared.served.ServedCall.{ServedCall}
use Rattle.cc_kernel.proofs.Stacks.{within-left, within-same}
use Rattle.cc_base.specs.Limits.{most_processes}
use Rattle.cc_kernel.specs.Timed.{AreDeadlines}
use Rattle.cc_rules.specs.Effects.{called, deadline_after, effect, ended, grant_to, is_for, is_there, with_standing}
use Rattle.cc_rules.specs.State.{State, is_over, is_running, made, process_at}
use Rattle.std.specs.List.{filter}
use Rattle.cc_rules.specs.declared.process.ProcessStanding.{ProcessStanding}
use Rattle.cc_rules.specs.declared.process.ProcessStanding.TheVariants.{AtCall, AtSelect, Faulted}
use Rattle.cc_rules.specs.declared.process.Waiting.{Waiting}
use Rattle.cc_rules.specs.declared.process.Waiting.TheVariants.{Caller, Nobody, Until}
use Rattle.cc_timer.specs.declared.who.Who.{Who}

-- what is kept has the deadlines that stand
abbrev pub AreTimed : {P : Type 0} → Contents P → Type 0
AreTimed x = AreDeadlines x.seats x.pending x.deadlines

module _ {P : Type 0} (m : Meaning) (located : P → ℕ → List ℤ → List Grant → Type 0) where
  -- it calls
  asks-call :
      (s : State) (x : Contents P) (p : Pid) (process : P) (target : Pid) (trans : ℕ) (args : List ℤ) (waiting : Waiting)
      → IsState located s x
      → is_running (seat_at x.seats p.0).standing ≡ true
      → p.0 < length x.seats
      → IsLocated located s p.0 process
      → IsState located
      (if is_there s target
      then called s (with_standing s.processes p.0 (AtCall (record { 0 = s.drawn }))) target trans args waiting
      else record s { processes = grant_to s.processes p.0 Gone })
      (if is_over (seat_at x.seats target.0).standing then went_on x p.0 process Gone else called_contents x p process target trans args waiting)
  asks-call s x p process target trans args waiting k r lt is =
      rw (same-standing located s.processes x.seats target.0 k.seated) (either (is_over (process_at s.processes target.0).standing))
    where
      either :
          (b : Bool)
          → IsState located
          (if not b
          then called s (with_standing s.processes p.0 (AtCall (record { 0 = s.drawn }))) target trans args waiting
          else record s { processes = grant_to s.processes p.0 Gone })
          (if b then went_on x p.0 process Gone else called_contents x p process target trans args waiting)
      either true = state-go located s x p.0 process Gone k r is
      either false = state-call located s x p process target trans args waiting k r lt is

  pub state-asks-call :
      (s : State) (x : Contents P) (p : Pid) (process : P) (target : Pid) (trans : ℕ) (args : List ℤ)
      → IsState located s x
      → is_running (seat_at x.seats p.0).standing ≡ true
      → p.0 < length x.seats
      → IsLocated located s p.0 process
      → IsState located (effect m s p (Call target trans args))
      (if is_over (seat_at x.seats target.0).standing then went_on x p.0 process Gone else called_contents x p process target trans args (Caller p))
  state-asks-call s x p process target trans args k r lt is = asks-call s x p process target trans args (Caller p) k r lt is

  -- until a moment
  pub state-asks-timed :
      (s : State) (x : Contents P) (p : Pid) (process : P) (target : Pid) (trans : ℕ) (args : List ℤ) (wait : ℤ)
      → IsState located s x
      → is_running (seat_at x.seats p.0).standing ≡ true
      → p.0 < length x.seats
      → IsLocated located s p.0 process
      → IsState located (effect m s p (TimedCall target trans args wait))
      (if is_over (seat_at x.seats target.0).standing
      then went_on x p.0 process Gone
      else called_contents x p process target trans args (Until p (deadline_after x.moment wait)))
  state-asks-timed s x p process target trans args wait k r lt is =
      let F : ℕ → Type 0 = λ n.
      IsState located
      (if is_there s target
      then called s (with_standing s.processes p.0 (AtCall (record { 0 = s.drawn }))) target trans args (Until p (deadline_after n wait))
      else record s { processes = grant_to s.processes p.0 Gone })
      (if is_over (seat_at x.seats target.0).standing
      then went_on x p.0 process Gone
      else called_contents x p process target trans args (Until p (deadline_after x.moment wait))) in
      subst F k.moment (asks-call s x p process target trans args (Until p (deadline_after x.moment wait)) k r lt is)

  -- it sends
  pub state-asks-send :
      (s : State) (x : Contents P) (p : Pid) (process : P) (target : Pid) (trans : ℕ) (args : List ℤ)
      → IsState located s x
      → is_running (seat_at x.seats p.0).standing ≡ true
      → IsLocated located s p.0 process
      → IsState located (effect m s p (Send target trans args))
      (if is_over (seat_at x.seats target.0).standing then went_on x p.0 process Go else sent_contents x p process target trans args)
  state-asks-send s x p process target trans args k r is =
      rw (same-standing located s.processes x.seats target.0 k.seated) (either (is_over (process_at s.processes target.0).standing))
    where
      either :
          (b : Bool)
          → IsState located
          (if not b
          then called s (grant_to s.processes p.0 Go) target trans args Nobody
          else record s { processes = grant_to s.processes p.0 Go })
          (if b then went_on x p.0 process Go else sent_contents x p process target trans args)
      either true = state-go located s x p.0 process Go k r is
      either false = state-send located s x p process target trans args k r is

  -- it waits for one of these alternatives
  pub state-asks-select :
      (s : State) (x : Contents P) (p : Pid) (process : P) (alts : List (ℕ × Alt))
      → IsState located s x
      → is_running (seat_at x.seats p.0).standing ≡ true
      → p.0 < length x.seats
      → NumbersRise alts
      → IsLocated located s p.0 process
      → IsState located (record s { processes = with_standing s.processes p.0 (AtSelect alts s.moment) }) (waited x p process (AtSelect alts x.moment))
  state-asks-select s x p process alts k r lt rising is =
      let F : ℕ → Type 0 = λ n. IsState located (record s { processes = with_standing s.processes p.0 (AtSelect alts n) }) (waited x p process (AtSelect alts x.moment)) in
      subst F k.moment (state-wait located s x p process (AtSelect alts x.moment) k r lt (refl, refl, rising) is)

  -- it makes another, where there are not too many
  pub state-asks-create :
      (s : State) (x : Contents P) (p : Pid) (process new : P) (kind : ℕ) (args : List ℤ) (left : List (ℕ × Who))
      → IsState located s x
      → is_running (seat_at x.seats p.0).standing ≡ true
      → p.0 < length x.seats
      → IsLocated located s p.0 process
      → located new kind args []
      → AreTimed (if nat_lt (length x.seats) most_processes then made_contents x p.0 process new else left_contents x p.0 (Faulted TooMany) left)
      → IsState located (effect m s p (Create kind args))
      (if nat_lt (length x.seats) most_processes then made_contents x p.0 process new else left_contents x p.0 (Faulted TooMany) left)
  state-asks-create s x p process new kind args left k r lt is starts timed =
      let F : ℕ → Type 0 = λ n.
      IsState located
      (if nat_lt n most_processes
      then record s { processes = grant_to s.processes p.0 (Made (record { 0 = length s.processes })) ++ made kind args ∷ [] }
      else ended s p.0 (Faulted TooMany))
      (if nat_lt (length x.seats) most_processes then made_contents x p.0 process new else left_contents x p.0 (Faulted TooMany) left) in
      subst F (sym (Seated-length located s.processes x.seats k.seated)) (either (nat_lt (length x.seats) most_processes) refl timed)
    where
      below : (n k : ℕ) → nat_lt n k ≡ true → n < k
      below n k e = grind (arith, nat_tests)

      either :
          (b : Bool)
          → nat_lt (length x.seats) most_processes ≡ b
          → AreTimed (if b then made_contents x p.0 process new else left_contents x p.0 (Faulted TooMany) left)
          → IsState located
          (if b
          then record s { processes = grant_to s.processes p.0 (Made (record { 0 = length s.processes })) ++ made kind args ∷ [] }
          else ended s p.0 (Faulted TooMany))
          (if b then made_contents x p.0 process new else left_contents x p.0 (Faulted TooMany) left)
      either true e h = state-make located s x p.0 process new kind args k r (below (length x.seats) most_processes e) is starts
      either false e h = state-leave located s x p.0 (Faulted TooMany) left k lt (refl, tt) h

  -- what was started for a Create
  pub start-made :
      (store : Store P) (events : ℕ) (x : Need P) (kind kind' : ℕ) (args args' : List ℤ) (new : P)
      → x ≡ need.Making kind args new
      → IsEnoughFor (prepared_for x) (Create kind' args')
      → IsReadyFor m located store events x
      → located new kind' args' []
  start-made store events x kind kind' args args' new e enough ready =
      let F : Need P → Type 0 = λ y. IsReadyFor m located store events y in
      let h = subst F e ready in
      let same : Making kind args ≡ Making kind' args' = sym (ap prepared_for e) ∙ enough in
      let same-kind : kind ≡ kind' = cc in
      let same-args : args ≡ args' = cc in
      rw (← same-kind, ← same-args) h.1

  -- what was made for a Reply
  pub answer-made :
      (store : Store P) (events : ℕ) (x : Need P) (value asked : List ℤ) (zeros zeros' : ℕ)
      → x ≡ need.Answering value zeros
      → prepared_for x ≡ Answering (asked ++ replicate zeros' (pos 0)) zeros'
      → IsReadyFor m located store events x
      → (value ≡ asked ++ replicate zeros' (pos 0)) × AreWithin m zeros' (served_by store.served)
  answer-made store events x value asked zeros zeros' e enough ready =
      let F : Need P → Type 0 = λ y. IsReadyFor m located store events y in
      let h = subst F e ready in
      let same : Answering value zeros ≡ Answering (asked ++ replicate zeros' (pos 0)) zeros' = sym (ap prepared_for e) ∙ enough in
      let same-value : value ≡ asked ++ replicate zeros' (pos 0) = cc in
      let same-zeros : zeros ≡ zeros' = cc in
      (same-value, rw (← same-zeros) h.1)

push-out : (outs : List Bool) (i : ℕ) → is_out_in (outs ++ false ∷ []) i ≡ is_out_in outs i
push-out [] zero = refl
push-out [] (suc i) = refl
push-out (b ∷ outs) zero = refl
push-out (b ∷ outs) (suc i) = push-out outs i

pub same-outs : (outs outs' : List Bool) → outs ≡ outs' → SameOuts outs outs'
same-outs outs outs' e p = ap (λ xs. is_out_in xs p) e

module _ {P : Type 0} where
  -- who is out, where a process is over
  pub outs-left :
      (x : Contents P) (p : ℕ) (standing : ProcessStanding) (left : List (ℕ × Who))
      → map is_out (left_contents x p standing left).seats ≡ set (map is_out x.seats) p false
  outs-left x p standing left =
      outs-gone (_) (x.served p)
      ∙ outs-gone (set x.seats p (with_left standing)) (map served_call (filter (is_for p) x.pending))
      ∙ map-set is_out x.seats p (with_left standing)

  pub outs-call :
      (x : Contents P) (p : Pid) (process : P) (target : Pid) (trans : ℕ) (args : List ℤ) (waiting : Waiting) (b : Bool)
      → map is_out (if b then went_on x p.0 process Gone else called_contents x p process target trans args waiting).seats ≡ set (map is_out x.seats) p.0 false
  outs-call x p process target trans args waiting true = map-set is_out x.seats p.0 (with_ready process Gone)
  outs-call x p process target trans args waiting false = map-set is_out x.seats p.0 (with_waiting process (AtCall (record { 0 = x.drawn })))

  pub outs-send :
      (x : Contents P) (p : Pid) (process : P) (target : Pid) (trans : ℕ) (args : List ℤ) (b : Bool)
      → map is_out (if b then went_on x p.0 process Go else sent_contents x p process target trans args).seats ≡ set (map is_out x.seats) p.0 false
  outs-send x p process target trans args true = map-set is_out x.seats p.0 (with_ready process Go)
  outs-send x p process target trans args false = map-set is_out x.seats p.0 (with_ready process Go)

  -- a new process is not out
  pub outs-create :
      (x : Contents P) (p : ℕ) (process new : P) (standing : ProcessStanding) (left : List (ℕ × Who)) (b : Bool)
      → SameOuts (map is_out (if b then made_contents x p process new else left_contents x p standing left).seats) (set (map is_out x.seats) p false)
  outs-create x p process new standing left true i =
      let seat : Seat P = with_ready process (Made (record { 0 = length x.seats })) in
      ap (λ xs. is_out_in xs i) (map-append is_out (set x.seats p seat) (with_ready new Go ∷ []))
      ∙ push-out (map is_out (set x.seats p seat)) i
      ∙ ap (λ xs. is_out_in xs i) (map-set is_out x.seats p seat)
  outs-create x p process new standing left false i = ap (λ xs. is_out_in xs i) (outs-left x p standing left)

module _ {P : Type 0} (m : Meaning) (x : Contents P) (most most' : ℕ) (by : ℕ → List ServedCall) where
  -- the most cells of a served call, where a process is over
  pub cells-left :
      (p : ℕ) (standing : ProcessStanding) (left : List (ℕ × Who))
      → most' ≡ most
      → by ≡ (left_contents x p standing left).served
      → AreWithin m most x.served
      → AreWithin m most' by
  cells-left p standing left e k h = within-left m most most' x.served by p e k h

  pub cells-call :
      (p : Pid) (process : P) (target : Pid) (trans : ℕ) (args : List ℤ) (waiting : Waiting) (b : Bool)
      → most' ≡ most
      → by ≡ (if b then went_on x p.0 process Gone else called_contents x p process target trans args waiting).served
      → AreWithin m most x.served
      → AreWithin m most' by
  cells-call p process target trans args waiting true e k h = within-same m most most' x.served by e k h
  cells-call p process target trans args waiting false e k h = within-same m most most' x.served by e k h

  pub cells-send :
      (p : Pid) (process : P) (target : Pid) (trans : ℕ) (args : List ℤ) (b : Bool)
      → most' ≡ most
      → by ≡ (if b then went_on x p.0 process Go else sent_contents x p process target trans args).served
      → AreWithin m most x.served
      → AreWithin m most' by
  cells-send p process target trans args true e k h = within-same m most most' x.served by e k h
  cells-send p process target trans args false e k h = within-same m most most' x.served by e k h

  pub cells-create :
      (p : ℕ) (process new : P) (standing : ProcessStanding) (left : List (ℕ × Who)) (b : Bool)
      → most' ≡ most
      → by ≡ (if b then made_contents x p process new else left_contents x p standing left).served
      → AreWithin m most x.served
      → AreWithin m most' by
  cells-create p process new standing left true e k h = within-same m most most' x.served by e k h
  cells-create p process new standing left false e k h = cells-left p standing left e k h
