-- Who can take nothing stays so, but for whom an Ask rouses.
use Rattle.std.proofs.Common.{◌≡◌, ◌≢◌, inl, inr, ℕ, zero, suc, ◌+◌, ◌<◌, ℤ, Bool, true, false, ◌&&◌, ◌||◌, not, List, [], ◌∷◌, ◌++◌, length, get_or, set, map, refl, sym, ap, ◌∙◌, arith, cond, nat_eq, Option, Some, None}
use Rattle.std.specs.Prelude.{if◌then◌else◌, is_some}
use Rattle.std.specs.List.{enumerate_from, filter, list_all, list_any}
use Rattle.std.specs.Option.{option_map_or}
use Rattle.std.proofs.lemmas.Bool.{eqb-true}
use Rattle.cc_base.specs.Alternatives.{numbered}
use Rattle.cc_base.specs.Meaning.{Meaning}
use Rattle.cc_base.specs.declared.alternatives.Alt.{Alt}
use Rattle.cc_base.specs.declared.alternatives.Alt.TheVariants.{Accept, After, Now, Terminate}
use Rattle.cc_base.specs.declared.names.Pid.{Pid}
use Rattle.cc_base.specs.declared.request.Grant.{Grant}
use Rattle.cc_base.specs.declared.request.Grant.TheVariants.{Chose, Go, Gone, Late, Made, Took}
use Rattle.std.proofs.lemmas.List.{get_or-set_other, get_or-set_same}
use Rattle.cc_kernel.proofs.Counted.{each-of-push, each-of-set}
use Rattle.cc_kernel.proofs.Simulates.{same-or-not}
use Rattle.cc_kernel.proofs.Plain.{none-numbered, takes-eligible}
use Rattle.cc_kernel.proofs.Seated.{same-standing}
use Rattle.cc_kernel.specs.Choice.{after_end, due_in, eligible_for, seat_may_end, seat_waits, some_immediate}
use Rattle.cc_kernel.specs.Counted.{all_may_end, ended_seat, may_terminate}
use Rattle.cc_kernel.specs.Resting.{AllRest, RestBut, RestsAt, RestsSo}
use Rattle.cc_kernel.proofs.Stacks.{same-everywhere}
use Rattle.cc_kernel.specs.Seats.{answered_seats, gone_seats, no_call, seat_at, served_call, vacant, with_left, with_out, with_ready, with_waiting, woken}
use Rattle.cc_kernel.specs.Settles.{IsCalm}
use Rattle.cc_kernel.specs.Store.{Contents, IsState, accepted_contents, called_contents, chose_contents, delayed_contents, ended_contents, expired_contents, left_contents, made_contents, sent_contents, waited, went_on, withdrawn_contents}
use Rattle.cc_kernel.specs.declared.seat.Seat.{Seat}
use Rattle.cc_kernel.specs.declared.served.ServedCall.{ServedCall}
use Rattle.cc_rules.proofs.Bools.{both-ways}
use Rattle.cc_rules.specs.Choice.{accepts, has_eligible, has_immediate, is_acceptable, is_eligible, is_immediate}
use Rattle.cc_rules.specs.Effects.{caller_of, deadline_after, is_for, waits_for}
use Rattle.cc_rules.specs.Events.{expiry_grant}
use Rattle.cc_rules.specs.State.{State, is_over, open_alternatives, process_at}
use Rattle.cc_rules.specs.declared.process.ProcessStanding.{ProcessStanding}
use Rattle.cc_rules.specs.declared.process.ProcessStanding.TheVariants.{Running, AtSelect, AtDelay, AtCall, Ended, Faulted}
use Rattle.cc_rules.specs.declared.process.TransactionCall.{TransactionCall}
use Rattle.cc_rules.specs.declared.process.Waiting.{Waiting}
use Rattle.cc_rules.specs.declared.process.Waiting.TheVariants.{Nobody}
use Rattle.cc_timer.specs.declared.who.Who.{Who}

false-from : (b : Bool) → (b ≡ true → ⊥) → b ≡ false
false-from true h = absurd (h refl)
false-from false h = refl

or-parts : (a b : Bool) → (a || b) ≡ false → (a ≡ false) × (b ≡ false)
or-parts true b h = cc
or-parts false b h = (refl, h)

or-false : (a b : Bool) → a ≡ false → b ≡ false → (a || b) ≡ false
or-false true b h k = cc
or-false false b h k = k

-- a test that holds of fewer
any-weaker : {X : Type 0} (p q : X → Bool) → ((x : X) → p x ≡ false → q x ≡ false) → (xs : List X) → list_any p xs ≡ false → list_any q xs ≡ false
any-weaker p q h [] none = refl
any-weaker p q h (x ∷ xs) none =
    let parts = or-parts (p x) (list_any p xs) none in
    or-false (q x) (list_any q xs) (h x parts.0) (any-weaker p q h xs parts.1)

any-filtered : {X : Type 0} (p keep : X → Bool) (xs : List X) → list_any p xs ≡ false → list_any p (filter keep xs) ≡ false
any-filtered p keep [] none = refl
any-filtered p keep (x ∷ xs) none =
    let parts = or-parts (p x) (list_any p xs) none in
    step (keep x) (any-filtered p keep xs parts.1) parts.0
  where
    step : (b : Bool) → list_any p (filter keep xs) ≡ false → p x ≡ false → list_any p (cond b (x ∷ filter keep xs) (filter keep xs)) ≡ false
    step true rest here = or-false (p x) (list_any p (filter keep xs)) here rest
    step false rest here = rest

any-pushed : {X : Type 0} (p : X → Bool) (xs : List X) (x : X) → list_any p xs ≡ false → p x ≡ false → list_any p (xs ++ x ∷ []) ≡ false
any-pushed p [] x none here = or-false (p x) false here refl
any-pushed p (y ∷ xs) x none here =
    let parts = or-parts (p y) (list_any p xs) none in
    or-false (p y) (list_any p (xs ++ x ∷ [])) parts.0 (any-pushed p xs x parts.1 here)

-- of no element
any-none : {X : Type 0} (p : X → Bool) (xs : List X) (d : X) → ((j : ℕ) → j < length xs → p (get_or xs j d) ≡ false) → list_any p xs ≡ false
any-none p [] d h = refl
any-none p (x ∷ xs) d h = or-false (p x) (list_any p xs) (h 0 (omega arith)) (any-none p xs d (λ j lt. h (suc j) (omega arith)))

none-of : {X : Type 0} (p : X → Bool) → ((x : X) → p x ≡ false) → (xs : List X) → list_any p xs ≡ false
none-of p h [] = refl
none-of p h (x ∷ xs) = or-false (p x) (list_any p xs) (h x) (none-of p h xs)

module _ (m : Meaning) where
  -- with other calls of which none is eligible where none of these is
  rests-with :
      (p : ℕ) (standing : ProcessStanding) (calls calls' : List TransactionCall)
      → ((alt : Alt) → list_any (is_eligible m p alt) calls ≡ false → list_any (is_eligible m p alt) calls' ≡ false)
      → RestsSo m p standing calls
      → RestsSo m p standing calls'
  rests-with p standing calls calls' h rests =
      (any-weaker (λ (a : ℕ × Alt). list_any (is_eligible m p a.1) calls) (λ a. list_any (is_eligible m p a.1) calls') (λ a. h a.1) (open_alternatives standing) rests.0, rests.1)

  rests-filtered : (p : ℕ) (standing : ProcessStanding) (keep : TransactionCall → Bool) (calls : List TransactionCall) → RestsSo m p standing calls → RestsSo m p standing (filter keep calls)
  rests-filtered p standing keep calls = rests-with p standing calls (filter keep calls) (λ alt. any-filtered (is_eligible m p alt) keep calls)

  -- a call to another is not eligible
  elsewhere : (p : ℕ) (alt : Alt) (call : TransactionCall) → call.target.0 ≢ p → is_eligible m p alt call ≡ false
  elsewhere p (Accept trans site env) call ne =
      ap (λ b. is_some (if b && nat_eq call.trans trans then m.fit site env call.args else None))
      (false-from (nat_eq call.target.0 p) (λ k. ne (eqb-true call.target.0 p k)))
  elsewhere p (After wait) call ne = refl
  elsewhere p Now call ne = refl
  elsewhere p Terminate call ne = refl

  rests-pushed :
      (p : ℕ) (standing : ProcessStanding) (calls : List TransactionCall) (call : TransactionCall)
      → p ≢ call.target.0
      → RestsSo m p standing calls
      → RestsSo m p standing (calls ++ call ∷ [])
  rests-pushed p standing calls call ne =
      rests-with p standing calls (calls ++ call ∷ []) (λ alt none. any-pushed (is_eligible m p alt) calls call none (elsewhere p alt call (λ e. ne (sym e))))

  -- who is at no select can take nothing
  rests-over : (p : ℕ) (standing : ProcessStanding) (calls : List TransactionCall) → is_over standing ≡ true → RestsSo m p standing calls
  rests-over p Running calls h = cc
  rests-over p (AtSelect alts asked) calls h = cc
  rests-over p (AtDelay deadline) calls h = cc
  rests-over p (AtCall call) calls h = cc
  rests-over p Ended calls h = (refl, refl)
  rests-over p (Faulted kind) calls h = (refl, refl)

  module _ {P : Type 0} where
    -- each process rests with these calls
    abbrev Rest : List (Seat P) → List TransactionCall → Type 0
    Rest seats calls = (p : ℕ) → RestsSo m p (seat_at seats p).standing calls

    pushed-at :
        (seats : List (Seat P)) (calls : List TransactionCall) (call : TransactionCall) (q : ℕ)
        → q ≢ call.target.0
        → RestsSo m q (seat_at seats q).standing calls
        → RestsSo m q (seat_at seats q).standing (calls ++ call ∷ [])
    pushed-at seats calls call q ne h = rests-pushed q (seat_at seats q).standing calls call ne h

    filtered-at :
        (seats : List (Seat P)) (keep : TransactionCall → Bool) (calls : List TransactionCall) (q : ℕ)
        → RestsSo m q (seat_at seats q).standing calls
        → RestsSo m q (seat_at seats q).standing (filter keep calls)
    filtered-at seats keep calls q h = rests-filtered q (seat_at seats q).standing keep calls h

    -- one seat is changed
    rest-set : (seats : List (Seat P)) (calls : List TransactionCall) (at : ℕ) (seat : Seat P) → RestsSo m at seat.standing calls → Rest seats calls → Rest (set seats at seat) calls
    rest-set seats calls at seat h all = each-of-set (λ p x. RestsSo m p x.standing calls) seats at seat h all

    rest-answered_if : (seats : List (Seat P)) (calls : List TransactionCall) (at : ℕ) (grant : Grant) (b : Bool) → Rest seats calls → Rest (if b then set seats at (woken (seat_at seats at) grant) else seats) calls
    rest-answered_if seats calls at grant true all = rest-set seats calls at (woken (seat_at seats at) grant) (refl, refl) all
    rest-answered_if seats calls at grant false all = all

    rest-answered_by :
        (seats : List (Seat P)) (calls : List TransactionCall) (n : ℕ) (grant : Grant) (o : Option Pid)
        → Rest seats calls
        → Rest (option_map_or (λ (caller : Pid). if waits_for n (seat_at seats caller.0).standing then set seats caller.0 (woken (seat_at seats caller.0) grant) else seats) o seats) calls
    rest-answered_by seats calls n grant None all = all
    rest-answered_by seats calls n grant (Some caller) all = rest-answered_if seats calls caller.0 grant (waits_for n (seat_at seats caller.0).standing) all

    pub rest-answered : (seats : List (Seat P)) (calls : List TransactionCall) (call : ServedCall) (grant : Grant) → Rest seats calls → Rest (answered_seats seats call grant) calls
    rest-answered seats calls call grant all = rest-answered_by seats calls call.number.0 grant (caller_of call.waiting) all

    rest-gone : (seats : List (Seat P)) (calls : List TransactionCall) (gone : List ServedCall) → Rest seats calls → Rest (gone_seats seats gone) calls
    rest-gone seats calls [] all = all
    rest-gone seats calls (call ∷ gone) all = rest-gone (answered_seats seats call Gone) calls gone (rest-answered seats calls call Gone all)

    -- it goes on
    pub rest-ready : (seats : List (Seat P)) (calls : List TransactionCall) (p : ℕ) (process : P) (grant : Grant) → Rest seats calls → Rest (set seats p (with_ready process grant)) calls
    rest-ready seats calls p process grant all = rest-set seats calls p (with_ready process grant) (refl, refl) all

    -- a call is asked for
    pub rest-call :
        (x : Contents P) (p : Pid) (process : P) (target : Pid) (trans : ℕ) (args : List ℤ) (waiting : Waiting) (b : Bool)
        → AllRest m x
        → RestBut m (if b then went_on x p.0 process Gone else called_contents x p process target trans args waiting) (Some target)
    rest-call x p process target trans args waiting true all q ne = rest-ready x.seats x.pending p.0 process Gone all q
    rest-call x p process target trans args waiting false all q ne =
        pushed-at (set x.seats p.0 (with_waiting process (AtCall (record { 0 = x.drawn })))) x.pending
        (record { number = record { 0 = x.drawn }; target = target; trans = trans; args = args; waiting = waiting })
        q ne
        (rest-set x.seats x.pending p.0 (with_waiting process (AtCall (record { 0 = x.drawn }))) (refl, refl) all q)

    pub rest-send :
        (x : Contents P) (p : Pid) (process : P) (target : Pid) (trans : ℕ) (args : List ℤ) (b : Bool)
        → AllRest m x
        → RestBut m (if b then went_on x p.0 process Go else sent_contents x p process target trans args) (Some target)
    rest-send x p process target trans args true all q ne = rest-ready x.seats x.pending p.0 process Go all q
    rest-send x p process target trans args false all q ne =
        pushed-at (set x.seats p.0 (with_ready process Go)) x.pending
        (record { number = record { 0 = x.drawn }; target = target; trans = trans; args = args; waiting = Nobody })
        q ne
        (rest-ready x.seats x.pending p.0 process Go all q)

    -- it waits for an alternative
    pub rest-select : (x : Contents P) (p : Pid) (process : P) (standing : ProcessStanding) → AllRest m x → RestBut m (waited x p process standing) (Some p)
    rest-select x p process standing all q ne = others x.seats p.0 q (with_waiting process standing) ne (all q)
      where
        others :
            (seats : List (Seat P)) (at q : ℕ) (seat : Seat P)
            → q ≢ at
            → RestsSo m q (seat_at seats q).standing x.pending
            → RestsSo m q (seat_at (set seats at seat) q).standing x.pending
        others seats at q seat ne rests = rw get_or-set_other rests

    -- it waits for a moment
    pub rest-delay : (x : Contents P) (p : Pid) (process : P) (wait : ℤ) → AllRest m x → AllRest m (delayed_contents x p process wait)
    rest-delay x p process wait all = rest-set x.seats x.pending p.0 (with_waiting process (AtDelay (deadline_after x.moment wait))) (refl, refl) all

    -- its moment has come
    pub rest-expired : (x : Contents P) (p : Pid) (i : ℕ) → AllRest m x → AllRest m (expired_contents x p i)
    rest-expired x p i all = rest-set x.seats x.pending p.0 (woken (seat_at x.seats p.0) (expiry_grant i (seat_at x.seats p.0).standing)) (refl, refl) all

    -- a call is withdrawn
    pub rest-withdrawn : (x : Contents P) (call : TransactionCall) → AllRest m x → AllRest m (withdrawn_contents x call)
    rest-withdrawn x call all q =
        filtered-at (answered_seats x.seats (served_call call) Late) (λ other. not (nat_eq other.number.0 call.number.0)) x.pending q
        (rest-answered x.seats x.pending (served_call call) Late all q)

    -- it is over
    pub rest-left : (x : Contents P) (p : ℕ) (standing : ProcessStanding) (left : List (ℕ × Who)) → is_over standing ≡ true → AllRest m x → AllRest m (left_contents x p standing left)
    rest-left x p standing left over all q =
        filtered-at
        (gone_seats
        (gone_seats (set x.seats p (with_left standing)) (map served_call (filter (is_for p) x.pending)))
        (x.served p))
        (λ call. not (is_for p call)) x.pending q
        (rest-gone (gone_seats (set x.seats p (with_left standing)) (map served_call (filter (is_for p) x.pending))) x.pending (x.served p)
        (rest-gone (set x.seats p (with_left standing)) x.pending (map served_call (filter (is_for p) x.pending))
        (rest-set x.seats x.pending p (with_left standing) (rests-over p standing x.pending over) all))
        q)

    rest-push : (seats : List (Seat P)) (calls : List TransactionCall) (seat : Seat P) → ((p : ℕ) → RestsSo m p seat.standing calls) → Rest seats calls → Rest (seats ++ seat ∷ []) calls
    rest-push seats calls seat h all = each-of-push (λ p x. RestsSo m p x.standing calls) seats seat h all

    -- it goes out
    pub rest-out : (x : Contents P) (at : ℕ) → AllRest m x → AllRest m (record x { seats = set x.seats at (with_out (seat_at x.seats at)) })
    rest-out x at all = rest-set x.seats x.pending at (with_out (seat_at x.seats at)) (all at) all

    -- it made another, where there are not too many
    pub rest-create :
        (x : Contents P) (p : ℕ) (process new : P) (standing : ProcessStanding) (left : List (ℕ × Who)) (b : Bool)
        → is_over standing ≡ true
        → AllRest m x
        → AllRest m (if b then made_contents x p process new else left_contents x p standing left)
    rest-create x p process new standing left true over all =
        rest-push (set x.seats p (with_ready process (Made (record { 0 = length x.seats })))) x.pending (with_ready new Go) (λ q. (refl, refl))
        (rest-ready x.seats x.pending p process (Made (record { 0 = length x.seats })) all)
    rest-create x p process new standing left false over all = rest-left x p standing left over all

    -- where one was not at rest, and goes on
    rest-but-set : (seats : List (Seat P)) (calls : List TransactionCall) (at : ℕ) (seat : Seat P) → RestsSo m at seat.standing calls → ((p : ℕ) → p ≢ at → RestsSo m p (seat_at seats p).standing calls) → at < length seats → Rest (set seats at seat) calls
    rest-but-set seats calls at seat h all lt p =
        elim (same-or-not p at) [
          | inl same ↦ rw same (rw (get_or-set_same seats at seat vacant lt) h)
          | inr ne ↦ rw (get_or-set_other seats at p seat vacant ne) (all p ne)
        ]

    -- it takes a call
    pub rest-accepted : (x : Contents P) (p : Pid) (i : ℕ) (call : TransactionCall) → p.0 < length x.seats → RestBut m x (Some p) → AllRest m (accepted_contents x p i call)
    rest-accepted x p i call lt all q =
        filtered-at (set x.seats p.0 (woken (seat_at x.seats p.0) (Took i call.args))) (λ other. not (nat_eq other.number.0 call.number.0)) x.pending q
        (rest-but-set x.seats x.pending p.0 (woken (seat_at x.seats p.0) (Took i call.args)) (refl, refl) all lt q)

    -- it takes an immediate alternative
    pub rest-chose : (x : Contents P) (p : Pid) (i : ℕ) → p.0 < length x.seats → RestBut m x (Some p) → AllRest m (chose_contents x p i)
    rest-chose x p i lt all = rest-but-set x.seats x.pending p.0 (woken (seat_at x.seats p.0) (Chose i)) (refl, refl) all lt

    -- the one that was roused can take nothing either
    pub rest-all : (x : Contents P) (p : Pid) → RestBut m x (Some p) → RestsAt m x p.0 → AllRest m x
    rest-all x p all here q = elim (same-or-not q p.0) [ inl same ↦ rw same here | inr ne ↦ all q ne ]

    -- who waits at `terminate`, where none can take anything
    waits-rests : (x : Contents P) (p : ℕ) → AllRest m x → seat_waits m x.seats x.pending p ≡ may_terminate (seat_at x.seats p).standing
    waits-rests x p all =
        ap (λ b. may_terminate (seat_at x.seats p).standing && not b && not (some_immediate (seat_at x.seats p).standing)) (all p).0
        ∙ ap (λ b. may_terminate (seat_at x.seats p).standing && not false && not b) (all p).1
        ∙ alone (may_terminate (seat_at x.seats p).standing)
      where
        alone : (b : Bool) → (b && not false && not false) ≡ b
        alone true = refl
        alone false = refl

    every-seat : (f : ℕ → Bool) (g : Seat P → Bool) (n : ℕ) (seats : List (Seat P)) → ((i : ℕ) → f (n + i) ≡ g (seat_at seats i)) → list_all (λ e. f e.0) (enumerate_from n seats) ≡ list_all g seats
    every-seat f g n [] h = refl
    every-seat f g n (seat ∷ seats) h =
        let here : n + 0 ≡ n = omega arith in
        rw (sym (ap f here) ∙ h 0, every-seat f g (n + 1) seats (λ i. let there : n + 1 + i ≡ n + suc i = omega arith in ap f there ∙ h (suc i))) refl

    some-seat : (f : ℕ → Bool) (g : Seat P → Bool) (n : ℕ) (seats : List (Seat P)) → ((i : ℕ) → f (n + i) ≡ g (seat_at seats i)) → list_any (λ e. f e.0) (enumerate_from n seats) ≡ list_any g seats
    some-seat f g n [] h = refl
    some-seat f g n (seat ∷ seats) h =
        let here : n + 0 ≡ n = omega arith in
        rw (sym (ap f here) ∙ h 0, some-seat f g (n + 1) seats (λ i. let there : n + 1 + i ≡ n + suc i = omega arith in ap f there ∙ h (suc i))) refl

    -- whether the collective end is due, where none can take anything
    pub due-rests : (x : Contents P) → AllRest m x → due_in m x.seats x.pending ≡ all_may_end x.seats
    due-rests x all =
        ap (λ b. b && list_any (λ e. seat_waits m x.seats x.pending e.0) (enumerate_from 0 x.seats))
        (every-seat (seat_may_end m x.seats x.pending) (λ seat. is_over seat.standing || may_terminate seat.standing) 0 x.seats
        (λ i. let e : 0 + i ≡ i = omega arith in ap (seat_may_end m x.seats x.pending) e ∙ ap (λ b. is_over (seat_at x.seats i).standing || b) (waits-rests x i all)))
        ∙ ap (λ b. list_all (λ (seat : Seat P). is_over seat.standing || may_terminate seat.standing) x.seats && b)
        (some-seat (seat_waits m x.seats x.pending) (λ seat. may_terminate seat.standing) 0 x.seats
        (λ i. let e : 0 + i ≡ i = omega arith in ap (seat_waits m x.seats x.pending) e ∙ waits-rests x i all))

    each-ended :
        (f : ℕ → Bool) (n : ℕ) (seats : List (Seat P))
        → ((i : ℕ) → f (n + i) ≡ may_terminate (seat_at seats i).standing)
        → map ended_seat (enumerate_from n seats)
        ≡ map (λ e. if f e.0 then with_left Ended else e.1) (enumerate_from n seats)
    each-ended f n [] h = refl
    each-ended f n (seat ∷ seats) h =
        let here : n + 0 ≡ n = omega arith in
        rw (sym (ap f here) ∙ h 0, each-ended f (n + 1) seats (λ i. let there : n + 1 + i ≡ n + suc i = omega arith in ap f there ∙ h (suc i))) refl

    -- who ends by the collective end, where none can take anything
    pub ends-rests : (x : Contents P) → AllRest m x → map ended_seat (enumerate_from 0 x.seats) ≡ map (after_end m x.seats x.pending) (enumerate_from 0 x.seats)
    ends-rests x all =
        each-ended (seat_waits m x.seats x.pending) 0 x.seats
        (λ i. let e : 0 + i ≡ i = omega arith in ap (seat_waits m x.seats x.pending) e ∙ waits-rests x i all)

    pub served-rests :
        (x : Contents P)
        → AllRest m x
        → ◌≡◌ {A = ℕ → List ServedCall}
        (λ p. if may_terminate (seat_at x.seats p).standing then [] else x.served p)
        (λ p. if seat_waits m x.seats x.pending p then [] else x.served p)
    served-rests x all =
        same-everywhere (λ (p : ℕ). if may_terminate (seat_at x.seats p).standing then [] else x.served p)
        (λ (p : ℕ). if seat_waits m x.seats x.pending p then [] else x.served p)
        (λ p. ap (λ b. if b then [] else x.served p) (sym (waits-rests x p all)))

    -- after the collective end, too
    pub rest-ended : (x : Contents P) → AllRest m x → AllRest m (ended_contents m x)
    rest-ended x all p = (
      none-of (λ (a : ℕ × Alt). list_any (is_eligible m p a.1) []) (λ a. refl) (open_alternatives (seat_at (ended_contents m x).seats p).standing),
      none-immediate (seat_waits m x.seats x.pending) 0 x.seats (λ i. (all i).1) p,
    )
      where
        either : (b : Bool) (seat : Seat P) → some_immediate seat.standing ≡ false → some_immediate (if b then with_left Ended else seat).standing ≡ false
        either true seat h = refl
        either false seat h = h

        none-immediate :
            (f : ℕ → Bool) (n : ℕ) (seats : List (Seat P))
            → ((i : ℕ) → some_immediate (seat_at seats i).standing ≡ false)
            → (p : ℕ)
            → some_immediate (seat_at (map (λ e. if f e.0 then with_left Ended else e.1) (enumerate_from n seats)) p).standing ≡ false
        none-immediate f n [] h p = refl
        none-immediate f n (seat ∷ seats) h zero = either (f n) seat (h 0)
        none-immediate f n (seat ∷ seats) h (suc p) = none-immediate f (n + 1) seats (λ i. h (suc i)) p

    pub rest-at : (located : P → ℕ → List ℤ → List Grant → Type 0) (s : State) (x : Contents P) → IsState located s x → AllRest m x → (p : ℕ) → (has_eligible m s p ≡ false) × (has_immediate s p ≡ false)
    rest-at located s x k all p = (
      ap (λ st. eligible_for m p st s.pending) (sym (same-standing located s.processes x.seats p k.seated))
          ∙ ap (eligible_for m p (seat_at x.seats p).standing) (sym k.pending)
          ∙ (all p).0,
      ap some_immediate (sym (same-standing located s.processes x.seats p k.seated)) ∙ (all p).1,
    )

    -- where none can take anything, no call and no immediate alternative can be taken
    pub rest-calm : (located : P → ℕ → List ℤ → List Grant → Type 0) (s : State) (x : Contents P) → IsState located s x → AllRest m x → IsCalm m s
    rest-calm located s x k all =
        record {
          no_call = any-none (is_acceptable m s) s.pending no_call (λ j lt. none-acceptable j lt);
          none_at_once = λ p i. and-first (option_map_or is_immediate (numbered (open_alternatives (process_at s.processes p).standing) i) false) (not (has_eligible m s p)) (none-numbered is_immediate (open_alternatives (process_at s.processes p).standing) (immediate p) i);
        }
      where
        and-first : (a b : Bool) → a ≡ false → (a && b) ≡ false
        and-first true b h = cc
        and-first false b h = refl

        eligible : (p : ℕ) → has_eligible m s p ≡ false
        eligible p = (rest-at located s x k all p).0

        immediate : (p : ℕ) → has_immediate s p ≡ false
        immediate p = (rest-at located s x k all p).1

        none-acceptable : (j : ℕ) → j < length s.pending → is_acceptable m s (get_or s.pending j no_call) ≡ false
        none-acceptable j lt =
            let call = get_or s.pending j no_call in
            none-of (λ (a : ℕ × Alt). accepts m s call.target.0 a.0 call)
            (λ a. false-from (accepts m s call.target.0 a.0 call) (λ h. both-ways (has_eligible m s call.target.0) (takes-eligible m s call.target.0 a.0 j call no_call lt refl h) (eligible call.target.0)))
            (open_alternatives (process_at s.processes call.target.0).standing)
