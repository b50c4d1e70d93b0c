-- A call that is accepted was chosen.
use Rattle.std.proofs.Common.{◌≡◌, ℕ, ◌≤◌, ◌⊎◌, inl, inr, ℤ, Bool, true, false, ◌&&◌, ◌||◌, List, [], ◌∷◌, ◌++◌, refl, sym, ap, ◌∙◌, arith, Option, Some, None}
use Rattle.std.specs.Prelude.{if◌then◌else◌, int_le, int_lt, nat_eq, nat_le}
use Rattle.std.specs.List.{Contains, list_all}
use Rattle.std.specs.Option.{option_map_or}
use Rattle.std.proofs.lemmas.Bool.{and_from, and_parts}
use Rattle.std.proofs.lemmas.Bool.Decides.{Decides-eqb, nat_tests}
use Rattle.std.proofs.lemmas.Int.{ints}
use Rattle.cc_base.specs.Meaning.{Meaning}
use Rattle.cc_rules.proofs.Bools.{same-number}
use Rattle.cc_base.specs.declared.alternatives.Alt.{Alt}
use Rattle.cc_base.specs.declared.alternatives.Alt.TheVariants as alt
use Rattle.cc_base.specs.declared.names.CallId.{CallId}
use Rattle.cc_base.specs.declared.names.Pid.{Pid}
use Rattle.cc_rules.proofs.Chosen.{asked-select, is-open}
use Rattle.cc_rules.proofs.CollectiveEnd.{all-at}
use Rattle.cc_rules.proofs.EndIsLast.{run-at}
use Rattle.cc_rules.proofs.Wakes.{at-select, stands-by, waits-at}
use Rattle.cc_rules.proofs.SoundRun.{Sound-run}
use Rattle.cc_rules.proofs.Taken.{find-contained}
use Rattle.cc_rules.proofs.TakenOnce.{found-number}
use Rattle.cc_rules.specs.Accepted.{Fits, IsChosenCall}
use Rattle.cc_rules.specs.Choice.{accepts, call_numbered, goes_before, is_chosen, rank}
use Rattle.cc_rules.specs.Ends.{is_due}
use Rattle.cc_rules.specs.Events.{is_allowed, next, request_at}
use Rattle.cc_base.specs.Requests.{WellFormed}
use Rattle.cc_rules.specs.Runs.{IsRun, IsRunFrom, state_after}
use Rattle.cc_rules.specs.Sound.{Sound}
use Rattle.cc_rules.specs.State.{State, first_state, process_at}
use Rattle.cc_rules.specs.declared.event.Event.{Event}
use Rattle.cc_rules.specs.declared.event.Event.TheVariants.{Accept}
use Rattle.cc_rules.specs.declared.process.ProcessStanding.TheVariants.{AtSelect}
use Rattle.cc_rules.specs.declared.process.TransactionCall.{TransactionCall}

-- what is passed by all is passed by each
all-contained : {X : Type 0} (test : X → Bool) (xs : List X) (x : X) → list_all test xs ≡ true → Contains xs x → test x ≡ true
all-contained test xs x h k = sym (ap test k.2) ∙ all-at test xs k.0 x h k.1

same-rank : (k k' : ℤ) → int_lt k k' ≡ false → int_le k k' ≡ true → k ≡ k'
same-rank k k' h l = grind (arith, ints)

not-above : (n n' : ℕ) → nat_le n n' ≡ true → n ≤ n'
not-above n n' h = grind (arith, nat_tests)

before-cases_if :
    (k k' : ℤ) (n n' : ℕ) (b : Bool)
    → int_lt k k' ≡ b
    → (b || int_le k k' && nat_le n n') ≡ true
    → (int_lt k k' ≡ true) ⊎ ((k ≡ k') × (n ≤ n'))
before-cases_if k k' n n' true e h = inl e
before-cases_if k k' n n' false e h =
    let parts = and_parts (int_le k k') (nat_le n n') h in inr (same-rank k k' e parts.0, not-above n n' parts.1)

-- a call of this rank goes before another by rank, or by number
before-cases : (k k' : ℤ) (n n' : ℕ) → goes_before k n (Some k') n' ≡ true → (int_lt k k' ≡ true) ⊎ ((k ≡ k') × (n ≤ n'))
before-cases k k' n n' h = before-cases_if k k' n n' (int_lt k k') refl h

-- the rank of a call that fits
rank-fits : (m : Meaning) (s : State) (p : Pid) (trans site : ℕ) (env : List ℤ) (call : TransactionCall) (k : ℤ)
    → Fits m s p trans site env call k
    → rank m p.0 (alt.Accept trans site env) call ≡ Some k
rank-fits m s p trans site env call k f =
    let target : nat_eq call.target.0 p.0 ≡ true = ap (λ n. nat_eq n p.0) f.target ∙ same-number p.0 in
    let same : nat_eq call.trans trans ≡ true = ap (λ n. nat_eq n trans) f.same_trans ∙ same-number trans in
    ap (λ b. if b then m.fit site env call.args else None) (and_from (nat_eq call.target.0 p.0) (nat_eq call.trans trans) target same) ∙ f.fits

-- a call that is chosen for an accept alternative
record Chosen (m : Meaning) (s : State) (p : Pid) (a : Alt) (call : TransactionCall) : Type 0 where
  trans : ℕ
  site : ℕ
  env : List ℤ
  accept : a ≡ alt.Accept trans site env
  rank : ℤ
  eligible : Fits m s p trans site env call rank
  first : (other : TransactionCall) (k : ℤ) → Fits m s p trans site env other k → (int_lt rank k ≡ true) ⊎ ((rank ≡ k) × (call.number.0 ≤ other.number.0))

first-of :
    (m : Meaning) (s : State) (p : Pid) (trans site : ℕ) (env : List ℤ) (call : TransactionCall) (k : ℤ)
    → list_all (λ other. goes_before k call.number.0 (rank m p.0 (alt.Accept trans site env) other) other.number.0) s.pending ≡ true
    → (other : TransactionCall) (k' : ℤ)
    → Fits m s p trans site env other k'
    → (int_lt k k' ≡ true) ⊎ ((k ≡ k') × (call.number.0 ≤ other.number.0))
first-of m s p trans site env call k all other k' f =
    before-cases k k' call.number.0 other.number.0
    (sym (ap (λ o. goes_before k call.number.0 o other.number.0) (rank-fits m s p trans site env other k' f))
    ∙ all-contained (λ (other : TransactionCall). goes_before k call.number.0 (rank m p.0 (alt.Accept trans site env) other) other.number.0)
    s.pending other all f.pending)

chosen-by :
    (m : Meaning) (s : State) (p : Pid) (trans site : ℕ) (env : List ℤ) (call : TransactionCall) (o : Option ℤ) (b : Bool)
    → Contains s.pending call
    → (nat_eq call.target.0 p.0 && nat_eq call.trans trans) ≡ b
    → m.fit site env call.args ≡ o
    → option_map_or
    (λ k. list_all (λ other. goes_before k call.number.0 (rank m p.0 (alt.Accept trans site env) other) other.number.0) s.pending)
    (if b then o else None)
    false
    ≡ true
    → Chosen m s p (alt.Accept trans site env) call
chosen-by m s p trans site env call (Some k) true here both fits h =
    let parts = and_parts (nat_eq call.target.0 p.0) (nat_eq call.trans trans) both in
    record {
      trans = trans;
      site = site;
      env = env;
      accept = refl;
      rank = k;
      eligible =
          record {
            pending = here;
            target = (Decides-eqb call.target.0 p.0).0 parts.0;
            same_trans = (Decides-eqb call.trans trans).0 parts.1;
            fits = fits;
          };
      first = first-of m s p trans site env call k h;
    }
chosen-by m s p trans site env call None true here both fits h = absurd cc
chosen-by m s p trans site env call o false here both fits h = absurd cc

chosen-for : (m : Meaning) (s : State) (p : Pid) (a : Alt) (call : TransactionCall) → Contains s.pending call → is_chosen m p.0 a s.pending call ≡ true → Chosen m s p a call
chosen-for m s p (alt.Accept trans site env) call here h =
    chosen-by m s p trans site env call (m.fit site env call.args) (nat_eq call.target.0 p.0 && nat_eq call.trans trans) here refl refl h
chosen-for m s p (alt.After wait) call here h = absurd cc
chosen-for m s p alt.Now call here h = absurd cc
chosen-for m s p alt.Terminate call here h = absurd cc

IsChosenCall-found :
    (m : Meaning) (s : State) (p : Pid) (i : ℕ) (c : CallId) (o : Option TransactionCall)
    → Sound m s
    → call_numbered s.pending c.0 ≡ o
    → option_map_or (accepts m s p.0 i) o false ≡ true
    → IsChosenCall m s p i c
IsChosenCall-found m s p i c None h e l = absurd cc
IsChosenCall-found m s p i c (Some call) h e l =
    let x = (process_at s.processes p.0).standing in
    let o = is-open x i (λ a. is_chosen m p.0 a s.pending call) l in
    let w = waits-at x (AtSelect o.alts o.asked) o.standing (at-select o.alts o.asked) in
    let here = find-contained (λ (d : TransactionCall). nat_eq d.number.0 c.0) s.pending call e in
    let k = chosen-for m s p o.alt call here o.passes in
    record {
      alts = o.alts;
      asked = asked-select x (request_at m s p) o.alts o.asked o.standing (stands-by m s p.0 h w);
      since = o.asked;
      waits = o.standing;
      trans = k.trans;
      site = k.site;
      env = k.env;
      alternative = o.here ∙ ap Some k.accept;
      call = call;
      number = ap (λ n. record { 0 = n }) (found-number c.0 s.pending call e);
      rank = k.rank;
      eligible = k.eligible;
      first = k.first;
    }

allowed-if : (m : Meaning) (s : State) (p : Pid) (i : ℕ) (c : CallId) (b : Bool) → (if b then false else is_allowed m s (Accept p i c)) ≡ true → is_allowed m s (Accept p i c) ≡ true
allowed-if m s p i c true l = absurd cc
allowed-if m s p i c false l = l

run-before : (m : Meaning) (s : State) (before more : List Event) → IsRunFrom m s (before ++ more) → IsRunFrom m s before
run-before m s [] more run = tt
run-before m s (e ∷ before) more run = (run.0, run-before m (next m s e) before more run.1)

-- a call that is accepted in a run was chosen there
pub IsChosenCall-run :
    (m : Meaning) (input : List ℕ) (before more : List Event) (p : Pid) (i : ℕ) (c : CallId)
    → WellFormed m
    → IsRun m input (before ++ Accept p i c ∷ more)
    → IsChosenCall m (state_after m input before) p i c
IsChosenCall-run m input before more p i c wf run =
    let s = state_after m input before in
    let legal = (run-at m (first_state input) before (Accept p i c) more run).0 in
    let sound = Sound-run m input before wf (run-before m (first_state input) before (Accept p i c ∷ more) run) in
    IsChosenCall-found m s p i c (call_numbered s.pending c.0) sound refl (allowed-if m s p i c (is_due m s) legal)
