-- No event but its own request changes a process that is running, and none its kind or its arguments.
use Rattle.std.proofs.Common.{◌≡◌, ◌≢◌, ℕ, zero, suc, ◌+◌, ◌<◌, Bool, true, false, ◌&&◌, not, List, [], ◌∷◌, ◌++◌, length, refl, sym, ap, ◌∙◌, subst, arith, Option, Some, None}
use Rattle.std.specs.Prelude.{if◌then◌else◌}
use Rattle.std.specs.List.{enumerate_from, list_any}
use Rattle.std.specs.Option.{option_map_or}
use Rattle.std.proofs.lemmas.Bool.{and_parts}
use Rattle.std.proofs.lemmas.List.{get_or-map, length-map}
use Rattle.std.proofs.lemmas.List.FromFn.{length-enumerate_from, get_or-enumerate_from}
use Rattle.cc_base.specs.Meaning.{Meaning}
use Rattle.cc_base.specs.declared.alternatives.Alt.{Alt}
use Rattle.cc_base.specs.declared.names.Pid.{Pid}
use Rattle.cc_base.specs.declared.request.Grant.{Grant}
use Rattle.cc_base.specs.declared.request.Grant.TheVariants.{Late, Took, Chose}
use Rattle.cc_rules.proofs.Stays.{AllStay, AllStay-same, AllStay-idle, AllStay-answered, AllStay-effect}
use Rattle.cc_base.specs.Alternatives.{numbered}
use Rattle.cc_rules.specs.Choice.{call_numbered, accepts, is_chosen, is_immediate, expires_at, has_eligible, has_immediate, is_terminate}
use Rattle.cc_rules.specs.Effects.{granted, grant_to}
use Rattle.cc_rules.specs.Ends.{is_due, waits_at_terminate}
use Rattle.cc_rules.specs.Events.{is_legal, is_allowed, is_end, accepted, all_ended, expiry_grant, next, request_at, withdrawn}
use Rattle.cc_rules.specs.State.{Process, State, nobody, process_at, is_over, is_running, open_alternatives}
use Rattle.cc_rules.specs.declared.event.Event.{Event}
use Rattle.cc_rules.specs.declared.event.Event.TheVariants.{Ask, Accept, Instant, Expire, Withdraw, Time, End}
use Rattle.cc_rules.specs.declared.event.Word.{Word}
use Rattle.cc_rules.specs.declared.process.ProcessStanding.{ProcessStanding}
use Rattle.cc_rules.specs.declared.process.ProcessStanding.TheVariants.{Running, AtSelect, AtDelay, AtCall, Ended, Faulted}
use Rattle.cc_rules.specs.declared.process.TransactionCall.{TransactionCall}

-- a process with an open alternative isn't running
pub open-idle : (x : ProcessStanding) (i : ℕ) (f : Alt → Bool) → option_map_or f (numbered (open_alternatives x) i) false ≡ true → is_running x ≡ true → ⊥
open-idle Running i f h r = cc
open-idle (AtSelect alts asked) i f h r = cc
open-idle (AtDelay deadline) i f h r = cc
open-idle (AtCall c) i f h r = cc
open-idle Ended i f h r = cc
open-idle (Faulted kind) i f h r = cc

expires-idle : (m : Meaning) (s : State) (p i : ℕ) (x : ProcessStanding) → expires_at m s p i x ≡ true → is_running x ≡ true → ⊥
expires-idle m s p i Running h r = cc
expires-idle m s p i (AtSelect alts asked) h r = cc
expires-idle m s p i (AtDelay deadline) h r = cc
expires-idle m s p i (AtCall c) h r = cc
expires-idle m s p i Ended h r = cc
expires-idle m s p i (Faulted kind) h r = cc

any-open : (x : ProcessStanding) → list_any (λ a. is_terminate a.1) (open_alternatives x) ≡ true → (is_running x ≡ false) × (is_over x ≡ false)
any-open Running h = cc
any-open (AtSelect alts asked) h = (refl, refl)
any-open (AtDelay deadline) h = cc
any-open (AtCall c) h = cc
any-open Ended h = cc
any-open (Faulted kind) h = cc

-- who waits at terminate is neither running nor over
pub terminate-idle :
    (m : Meaning) (s : State) (p : ℕ)
    → waits_at_terminate m s p ≡ true
    → (is_running (process_at s.processes p).standing ≡ false) × (is_over (process_at s.processes p).standing ≡ false)
terminate-idle m s p h =
    let x = (process_at s.processes p).standing in
    let open' = list_any (λ a. is_terminate a.1) (open_alternatives x) in
    any-open x (and_parts open' (not (has_eligible m s p)) (and_parts (open' && not (has_eligible m s p)) (not (has_immediate s p)) h).0).0

AllStay-accepted :
    (m : Meaning) (s : State) (q p i : ℕ) (call : Option TransactionCall)
    → option_map_or (accepts m s p i) call false ≡ true
    → AllStay q s.processes (option_map_or (accepted s p i) call s).processes
AllStay-accepted m s q p i None h = absurd cc
AllStay-accepted m s q p i (Some c) h =
    AllStay-idle q p s.processes
    (record (granted (process_at s.processes p) (Took i c.args)) { serving = (process_at s.processes p).serving ++ c ∷ [] })
    refl refl
    (open-idle (process_at s.processes p).standing i (λ alt. is_chosen m p alt s.pending c) h)
    refl

AllStay-withdrawn :
    (s : State) (q : ℕ) (call : Option TransactionCall) → AllStay q s.processes (option_map_or (withdrawn s) call s).processes
AllStay-withdrawn s q None = AllStay-same q s.processes
AllStay-withdrawn s q (Some c) = AllStay-answered q s.processes c Late

AllStay-goes_on :
    (q i : ℕ) (ps : List Process) (g : Grant)
    → (is_running (process_at ps i).standing ≡ true → ⊥)
    → AllStay q ps (grant_to ps i g)
AllStay-goes_on q i ps g idle = AllStay-idle q i ps (granted (process_at ps i) g) refl refl idle refl

-- the process of this number after the collective end
abbrev pub ended_at_terminate : Meaning → State → ℕ × Process → Process
ended_at_terminate m s e = if waits_at_terminate m s e.0 then record e.1 { standing = Ended; serving = [] } else e.1

pub all_ended-at :
    (m : Meaning) (s : State) (p : ℕ)
    → p < length s.processes
    → process_at (all_ended m s).processes p ≡ ended_at_terminate m s (p, process_at s.processes p)
all_ended-at m s p lt =
    let long : p < length (enumerate_from 0 s.processes) = omega (arith, length-enumerate_from 0 s.processes) in
    let here : 0 + p ≡ p = omega arith in
    get_or-map (ended_at_terminate m s) (enumerate_from 0 s.processes) p (0, nobody) nobody long
    ∙ ap (ended_at_terminate m s) (get_or-enumerate_from 0 s.processes p (0, nobody) lt)
    ∙ ap (λ n. ended_at_terminate m s (n, process_at s.processes p)) here

-- where q asks, if anyone does
abbrev pub IsAskerOf : ℕ → Event → Type 0
IsAskerOf q (Ask p w) = q ≡ p.0
IsAskerOf q (Accept p i c) = Unit {0}
IsAskerOf q (Instant p i) = Unit {0}
IsAskerOf q (Expire p i) = Unit {0}
IsAskerOf q (Withdraw c) = Unit {0}
IsAskerOf q (Time t) = Unit {0}
IsAskerOf q End = Unit {0}

-- an event other than End
pub AllStay-allowed :
    (m : Meaning) (s : State) (e : Event) (q : ℕ)
    → is_allowed m s e ≡ true
    → IsAskerOf q e
    → AllStay q s.processes (next m s e).processes
AllStay-allowed m s (Ask p w) q l own =
    subst (λ i. AllStay i s.processes (next m s (Ask p w)).processes) (sym own) (AllStay-effect m s p (request_at m s p))
AllStay-allowed m s (Accept p i c) q l own = AllStay-accepted m s q p.0 i (call_numbered s.pending c.0) l
AllStay-allowed m s (Instant p i) q l own =
    let x = (process_at s.processes p.0).standing in
    AllStay-goes_on q p.0 s.processes (Chose i)
    (open-idle x i is_immediate (and_parts (option_map_or is_immediate (numbered (open_alternatives x) i) false) (not (has_eligible m s p.0)) l).0)
AllStay-allowed m s (Expire p i) q l own =
    AllStay-goes_on q p.0 s.processes (expiry_grant i (process_at s.processes p.0).standing)
    (expires-idle m s p.0 i (process_at s.processes p.0).standing l)
AllStay-allowed m s (Withdraw c) q l own = AllStay-withdrawn s q (call_numbered s.pending c.0)
AllStay-allowed m s (Time t) q l own = AllStay-same q s.processes
AllStay-allowed m s End q l own = absurd cc

-- what any legal event leaves of a process, where another asks or none
record StaysAsIt (q p : ℕ) (old new : Process) : Type 0 where
  kind : new.kind ≡ old.kind
  args : new.args ≡ old.args
  running : p ≢ q → is_running old.standing ≡ true → new ≡ old

StaysAsIt-ended :
    (q p : ℕ) (x : Process) (b : Bool)
    → (b ≡ true → is_running x.standing ≡ false)
    → StaysAsIt q p x (if b then record x { standing = Ended; serving = [] } else x)
StaysAsIt-ended q p x true h = record { kind = refl; args = refl; running = λ ne r. let idle = h refl in absurd cc }
StaysAsIt-ended q p x false h = record { kind = refl; args = refl; running = λ ne r. refl }

ends-the-run : (m : Meaning) (s : State) (q p : ℕ) → p < length s.processes → StaysAsIt q p (process_at s.processes p) (process_at (all_ended m s).processes p)
ends-the-run m s q p lt =
    subst (StaysAsIt q p (process_at s.processes p)) (sym (all_ended-at m s p lt))
    (StaysAsIt-ended q p (process_at s.processes p) (waits_at_terminate m s p) (λ h. (terminate-idle m s p h).0))

StaysAsIt-end :
    (m : Meaning) (s : State) (e : Event) (q p : ℕ)
    → is_end e ≡ true
    → p < length s.processes
    → StaysAsIt q p (process_at s.processes p) (process_at (next m s e).processes p)
StaysAsIt-end m s (Ask i w) q p h lt = absurd cc
StaysAsIt-end m s (Accept i a c) q p h lt = absurd cc
StaysAsIt-end m s (Instant i a) q p h lt = absurd cc
StaysAsIt-end m s (Expire i a) q p h lt = absurd cc
StaysAsIt-end m s (Withdraw c) q p h lt = absurd cc
StaysAsIt-end m s (Time t) q p h lt = absurd cc
StaysAsIt-end m s End q p h lt = ends-the-run m s q p lt

StaysAsIt-allowed :
    (m : Meaning) (s : State) (e : Event) (q p : ℕ)
    → is_allowed m s e ≡ true
    → IsAskerOf q e
    → p < length s.processes
    → StaysAsIt q p (process_at s.processes p) (process_at (next m s e).processes p)
StaysAsIt-allowed m s e q p l own lt =
    let t = (AllStay-allowed m s e q l own p lt).1 in record { kind = t.kind; args = t.args; running = t.running }

StaysAsIt-if :
    (m : Meaning) (s : State) (e : Event) (q p : ℕ) (b : Bool)
    → (if b then is_end e else is_allowed m s e) ≡ true
    → IsAskerOf q e
    → p < length s.processes
    → StaysAsIt q p (process_at s.processes p) (process_at (next m s e).processes p)
StaysAsIt-if m s e q p true l own lt = StaysAsIt-end m s e q p l lt
StaysAsIt-if m s e q p false l own lt = StaysAsIt-allowed m s e q p l own lt

StaysAsIt-legal :
    (m : Meaning) (s : State) (e : Event) (q p : ℕ)
    → is_legal m s e ≡ true
    → IsAskerOf q e
    → p < length s.processes
    → StaysAsIt q p (process_at s.processes p) (process_at (next m s e).processes p)
StaysAsIt-legal m s e q p l own lt = StaysAsIt-if m s e q p (is_due m s) l own lt

-- the process that asks, or one that is not p
abbrev asker_but : (p : ℕ) (e : Event) → (q : ℕ) × IsAskerOf q e
asker_but p (Ask i w) = (i.0, refl)
asker_but p (Accept i a c) = (suc p, tt)
asker_but p (Instant i a) = (suc p, tt)
asker_but p (Expire i a) = (suc p, tt)
asker_but p (Withdraw c) = (suc p, tt)
asker_but p (Time t) = (suc p, tt)
asker_but p End = (suc p, tt)

asker-other : (p : Pid) (e : Event) → ((w : Word) → e ≢ Ask p w) → p.0 ≢ (asker_but p.0 e).0
asker-other p (Ask i w) h k = h w (ap (λ n. Ask (record { 0 = n }) w) (sym k))
asker-other p (Accept i a c) h k = omega (arith, k)
asker-other p (Instant i a) h k = omega (arith, k)
asker-other p (Expire i a) h k = omega (arith, k)
asker-other p (Withdraw c) h k = omega (arith, k)
asker-other p (Time t) h k = omega (arith, k)
asker-other p End h k = omega (arith, k)

pub running-within : (ps : List Process) (p : ℕ) → is_running (process_at ps p).standing ≡ true → p < length ps
running-within [] p r = cc
running-within (x ∷ ps) zero r = omega arith
running-within (x ∷ ps) (suc p) r = let h = running-within ps p r in omega arith

pub same-kind :
    (m : Meaning) (s : State) (e : Event) (p : ℕ)
    → is_legal m s e ≡ true
    → p < length s.processes
    → (process_at (next m s e).processes p).kind ≡ (process_at s.processes p).kind
same-kind m s e p l lt = (StaysAsIt-legal m s e (asker_but p e).0 p l (asker_but p e).1 lt).kind

pub same-args :
    (m : Meaning) (s : State) (e : Event) (p : ℕ)
    → is_legal m s e ≡ true
    → p < length s.processes
    → (process_at (next m s e).processes p).args ≡ (process_at s.processes p).args
same-args m s e p l lt = (StaysAsIt-legal m s e (asker_but p e).0 p l (asker_but p e).1 lt).args

pub same-running :
    (m : Meaning) (s : State) (e : Event) (p : Pid)
    → is_legal m s e ≡ true
    → ((w : Word) → e ≢ Ask p w)
    → is_running (process_at s.processes p.0).standing ≡ true
    → process_at (next m s e).processes p.0 ≡ process_at s.processes p.0
same-running m s e p l ne r =
    (StaysAsIt-legal m s e (asker_but p.0 e).0 p.0 l (asker_but p.0 e).1 (running-within s.processes p.0 r)).running (asker-other p e ne) r

-- no process is unmade
made-if :
    (m : Meaning) (s : State) (e : Event) (p : ℕ) (b : Bool)
    → (if b then is_end e else is_allowed m s e) ≡ true
    → p < length s.processes
    → p < length (next m s e).processes
made-if m s (Ask i w) p true l lt = absurd cc
made-if m s (Accept i a c) p true l lt = absurd cc
made-if m s (Instant i a) p true l lt = absurd cc
made-if m s (Expire i a) p true l lt = absurd cc
made-if m s (Withdraw c) p true l lt = absurd cc
made-if m s (Time t) p true l lt = absurd cc
made-if m s End p true l lt =
    omega (arith, length-map (enumerate_from 0 s.processes) (ended_at_terminate m s), length-enumerate_from 0 s.processes)
made-if m s e p false l lt = (AllStay-allowed m s e (asker_but p e).0 l (asker_but p e).1 p lt).0

pub still-made : (m : Meaning) (s : State) (e : Event) (p : ℕ) → is_legal m s e ≡ true → p < length s.processes → p < length (next m s e).processes
still-made m s e p l lt = made-if m s e p (is_due m s) l lt
