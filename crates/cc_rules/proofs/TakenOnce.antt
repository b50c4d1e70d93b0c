-- Each call is taken out of the pending calls at most once.
use Rattle.std.proofs.Common.{◌≡◌, ◌≢◌, ℕ, ◌+◌, ◌<◌, ◌≤◌, ◌⊎◌, inl, inr, Bool, true, false, not, List, [], ◌∷◌, ◌++◌, length, refl, sym, ap, ◌∙◌, subst, arith, cond, nat_lt, Option, Some, None}
use Rattle.std.specs.Prelude.{if◌then◌else◌, count_by, filter, nat_eq}
use Rattle.std.specs.List.{Contains}
use Rattle.std.specs.Option.{option_map_or}
use Rattle.std.proofs.lemmas.Bool.Decides.{Decides-eqb, nat_tests}
use Rattle.std.proofs.lemmas.List.Elements.{Contains-push_cases}
use Rattle.std.proofs.lemmas.List.Sums.{sum_by-cons}
use Rattle.cc_base.specs.Meaning.{Meaning}
use Rattle.cc_base.specs.declared.names.FaultKind.TheVariants.{TooMany}
use Rattle.cc_base.specs.declared.names.Pid.{Pid}
use Rattle.cc_base.specs.declared.request.Grant.TheVariants.{Go, Made, Gone}
use Rattle.cc_base.specs.declared.request.Request.{Request}
use Rattle.cc_base.specs.declared.request.Request.TheVariants as request
use Rattle.cc_rules.proofs.Filtered.{Contains-filter, filter-passes}
use Rattle.cc_rules.proofs.Held.{Contains-nil}
use Rattle.cc_rules.proofs.Taken.{find-contained}
use Rattle.cc_rules.specs.Choice.{accepts, call_numbered, may_withdraw}
use Rattle.cc_base.specs.Limits.{most_processes}
use Rattle.cc_rules.specs.Effects.{called, deadline_after, effect, ended, grant_to, is_for, is_there, with_standing}
use Rattle.cc_rules.specs.Ends.{is_due}
use Rattle.cc_rules.specs.Events.{accepted, is_allowed, is_end, next, outcome, request_at, withdrawn, without_call}
use Rattle.cc_rules.specs.Runs.{IsRun, IsRunFrom, takes_call}
use Rattle.cc_rules.specs.State.{State, first_state, made}
use Rattle.cc_rules.specs.declared.event.Event.{Event}
use Rattle.cc_rules.specs.declared.event.Event.TheVariants.{Ask, Accept, Instant, Expire, Withdraw, Time, End}
use Rattle.cc_rules.specs.declared.process.ProcessStanding.TheVariants.{AtCall, Faulted, Ended}
use Rattle.cc_rules.specs.declared.process.TransactionCall.{TransactionCall}
use Rattle.cc_rules.specs.declared.process.Waiting.TheVariants.{Nobody, Caller, Until}

-- the calls that are pending were so before, or their numbers were drawn since
pub record Draws (s t : State) : Type 0 where
  pub drawn : s.drawn ≤ t.drawn
  pub pending : (c : TransactionCall) → Contains t.pending c → Contains s.pending c ⊎ ((s.drawn ≤ c.number.0) × (c.number.0 < t.drawn))

Draws-same : (s t : State) → s.drawn ≡ t.drawn → s.pending ≡ t.pending → Draws s t
Draws-same s t e same = record { drawn = omega (arith, e); pending = λ c h. inl (subst (λ xs. Contains xs c) (sym same) h) }

Draws-filter : (s t : State) (test : TransactionCall → Bool) → s.drawn ≡ t.drawn → filter test s.pending ≡ t.pending → Draws s t
Draws-filter s t test e same =
    record { drawn = omega (arith, e); pending = λ c h. inl (Contains-filter test s.pending c (subst (λ xs. Contains xs c) (sym same) h)) }

Draws-if : (s t u : State) (b : Bool) → Draws s t → Draws s u → Draws s (if b then t else u)
Draws-if s t u true h k = h
Draws-if s t u false h k = k

Draws-called : (s t : State) (call : TransactionCall) → t.drawn ≡ s.drawn + 1 → t.pending ≡ s.pending ++ call ∷ [] → call.number.0 ≡ s.drawn → Draws s t
Draws-called s t call e same number =
    record {
      drawn = omega (arith, e);
      pending = λ c h.
          elim (Contains-push_cases s.pending call c (subst (λ xs. Contains xs c) same h)) [
            | inl k ↦ inl k
            | inr is ↦ (let n : c.number.0 ≡ s.drawn = ap (λ (d : TransactionCall). d.number.0) (sym is) ∙ number in inr (omega (arith, n), omega (arith, n, e)))
          ];
    }

Draws-effect : (m : Meaning) (s : State) (p : Pid) (r : Request) → Draws s (effect m s p r)
Draws-effect m s p request.Pause = Draws-same s (effect m s p request.Pause) refl refl
Draws-effect m s p (request.Create kind args) =
    Draws-if s
    (record s { processes = grant_to s.processes p.0 (Made (record { 0 = length s.processes })) ++ made kind args ∷ [] })
    (ended s p.0 (Faulted TooMany))
    (nat_lt (length s.processes) most_processes)
    (Draws-same s (record s { processes = grant_to s.processes p.0 (Made (record { 0 = length s.processes })) ++ made kind args ∷ [] }) refl refl)
    (Draws-filter s (ended s p.0 (Faulted TooMany)) (λ call. not (is_for p.0 call)) refl refl)
Draws-effect m s p (request.Call target trans args) =
    let t = called s (with_standing s.processes p.0 (AtCall (record { 0 = s.drawn }))) target trans args (Caller p) in
    let u : State = record s { processes = grant_to s.processes p.0 Gone } in
    Draws-if s t u (is_there s target)
    (Draws-called s t (record { number = record { 0 = s.drawn }; target = target; trans = trans; args = args; waiting = Caller p }) refl refl refl)
    (Draws-same s u refl refl)
Draws-effect m s p (request.TimedCall target trans args wait) =
    let until = Until p (deadline_after s.moment wait) in
    let t = called s (with_standing s.processes p.0 (AtCall (record { 0 = s.drawn }))) target trans args until in
    let u : State = record s { processes = grant_to s.processes p.0 Gone } in
    Draws-if s t u (is_there s target)
    (Draws-called s t (record { number = record { 0 = s.drawn }; target = target; trans = trans; args = args; waiting = until }) refl refl refl)
    (Draws-same s u refl refl)
Draws-effect m s p (request.Send target trans args) =
    let t = called s (grant_to s.processes p.0 Go) target trans args Nobody in
    let u : State = record s { processes = grant_to s.processes p.0 Go } in
    Draws-if s t u (is_there s target)
    (Draws-called s t (record { number = record { 0 = s.drawn }; target = target; trans = trans; args = args; waiting = Nobody }) refl refl refl)
    (Draws-same s u refl refl)
Draws-effect m s p (request.Select alts) = Draws-same s (effect m s p (request.Select alts)) refl refl
Draws-effect m s p (request.Delay wait) = Draws-same s (effect m s p (request.Delay wait)) refl refl
Draws-effect m s p (request.Reply value) = Draws-same s (effect m s p (request.Reply value)) refl refl
Draws-effect m s p (request.Print bytes) = Draws-same s (effect m s p (request.Print bytes)) refl refl
Draws-effect m s p request.Get = Draws-same s (effect m s p request.Get) refl refl
Draws-effect m s p request.Done = Draws-filter s (ended s p.0 Ended) (λ call. not (is_for p.0 call)) refl refl
Draws-effect m s p (request.Fault kind) = Draws-filter s (ended s p.0 (Faulted kind)) (λ call. not (is_for p.0 call)) refl refl

Draws-accepted : (s : State) (p i : ℕ) (call : Option TransactionCall) → Draws s (option_map_or (accepted s p i) call s)
Draws-accepted s p i None = Draws-same s s refl refl
Draws-accepted s p i (Some c) = Draws-filter s (accepted s p i c) (λ other. not (nat_eq other.number.0 c.number.0)) refl refl

Draws-withdrawn : (s : State) (call : Option TransactionCall) → Draws s (option_map_or (withdrawn s) call s)
Draws-withdrawn s None = Draws-same s s refl refl
Draws-withdrawn s (Some c) = Draws-filter s (withdrawn s c) (λ other. not (nat_eq other.number.0 c.number.0)) refl refl

Draws-outcome : (m : Meaning) (s : State) (e : Event) → Draws s (outcome m s e)
Draws-outcome m s (Ask p w) = Draws-effect m s p (request_at m s p)
Draws-outcome m s (Accept p i c) = Draws-accepted s p.0 i (call_numbered s.pending c.0)
Draws-outcome m s (Instant p i) = Draws-same s (outcome m s (Instant p i)) refl refl
Draws-outcome m s (Expire p i) = Draws-same s (outcome m s (Expire p i)) refl refl
Draws-outcome m s (Withdraw c) = Draws-withdrawn s (call_numbered s.pending c.0)
Draws-outcome m s (Time t) = Draws-same s (outcome m s (Time t)) refl refl
Draws-outcome m s End = record { drawn = omega arith; pending = λ c h. absurd (Contains-nil c h) }

Draws-next : (m : Meaning) (s : State) (e : Event) → Draws s (next m s e)
Draws-next m s e = let d = Draws-outcome m s e in record { drawn = d.drawn; pending = d.pending }

-- the numbers of the pending calls were drawn
abbrev AreDrawn : State → Type 0
AreDrawn s = (c : TransactionCall) → Contains s.pending c → c.number.0 < s.drawn

drawn-next : (m : Meaning) (s : State) (e : Event) → AreDrawn s → AreDrawn (next m s e)
drawn-next m s e h c k =
    let d = Draws-next m s e in
    elim (d.pending c k) [
      | inl old ↦ (let lt = h c old in let up = d.drawn in omega arith)
      | inr new ↦ new.1
    ]

-- the number was drawn, and no pending call has it
pub record IsPast (n : ℕ) (s : State) : Type 0 where
  pub drawn : n < s.drawn
  pub absent : (c : TransactionCall) → Contains s.pending c → c.number.0 ≢ n

IsPast-next : (m : Meaning) (s : State) (e : Event) (n : ℕ) → IsPast n s → IsPast n (next m s e)
IsPast-next m s e n h =
    let d = Draws-next m s e in
    record {
      drawn = (let lt = h.drawn in let up = d.drawn in omega arith);
      absent = λ c k same.
          elim (d.pending c k) [
            | inl old ↦ h.absent c old same
            | inr new ↦ (let lt = h.drawn in omega (arith, new.0, same))
          ];
    }

found-passes_if : (n : ℕ) (d c : TransactionCall) (o : Option TransactionCall) (b : Bool) → nat_eq d.number.0 n ≡ b → cond b (Some d) o ≡ Some c → (o ≡ Some c → c.number.0 ≡ n) → c.number.0 ≡ n
found-passes_if n d c o true is e rest = let same : d ≡ c = cc in ap (λ (x : TransactionCall). x.number.0) (sym same) ∙ (Decides-eqb d.number.0 n).0 is
found-passes_if n d c o false is e rest = rest e

-- the call that is found has the number
pub found-number : (n : ℕ) (pending : List TransactionCall) (c : TransactionCall) → call_numbered pending n ≡ Some c → c.number.0 ≡ n
found-number n [] c e = absurd cc
found-number n (d ∷ pending) c e = found-passes_if n d c (call_numbered pending n) (nat_eq d.number.0 n) refl e (found-number n pending c)

call-there : (s : State) (n : ℕ) (call : Option TransactionCall) (f : TransactionCall → Bool) → call_numbered s.pending n ≡ call → option_map_or f call false ≡ true → IsPast n s → ⊥
call-there s n None f e l past = absurd cc
call-there s n (Some c) f e l past =
    past.absent c (find-contained (λ (d : TransactionCall). nat_eq d.number.0 n) s.pending c e) (found-number n s.pending c e)

-- no call is left of the number that was taken
left-absent : (pending : List TransactionCall) (c d : TransactionCall) → Contains (without_call pending c) d → d.number.0 ≢ c.number.0
left-absent pending c d h same =
    let test : TransactionCall → Bool = λ other. not (nat_eq other.number.0 c.number.0) in
    let passes : not (nat_eq d.number.0 c.number.0) ≡ true = filter-passes test pending d h in
    grind (arith, nat_tests)

past-taken :
    (m : Meaning) (s : State) (n : ℕ) (call : Option TransactionCall) (f : TransactionCall → Bool) (after' : TransactionCall → State)
    → AreDrawn s
    → ((c : TransactionCall) → (after' c).drawn ≡ s.drawn)
    → ((c : TransactionCall) → (after' c).pending ≡ without_call s.pending c)
    → call_numbered s.pending n ≡ call
    → option_map_or f call false ≡ true
    → IsPast n (option_map_or after' call s)
past-taken m s n None f after' below drawn left e l = absurd cc
past-taken m s n (Some c) f after' below drawn left e l =
    let here = find-contained (λ (d : TransactionCall). nat_eq d.number.0 n) s.pending c e in
    let number = found-number n s.pending c e in
    record {
      drawn = (let lt = below c here in let same = drawn c in omega arith);
      absent = λ d k same.
          left-absent s.pending c d (subst (λ xs. Contains xs d) (left c) k) (same ∙ sym number);
    }

-- an event that takes the call leaves none of its number, and takes none whose number is past
taking-past : (m : Meaning) (s : State) (e : Event) (n : ℕ) → AreDrawn s → is_allowed m s e ≡ true → takes_call n e ≡ true → IsPast n (outcome m s e)
taking-past m s (Ask p w) n below l t = absurd cc
taking-past m s (Accept p i c) n below l t =
    let same = (Decides-eqb c.0 n).0 t in
    subst (λ k. IsPast k (outcome m s (Accept p i c))) same
    (past-taken m s c.0 (call_numbered s.pending c.0) (accepts m s p.0 i) (accepted s p.0 i) below (λ d. refl) (λ d. refl) refl l)
taking-past m s (Instant p i) n below l t = absurd cc
taking-past m s (Expire p i) n below l t = absurd cc
taking-past m s (Withdraw c) n below l t =
    let same = (Decides-eqb c.0 n).0 t in
    subst (λ k. IsPast k (outcome m s (Withdraw c))) same
    (past-taken m s c.0 (call_numbered s.pending c.0) (may_withdraw m s) (withdrawn s) below (λ d. refl) (λ d. refl) refl l)
taking-past m s (Time t') n below l t = absurd cc
taking-past m s End n below l t = absurd cc

past-untaken : (m : Meaning) (s : State) (e : Event) (n : ℕ) → is_allowed m s e ≡ true → takes_call n e ≡ true → IsPast n s → ⊥
past-untaken m s (Ask p w) n l t past = cc
past-untaken m s (Accept p i c) n l t past =
    call-there s c.0 (call_numbered s.pending c.0) (accepts m s p.0 i) refl l (subst (λ k. IsPast k s) (sym ((Decides-eqb c.0 n).0 t)) past)
past-untaken m s (Instant p i) n l t past = cc
past-untaken m s (Expire p i) n l t past = cc
past-untaken m s (Withdraw c) n l t past =
    call-there s c.0 (call_numbered s.pending c.0) (may_withdraw m s) refl l (subst (λ k. IsPast k s) (sym ((Decides-eqb c.0 n).0 t)) past)
past-untaken m s (Time t') n l t past = cc
past-untaken m s End n l t past = cc

end-takes : (e : Event) (n : ℕ) → is_end e ≡ true → takes_call n e ≡ true → ⊥
end-takes (Ask p w) n h t = cc
end-takes (Accept p i c) n h t = cc
end-takes (Instant p i) n h t = cc
end-takes (Expire p i) n h t = cc
end-takes (Withdraw c) n h t = cc
end-takes (Time t') n h t = cc
end-takes End n h t = cc

-- where a legal event takes a call, it is one that is legal without the collective end
allowed-if : (m : Meaning) (s : State) (e : Event) (n : ℕ) (b : Bool) → (if b then is_end e else is_allowed m s e) ≡ true → takes_call n e ≡ true → is_allowed m s e ≡ true
allowed-if m s e n true l t = absurd (end-takes e n l t)
allowed-if m s e n false l t = l

none-if : (b : Bool) → (b ≡ true → ⊥) → cond b 1 0 ≤ 0
none-if true h = absurd (h refl)
none-if false h = omega arith

one-if : (b : Bool) (rest : ℕ) → rest ≤ 1 → (b ≡ true → rest ≤ 0) → cond b 1 0 + rest ≤ 1
one-if true rest le h = let none = h refl in omega arith
one-if false rest le h = omega arith

-- how often the events take the call
abbrev pub takings : ℕ → List Event → ℕ
takings n events = count_by (takes_call n) events

takings-past : (m : Meaning) (s : State) (events : List Event) (n : ℕ) → IsPast n s → IsRunFrom m s events → takings n events ≤ 0
takings-past m s [] n past run = omega arith
takings-past m s (e ∷ events) n past run =
    let rest = takings-past m (next m s e) events n (IsPast-next m s e n past) run.1 in
    let split = sum_by-cons (λ (x : Event). cond (takes_call n x) 1 0) e events in
    let here : cond (takes_call n e) 1 0 ≤ 0 =
    none-if (takes_call n e) (λ t. past-untaken m s e n (allowed-if m s e n (is_due m s) run.0 t) t past) in
    omega arith

takings-from : (m : Meaning) (s : State) (events : List Event) (n : ℕ) → AreDrawn s → IsRunFrom m s events → takings n events ≤ 1
takings-from m s [] n below run = omega arith
takings-from m s (e ∷ events) n below run =
    let split = sum_by-cons (λ (x : Event). cond (takes_call n x) 1 0) e events in
    let rest = takings-from m (next m s e) events n (drawn-next m s e below) run.1 in
    let both : cond (takes_call n e) 1 0 + takings n events ≤ 1 =
    one-if (takes_call n e) (takings n events) rest
    (λ t.
    (let past = taking-past m s e n below (allowed-if m s e n (is_due m s) run.0 t) t in
    takings-past m (next m s e) events n (record { drawn = past.drawn; absent = past.absent }) run.1)) in
    omega arith

-- no call is accepted twice or withdrawn twice, and none is both accepted and withdrawn
pub taken-once : (m : Meaning) (input : List ℕ) (events : List Event) (n : ℕ) → IsRun m input events → count_by (takes_call n) events ≤ 1
taken-once m input events n run = takings-from m (first_state input) events n (λ c h. absurd (Contains-nil c h)) run
