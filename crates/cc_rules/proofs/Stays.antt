-- What a legal event leaves of each process.
use Rattle.std.proofs.Common.{◌≡◌, ◌≢◌, ℕ, ◌-◌, ◌<◌, inl, inr, ℤ, Bool, true, false, List, [], ◌∷◌, ◌++◌, length, set, refl, sym, ap, ◌∙◌, subst, arith, nat_lt, Option, Some, None}
use Rattle.std.specs.Prelude.{if◌then◌else◌, slice_get, filter}
use Rattle.std.specs.Option.{option_map_or}
use Rattle.std.proofs.lemmas.List.{get_or-set_other, get_or-set_same, get_or_append_left, length-set, length-append}
use Rattle.std.proofs.lemmas.Bool.{cases_eq}
use Rattle.cc_base.specs.Meaning.{Meaning}
use Rattle.cc_base.specs.declared.names.FaultKind.TheVariants.{TooMany}
use Rattle.cc_base.specs.declared.names.Pid.{Pid}
use Rattle.cc_base.specs.declared.request.Grant.{Grant}
use Rattle.cc_base.specs.declared.request.Grant.TheVariants.{Go, Made, Value, Gone, Byte}
use Rattle.cc_base.specs.declared.request.Request.{Request}
use Rattle.cc_base.specs.declared.request.Request.TheVariants.{Pause, Create, Call, TimedCall, Send, Select, Delay, Reply, Print, Get, Done, Fault}
use Rattle.cc_base.specs.Grants.{value_cells}
use Rattle.cc_base.specs.Limits.{most_processes}
use Rattle.cc_rules.specs.Effects.{granted, grant_to, with_standing, waits_for, caller_of, answered, each_gets_gone, is_for, ended, called, is_there, of_cells, without_innermost, effect, first_byte, deadline_after}
use Rattle.cc_rules.specs.State.{Process, State, made, nobody, process_at, is_over, is_running}
use Rattle.cc_rules.specs.declared.process.ProcessStanding.{ProcessStanding}
use Rattle.cc_rules.specs.declared.process.ProcessStanding.TheVariants.{Running, AtSelect, AtDelay, AtCall, Ended, Faulted}
use Rattle.cc_rules.specs.declared.process.TransactionCall.{TransactionCall}
use Rattle.cc_rules.specs.declared.process.Waiting.TheVariants.{Nobody, Caller, Until}

-- what stays of process p where q asks: its kind and its arguments; and where p is another, it does not come to its end,
-- and is as before if it is running
pub record Stays (q p : ℕ) (old new : Process) : Type 0 where
  pub kind : new.kind ≡ old.kind
  pub args : new.args ≡ old.args
  pub there : p ≢ q → is_over old.standing ≡ false → is_over new.standing ≡ false
  pub running : p ≢ q → is_running old.standing ≡ true → new ≡ old

abbrev pub AllStay : ℕ → List Process → List Process → Type 0
AllStay q ps qs = (p : ℕ) → p < length ps → (p < length qs) × Stays q p (process_at ps p) (process_at qs p)

pub Stays-same : (q p : ℕ) (x : Process) → Stays q p x x
Stays-same q p x = record { kind = refl; args = refl; there = λ ne h. h; running = λ ne h. refl }

pub AllStay-same : (q : ℕ) (ps : List Process) → AllStay q ps ps
AllStay-same q ps p lt = (lt, Stays-same q p (process_at ps p))

Stays-along : (q p : ℕ) (x y z : Process) → Stays q p x y → Stays q p y z → Stays q p x z
Stays-along q p x y z h k =
    record {
      kind = k.kind ∙ h.kind;
      args = k.args ∙ h.args;
      there = λ ne o. k.there ne (h.there ne o);
      running = λ ne r.
          let e = h.running ne r in
          k.running ne (ap (λ (w : Process). is_running w.standing) e ∙ r) ∙ e;
    }

pub AllStay-along : (q : ℕ) (ps qs rs : List Process) → AllStay q ps qs → AllStay q qs rs → AllStay q ps rs
AllStay-along q ps qs rs h k p lt =
    let first = h p lt in
    let second = k p first.0 in
    (second.0, Stays-along q p (process_at ps p) (process_at qs p) (process_at rs p) first.1 second.1)

pub AllStay-set :
    (q : ℕ) (ps : List Process) (i : ℕ) (x : Process)
    → (i < length ps → Stays q i (process_at ps i) x)
    → AllStay q ps (set ps i x)
AllStay-set q ps i x h p lt =
    let within : p < length (set ps i x) = omega (arith, length-set ps i x) in (
      within,
      elim (cases_eq p i) [
        | inl e ↦
            subst (λ j. j < length ps → Stays q j (process_at ps j) (process_at (set ps i x) j)) (sym e)
            (λ lti. subst (λ y. Stays q i (process_at ps i) y) (sym (get_or-set_same ps i x nobody lti)) (h lti))
            lt
        | inr d ↦
            subst (λ y. Stays q p (process_at ps p) y) (sym (get_or-set_other ps i p x nobody d)) (Stays-same q p (process_at ps p))
      ],
    )

-- a step of q itself
pub AllStay-own :
    (q : ℕ) (ps : List Process) (x : Process)
    → x.kind ≡ (process_at ps q).kind
    → x.args ≡ (process_at ps q).args
    → AllStay q ps (set ps q x)
AllStay-own q ps x kind args =
    AllStay-set q ps q x (λ lt. record { kind = kind; args = args; there = λ ne. absurd (ne refl); running = λ ne. absurd (ne refl) })

-- a process that isn't running goes on
pub AllStay-idle :
    (q i : ℕ) (ps : List Process) (x : Process)
    → x.kind ≡ (process_at ps i).kind
    → x.args ≡ (process_at ps i).args
    → (is_running (process_at ps i).standing ≡ true → ⊥)
    → is_over x.standing ≡ false
    → AllStay q ps (set ps i x)
AllStay-idle q i ps x kind args idle there =
    AllStay-set q ps i x (λ lt. record { kind = kind; args = args; there = λ ne o. there; running = λ ne r. absurd (idle r) })

pub AllStay-push : (q : ℕ) (ps : List Process) (x : Process) → AllStay q ps (ps ++ x ∷ [])
AllStay-push q ps x p lt =
    let within : p < length (ps ++ x ∷ []) = omega (arith, length-append ps (x ∷ [])) in
    (within, subst (λ y. Stays q p (process_at ps p) y) (sym (get_or_append_left ps (x ∷ []) nobody p lt)) (Stays-same q p (process_at ps p)))

-- who waits for a call isn't running
waits-idle : (x : ProcessStanding) (n : ℕ) → waits_for n x ≡ true → is_running x ≡ true → ⊥
waits-idle Running n h k = cc
waits-idle (AtSelect alts asked) n h k = cc
waits-idle (AtDelay deadline) n h k = cc
waits-idle (AtCall c) n h k = cc
waits-idle Ended n h k = cc
waits-idle (Faulted c) n h k = cc

AllStay-answered_if :
    (q : ℕ) (ps : List Process) (i n : ℕ) (g : Grant) (b : Bool)
    → waits_for n (process_at ps i).standing ≡ b
    → AllStay q ps (if b then grant_to ps i g else ps)
AllStay-answered_if q ps i n g true e =
    AllStay-idle q i ps (granted (process_at ps i) g) refl refl (waits-idle (process_at ps i).standing n e) refl
AllStay-answered_if q ps i n g false e = AllStay-same q ps

AllStay-answered_by :
    (q : ℕ) (ps : List Process) (n : ℕ) (g : Grant) (caller : Option Pid)
    → AllStay q ps (option_map_or (λ c. if waits_for n (process_at ps c.0).standing then grant_to ps c.0 g else ps) caller ps)
AllStay-answered_by q ps n g None = AllStay-same q ps
AllStay-answered_by q ps n g (Some c) = AllStay-answered_if q ps c.0 n g (waits_for n (process_at ps c.0).standing) refl

pub AllStay-answered : (q : ℕ) (ps : List Process) (c : TransactionCall) (g : Grant) → AllStay q ps (answered ps c g)
AllStay-answered q ps c g = AllStay-answered_by q ps c.number.0 g (caller_of c.waiting)

pub AllStay-gone : (q : ℕ) (ps : List Process) (cs : List TransactionCall) → AllStay q ps (each_gets_gone ps cs)
AllStay-gone q ps [] = AllStay-same q ps
AllStay-gone q ps (c ∷ cs) =
    AllStay-along q ps (answered ps c Gone) (each_gets_gone (answered ps c Gone) cs)
    (AllStay-answered q ps c Gone)
    (AllStay-gone q (answered ps c Gone) cs)

pub AllStay-ended : (s : State) (q : ℕ) (how : ProcessStanding) → AllStay q s.processes (ended s q how).processes
AllStay-ended s q how =
    let x : Process = record (process_at s.processes q) { standing = how; serving = [] } in
    AllStay-along q s.processes (set s.processes q x) (ended s q how).processes
    (AllStay-own q s.processes x refl refl)
    (AllStay-gone q (set s.processes q x) (filter (is_for q) s.pending ++ (process_at s.processes q).serving))

AllStay-replied :
    (m : Meaning) (s : State) (q : ℕ) (value : List ℤ) (x : Process) (call : Option TransactionCall)
    → x.kind ≡ (process_at s.processes q).kind
    → x.args ≡ (process_at s.processes q).args
    → AllStay q s.processes
    (option_map_or (λ c. answered (set s.processes q x) c (Value (of_cells (value_cells m c.trans) value))) call (set s.processes q x))
AllStay-replied m s q value x None kind args = AllStay-own q s.processes x kind args
AllStay-replied m s q value x (Some c) kind args =
    AllStay-along q s.processes (set s.processes q x) (answered (set s.processes q x) c (Value (of_cells (value_cells m c.trans) value)))
    (AllStay-own q s.processes x kind args)
    (AllStay-answered q (set s.processes q x) c (Value (of_cells (value_cells m c.trans) value)))

AllStay-if :
    (q : ℕ) (ps : List Process) (s t : State) (b : Bool)
    → AllStay q ps s.processes
    → AllStay q ps t.processes
    → AllStay q ps (if b then s else t).processes
AllStay-if q ps s t true h k = h
AllStay-if q ps s t false h k = k

AllStay-granted : (s : State) (q : ℕ) (g : Grant) → AllStay q s.processes (grant_to s.processes q g)
AllStay-granted s q g = AllStay-own q s.processes (granted (process_at s.processes q) g) refl refl

AllStay-waits : (s : State) (q : ℕ) (x : ProcessStanding) → AllStay q s.processes (with_standing s.processes q x)
AllStay-waits s q x = AllStay-own q s.processes (record (process_at s.processes q) { standing = x }) refl refl

pub AllStay-effect : (m : Meaning) (s : State) (p : Pid) (r : Request) → AllStay p.0 s.processes (effect m s p r).processes
AllStay-effect m s p Pause = AllStay-granted s p.0 Go
AllStay-effect m s p (Create kind args) =
    let g : Grant = Made (record { 0 = length s.processes }) in
    AllStay-if p.0 s.processes
    (record s { processes = grant_to s.processes p.0 g ++ made kind args ∷ [] })
    (ended s p.0 (Faulted TooMany))
    (nat_lt (length s.processes) most_processes)
    (AllStay-along p.0 s.processes (grant_to s.processes p.0 g) (grant_to s.processes p.0 g ++ made kind args ∷ [])
    (AllStay-granted s p.0 g)
    (AllStay-push p.0 (grant_to s.processes p.0 g) (made kind args)))
    (AllStay-ended s p.0 (Faulted TooMany))
AllStay-effect m s p (Call target trans args) =
    AllStay-if p.0 s.processes
    (called s (with_standing s.processes p.0 (AtCall (record { 0 = s.drawn }))) target trans args (Caller p))
    (record s { processes = grant_to s.processes p.0 Gone })
    (is_there s target)
    (AllStay-waits s p.0 (AtCall (record { 0 = s.drawn })))
    (AllStay-granted s p.0 Gone)
AllStay-effect m s p (TimedCall target trans args wait) =
    AllStay-if p.0 s.processes
    (called s (with_standing s.processes p.0 (AtCall (record { 0 = s.drawn }))) target trans args (Until p (deadline_after s.moment wait)))
    (record s { processes = grant_to s.processes p.0 Gone })
    (is_there s target)
    (AllStay-waits s p.0 (AtCall (record { 0 = s.drawn })))
    (AllStay-granted s p.0 Gone)
AllStay-effect m s p (Send target trans args) =
    AllStay-if p.0 s.processes
    (called s (grant_to s.processes p.0 Go) target trans args Nobody)
    (record s { processes = grant_to s.processes p.0 Go })
    (is_there s target)
    (AllStay-granted s p.0 Go)
    (AllStay-granted s p.0 Go)
AllStay-effect m s p (Select alts) = AllStay-waits s p.0 (AtSelect alts s.moment)
AllStay-effect m s p (Delay wait) = AllStay-waits s p.0 (AtDelay (deadline_after s.moment wait))
AllStay-effect m s p (Reply value) =
    AllStay-replied m s p.0 value
    (record (granted (process_at s.processes p.0) Go) { serving = without_innermost (process_at s.processes p.0).serving })
    (slice_get (process_at s.processes p.0).serving (length (process_at s.processes p.0).serving - 1))
    refl refl
AllStay-effect m s p (Print bytes) = AllStay-granted s p.0 Go
AllStay-effect m s p Get = AllStay-granted s p.0 (Byte (first_byte s.input))
AllStay-effect m s p Done = AllStay-ended s p.0 Ended
AllStay-effect m s p (Fault kind) = AllStay-ended s p.0 (Faulted kind)
