-- Whoever waits for a call is told what came of it, and the call is gone.
use Rattle.std.proofs.Common.{◌≡◌, ◌≢◌, ℕ, ◌<◌, ◌≤◌, ◌⊎◌, inl, inr, true, List, [], ◌∷◌, ◌++◌, length, refl, sym, ap, ◌∙◌, subst, arith, cond, Option, Some, None}
use Rattle.std.specs.Prelude.{if◌then◌else◌, nat_eq}
use Rattle.std.specs.Option.{option_map_or}
use Rattle.std.proofs.lemmas.List.Elements.{All-get_or, All-set}
use Rattle.std.proofs.lemmas.List.Sums.{sum_by-cons, sum_by-set}
use Rattle.std.proofs.lemmas.Option.{none-some}
use Rattle.cc_base.specs.Meaning.{Meaning}
use Rattle.cc_rules.proofs.Bools.{same-number}
use Rattle.cc_base.specs.declared.names.CallId.{CallId}
use Rattle.cc_base.specs.declared.names.Pid.{Pid}
use Rattle.cc_base.specs.declared.request.Grant.{Grant}
use Rattle.cc_base.specs.declared.request.Grant.TheVariants.{Gone}
use Rattle.cc_base.specs.declared.request.Request.{Request}
use Rattle.cc_rules.proofs.Held.{Held, apart, asked-caller, at_call-within, at-same, at-other, serving-set, Contains-head, Stands-cons, Stands-served, Stands-tail}
use Rattle.cc_rules.proofs.Proper.{IsProper-push}
use Rattle.cc_rules.specs.Effects.{answered, caller_of, each_gets_gone, granted, grant_to, waits_for}
use Rattle.cc_base.specs.Grants.{Answers}
use Rattle.cc_rules.specs.Sound.{asks, SoundProcess, SoundCall, Stands, count_numbered, count_standing, IsAskedBy, IsAwaited}
use Rattle.cc_rules.specs.State.{Process, nobody, process_at}
use Rattle.cc_rules.specs.declared.process.ProcessStanding.TheVariants.{Running, AtCall}
use Rattle.cc_rules.specs.declared.process.TransactionCall.{TransactionCall}
use Rattle.cc_rules.specs.declared.process.Waiting.{Waiting}
use Rattle.cc_rules.specs.declared.process.Waiting.TheVariants.{Nobody, Caller, Until}

-- a process may go on with what answers its request
pub SoundProcess-granted :
    (m : Meaning) (x : Process) (g : Grant)
    → SoundProcess m x
    → Answers m (asks m x) g
    → SoundProcess m (granted x g)
SoundProcess-granted m x g h a =
    record {
      kind_exists = h.kind_exists;
      proper = IsProper-push m x.kind x.args x.grants g h.proper a;
      stands = tt;
      free = λ over. absurd cc;
    }

-- the grant answers whatever was asked by which a process waits for the call
abbrev pub AnswersCall : Meaning → TransactionCall → Grant → Type 0
AnswersCall m c g = (p : ℕ) (r : Request) → IsAskedBy c.waiting p c r → Answers m r g

module _ (m : Meaning) (ps : List Process) (c : TransactionCall) (calls : List TransactionCall) (drawn : ℕ) (h : Held m ps (c ∷ calls) drawn) where
  count-tail : (n : ℕ) → count_standing ps calls n ≤ count_standing ps (c ∷ calls) n
  count-tail n = let split = sum_by-cons (λ (call : TransactionCall). cond (nat_eq call.number.0 n) 1 0) c calls in omega arith

  -- nobody waits for the call
  awaited-unwaited :
      caller_of c.waiting ≡ None
      → (p : ℕ) (number : CallId)
      → (process_at ps p).standing ≡ AtCall number
      → IsAwaited m ps calls p number
  awaited-unwaited none p number st =
      let w = h.awaited p number st in
      elim (Stands-cons ps c calls w.call w.there) [
        | inl e ↦
            absurd
            (none-some {A = Pid} (record { 0 = p })
            (sym none
            ∙ ap (λ (d : TransactionCall). caller_of d.waiting) e
            ∙ asked-caller w.call.waiting p w.call (asks m (process_at ps p)) w.asked))
        | inr k ↦ record { call = w.call; there = k; same_number = w.same_number; asked = w.asked }
      ]

  pub Held-unwaited : caller_of c.waiting ≡ None → Held m ps calls drawn
  Held-unwaited none =
      record {
        each_process = h.each_process;
        once = λ n. (let before = h.once n in let less = count-tail n in omega arith);
        each_call = λ d there. h.each_call d (Stands-tail ps c calls d there);
        awaited = awaited-unwaited none;
      }

  module _ (g : Grant) (a : AnswersCall m c g) (q : Pid) (caller : caller_of c.waiting ≡ Some q) where
    waits-here : (process_at ps q.0).standing ≡ AtCall c.number
    waits-here = (h.each_call c (inl (Contains-head c calls))).waits q caller

    within-here : q.0 < length ps
    within-here = at_call-within ps q.0 c.number waits-here

    answers-by : (d : TransactionCall) → (c ≡ d) ⊎ Stands ps calls d → d.number ≡ c.number → IsAskedBy d.waiting q.0 d (asks m (process_at ps q.0)) → Answers m (asks m (process_at ps q.0)) g
    answers-by d (inl e) same asked = a q.0 (asks m (process_at ps q.0)) (subst (λ (y : TransactionCall). IsAskedBy y.waiting q.0 y (asks m (process_at ps q.0))) (sym e) asked)
    answers-by d (inr k) same asked = absurd (apart ps c calls d h.once k (ap (λ (n : CallId). n.0) same))

    answers-here : Answers m (asks m (process_at ps q.0)) g
    answers-here =
        let w = h.awaited q.0 c.number waits-here in
        answers-by w.call (Stands-cons ps c calls w.call w.there) w.same_number w.asked

    granted-here : SoundProcess m (granted (process_at ps q.0) g)
    granted-here = SoundProcess-granted m (process_at ps q.0) g (All-get_or (SoundProcess m) ps q.0 nobody within-here h.each_process) answers-here

    serving-same : (p : ℕ) → (process_at (grant_to ps q.0 g) p).serving ≡ (process_at ps p).serving
    serving-same = serving-set ps q.0 (granted (process_at ps q.0) g) within-here refl

    call-after : (d : TransactionCall) → Stands ps calls d → SoundCall m (grant_to ps q.0 g) drawn d
    call-after d there =
        let k = h.each_call d (Stands-tail ps c calls d there) in
        record {
          number_drawn = k.number_drawn;
          arguments = k.arguments;
          waits = λ p e.
              let st = k.waits p e in
              let ne : p.0 ≢ q.0 = λ same.
              (let both : AtCall c.number ≡ AtCall d.number = sym waits-here ∙ ap (λ j. (process_at ps j).standing) (sym same) ∙ st in
              let number : d.number ≡ c.number = cc in
              apart ps c calls d h.once there (ap (λ (n : CallId). n.0) number)) in
              ap (λ (y : Process). y.standing) (at-other ps q.0 p.0 (granted (process_at ps q.0) g) ne) ∙ st;
        }

    awaited-by :
        (p : ℕ) (number : CallId) (d : TransactionCall)
        → p ≢ q.0
        → d.number ≡ number
        → IsAskedBy d.waiting p d (asks m (process_at ps p))
        → (c ≡ d) ⊎ Stands ps calls d
        → IsAwaited m (grant_to ps q.0 g) calls p number
    awaited-by p number d ne same asked (inl e) =
        let some = asked-caller d.waiting p d (asks m (process_at ps p)) asked in
        let both : Some q ≡ Some (record { 0 = p }) = sym caller ∙ ap (λ (y : TransactionCall). caller_of y.waiting) e ∙ some in
        let pid : q ≡ record { 0 = p } = cc in
        absurd (ne (sym (ap (λ (y : Pid). y.0) pid)))
    awaited-by p number d ne same asked (inr there) =
        record {
          call = d;
          there = Stands-served ps (grant_to ps q.0 g) calls serving-same d there;
          same_number = same;
          asked = subst (λ y. IsAskedBy d.waiting p d (asks m y)) (sym (at-other ps q.0 p (granted (process_at ps q.0) g) ne)) asked;
        }

    awaited-after : (p : ℕ) (number : CallId) → (process_at (grant_to ps q.0 g) p).standing ≡ AtCall number → IsAwaited m (grant_to ps q.0 g) calls p number
    awaited-after p number st =
        let x = granted (process_at ps q.0) g in
        let ne : p ≢ q.0 = λ e.
        (let run : Running ≡ AtCall number =
        ap (λ (y : Process). y.standing) (sym (ap (process_at (grant_to ps q.0 g)) e ∙ at-same ps q.0 x within-here)) ∙ st in
        absurd cc) in
        let w = h.awaited p number (ap (λ (y : Process). y.standing) (sym (at-other ps q.0 p x ne)) ∙ st) in
        awaited-by p number w.call ne w.same_number w.asked (Stands-cons ps c calls w.call w.there)

    pub Held-told : Held m (grant_to ps q.0 g) calls drawn
    Held-told =
        record {
          each_process = All-set (SoundProcess m) ps q.0 (granted (process_at ps q.0) g) granted-here h.each_process;
          once = λ n.
              (let before = h.once n in
              let less = count-tail n in
              let sums = sum_by-set (λ (y : Process). count_numbered n y.serving) ps q.0 (granted (process_at ps q.0) g) nobody within-here in
              omega arith);
          each_call = λ d there. call-after d (Stands-served (grant_to ps q.0 g) ps calls (λ p. sym (serving-same p)) d there);
          awaited = awaited-after;
        }

    Held-told_if : Held m (if waits_for c.number.0 (process_at ps q.0).standing then grant_to ps q.0 g else ps) calls drawn
    Held-told_if =
        let yes' : waits_for c.number.0 (process_at ps q.0).standing ≡ true = ap (waits_for c.number.0) waits-here ∙ same-number c.number.0 in
        subst (λ b. Held m (if b then grant_to ps q.0 g else ps) calls drawn) (sym yes') Held-told

Held-answered_by :
    (m : Meaning) (ps : List Process) (c : TransactionCall) (calls : List TransactionCall) (drawn : ℕ) (g : Grant) (caller : Option Pid)
    → Held m ps (c ∷ calls) drawn
    → AnswersCall m c g
    → caller_of c.waiting ≡ caller
    → Held m (option_map_or (λ q. if waits_for c.number.0 (process_at ps q.0).standing then grant_to ps q.0 g else ps) caller ps) calls drawn
Held-answered_by m ps c calls drawn g None h a e = Held-unwaited m ps c calls drawn h e
Held-answered_by m ps c calls drawn g (Some q) h a e = Held-told_if m ps c calls drawn h g a q e

pub Held-answered :
    (m : Meaning) (ps : List Process) (c : TransactionCall) (calls : List TransactionCall) (drawn : ℕ) (g : Grant)
    → Held m ps (c ∷ calls) drawn
    → AnswersCall m c g
    → Held m (answered ps c g) calls drawn
Held-answered m ps c calls drawn g h a = Held-answered_by m ps c calls drawn g (caller_of c.waiting) h a refl

-- that the called process is gone answers every call
gone-answers : (m : Meaning) (w : Waiting) (c : TransactionCall) (p : ℕ) (r : Request) → IsAskedBy w p c r → Answers m r Gone
gone-answers m Nobody c p r h = absurd h
gone-answers m (Caller q) c p r h = subst (λ x. Answers m x Gone) (sym h.1) tt
gone-answers m (Until q deadline) c p r h = subst (λ x. Answers m x Gone) (sym h.1.1) tt

pub Held-gone :
    (m : Meaning) (ps : List Process) (lost calls : List TransactionCall) (drawn : ℕ)
    → Held m ps (lost ++ calls) drawn
    → Held m (each_gets_gone ps lost) calls drawn
Held-gone m ps [] calls drawn h = h
Held-gone m ps (c ∷ lost) calls drawn h =
    Held-gone m (answered ps c Gone) lost calls drawn
    (Held-answered m ps c (lost ++ calls) drawn Gone h (gone-answers m c.waiting c))
