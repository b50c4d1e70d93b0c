-- A process that is running goes on, or waits at its select or its delay.
use Rattle.std.proofs.Common.{◌≡◌, ℕ, zero, suc, ◌<◌, ◌⊎◌, inl, inr, ℤ, true, false, List, [], ◌∷◌, length, set, refl, sym, ap, ◌∙◌, subst, arith}
use Rattle.std.specs.Prelude.{All, AllPairs}
use Rattle.std.specs.List.{Contains}
use Rattle.std.proofs.lemmas.Bool.{cases_eq}
use Rattle.std.proofs.lemmas.List.Elements.{All-get_or, All-weaker}
use Rattle.cc_base.specs.Meaning.{Meaning}
use Rattle.cc_base.specs.declared.alternatives.Alt.{Alt}
use Rattle.cc_base.specs.declared.names.CallId.{CallId}
use Rattle.cc_base.specs.declared.request.Grant.{Grant}
use Rattle.cc_base.specs.declared.request.Request.TheVariants.{Select, Delay}
use Rattle.cc_rules.proofs.Answered.{SoundProcess-granted}
use Rattle.cc_rules.proofs.Held.{Held, Held-set, IsFree, Resets, at-same}
use Rattle.cc_rules.proofs.NextStays.{running-within}
use Rattle.cc_rules.proofs.Stays.{AllStay, AllStay-own}
use Rattle.cc_rules.specs.Effects.{granted, grant_to, with_standing}
use Rattle.cc_base.specs.Grants.{Answers}
use Rattle.cc_rules.specs.Sound.{asks, BelongsTo, Sound, SoundProcess, count_numbered}
use Rattle.cc_rules.specs.State.{Process, State, nobody, process_at, is_over, is_running}
use Rattle.cc_rules.specs.declared.process.ProcessStanding.{ProcessStanding}
use Rattle.cc_rules.specs.declared.process.ProcessStanding.TheVariants.{Running, AtSelect, AtDelay, AtCall, Ended, Faulted}
use Rattle.cc_rules.specs.declared.process.TransactionCall.{TransactionCall}

pub Held-from_sound : (m : Meaning) (s : State) → Sound m s → Held m s.processes s.pending s.drawn
Held-from_sound m s h = record { each_process = h.each_process; once = h.once; each_call = h.each_call; awaited = h.awaited }

-- the calls stand in rising number
abbrev pub AreRising : List TransactionCall → Type 0
AreRising calls = AllPairs (λ a b. a.number.0 < b.number.0) calls

-- the targets of the calls aren't over
abbrev pub TargetsAreThere : List Process → List TransactionCall → Type 0
TargetsAreThere ps calls = All (λ call. is_over (process_at ps call.target.0).standing ≡ false) calls

pub Sound-from_held :
    (m : Meaning) (s : State)
    → Held m s.processes s.pending s.drawn
    → AreRising s.pending
    → TargetsAreThere s.processes s.pending
    → Sound m s
Sound-from_held m s h rising targets =
    record {
      each_process = h.each_process;
      rising = rising;
      once = h.once;
      each_call = h.each_call;
      awaited = h.awaited;
      targets = targets;
    }

pub there-within : (ps : List Process) (p : ℕ) → is_over (process_at ps p).standing ≡ false → p < length ps
there-within [] p h = cc
there-within (x ∷ ps) zero h = omega arith
there-within (x ∷ ps) (suc p) h = let k = there-within ps p h in omega arith

-- targets stay, where the process that asks isn't over
pub targets-stay :
    (q : ℕ) (ps qs : List Process) (calls : List TransactionCall)
    → AllStay q ps qs
    → is_over (process_at qs q).standing ≡ false
    → TargetsAreThere ps calls
    → TargetsAreThere qs calls
targets-stay q ps qs calls stay own targets =
    All-weaker
    (λ (call : TransactionCall). is_over (process_at ps call.target.0).standing ≡ false)
    (λ (call : TransactionCall). is_over (process_at qs call.target.0).standing ≡ false)
    (λ call h.
    elim (cases_eq call.target.0 q) [
      | inl e ↦ ap (λ k. is_over (process_at qs k).standing) e ∙ own
      | inr d ↦ (stay call.target.0 (there-within ps call.target.0 h)).1.there d h
    ])
    calls targets

pub targets-all :
    (ps qs : List Process) (calls : List TransactionCall)
    → ((q : ℕ) → AllStay q ps qs)
    → TargetsAreThere ps calls
    → TargetsAreThere qs calls
targets-all ps qs calls stay targets =
    All-weaker
    (λ (call : TransactionCall). is_over (process_at ps call.target.0).standing ≡ false)
    (λ (call : TransactionCall). is_over (process_at qs call.target.0).standing ≡ false)
    (λ call h. (stay (suc call.target.0) call.target.0 (there-within ps call.target.0 h)).1.there (λ e. omega (arith, e)) h)
    calls targets

running-free : (x : ProcessStanding) → is_running x ≡ true → (n : CallId) → x ≡ AtCall n → ⊥
running-free x r n e = let run : is_running (AtCall n) ≡ true = ap is_running (sym e) ∙ r in cc

running-there : (x : ProcessStanding) → is_running x ≡ true → is_over x ≡ false
running-there Running r = refl
running-there (AtSelect alts asked) r = refl
running-there (AtDelay deadline) r = refl
running-there (AtCall c) r = refl
running-there Ended r = cc
running-there (Faulted kind) r = cc

-- what is known of a process of a sound state that is running
module _ (m : Meaning) (s : State) (h : Sound m s) (p : ℕ) (r : is_running (process_at s.processes p).standing ≡ true) where
  pub own-within : p < length s.processes
  own-within = running-within s.processes p r

  pub own-sound : SoundProcess m (process_at s.processes p)
  own-sound = All-get_or (SoundProcess m) s.processes p nobody own-within h.each_process

  pub own-free : IsFree (process_at s.processes p)
  own-free = running-free (process_at s.processes p).standing r

  pub own-there : is_over (process_at s.processes p).standing ≡ false
  own-there = running-there (process_at s.processes p).standing r

-- the calls stay where they are
pub Resets-same : (ps : List Process) (q : ℕ) (x : Process) (calls : List TransactionCall) → q < length ps → IsFree (process_at ps q) → IsFree x → x.serving ≡ (process_at ps q).serving → Resets ps q x calls calls
Resets-same ps q x calls within was free same =
    record {
      within = within;
      was_free = was;
      free = free;
      back = λ c. subst (λ serving. Contains calls c ⊎ Contains x.serving c → Contains calls c ⊎ Contains serving c) same (λ k. k);
      forth = λ c. subst (λ serving. Contains calls c ⊎ Contains serving c → Contains calls c ⊎ Contains x.serving c) same (λ k. k);
      count = λ n. (let e = ap (count_numbered n) same in omega (arith, e));
    }

-- a process goes on in another way, and serves the calls that it did
pub Held-own :
    (m : Meaning) (ps : List Process) (calls : List TransactionCall) (drawn q : ℕ) (x : Process)
    → Held m ps calls drawn
    → q < length ps
    → IsFree (process_at ps q)
    → IsFree x
    → x.serving ≡ (process_at ps q).serving
    → SoundProcess m x
    → Held m (set ps q x) calls drawn
Held-own m ps calls drawn q x h within was free same own =
    Held-set ps q x calls calls (Resets-same ps q x calls within was free same) m drawn h own

-- the state with process p set to x, which serves the same calls
pub Sound-own :
    (m : Meaning) (s : State) (p : ℕ) (x : Process)
    → Sound m s
    → is_running (process_at s.processes p).standing ≡ true
    → SoundProcess m x
    → IsFree x
    → x.serving ≡ (process_at s.processes p).serving
    → x.kind ≡ (process_at s.processes p).kind
    → x.args ≡ (process_at s.processes p).args
    → is_over x.standing ≡ false
    → Sound m (record s { processes = set s.processes p x })
Sound-own m s p x h r own free same kind args there =
    let within = own-within m s h p r in
    Sound-from_held m (record s { processes = set s.processes p x })
    (Held-own m s.processes s.pending s.drawn p x (Held-from_sound m s h) within (own-free m s h p r) free same own)
    h.rising
    (targets-stay p s.processes (set s.processes p x) s.pending
    (AllStay-own p s.processes x kind args)
    (ap (λ (y : Process). is_over y.standing) (at-same s.processes p x within) ∙ there)
    h.targets)

-- a process that is running is granted what answers its request
pub Sound-granted :
    (m : Meaning) (s : State) (p : ℕ) (g : Grant)
    → Sound m s
    → is_running (process_at s.processes p).standing ≡ true
    → Answers m (asks m (process_at s.processes p)) g
    → Sound m (record s { processes = grant_to s.processes p g })
Sound-granted m s p g h r a =
    Sound-own m s p (granted (process_at s.processes p) g) h r
    (SoundProcess-granted m (process_at s.processes p) g (own-sound m s h p r) a)
    (λ n e. absurd cc)
    refl refl refl refl

SoundProcess-waits :
    (m : Meaning) (x : Process) (standing : ProcessStanding)
    → SoundProcess m x
    → is_over standing ≡ false
    → BelongsTo standing (asks m x)
    → SoundProcess m (record x { standing = standing })
SoundProcess-waits m x standing h there stands =
    record {
      kind_exists = h.kind_exists;
      proper = h.proper;
      stands = stands;
      free = λ over. (let both : true ≡ false = sym over ∙ there in absurd cc);
    }

pub Sound-select :
    (m : Meaning) (s : State) (p : ℕ) (alts : List (ℕ × Alt))
    → Sound m s
    → is_running (process_at s.processes p).standing ≡ true
    → asks m (process_at s.processes p) ≡ Select alts
    → Sound m (record s { processes = with_standing s.processes p (AtSelect alts s.moment) })
Sound-select m s p alts h r e =
    Sound-own m s p (record (process_at s.processes p) { standing = AtSelect alts s.moment }) h r
    (SoundProcess-waits m (process_at s.processes p) (AtSelect alts s.moment) (own-sound m s h p r) refl e)
    (λ n k. absurd cc)
    refl refl refl refl

pub Sound-delay :
    (m : Meaning) (s : State) (p deadline : ℕ) (wait : ℤ)
    → Sound m s
    → is_running (process_at s.processes p).standing ≡ true
    → asks m (process_at s.processes p) ≡ Delay wait
    → Sound m (record s { processes = with_standing s.processes p (AtDelay deadline) })
Sound-delay m s p deadline wait h r e =
    Sound-own m s p (record (process_at s.processes p) { standing = AtDelay deadline }) h r
    (SoundProcess-waits m (process_at s.processes p) (AtDelay deadline) (own-sound m s h p r) refl (wait, e))
    (λ n k. absurd cc)
    refl refl refl refl
