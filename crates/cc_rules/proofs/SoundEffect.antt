-- What comes of a request keeps a state sound.
use Rattle.std.proofs.Common.{◌≡◌, ℕ, ◌<◌, inl, ℤ, Bool, true, false, List, [], ◌∷◌, ◌++◌, length, get_or, set, refl, sym, ap, subst, arith, nat_lt, Some}
use Rattle.std.specs.Prelude.{if◌then◌else◌, slice_get}
use Rattle.std.proofs.lemmas.List.Elements.{All-push, Contains-get_or}
use Rattle.std.proofs.lemmas.List.Quantifiers.{all_pairs_push}
use Rattle.cc_base.specs.Meaning.{Meaning}
use Rattle.cc_rules.proofs.Bools.{is-not}
use Rattle.cc_base.specs.declared.names.FaultKind.TheVariants.{TooMany}
use Rattle.cc_base.specs.declared.names.Pid.{Pid}
use Rattle.cc_base.specs.declared.request.Grant.{Grant}
use Rattle.cc_base.specs.declared.request.Grant.TheVariants.{Go, Made, Gone, Byte}
use Rattle.cc_base.specs.declared.request.Request.{Request}
use Rattle.cc_base.specs.declared.request.Request.TheVariants.{Pause, Create, Call, TimedCall, Send, Select, Delay, Reply, Print, Get, Done, Fault}
use Rattle.cc_rules.proofs.Asked.{Held-called, Held-made, Held-sent}
use Rattle.cc_rules.proofs.Held.{at-same}
use Rattle.cc_rules.proofs.Lost.{Sound-ended}
use Rattle.cc_rules.proofs.Own.{AreRising, Held-from_sound, Sound-from_held, Sound-granted, Sound-select, Sound-delay, own-free, own-there, own-within, targets-all, targets-stay}
use Rattle.cc_rules.proofs.Proper.{push-not-nil}
use Rattle.cc_rules.proofs.Replied.{Sound-replied}
use Rattle.cc_rules.proofs.Stays.{AllStay-own, AllStay-push}
use Rattle.cc_base.specs.Limits.{most_processes}
use Rattle.cc_rules.specs.Effects.{called, deadline_after, effect, ended, first_byte, grant_to, granted, is_there, rest_of, with_standing}
use Rattle.cc_base.specs.Grants.{Answers, argument_cells}
use Rattle.cc_base.specs.Requests.{IsRequestOf}
use Rattle.cc_rules.specs.Sound.{asks, is_call, IsAskedBy, Sound, SoundProcess}
use Rattle.cc_rules.specs.State.{Process, State, made, process_at, is_over, is_running}
use Rattle.cc_rules.specs.declared.process.ProcessStanding.TheVariants.{AtCall, Ended, Faulted}
use Rattle.cc_rules.specs.declared.process.TransactionCall.{TransactionCall}
use Rattle.cc_rules.specs.declared.process.Waiting.{Waiting}
use Rattle.cc_rules.specs.declared.process.Waiting.TheVariants.{Nobody, Caller, Until}

-- a process that is made
pub SoundProcess-made : (m : Meaning) (kind : ℕ) (args : List ℤ) → slice_get m.kinds kind ≡ Some (length args) → SoundProcess m (made kind args)
SoundProcess-made m kind args e = record { kind_exists = e; proper = (push-not-nil [] Go, (refl, tt)); stands = tt; free = λ over. absurd cc }

-- a pending call with the next number
abbrev new_call : State → Pid → ℕ → List ℤ → Waiting → TransactionCall
new_call s target trans args waiting = record { number = record { 0 = s.drawn }; target = target; trans = trans; args = args; waiting = waiting }

rising-pushed : (m : Meaning) (s : State) (c : TransactionCall) → Sound m s → c.number.0 ≡ s.drawn → AreRising (s.pending ++ c ∷ [])
rising-pushed m s c h e =
    all_pairs_push (λ (a b : TransactionCall). a.number.0 < b.number.0) s.pending c h.rising
    (λ k d lt. omega (arith, e, (h.each_call (get_or s.pending k d) (inl (Contains-get_or s.pending k d lt))).number_drawn))

module _ (m : Meaning) (s : State) (p : Pid) (h : Sound m s) (r : is_running (process_at s.processes p.0).standing ≡ true) where
  Sound-if : (b : Bool) (t u : State) → (b ≡ true → Sound m t) → Sound m u → Sound m (if b then t else u)
  Sound-if true t u k l = k refl
  Sound-if false t u k l = l

  Sound-go : Answers m (asks m (process_at s.processes p.0)) Go → Sound m (record s { processes = grant_to s.processes p.0 Go })
  Sound-go a = Sound-granted m s p.0 Go h r a

  Sound-called :
      (target : Pid) (trans : ℕ) (args : List ℤ) (waiting : Waiting)
      → argument_cells m trans ≡ Some (length args)
      → IsAskedBy waiting p.0 (new_call s target trans args waiting) (asks m (process_at s.processes p.0))
      → is_call (asks m (process_at s.processes p.0)) ≡ true
      → is_there s target ≡ true
      → Sound m (called s (with_standing s.processes p.0 (AtCall (record { 0 = s.drawn }))) target trans args waiting)
  Sound-called target trans args waiting cells asked call there =
      let c = new_call s target trans args waiting in
      let x : Process = record (process_at s.processes p.0) { standing = AtCall (record { 0 = s.drawn }) } in
      let ps = set s.processes p.0 x in
      let within = own-within m s h p.0 r in
      Sound-from_held m (called s ps target trans args waiting)
      (Held-called m s.processes s.pending s.drawn c (Held-from_sound m s h) refl cells p.0 within (own-free m s h p.0 r) (own-there m s h p.0 r) asked call)
      (rising-pushed m s c h refl)
      (targets-stay p.0 s.processes ps (s.pending ++ c ∷ [])
      (AllStay-own p.0 s.processes x refl refl)
      (ap (λ (y : Process). is_over y.standing) (at-same s.processes p.0 x within))
      (All-push (λ (call : TransactionCall). is_over (process_at s.processes call.target.0).standing ≡ false) s.pending c h.targets
      (is-not (is_over (process_at s.processes target.0).standing) there)))

  Sound-sent :
      (target : Pid) (trans : ℕ) (args : List ℤ)
      → argument_cells m trans ≡ Some (length args)
      → Answers m (asks m (process_at s.processes p.0)) Go
      → is_there s target ≡ true
      → Sound m (called s (grant_to s.processes p.0 Go) target trans args Nobody)
  Sound-sent target trans args cells a there =
      let c = new_call s target trans args Nobody in
      let x = granted (process_at s.processes p.0) Go in
      let ps = grant_to s.processes p.0 Go in
      let t : State = record s { processes = ps } in
      let k = Sound-go a in
      Sound-from_held m (called s ps target trans args Nobody)
      (Held-sent m ps s.pending s.drawn c (Held-from_sound m t k) refl cells refl)
      (rising-pushed m s c h refl)
      (targets-stay p.0 s.processes ps (s.pending ++ c ∷ [])
      (AllStay-own p.0 s.processes x refl refl)
      (ap (λ (y : Process). is_over y.standing) (at-same s.processes p.0 x (own-within m s h p.0 r)))
      (All-push (λ (call : TransactionCall). is_over (process_at s.processes call.target.0).standing ≡ false) s.pending c h.targets
      (is-not (is_over (process_at s.processes target.0).standing) there)))

  Sound-created :
      (kind : ℕ) (args : List ℤ) (g : Grant)
      → slice_get m.kinds kind ≡ Some (length args)
      → Answers m (asks m (process_at s.processes p.0)) g
      → Sound m (record s { processes = grant_to s.processes p.0 g ++ made kind args ∷ [] })
  Sound-created kind args g exists a =
      let ps = grant_to s.processes p.0 g in
      let t : State = record s { processes = ps } in
      let k = Sound-granted m s p.0 g h r a in
      Sound-from_held m (record s { processes = ps ++ made kind args ∷ [] })
      (Held-made m ps s.pending s.drawn (made kind args) (Held-from_sound m t k) refl (λ n e. absurd cc) (SoundProcess-made m kind args exists))
      k.rising
      (targets-all ps (ps ++ made kind args ∷ []) s.pending (λ q. AllStay-push q ps (made kind args)) k.targets)

  -- what comes of the request that the process asks
  pub Sound-effect : (request : Request) → asks m (process_at s.processes p.0) ≡ request → IsRequestOf m request → Sound m (effect m s p request)
  Sound-effect Pause e ok = Sound-go (subst (λ y. Answers m y Go) (sym e) tt)
  Sound-effect (Create kind args) e ok =
      let g : Grant = Made (record { 0 = length s.processes }) in
      Sound-if (nat_lt (length s.processes) most_processes)
      (record s { processes = grant_to s.processes p.0 g ++ made kind args ∷ [] })
      (ended s p.0 (Faulted TooMany))
      (λ few. Sound-created kind args g ok (subst (λ y. Answers m y g) (sym e) tt))
      (Sound-ended m s p.0 (Faulted TooMany) h r refl tt)
  Sound-effect (Call target trans args) e ok =
      Sound-if (is_there s target)
      (called s (with_standing s.processes p.0 (AtCall (record { 0 = s.drawn }))) target trans args (Caller p))
      (record s { processes = grant_to s.processes p.0 Gone })
      (Sound-called target trans args (Caller p) ok (refl, e) (ap is_call e))
      (Sound-granted m s p.0 Gone h r (subst (λ y. Answers m y Gone) (sym e) tt))
  Sound-effect (TimedCall target trans args wait) e ok =
      Sound-if (is_there s target)
      (called s (with_standing s.processes p.0 (AtCall (record { 0 = s.drawn }))) target trans args (Until p (deadline_after s.moment wait)))
      (record s { processes = grant_to s.processes p.0 Gone })
      (Sound-called target trans args (Until p (deadline_after s.moment wait)) ok (refl, (wait, e)) (ap is_call e))
      (Sound-granted m s p.0 Gone h r (subst (λ y. Answers m y Gone) (sym e) tt))
  Sound-effect (Send target trans args) e ok =
      let a : Answers m (asks m (process_at s.processes p.0)) Go = subst (λ y. Answers m y Go) (sym e) tt in
      Sound-if (is_there s target)
      (called s (grant_to s.processes p.0 Go) target trans args Nobody)
      (record s { processes = grant_to s.processes p.0 Go })
      (Sound-sent target trans args ok a)
      (Sound-go a)
  Sound-effect (Select alts) e ok = Sound-select m s p.0 alts h r e
  Sound-effect (Delay wait) e ok = Sound-delay m s p.0 (deadline_after s.moment wait) wait h r e
  Sound-effect (Reply value) e ok = Sound-replied m s p.0 h r (subst (λ y. Answers m y Go) (sym e) tt) value
  Sound-effect (Print bytes) e ok = Sound-go (subst (λ y. Answers m y Go) (sym e) tt)
  Sound-effect Get e ok =
      let g : Grant = Byte (first_byte s.input) in
      let k = Sound-granted m s p.0 g h r (subst (λ y. Answers m y g) (sym e) tt) in
      Sound-from_held m (record s { processes = grant_to s.processes p.0 g; input = rest_of s.input })
      (Held-from_sound m (record s { processes = grant_to s.processes p.0 g }) k)
      k.rising k.targets
  Sound-effect Done e ok = Sound-ended m s p.0 Ended h r refl tt
  Sound-effect (Fault kind) e ok = Sound-ended m s p.0 (Faulted kind) h r refl tt
