-- Each state of a run is sound.
use Rattle.std.proofs.Common.{◌≡◌, ℕ, inl, inr, Bool, true, false, List, [], ◌∷◌, refl, subst, zero, suc, arith}
use Rattle.std.specs.Prelude.{if◌then◌else◌}
use Rattle.std.specs.List.{Contains}
use Rattle.std.proofs.lemmas.Bool.{and_parts}
use Rattle.std.proofs.lemmas.List.Elements.{All-nil, All-cons}
use Rattle.cc_base.specs.Meaning.{Meaning}
use Rattle.cc_base.specs.declared.names.CallId.{CallId}
use Rattle.cc_rules.proofs.CollectiveEnd.{Sound-end}
use Rattle.cc_rules.proofs.Wakes.{Sound-accept, Sound-expire, Sound-instant, Sound-withdraw}
use Rattle.cc_rules.proofs.Held.{Contains-nil}
use Rattle.cc_rules.proofs.Own.{own-sound}
use Rattle.cc_rules.proofs.SoundEffect.{Sound-effect, SoundProcess-made}
use Rattle.cc_rules.specs.Ends.{is_due}
use Rattle.cc_rules.specs.Events.{is_allowed, is_end, is_legal, next, outcome, request_at, is_time, same_word, word_of}
use Rattle.cc_base.specs.Requests.{WellFormed}
use Rattle.cc_rules.specs.Runs.{after, IsRun, IsRunFrom, state_after}
use Rattle.cc_rules.specs.Sound.{Sound, SoundProcess, Stands}
use Rattle.cc_rules.specs.State.{State, first_state, made, process_at, is_over, is_running}
use Rattle.cc_rules.specs.declared.event.Event.{Event}
use Rattle.cc_rules.specs.declared.event.Event.TheVariants.{Ask, Accept, Instant, Expire, Withdraw, Time, End}
use Rattle.cc_rules.specs.declared.process.ProcessStanding.TheVariants.{AtCall}
use Rattle.cc_rules.specs.declared.process.TransactionCall.{TransactionCall}

first-serves : (input : List ℕ) (p : ℕ) → (process_at (first_state input).processes p).serving ≡ []
first-serves input zero = refl
first-serves input (suc p) = refl

first-free : (input : List ℕ) (p : ℕ) (n : CallId) → (process_at (first_state input).processes p).standing ≡ AtCall n → ⊥
first-free input zero n e = cc
first-free input (suc p) n e = cc

first-none : (input : List ℕ) (call : TransactionCall) → Stands (first_state input).processes [] call → ⊥
first-none input call (inl k) = Contains-nil call k
first-none input call (inr (p, k)) = Contains-nil call (subst (λ xs. Contains xs call) (first-serves input p) k)

-- the machine begins soundly
pub Sound-first : (m : Meaning) (input : List ℕ) → WellFormed m → Sound m (first_state input)
Sound-first m input wf =
    record {
      each_process = All-cons (SoundProcess m) (made 0 []) [] (SoundProcess-made m 0 [] wf.main) (All-nil (SoundProcess m));
      rising = λ i j d lt lj. absurd (omega arith);
      once = λ n. omega arith;
      each_call = λ call there. absurd (first-none input call there);
      awaited = λ p n e. absurd (first-free input p n e);
      targets = All-nil (λ (call : TransactionCall). is_over (process_at (first_state input).processes call.target.0).standing ≡ false);
    }

-- the mark of the last event is no part of soundness
Sound-mark : (m : Meaning) (s : State) (b : Bool) → Sound m s → Sound m (record s { after_time = b })
Sound-mark m s b h =
    record {
      each_process = h.each_process;
      rising = h.rising;
      once = h.once;
      each_call = h.each_call;
      awaited = λ p n e. (let w = h.awaited p n e in record { call = w.call; there = w.there; same_number = w.same_number; asked = w.asked });
      targets = h.targets;
    }

module _ (m : Meaning) (s : State) (wf : WellFormed m) (h : Sound m s) where
  Sound-outcome : (e : Event) → is_allowed m s e ≡ true → Sound m (outcome m s e)
  Sound-outcome (Ask p w) l =
      let r = (and_parts (is_running (process_at s.processes p.0).standing) (same_word w (word_of (request_at m s p))) l).0 in
      let q = process_at s.processes p.0 in
      let own = own-sound m s h p.0 r in
      Sound-effect m s p h r (request_at m s p) refl (wf.requests q.kind q.args q.grants own.kind_exists own.proper)
  Sound-outcome (Accept p i c) l = Sound-accept m s p.0 i c.0 h l
  Sound-outcome (Instant p i) l = Sound-instant m s p.0 i h l
  Sound-outcome (Expire p i) l = Sound-expire m s p.0 i h l
  Sound-outcome (Withdraw c) l = Sound-withdraw m s c.0 h l
  Sound-outcome (Time t) l =
      record {
        each_process = h.each_process;
        rising = h.rising;
        once = h.once;
        each_call = h.each_call;
        awaited = h.awaited;
        targets = h.targets;
      }
  Sound-outcome End l = absurd cc

  Sound-due : (e : Event) → is_due m s ≡ true → is_end e ≡ true → Sound m (outcome m s e)
  Sound-due (Ask p w) due l = absurd cc
  Sound-due (Accept p i c) due l = absurd cc
  Sound-due (Instant p i) due l = absurd cc
  Sound-due (Expire p i) due l = absurd cc
  Sound-due (Withdraw c) due l = absurd cc
  Sound-due (Time t) due l = absurd cc
  Sound-due End due l = Sound-end m s h due

  Sound-if_due : (e : Event) (b : Bool) → is_due m s ≡ b → (if b then is_end e else is_allowed m s e) ≡ true → Sound m (outcome m s e)
  Sound-if_due e true due l = Sound-due e due l
  Sound-if_due e false due l = Sound-outcome e l

  -- a legal event keeps a state sound
  pub Sound-next : (e : Event) → is_legal m s e ≡ true → Sound m (next m s e)
  Sound-next e l = Sound-mark m (outcome m s e) (is_time e) (Sound-if_due e (is_due m s) refl l)

Sound-after : (m : Meaning) (s : State) (events : List Event) → WellFormed m → Sound m s → IsRunFrom m s events → Sound m (after m s events)
Sound-after m s [] wf h run = h
Sound-after m s (e ∷ events) wf h run = Sound-after m (next m s e) events wf (Sound-next m s wf h e run.0) run.1

pub Sound-run : (m : Meaning) (input : List ℕ) (events : List Event) → WellFormed m → IsRun m input events → Sound m (state_after m input events)
Sound-run m input events wf run = Sound-after m (first_state input) events wf (Sound-first m input wf) run
