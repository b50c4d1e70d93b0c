-- The collective end keeps a state sound: nobody is at a call, and every served call is gone.
use Rattle.std.proofs.Common.{◌≡◌, ℕ, zero, suc, ◌+◌, ◌<◌, ◌≤◌, inl, inr, Bool, true, false, ◌||◌, List, [], ◌∷◌, length, get_or, refl, sym, ap, ◌∙◌, subst, arith}
use Rattle.std.specs.Prelude.{if◌then◌else◌}
use Rattle.std.specs.List.{Contains, enumerate_from, list_all}
use Rattle.std.proofs.lemmas.Bool.{and_parts}
use Rattle.std.proofs.lemmas.List.{length-map}
use Rattle.std.proofs.lemmas.List.Elements.{All-from_get_or, All-get_or, All-nil}
use Rattle.std.proofs.lemmas.List.FromFn.{get_or-enumerate_from, length-enumerate_from}
use Rattle.std.proofs.lemmas.List.Sums.{sum_by-le}
use Rattle.cc_base.specs.Meaning.{Meaning}
use Rattle.cc_rules.proofs.Bools.{or-false}
use Rattle.cc_base.specs.declared.names.CallId.{CallId}
use Rattle.cc_rules.proofs.Held.{Contains-nil, at_call-within, serves-within}
use Rattle.cc_rules.proofs.Lost.{SoundProcess-over}
use Rattle.cc_rules.proofs.NextStays.{all_ended-at, ended_at_terminate}
use Rattle.cc_rules.specs.Choice.{every_process, some_process}
use Rattle.cc_rules.specs.Ends.{is_due, waits_at_terminate}
use Rattle.cc_rules.specs.Events.{all_ended}
use Rattle.cc_rules.specs.Sound.{Sound, SoundProcess, Stands, count_numbered}
use Rattle.cc_rules.specs.State.{Process, State, nobody, process_at, is_over}
use Rattle.cc_rules.specs.declared.process.ProcessStanding.TheVariants.{AtCall, Ended}
use Rattle.cc_rules.specs.declared.process.TransactionCall.{TransactionCall}

pub all-at : {X : Type 0} (test : X → Bool) (xs : List X) (i : ℕ) (d : X) → list_all test xs ≡ true → i < length xs → test (get_or xs i d) ≡ true
all-at test [] i d h lt = absurd (omega arith)
all-at test (x ∷ xs) zero d h lt = (and_parts (test x) (list_all test xs) h).0
all-at test (x ∷ xs) (suc i) d h lt = all-at test xs i d (and_parts (test x) (list_all test xs) h).1 (omega arith)

-- a test of every process holds of each
pub every-at : (test : ℕ → Bool) (s : State) (p : ℕ) → every_process test s ≡ true → p < length s.processes → test p ≡ true
every-at test s p h lt =
    let long : p < length (enumerate_from 0 s.processes) = omega (arith, length-enumerate_from 0 s.processes) in
    let here : 0 + p ≡ p = omega arith in
    sym (ap test here)
    ∙ sym (ap (λ (e : ℕ × Process). test e.0) (get_or-enumerate_from 0 s.processes p (0, nobody) lt))
    ∙ all-at (λ (e : ℕ × Process). test e.0) (enumerate_from 0 s.processes) p (0, nobody) h long

pub length-all_ended : (m : Meaning) (s : State) → length (all_ended m s).processes ≡ length s.processes
length-all_ended m s = length-map (enumerate_from 0 s.processes) (ended_at_terminate m s) ∙ length-enumerate_from 0 s.processes

-- each process is over, or waits at terminate
abbrev pub over_or_waits : Meaning → State → ℕ → Bool
over_or_waits m s p = is_over (process_at s.processes p).standing || waits_at_terminate m s p

module _ (m : Meaning) (s : State) (h : Sound m s) (due : is_due m s ≡ true) where
  each-ready : (p : ℕ) → p < length s.processes → over_or_waits m s p ≡ true
  each-ready p lt =
      every-at (over_or_waits m s) s p
      (and_parts (every_process (over_or_waits m s) s) (some_process (waits_at_terminate m s) s) due).0
      lt

  after-sound : (x : Process) (b : Bool) → SoundProcess m x → SoundProcess m (if b then record x { standing = Ended; serving = [] } else x)
  after-sound x true k = SoundProcess-over m x Ended k tt
  after-sound x false k = k

  after-serves : (x : Process) (b : Bool) → (is_over x.standing ≡ true → x.serving ≡ []) → (is_over x.standing || b) ≡ true → (if b then record x { standing = Ended; serving = [] } else x).serving ≡ []
  after-serves x true free ready = refl
  after-serves x false free ready = free (or-false (is_over x.standing) ready)

  ended-within : (p : ℕ) → p < length (all_ended m s).processes → p < length s.processes
  ended-within p lt = omega (arith, lt, length-all_ended m s)

  ended-sound : (p : ℕ) → p < length (all_ended m s).processes → SoundProcess m (process_at (all_ended m s).processes p)
  ended-sound p lt =
      let within = ended-within p lt in
      subst (SoundProcess m) (sym (all_ended-at m s p within))
      (after-sound (process_at s.processes p) (waits_at_terminate m s p) (All-get_or (SoundProcess m) s.processes p nobody within h.each_process))

  ended-serves : (p : ℕ) → p < length (all_ended m s).processes → (process_at (all_ended m s).processes p).serving ≡ []
  ended-serves p lt =
      let within = ended-within p lt in
      ap (λ (x : Process). x.serving) (all_ended-at m s p within)
      ∙ after-serves (process_at s.processes p) (waits_at_terminate m s p) (All-get_or (SoundProcess m) s.processes p nobody within h.each_process).free (each-ready p within)

  after-free : (x : Process) (b : Bool) (n : CallId) → (is_over x.standing || b) ≡ true → (if b then record x { standing = Ended; serving = [] } else x).standing ≡ AtCall n → ⊥
  after-free x true n ready e = cc
  after-free x false n ready e = let over : is_over (AtCall n) ≡ true = ap is_over (sym e) ∙ or-false (is_over x.standing) ready in cc

  ended-free : (p : ℕ) (n : CallId) → (process_at (all_ended m s).processes p).standing ≡ AtCall n → ⊥
  ended-free p n e =
      let within = ended-within p (at_call-within (all_ended m s).processes p n e) in
      after-free (process_at s.processes p) (waits_at_terminate m s p) n (each-ready p within)
      (ap (λ (x : Process). x.standing) (sym (all_ended-at m s p within)) ∙ e)

  ended-none : (call : TransactionCall) → Stands (all_ended m s).processes [] call → ⊥
  ended-none call (inl k) = Contains-nil call k
  ended-none call (inr (p, k)) =
      Contains-nil call (subst (λ xs. Contains xs call) (ended-serves p (serves-within (all_ended m s).processes p call k)) k)

  pub Sound-end : Sound m (all_ended m s)
  Sound-end =
      record {
        each_process = All-from_get_or (SoundProcess m) (all_ended m s).processes nobody ended-sound;
        rising = λ i j d lt lj. absurd (omega arith);
        once = λ n.
            (let none = sum_by-le (λ (q : Process). count_numbered n q.serving) 0 (all_ended m s).processes
            (All-from_get_or (λ (q : Process). count_numbered n q.serving ≤ 0) (all_ended m s).processes nobody
            (λ i lt. (let e = ap (count_numbered n) (ended-serves i lt) in omega (arith, e)))) in
            omega arith);
        each_call = λ call there. absurd (ended-none call there);
        awaited = λ p n e. absurd (ended-free p n e);
        targets = All-nil (λ (call : TransactionCall). is_over (process_at (all_ended m s).processes call.target.0).standing ≡ false);
      }
