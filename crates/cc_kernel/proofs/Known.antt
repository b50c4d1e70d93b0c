-- In a run of a well-formed program, what is served and what a running process asks names what is there.
use Rattle.std.proofs.Common.{◌≡◌, ℕ, ◌<◌, ℤ, List, length, map, true, inl, inr, refl, ◌++◌, [], ◌∷◌, get_or, subst, Option, Some, None}
use Rattle.std.proofs.lemmas.List.Elements.{All-contains_itself, All-map}
use Rattle.std.specs.List.{All, Contains}
use Rattle.std.specs.Option.{option_map}
use Rattle.std.specs.Prelude.{slice_get}
use Rattle.std.proofs.lemmas.Option.{slice_get_within}
use Rattle.cc_base.specs.Grants.{argument_cells, IsProper}
use Rattle.cc_base.specs.Meaning.{Meaning}
use Rattle.cc_base.specs.Requests.{IsRequestOf, WellFormed}
use Rattle.cc_base.specs.declared.names.Pid.{Pid}
use Rattle.cc_base.specs.declared.names.Shape.{Shape}
use Rattle.cc_base.specs.declared.request.Grant.{Grant}
use Rattle.cc_kernel.specs.Contract.{IsReadyWith}
use Rattle.cc_kernel.specs.Store.{IsReady}
use Rattle.cc_kernel.specs.Seats.{served_call}
use Rattle.cc_kernel.specs.declared.served.ServedCall.{ServedCall}
use Rattle.cc_rules.proofs.GoOn.{IsRunFrom-append, after-append}
use Rattle.cc_rules.proofs.Own.{own-sound}
use Rattle.cc_rules.proofs.Proper.{IsNext-last}
use Rattle.cc_rules.proofs.SoundRun.{Sound-run}
use Rattle.cc_rules.specs.Events.{is_legal, next, request_at}
use Rattle.cc_rules.specs.Runs.{IsRun, state_after}
use Rattle.cc_rules.specs.Sound.{Sound}
use Rattle.cc_rules.specs.State.{first_state, is_running, process_at}
use Rattle.cc_rules.specs.declared.event.Event.{Event}
use Rattle.cc_rules.specs.declared.event.Event.TheVariants.{Ask}
use Rattle.cc_rules.specs.declared.event.Word.{Word}
use Rattle.cc_rules.specs.declared.process.TransactionCall.{TransactionCall}

-- a transaction with argument cells exists
transaction-exists : (m : Meaning) (trans n : ℕ) → argument_cells m trans ≡ Some n → trans < length m.shapes
transaction-exists m trans n e = exists (slice_get m.shapes trans) refl e
  where
    exists : (shape : Option Shape) → slice_get m.shapes trans ≡ shape → option_map (λ (x : Shape). x.args) shape ≡ Some n → trans < length m.shapes
    exists None s e = cc
    exists (Some x) s e = slice_get_within m.shapes trans x s

module _ (m : Meaning) (wf : WellFormed m) (input : List ℕ) (events : List Event) (runs : IsRun m input events) where
  sound : Sound m (state_after m input events)
  sound = Sound-run m input events wf runs

  served-exists : (p : ℕ) (call : TransactionCall) → Contains (process_at (state_after m input events).processes p).serving call → call.trans < length m.shapes
  served-exists p call there =
      transaction-exists m call.trans (length call.args) (sound.each_call call (inr (p, there))).arguments

  -- each call that is served is one of a transaction that exists
  pub known-served : (p : ℕ) → All (λ (call : ServedCall). call.trans < length m.shapes) (map served_call (process_at (state_after m input events).processes p).serving)
  known-served p =
      let calls = (process_at (state_after m input events).processes p).serving in
      All-map (λ (call : ServedCall). call.trans < length m.shapes) served_call calls
      (λ i d within. served-exists p _ (All-contains_itself calls i d within))

  -- each call that is pending is one of a transaction that exists
  pub known-now : All (λ (call : TransactionCall). call.trans < length m.shapes) (state_after m input events).pending
  known-now =
      let calls = (state_after m input events).pending in
      λ i d within.
      transaction-exists m (get_or calls i d).trans (length (get_or calls i d).args)
      (sound.each_call (get_or calls i d) (inl (All-contains_itself calls i d within))).arguments

  -- each call that is pending after a legal Ask is one of a transaction that exists
  pub known-pending :
      (p : Pid) (w : Word)
      → is_legal m (state_after m input events) (Ask p w) ≡ true
      → All (λ (call : TransactionCall). call.trans < length m.shapes) (next m (state_after m input events) (Ask p w)).pending
  known-pending p w legal =
      let e : Event = Ask p w in
      let s = state_after m input events in
      let run : IsRun m input (events ++ e ∷ []) = IsRunFrom-append m (first_state input) events (e ∷ []) runs (legal, tt) in
      let last : state_after m input (events ++ e ∷ []) ≡ next m s e = after-append m (first_state input) events (e ∷ []) in
      let sound' : Sound m (next m s e) = subst (Sound m) last (Sound-run m input (events ++ e ∷ []) wf run) in
      let calls = (next m s e).pending in
      λ i d within.
      transaction-exists m (get_or calls i d).trans (length (get_or calls i d).args)
      (sound'.each_call (get_or calls i d) (inl (All-contains_itself calls i d within))).arguments

  -- what a running process asks is one of the program's requests
  pub known-request : (p : Pid) → is_running (process_at (state_after m input events).processes p.0).standing ≡ true → IsRequestOf m (request_at m (state_after m input events) p)
  known-request p running =
      let q = process_at (state_after m input events).processes p.0 in
      let own = own-sound m (state_after m input events) sound p.0 running in
      wf.requests q.kind q.args q.grants own.kind_exists own.proper

  -- a process that is ready has yet to be given its last grant, which is next after the others
  pub ready-next :
      {P : Type 0} (located : P → ℕ → List ℤ → List Grant → Type 0) (p : ℕ) (process : P) (grant : Grant)
      → IsReady located (process_at (state_after m input events).processes p) process grant
      → IsReadyWith m located input events p process grant
  ready-next located p process grant ready =
      let q = process_at (state_after m input events).processes p in
      let own = own-sound m (state_after m input events) sound p ready.0 in
      record {
        running = ready.0;
        kind = own.kind_exists;
        proper = own.proper;
        front = ready.1.0;
        grants = ready.1.1;
        there = ready.1.2;
        is_next = IsNext-last m q.kind q.args ready.1.0 grant (subst (IsProper m q.kind q.args) ready.1.1 own.proper);
      }
