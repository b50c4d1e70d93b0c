-- The state after one event more.
use Rattle.std.proofs.Common.{◌≡◌, ℕ, ◌+◌, ◌≤◌, Bool, true, false, List, [], ◌∷◌, ◌++◌, length, refl, sym, ap, arith, get_or, length-append, append-nil, Option, Some, None}
use Rattle.std.specs.Prelude.{if◌then◌else◌, nat_lt, slice_get}
use Rattle.std.specs.Option.{option_map, option_map_or}
use Rattle.std.specs.List.{All}
use Rattle.std.proofs.Common.{◌<◌, inr}
use Rattle.std.proofs.lemmas.List.Elements.{All-contains_itself}
use Rattle.std.proofs.lemmas.Option.{slice_get_within}
use Rattle.cc_base.specs.Grants.{argument_cells}
use Rattle.cc_base.specs.Limits.{most_processes}
use Rattle.cc_base.specs.Meaning.{Meaning}
use Rattle.cc_base.specs.declared.names.Pid.{Pid}
use Rattle.cc_base.specs.declared.names.Shape.{Shape}
use Rattle.cc_base.specs.declared.request.Request.{Request}
use Rattle.cc_base.specs.declared.request.Request.TheVariants as request
use Rattle.cc_plain.specs.View.{IsAfter}
use Rattle.cc_rules.proofs.GoOn.{IsRunFrom-append, after-append, printed-append, turns-append}
use Rattle.cc_rules.specs.Choice.{call_numbered}
use Rattle.cc_rules.specs.Effects.{effect, is_there}
use Rattle.cc_rules.specs.Events.{is_legal, next, request_at}
use Rattle.cc_rules.specs.Runs.{event_bytes, state_after, turns}
use Rattle.cc_rules.specs.Sound.{Sound}
use Rattle.cc_rules.specs.State.{State, first_state, process_at}
use Rattle.cc_rules.specs.declared.event.Event.{Event}
use Rattle.cc_rules.specs.declared.event.Event.TheVariants.{Ask, Accept, Instant, Expire, Withdraw, Time, End}
use Rattle.cc_rules.specs.declared.process.TransactionCall.{TransactionCall}

either-low : (n : ℕ) (b : Bool) (x y : State) → x.drawn ≤ n → y.drawn ≤ n → (if b then x else y).drawn ≤ n
either-low n true x y h k = h
either-low n false x y h k = k

found-low : (n : ℕ) (f : TransactionCall → State) (o : Option TransactionCall) (s : State) → ((call : TransactionCall) → (f call).drawn ≤ n) → s.drawn ≤ n → (option_map_or f o s).drawn ≤ n
found-low n f None s h k = k
found-low n f (Some call) s h k = h call

effect-low : (m : Meaning) (s : State) (p : Pid) (r : Request) → (effect m s p r).drawn ≤ s.drawn + 1
effect-low m s p request.Pause = omega arith
effect-low m s p (request.Create kind args) = either-low (s.drawn + 1) (nat_lt (length s.processes) most_processes) _ _ (omega arith) (omega arith)
effect-low m s p (request.Call target trans args) = either-low (s.drawn + 1) (is_there s target) _ _ (omega arith) (omega arith)
effect-low m s p (request.TimedCall target trans args wait) = either-low (s.drawn + 1) (is_there s target) _ _ (omega arith) (omega arith)
effect-low m s p (request.Send target trans args) = either-low (s.drawn + 1) (is_there s target) _ _ (omega arith) (omega arith)
effect-low m s p (request.Select alts) = omega arith
effect-low m s p (request.Delay wait) = omega arith
effect-low m s p (request.Reply value) = omega arith
effect-low m s p (request.Print bytes) = omega arith
effect-low m s p request.Get = omega arith
effect-low m s p request.Done = omega arith
effect-low m s p (request.Fault kind) = omega arith

-- an event draws at most one number
next-low : (m : Meaning) (s : State) (e : Event) → (next m s e).drawn ≤ s.drawn + 1
next-low m s (Ask p w) = effect-low m s p (request_at m s p)
next-low m s (Accept p i c) = found-low (s.drawn + 1) _ (call_numbered s.pending c.0) s (λ call. omega arith) (omega arith)
next-low m s (Instant p i) = omega arith
next-low m s (Expire p i) = omega arith
next-low m s (Withdraw c) = found-low (s.drawn + 1) _ (call_numbered s.pending c.0) s (λ call. omega arith) (omega arith)
next-low m s (Time t) = omega arith
next-low m s End = omega arith

pub after-more :
    (m : Meaning) (input : List ℕ) (events : List Event) (spent : ℕ) (state : State) (bytes : List ℕ) (e : Event)
    → IsAfter m input events spent state bytes
    → is_legal m (state_after m input events) e ≡ true
    → IsAfter m input (events ++ e ∷ []) (spent + turns (e ∷ [])) (next m (state_after m input events) e) (bytes ++ event_bytes m (state_after m input events) e)
after-more m input events spent state bytes e k legal =
    let s = state_after m input events in
    record {
      runs = IsRunFrom-append m (first_state input) events (e ∷ []) k.runs (legal, tt);
      state_is = sym (after-append m (first_state input) events (e ∷ []));
      bytes_are = rw (printed-append m (first_state input) events (e ∷ []), append-nil) (ap (λ bs. bs ++ event_bytes m s e) k.bytes_are);
      spent_turns = rw (turns-append events (e ∷ [])) (ap (λ n. n + turns (e ∷ [])) k.spent_turns);
      low =
          (let l = next-low m s e in
          let n = length-append events (e ∷ []) in
          let same = ap (λ (x : State). x.drawn) k.state_is in
          let before = k.low in
          omega (arith, l, n, same, before));
    }

-- each call that is served is one of a transaction that exists
pub known-calls : (m : Meaning) (s : State) (p : ℕ) → Sound m s → All (λ (call : TransactionCall). call.trans < length m.shapes) (process_at s.processes p).serving
known-calls m s p sound i d within =
    let calls = (process_at s.processes p).serving in
    let call = get_or calls i d in
    exists call (sound.each_call call (inr (p, All-contains_itself calls i d within))).arguments
  where
    there : (trans n : ℕ) (o : Option Shape) → slice_get m.shapes trans ≡ o → option_map (λ (x : Shape). x.args) o ≡ Some n → trans < length m.shapes
    there trans n None s e = cc
    there trans n (Some x) s e = slice_get_within m.shapes trans x s

    exists : (call : TransactionCall) {n : ℕ} → argument_cells m call.trans ≡ Some n → call.trans < length m.shapes
    exists call {n} e = there call.trans n (slice_get m.shapes call.trans) refl e
