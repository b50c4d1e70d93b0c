-- A program that prints bytes, as it runs.
use Rattle.std.proofs.Common.{◌≡◌, ℕ, zero, suc, ◌+◌, ◌-◌, ◌<◌, true, false, ◌&&◌, not, List, [], ◌∷◌, ◌++◌, length, take, get_or, None, refl, sym, ap, ◌∙◌, subst, arith, length-append, append-nil, ap₂, add-one}
use Rattle.std.specs.Prelude.{slice_get}
use Rattle.std.proofs.Math.Seq.{take-suc}
use Rattle.std.proofs.lemmas.Option.{slice_get-get_or, slice_get_past}
use Rattle.cc_rules.proofs.GoOn.{after-append, IsRunFrom-append, IsSettledFrom-append, printed-append}
use Rattle.cc_rules.specs.Effects.{effect}
use Rattle.std.specs.Option.{option_map_or}
use Rattle.cc_base.specs.Meaning.{Meaning}
use Rattle.cc_base.specs.declared.request.Grant.{Grant}
use Rattle.cc_base.specs.declared.request.Grant.TheVariants.{Go}
use Rattle.cc_base.specs.declared.request.Request.TheVariants.{Print, Done}
use Rattle.cc_base.specs.Alternatives.{numbered}
use Rattle.cc_rules.specs.Choice.{expires_at, has_eligible, is_immediate}
use Rattle.cc_rules.specs.Ends.{is_due}
use Rattle.cc_rules.specs.Events.{is_legal, next, same_word, word_of}
use Rattle.cc_rules.specs.Runs.{IsRunFrom, IsSettled, IsSettledFrom, after, printed_from, event_bytes, bytes_of}
use Rattle.cc_rules.specs.State.{Process, State, first_state, nobody, open_alternatives, process_at}
use Rattle.cc_rules.specs.declared.event.Event.{Event}
use Rattle.cc_rules.specs.declared.event.Event.TheVariants.{Ask, Accept, Instant, Expire, Withdraw, Time, End}
use Rattle.cc_rules.specs.declared.event.Word.TheVariants as word
use Rattle.cc_rules.specs.declared.process.ProcessStanding.{ProcessStanding}
use Rattle.cc_rules.specs.declared.process.ProcessStanding.TheVariants.{Running, Ended}
use Rattle.cc_command.specs.Printing.{printing, request_after, main, asked}

-- `main`, standing so, after these grants
abbrev pub main_at : List Grant → ProcessStanding → Process
main_at grants standing = record { kind = 0; args = []; grants = grants; standing = standing; serving = [] }

-- the machine with `main` alone
abbrev pub alone : List Grant → ProcessStanding → State
alone grants standing =
    record {
      processes = main_at grants standing ∷ [];
      pending = [];
      input = [];
      moment = 0;
      after_time = false;
      end_taken = false;
      drawn = 0;
    }

-- what holds of the one process and of nobody holds of each number
pub of_each : (P : Process → Type 0) (q : Process) (n : ℕ) → P q → P nobody → P (process_at (q ∷ []) n)
of_each P q zero here none = here
of_each P q (suc n) here none = none

-- `main` is at no select and at no delay, so no event by which the machine settles is legal
settled_alone :
    (bytes : List ℕ) (grants : List Grant) (standing : ProcessStanding)
    → open_alternatives standing ≡ []
    → ((m : Meaning) (s : State) (p i : ℕ) → expires_at m s p i standing ≡ false)
    → is_due (printing bytes) (alone grants standing) ≡ false
    → IsSettled (printing bytes) (alone grants standing)
settled_alone bytes grants standing none never undue (Ask p w) settling = cc
settled_alone bytes grants standing none never undue (Accept p i c) settling = rw undue refl
settled_alone bytes grants standing none never undue (Instant p i) settling =
    let m = printing bytes in
    let s = alone grants standing in
    let closed : numbered (open_alternatives (process_at s.processes p.0).standing) i ≡ None =
    of_each (λ q. numbered (open_alternatives q.standing) i ≡ None) (main_at grants standing) p.0 (ap (λ a. numbered a i) none) refl in
    rw undue (ap (λ a. option_map_or is_immediate a false && not (has_eligible m s p.0)) closed)
settled_alone bytes grants standing none never undue (Expire p i) settling =
    let m = printing bytes in
    let s = alone grants standing in
    rw undue (of_each (λ q. expires_at m s p.0 i q.standing ≡ false) (main_at grants standing) p.0 (never m s p.0 i) refl)
settled_alone bytes grants standing none never undue (Withdraw c) settling = rw undue refl
settled_alone bytes grants standing none never undue (Time t) settling = cc
settled_alone bytes grants standing none never undue End settling = rw undue refl

pub settled_running : (bytes : List ℕ) (grants : List Grant) → IsSettled (printing bytes) (alone grants Running)
settled_running bytes grants = settled_alone bytes grants Running refl (λ m s p i. refl) refl

pub settled_ended : (bytes : List ℕ) (grants : List Grant) → IsSettled (printing bytes) (alone grants Ended)
settled_ended bytes grants = settled_alone bytes grants Ended refl (λ m s p i. refl) refl

-- a run goes on with one more event
run_on :
    (m : Meaning) (s t : State) (events : List Event) (e : Event)
    → after m s events ≡ t
    → IsRunFrom m s events
    → is_legal m t e ≡ true
    → IsRunFrom m s (events ++ e ∷ [])
run_on m s t events e at legal more =
    IsRunFrom-append m s events (e ∷ []) legal (subst (λ u. IsRunFrom m u (e ∷ [])) (sym at) (more, tt))

settled_on :
    (m : Meaning) (s t : State) (events : List Event) (e : Event)
    → after m s events ≡ t
    → IsSettledFrom m s events
    → IsSettled m t
    → IsSettled m (next m t e)
    → IsSettledFrom m s (events ++ e ∷ [])
settled_on m s t events e at settled before then' =
    IsSettledFrom-append m s events (e ∷ []) settled
    (subst (λ u. IsSettledFrom m u (e ∷ [])) (sym at) ((λ turn. before), then'))

printed_on :
    (m : Meaning) (s t : State) (events : List Event) (e : Event)
    → after m s events ≡ t
    → printed_from m s (events ++ e ∷ []) ≡ printed_from m s events ++ event_bytes m t e
printed_on m s t events e at =
    printed-append m s events (e ∷ [])
    ∙ ap (λ u. printed_from m s events ++ printed_from m u (e ∷ [])) at
    ∙ ap (λ bytes. printed_from m s events ++ bytes) (append-nil (event_bytes m t e))

state_on :
    (m : Meaning) (s t : State) (events : List Event) (e : Event)
    → after m s events ≡ t
    → after m s (events ++ e ∷ []) ≡ next m t e
state_on m s t events e at = after-append m s events (e ∷ []) ∙ ap (λ u. next m u e) at

-- after these events the first k bytes are printed, and `main` is running
pub record Printed (bytes : List ℕ) (k : ℕ) (events : List Event) : Type 0 where
  pub grants : List Grant
  pub count : length grants ≡ k + 1
  pub state : after (printing bytes) (first_state []) events ≡ alone grants Running
  pub legal : IsRunFrom (printing bytes) (first_state []) events
  pub settled : IsSettledFrom (printing bytes) (first_state []) events
  pub printed : printed_from (printing bytes) (first_state []) events ≡ take k bytes

pub none_printed : (bytes : List ℕ) → Printed bytes 0 []
none_printed bytes =
    record {
      grants = Go ∷ [];
      count = refl;
      state = refl;
      legal = tt;
      settled = settled_running bytes (Go ∷ []);
      printed = refl;
    }

-- what `main` asks after k + 1 grants
pub asks_print : (bytes : List ℕ) (k n : ℕ) → k < length bytes → n ≡ k + 1 → request_after bytes n ≡ Print (get_or bytes k 0 ∷ [])
asks_print bytes k n lt is =
    let here : n - 1 ≡ k = omega arith in
    ap (λ i. option_map_or (λ byte. Print (byte ∷ [])) (slice_get bytes i) Done) here
    ∙ ap (λ o. option_map_or (λ byte. Print (byte ∷ [])) o Done) (slice_get-get_or bytes k 0 lt)

pub asks_done : (bytes : List ℕ) (n : ℕ) → n ≡ length bytes + 1 → request_after bytes n ≡ Done
asks_done bytes n is =
    let past : slice_get bytes (n - 1) ≡ None = slice_get_past bytes (n - 1) (omega arith) in
    ap (λ o. option_map_or (λ byte. Print (byte ∷ [])) o Done) past

-- the next byte is printed
pub one_printed :
    (bytes : List ℕ) (k : ℕ) (events : List Event)
    → k < length bytes
    → Printed bytes k events
    → Printed bytes (k + 1) (events ++ (asked word.Print) ∷ [])
one_printed bytes k events lt p =
    let m = printing bytes in
    let s = alone p.grants Running in
    let ask = (asked word.Print) in
    let asks : request_after bytes (length p.grants) ≡ Print (get_or bytes k 0 ∷ []) = asks_print bytes k (length p.grants) lt p.count in
    let legal : is_legal m s ask ≡ true = ap (λ r. same_word word.Print (word_of r)) asks in
    let goes_on : next m s ask ≡ alone (p.grants ++ Go ∷ []) Running = ap (λ r. record (effect m s main r) { after_time = false }) asks in
    let prints : event_bytes m s ask ≡ get_or bytes k 0 ∷ [] = ap bytes_of asks in
    record {
      grants = p.grants ++ Go ∷ [];
      count = length-append p.grants (Go ∷ []) ∙ ap (λ n. n + 1) p.count;
      state = state_on m (first_state []) s events ask p.state ∙ goes_on;
      legal = run_on m (first_state []) s events ask p.state p.legal legal;
      settled =
          settled_on m (first_state []) s events ask p.state p.settled (settled_running bytes p.grants)
          (subst (IsSettled m) (sym goes_on) (settled_running bytes (p.grants ++ Go ∷ [])));
      printed =
          printed_on m (first_state []) s events ask p.state
          ∙ ap₂ (λ (a b : List ℕ). a ++ b) p.printed prints
          ∙ sym (take-suc bytes k 0 lt)
          ∙ ap (λ n. take n bytes) (sym (add-one k));
    }
