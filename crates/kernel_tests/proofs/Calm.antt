-- A run that a test passes is legal and settled.
use Rattle.std.proofs.Common.{◌≡◌, ℕ, Bool, true, false, ◌&&◌, ◌||◌, not, List, [], ◌∷◌}
use Rattle.std.proofs.lemmas.Bool.{and_parts}
use Rattle.cc_base.specs.Meaning.{Meaning}
use Rattle.cc_rules.proofs.Bools.{is-not}
use Rattle.cc_rules.proofs.Settled.{IsSettled-by_test}
use Rattle.cc_rules.specs.Ends.{is_unsettled}
use Rattle.cc_rules.specs.Events.{is_legal, next}
use Rattle.cc_base.specs.Requests.{WellFormed}
use Rattle.cc_rules.specs.Runs.{IsRunFrom, IsSettledFrom, is_settling, printed}
use Rattle.cc_rules.specs.State.{State, first_state}
use Rattle.kernel_tests.specs.Worked.Script.{IsWorked}
use Rattle.cc_rules.specs.declared.event.Event.{Event}

-- each event is legal, and the state is settled before each event that isn't a settling one, and at the end
abbrev pub is_calm : Meaning → State → List Event → Bool
is_calm m s [] = not (is_unsettled m s)
is_calm m s (e ∷ events) = (is_legal m s e && (is_settling e || not (is_unsettled m s))) && is_calm m (next m s e) events

or-so : (a b : Bool) → (a || b) ≡ true → a ≡ false → b ≡ true
or-so true b h k = cc
or-so false b h k = h

run-calm : (m : Meaning) (s : State) (events : List Event) → is_calm m s events ≡ true → IsRunFrom m s events
run-calm m s [] h = tt
run-calm m s (e ∷ events) h =
    let parts = and_parts (is_legal m s e && (is_settling e || not (is_unsettled m s))) (is_calm m (next m s e) events) h in
    ((and_parts (is_legal m s e) (is_settling e || not (is_unsettled m s)) parts.0).0, run-calm m (next m s e) events parts.1)

settled-calm : (m : Meaning) (s : State) (events : List Event) → is_calm m s events ≡ true → IsSettledFrom m s events
settled-calm m s [] h = IsSettled-by_test m s (is-not (is_unsettled m s) h)
settled-calm m s (e ∷ events) h =
    let parts = and_parts (is_legal m s e && (is_settling e || not (is_unsettled m s))) (is_calm m (next m s e) events) h in
    let test = (and_parts (is_legal m s e) (is_settling e || not (is_unsettled m s)) parts.0).1 in
    ((λ k. IsSettled-by_test m s (is-not (is_unsettled m s) (or-so (is_settling e) (not (is_unsettled m s)) test k))), settled-calm m (next m s e) events parts.1)

pub worked :
    (m : Meaning) (events : List Event) (bytes : List ℕ)
    → WellFormed m
    → is_calm m (first_state []) events ≡ true
    → printed m [] events ≡ bytes
    → IsWorked m events bytes
worked m events bytes well calm prints =
    record {
      well_formed = well;
      run = run-calm m (first_state []) events calm;
      settled = settled-calm m (first_state []) events calm;
      prints = prints;
    }
