-- A run goes on with more events.
use Rattle.std.proofs.Common.{◌≡◌, ◌+◌, cond, List, [], ◌∷◌, ◌++◌, refl, sym, ap, ◌∙◌, append_assoc}
use Rattle.std.proofs.lemmas.List.Sums.{sum_by-append}
use Rattle.cc_base.specs.Meaning.{Meaning}
use Rattle.cc_rules.specs.Events.{next}
use Rattle.cc_rules.specs.Runs.{after, IsRunFrom, IsSettledFrom, event_bytes, printed_from, is_turn, turns}
use Rattle.cc_rules.specs.State.{State}
use Rattle.cc_rules.specs.declared.event.Event.{Event}

pub after-append : (m : Meaning) (s : State) (first more : List Event) → after m s (first ++ more) ≡ after m (after m s first) more
after-append m s [] more = refl
after-append m s (e ∷ first) more = after-append m (next m s e) first more

pub IsRunFrom-append :
    (m : Meaning) (s : State) (first more : List Event)
    → IsRunFrom m s first
    → IsRunFrom m (after m s first) more
    → IsRunFrom m s (first ++ more)
IsRunFrom-append m s [] more h k = k
IsRunFrom-append m s (e ∷ first) more h k = (h.0, IsRunFrom-append m (next m s e) first more h.1 k)

pub IsSettledFrom-append :
    (m : Meaning) (s : State) (first more : List Event)
    → IsSettledFrom m s first
    → IsSettledFrom m (after m s first) more
    → IsSettledFrom m s (first ++ more)
IsSettledFrom-append m s [] more h k = k
IsSettledFrom-append m s (e ∷ first) more h k = (h.0, IsSettledFrom-append m (next m s e) first more h.1 k)

pub printed-append :
    (m : Meaning) (s : State) (first more : List Event)
    → printed_from m s (first ++ more) ≡ printed_from m s first ++ printed_from m (after m s first) more
printed-append m s [] more = refl
printed-append m s (e ∷ first) more =
    ap (λ bytes. event_bytes m s e ++ bytes) (printed-append m (next m s e) first more)
    ∙ sym
    (append_assoc
    (event_bytes m s e)
    (printed_from m (next m s e) first)
    (printed_from m (after m (next m s e) first) more))

pub turns-append : (first more : List Event) → turns (first ++ more) ≡ turns first + turns more
turns-append first more = sum_by-append (λ e. cond (is_turn e) 1 0) first more
