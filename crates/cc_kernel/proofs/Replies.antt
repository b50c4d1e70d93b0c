-- A process answers the innermost call that it serves.
use Rattle.std.proofs.Common.{true, ◌≡◌, ◌≢◌, inl, inr, ℕ, zero, suc, ◌-◌, ◌<◌, ◌≤◌, ℤ, List, [], ◌∷◌, ◌++◌, length, set, map, take, refl, sym, ap, ◌∙◌, subst, arith, length-append, Some}
use Rattle.std.specs.Prelude.{All, slice_get, pos, replicate}
use Rattle.std.specs.Option.{option_map_or}
use Rattle.std.proofs.lemmas.List.{length-set}
use Rattle.std.proofs.lemmas.List.Elements.{All-cons, All-contains, All-head, All-nil, All-tail, Contains-append_right}
use Rattle.cc_base.specs.Meaning.{Meaning}
use Rattle.cc_base.specs.declared.names.Shape.{Shape}
use Rattle.cc_base.specs.declared.request.Grant.{Grant}
use Rattle.cc_base.specs.declared.request.Grant.TheVariants.{Go, Value}
use Rattle.cc_kernel.proofs.Outs.{length-answered}
use Rattle.cc_kernel.proofs.Seated.{Seated-answered, Seated-length, Seated-ready}
use Rattle.cc_kernel.specs.Stacks.{IsInnermost}
use Rattle.cc_kernel.proofs.Simulates.{same-or-not, serving-answered, serving-other, serving-own}
use Rattle.cc_kernel.proofs.Timed.{answered-deadline, changed-timed, deadlines-stay, running-none, same-for, set-deadline}
use Rattle.cc_kernel.specs.Store.{IsLocated, IsState, Contents, went_on}
use Rattle.cc_kernel.specs.Seats.{answered_seats, seat_at, served_call, with_ready}
use Rattle.cc_kernel.specs.declared.served.ServedCall.{ServedCall}
use Rattle.cc_base.specs.Grants.{value_cells}
use Rattle.cc_rules.specs.Effects.{answered, granted, of_cells, replied, without_innermost}
use Rattle.cc_rules.specs.State.{Process, State, is_running, process_at}
use Rattle.cc_rules.specs.declared.process.TransactionCall.{TransactionCall}

-- the first cells, where there are enough zeros behind
pub cut-zeros :
    (n : ℕ) (xs : List ℤ) (z w : ℕ)
    → n ≤ z
    → n ≤ w
    → take n (xs ++ replicate z (pos 0)) ≡ take n (xs ++ replicate w (pos 0))
cut-zeros zero xs z w h k = refl
cut-zeros (suc n) [] zero w h k = absurd (omega (arith, h))
cut-zeros (suc n) [] (suc z) zero h k = absurd (omega (arith, k))
cut-zeros (suc n) [] (suc z) (suc w) h k = ap (λ ys. pos 0 ∷ ys) (cut-zeros n [] z w (omega arith) (omega arith))
cut-zeros (suc n) (x ∷ xs) z w h k = ap (λ ys. x ∷ ys) (cut-zeros n xs z w (omega arith) (omega arith))

pub value-cells-is : (m : Meaning) (trans : ℕ) (shape : Shape) → slice_get m.shapes trans ≡ Some shape → value_cells m trans ≡ shape.value
value-cells-is m trans shape h = ap (λ o. option_map_or (λ (s : Shape). s.value) o 0) h

-- a list whose calls end so ends so
ends-so :
    (xs : List TransactionCall) (ys : List ServedCall) (c : ServedCall)
    → map served_call xs ≡ ys ++ c ∷ []
    → (front : List TransactionCall) × (call : TransactionCall) × (xs ≡ front ++ call ∷ []) × (map served_call front ≡ ys) × (served_call call ≡ c)
ends-so [] [] c h = cc
ends-so [] (y ∷ ys) c h = cc
ends-so (x ∷ []) [] c h = ([], x, refl, refl, cc)
ends-so (x ∷ x' ∷ xs) [] c h = cc
ends-so (x ∷ xs) (y ∷ ys) c h =
    let r = ends-so xs ys c (cc) in
    let e : served_call x ≡ y = cc in
    (x ∷ r.0, r.1, ap (λ zs. x ∷ zs) r.2, split-head (served_call x) y (map served_call r.0) ys e r.3, r.4)
  where
    split-head : (a b : ServedCall) (us vs : List ServedCall) → a ≡ b → us ≡ vs → (a ∷ us) ≡ (b ∷ vs)
    split-head a b us vs e f = rw (e, f) refl

last-got : (front : List TransactionCall) (call : TransactionCall) (n : ℕ) → n ≡ length front → slice_get (front ++ call ∷ []) n ≡ Some call
last-got [] call zero h = refl
last-got [] call (suc n) h = absurd (omega (arith, h))
last-got (x ∷ front) call zero h = absurd (omega (arith, h))
last-got (x ∷ front) call (suc n) h = last-got front call n (omega (arith, h))

front-taken : (front : List TransactionCall) (call : TransactionCall) (n : ℕ) → n ≡ length front → take n (front ++ call ∷ []) ≡ front
front-taken [] call zero h = refl
front-taken [] call (suc n) h = absurd (omega (arith, h))
front-taken (x ∷ front) call zero h = absurd (omega (arith, h))
front-taken (x ∷ front) call (suc n) h = ap (λ zs. x ∷ zs) (front-taken front call n (omega (arith, h)))

last-index : (front : List TransactionCall) (call : TransactionCall) → length (front ++ call ∷ []) - 1 ≡ length front
last-index front call = let e = length-append front (call ∷ []) in omega (arith, e)

map-none : (xs : List TransactionCall) → map served_call xs ≡ [] → xs ≡ []
map-none [] h = refl
map-none (x ∷ xs) h = cc

module _ {P : Type 0} (m : Meaning) (located : P → ℕ → List ℤ → List Grant → Type 0) where
  -- what a process serves after it answered
  served-after :
      (s : State) (x : Contents P) (p i : ℕ) (front : List TransactionCall) (left : ℕ → List ServedCall)
      → IsState located s x
      → p < length x.seats
      → left p ≡ map served_call front
      → ((j : ℕ) → j ≢ p → left j ≡ x.served j)
      → left i ≡ map served_call (process_at (set s.processes p (record (granted (process_at s.processes p) Go) { serving = front })) i).serving
  served-after s x p i front left k lt own others =
      let new : Process = record (granted (process_at s.processes p) Go) { serving = front } in
      elim (same-or-not i p) [
        | inl same ↦
            ap left same
            ∙ own
            ∙ sym (ap (map served_call) (ap (λ (r : Process). r.serving) (ap (λ j. process_at (set s.processes p new) j) same ∙ serving-own s.processes p new (rw (Seated-length located s.processes x.seats k.seated) lt))))
        | inr ne ↦ others i ne ∙ k.served i ∙ ap (map served_call) (sym (serving-other s.processes p i new ne))
      ]

  -- the state, where these are the calls that p serves
  abbrev replied-by : State → ℕ → List ℤ → List TransactionCall → State
  replied-by s p asked serving =
      let processes = set s.processes p (record (granted (process_at s.processes p) Go) { serving = without_innermost serving }) in
      record s {
        processes =
            option_map_or
            (λ call. answered processes call (Value (of_cells (value_cells m call.trans) asked)))
            (slice_get serving (length serving - 1))
            processes;
      }

  reply-none :
      (s : State) (x : Contents P) (p : ℕ) (process : P) (asked : List ℤ)
      → IsState located s x
      → is_running (seat_at x.seats p).standing ≡ true
      → p < length x.seats
      → x.served p ≡ []
      → IsLocated located s p process
      → IsState located (replied-by s p asked []) (went_on x p process Go)
  reply-none s x p process asked k r lt none is =
      record {
        seated = Seated-ready located s.processes x.seats p process Go [] k.seated is;
        few = rw length-set k.few;
        pending = k.pending;
        served = λ i. served-after s x p i [] x.served k lt none (λ j ne. refl);
        drawn = k.drawn;
        input = k.input;
        moment = k.moment;
        rising = k.rising;
        timed = changed-timed x.seats x.pending x.deadlines p (with_ready process Go) (running-none (seat_at x.seats p).standing r) refl k.timed;
      }

  pub state-reply-none :
      (s : State) (x : Contents P) (p : ℕ) (process : P) (asked : List ℤ)
      → IsState located s x
      → is_running (seat_at x.seats p).standing ≡ true
      → p < length x.seats
      → x.served p ≡ []
      → IsLocated located s p process
      → IsState located (replied m s p asked) (went_on x p process Go)
  state-reply-none s x p process asked k r lt none is =
      let F : List TransactionCall → Type 0 = λ serving. IsState located (replied-by s p asked serving) (went_on x p process Go) in
      subst F (sym (map-none (process_at s.processes p).serving (sym (k.served p) ∙ none))) (reply-none s x p process asked k r lt none is)

  reply-some :
      (s : State) (x : Contents P) (p : ℕ) (process : P) (asked : List ℤ) (call : TransactionCall) (left : ℕ → List ServedCall) (front : List TransactionCall)
      → IsState located s x
      → is_running (seat_at x.seats p).standing ≡ true
      → p < length x.seats
      → IsInnermost p (served_call call) x.served left
      → map served_call front ≡ left p
      → IsLocated located s p process
      → IsState located (replied-by s p asked (front ++ call ∷ []))
      (record x {
        seats = answered_seats (set x.seats p (with_ready process Go)) (served_call call) (Value (of_cells (value_cells m call.trans) asked));
        served = left;
      })
  reply-some s x p process asked call left front k running lt split own is =
      let n : length (front ++ call ∷ []) - 1 ≡ length front = last-index front call in
      let new : Process = record (granted (process_at s.processes p) Go) { serving = front } in
      let grant : Grant = Value (of_cells (value_cells m call.trans) asked) in
      rw (last-got front call (length (front ++ call ∷ []) - 1) n, front-taken front call (length (front ++ call ∷ []) - 1) n)
      (record {
        seated = Seated-answered located (set s.processes p new) (set x.seats p (with_ready process Go)) call grant (Seated-ready located s.processes x.seats p process Go front k.seated is);
        few = rw (length-answered (set x.seats p (with_ready process Go)) (served_call call) grant, length-set) k.few;
        pending = k.pending;
        served = λ i.
            served-after s x p i front left k lt (sym own) split.others
            ∙ ap (map served_call) (sym (serving-answered (set s.processes p new) call i grant));
        drawn = k.drawn;
        input = k.input;
        moment = k.moment;
        rising = k.rising;
        timed =
            deadlines-stay x.seats (answered_seats (set x.seats p (with_ready process Go)) (served_call call) grant) x.pending x.pending x.deadlines
            (same-for x.seats _ x.pending x.pending
            (λ i.
            answered-deadline (set x.seats p (with_ready process Go)) (served_call call) grant i
            ∙ set-deadline x.seats p i (with_ready process Go) (sym (running-none (seat_at x.seats p).standing running)))
            (λ c. refl)) k.timed;
      })

  pub state-reply :
      (s : State) (x : Contents P) (p : ℕ) (process : P) (asked : List ℤ) (c : ServedCall) (left : ℕ → List ServedCall)
      → IsState located s x
      → is_running (seat_at x.seats p).standing ≡ true
      → p < length x.seats
      → IsInnermost p c x.served left
      → IsLocated located s p process
      → IsState located (replied m s p asked)
      (record x {
        seats = answered_seats (set x.seats p (with_ready process Go)) c (Value (of_cells (value_cells m c.trans) asked));
        served = left;
      })
  state-reply s x p process asked c left k running lt split is =
      let r = ends-so (process_at s.processes p).serving (left p) c (sym (k.served p) ∙ split.own) in
      let F : List TransactionCall → Type 0 = λ serving.
      IsState located (replied-by s p asked serving)
      (record x {
        seats = answered_seats (set x.seats p (with_ready process Go)) c (Value (of_cells (value_cells m c.trans) asked));
        served = left;
      }) in
      let G : ServedCall → Type 0 = λ d.
      IsInnermost p d x.served left
      → IsState located (replied-by s p asked (r.0 ++ r.1 ∷ []))
      (record x {
        seats = answered_seats (set x.seats p (with_ready process Go)) d (Value (of_cells (value_cells m d.trans) asked));
        served = left;
      }) in
      subst F (sym r.2) (subst G r.4 (λ split'. reply-some s x p process asked r.1 left r.0 k running lt split' r.3 is) split)

-- what holds of all served calls holds of the one that is taken out
pub of-innermost :
    (F : ServedCall → Type 0) (p : ℕ) (call : ServedCall) (old left : ℕ → List ServedCall)
    → IsInnermost p call old left
    → ((q : ℕ) → All F (old q))
    → F call
of-innermost F p call old left split all =
    let G : List ServedCall → Type 0 = λ calls. All F calls in
    All-contains F (left p ++ call ∷ []) call (subst G split.own (all p)) (Contains-append_right (left p) (call ∷ []) call (0, omega arith, refl))

-- and of those that are left
pub of-others :
    (F : ServedCall → Type 0) (p : ℕ) (call : ServedCall) (old left : ℕ → List ServedCall)
    → IsInnermost p call old left
    → ((q : ℕ) → All F (old q))
    → (q : ℕ)
    → All F (left q)
of-others F p call old left split all q =
    let G : List ServedCall → Type 0 = λ calls. All F calls in
    elim (same-or-not q p) [
      | inl same ↦ subst (λ r. All F (left r)) (sym same) (all-front (left p) (subst G split.own (all p)))
      | inr ne ↦ subst G (sym (split.others q ne)) (all q)
    ]
  where
    all-front : (xs : List ServedCall) → All F (xs ++ call ∷ []) → All F xs
    all-front [] h = All-nil F
    all-front (x ∷ xs) h = All-cons F x xs (All-head F x (xs ++ call ∷ []) h) (all-front xs (All-tail F x (xs ++ call ∷ []) h))
