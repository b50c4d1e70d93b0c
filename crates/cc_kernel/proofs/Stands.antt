-- How a run stands, as the seats tell it.
use Rattle.std.proofs.Common.{◌≡◌, ℕ, zero, suc, ℤ, Bool, true, false, ◌&&◌, ◌||◌, not, List, [], ◌∷◌, refl, sym, ap, ◌∙◌, nat_eq, ◌≢◌, ◌<◌, ◌≤◌, arith, subst, Option, Some, None}
use Rattle.std.proofs.lemmas.Bool.Decides.{nat_tests}
use Rattle.std.specs.Prelude.{if◌then◌else◌, is_some}
use Rattle.std.specs.List.{list_all, list_any}
use Rattle.cc_base.specs.Meaning.{Meaning}
use Rattle.cc_base.specs.declared.request.Grant.{Grant}
use Rattle.cc_kernel.proofs.Least.{some-deadline}
use Rattle.cc_kernel.proofs.Seated.{same-standing}
use Rattle.cc_kernel.specs.Contract.{SomeRunning, least_of}
use Rattle.cc_kernel.specs.Timed.{resting_standing}
use Rattle.cc_kernel.specs.Seats.{seat_at}
use Rattle.cc_kernel.specs.Store.{IsState, Contents, Seated}
use Rattle.cc_rules.specs.Standing.{IsOver, deadlines, least, standing_in}
use Rattle.cc_kernel.specs.declared.seat.Seat.{Seat}
use Rattle.cc_rules.specs.Ends.{has_deadline, has_faulted, has_running, is_complete, is_unsettled}
use Rattle.cc_rules.specs.Runs.{state_after}
use Rattle.cc_rules.specs.declared.event.Event.{Event}
use Rattle.cc_rules.specs.State.{Process, State, is_faulted, is_over, is_running, process_at}
use Rattle.cc_rules.specs.declared.event.Standing.{Standing}
use Rattle.cc_rules.specs.declared.event.Standing.TheVariants.{Going, Idle, Ended, Stuck, Spent}
use Rattle.cc_rules.specs.declared.process.ProcessStanding.{ProcessStanding}
use Rattle.cc_rules.specs.declared.process.ProcessStanding.TheVariants.{Running, AtSelect, AtDelay, AtCall, Faulted}
use Rattle.cc_rules.specs.declared.process.ProcessStanding.TheVariants as process

-- how a state stands, by its tests
shape : Bool → Bool → Bool → Bool → Bool → Bool → ℕ → Standing
shape complete running unsettled deadline spent faulted until =
    if complete
    then Ended faulted
    else
    (if not complete && not running && not unsettled && not deadline
    then Stuck
    else (if spent then Spent else (if not running && deadline then Idle until else Going)))

-- how it stands where it is settled
abbrev pub settled_shape : Bool → Bool → Bool → Bool → Option ℕ → Standing
settled_shape over running spent faulted until =
    if over then Ended faulted else (if running then (if spent then Spent else Going) else resting_standing spent until)

settled-shape : (over running spent faulted : Bool) (ns : List ℕ) → shape over running false (is_some (least_of ns)) spent faulted (least ns) ≡ settled_shape over running spent faulted (least_of ns)
unfolding shape
settled-shape true running spent faulted ns = refl
settled-shape false true true faulted [] = refl
settled-shape false true true faulted (n ∷ ns) = refl
settled-shape false true false faulted [] = refl
settled-shape false true false faulted (n ∷ ns) = refl
settled-shape false false spent faulted [] = refl
settled-shape false false true faulted (n ∷ ns) = refl
settled-shape false false false faulted (n ∷ ns) = refl

shape-is :
    (m : Meaning) (s : State) (spent allowed : ℕ)
    → standing_in m s spent allowed
    ≡ shape (is_complete s) (has_running s) (is_unsettled m s) (has_deadline s) (nat_eq spent allowed) (has_faulted s) (least (deadlines s))
unfolding shape
shape-is m s spent allowed = refl

module _ {P : Type 0} (located : P → ℕ → List ℤ → List Grant → Type 0) where
  -- a test of standings holds of each process where it does of each seat
  pub all-same :
      (f : ProcessStanding → Bool) (qs : List Process) (seats : List (Seat P))
      → Seated located qs seats
      → list_all (λ q. f q.standing) qs ≡ list_all (λ seat. f seat.standing) seats
  all-same f [] [] h = refl
  all-same f (q ∷ qs) (seat ∷ seats) h = rw (h.0.standing, all-same f qs seats h.1) refl
  all-same f [] (seat ∷ seats) h = absurd h
  all-same f (q ∷ qs) [] h = absurd h

  -- a test of standings holds of some process where it does of some seat
  pub any-same :
      (f : ProcessStanding → Bool) (qs : List Process) (seats : List (Seat P))
      → Seated located qs seats
      → list_any (λ q. f q.standing) qs ≡ list_any (λ seat. f seat.standing) seats
  any-same f [] [] h = refl
  any-same f (q ∷ qs) (seat ∷ seats) h = rw (h.0.standing, any-same f qs seats h.1) refl
  any-same f [] (seat ∷ seats) h = absurd h
  any-same f (q ∷ qs) [] h = absurd h

  running-at : (qs : List Process) (seats : List (Seat P)) → Seated located qs seats → list_any (λ seat. is_running seat.standing) seats ≡ true → (p : ℕ) × (is_running (process_at qs p).standing ≡ true)
  running-at [] [] h some = cc
  running-at [] (seat ∷ seats) h some = absurd h
  running-at (q ∷ qs) [] h some = absurd h
  running-at (q ∷ qs) (seat ∷ seats) h some = first (λ rest. running-at qs seats h.1 rest) (is_running q.standing) refl
    where
      first :
          (list_any (λ s. is_running s.standing) seats ≡ true → (p : ℕ) × (is_running (process_at qs p).standing ≡ true))
          → (b : Bool)
          → is_running q.standing ≡ b
          → (p : ℕ) × (is_running (process_at (q ∷ qs) p).standing ≡ true)
      first more true e = (0, e)
      first more false e =
          let found = more (sym (ap (λ b. b || list_any (λ s. is_running s.standing) seats) (ap is_running h.0.standing ∙ e)) ∙ some) in
          (suc found.0, found.1)

  -- where a seat's process is running, a process is running
  pub some-running :
      (m : Meaning) (input : List ℕ) (events : List Event) (seats : List (Seat P))
      → Seated located (state_after m input events).processes seats
      → list_any (λ seat. is_running seat.standing) seats ≡ true
      → SomeRunning m input events
  some-running m input events seats k some = running-at (state_after m input events).processes seats k some

  -- how it stands, by the seats and the least deadline
  pub stands-as :
      (m : Meaning) (s : State) (x : Contents P) (spent allowed : ℕ)
      → IsState located s x
      → is_unsettled m s ≡ false
      → standing_in m s spent allowed
      ≡ settled_shape (list_all (λ seat. is_over seat.standing) x.seats) (list_any (λ seat. is_running seat.standing) x.seats)
      (nat_eq spent allowed) (list_any (λ seat. is_faulted seat.standing) x.seats) (least_of (deadlines s))
  stands-as m s x spent allowed k quiet =
      let until = least (deadlines s) in
      let o = least_of (deadlines s) in
      shape-is m s spent allowed
      ∙ ap (λ b. shape (is_complete s) (has_running s) b (has_deadline s) (nat_eq spent allowed) (has_faulted s) until) quiet
      ∙ ap (λ b. shape (is_complete s) (has_running s) false b (nat_eq spent allowed) (has_faulted s) until) (some-deadline s)
      ∙ settled-shape (is_complete s) (has_running s) (nat_eq spent allowed) (has_faulted s) (deadlines s)
      ∙ ap (λ b. settled_shape b (has_running s) (nat_eq spent allowed) (has_faulted s) o) (all-same is_over s.processes x.seats k.seated)
      ∙ ap (λ b. settled_shape (list_all (λ seat. is_over seat.standing) x.seats) b (nat_eq spent allowed) (has_faulted s) o) (any-same is_running s.processes x.seats k.seated)
      ∙ ap (λ b. settled_shape (list_all (λ seat. is_over seat.standing) x.seats) (list_any (λ seat. is_running seat.standing) x.seats) (nat_eq spent allowed) b o) (any-same is_faulted s.processes x.seats k.seated)

pub shape-spent : (over running spent faulted : Bool) (o : Option ℕ) → over ≡ false → running ≡ true → spent ≡ true → settled_shape over running spent faulted o ≡ Spent
shape-spent over running spent faulted o h k l = rw (h, k, l) refl

pub shape-going : (over running spent faulted : Bool) (o : Option ℕ) → over ≡ false → running ≡ true → spent ≡ false → settled_shape over running spent faulted o ≡ Going
shape-going over running spent faulted o h k l = rw (h, k, l) refl

pub shape-resting : (over running spent faulted : Bool) (o : Option ℕ) → over ≡ false → running ≡ false → settled_shape over running spent faulted o ≡ resting_standing spent o
shape-resting over running spent faulted o h k = rw (h, k) refl

pub shape-ended : (over running spent faulted b : Bool) (o : Option ℕ) → over ≡ true → faulted ≡ b → settled_shape over running spent faulted o ≡ Ended b
shape-ended over running spent faulted b o h k = rw (h, k) refl

-- it is not idle where no deadline stands
pub never-idle : (spent : Bool) (o : Option ℕ) (until : ℕ) → o ≡ None → resting_standing spent o ≡ Idle until → ⊥
never-idle spent None until h e = cc
never-idle spent (Some n) until h e = cc

pub same-count : (a b c : ℕ) → a ≡ c → a ≡ b → nat_eq c b ≡ true
same-count a b c e h = grind (arith, nat_tests)

pub other-count : (a b c : ℕ) → a ≡ c → a ≢ b → nat_eq c b ≡ false
other-count a b c e h = grind (arith, nat_tests)

any-running : {P : Type 0} (seats : List (Seat P)) (i : ℕ) → is_running (seat_at seats i).standing ≡ true → list_any (λ seat. is_running seat.standing) seats ≡ true
any-running [] i h = cc
any-running (seat ∷ seats) zero h = rw h refl
any-running (seat ∷ seats) (suc i) h = or-behind (is_running seat.standing) (list_any (λ other. is_running other.standing) seats) (any-running seats i h)
  where
    or-behind : (a b : Bool) → b ≡ true → (a || b) ≡ true
    or-behind true b h = refl
    or-behind false b h = h

not-all-over : {P : Type 0} (seats : List (Seat P)) (i : ℕ) → is_running (seat_at seats i).standing ≡ true → list_all (λ seat. is_over seat.standing) seats ≡ false
not-all-over [] i h = cc
not-all-over (seat ∷ seats) zero h = and-first (is_over seat.standing) (list_all (λ other. is_over other.standing) seats) (running-on seat.standing h)
  where
    and-first : (a b : Bool) → a ≡ false → (a && b) ≡ false
    and-first true b h = cc
    and-first false b h = refl

    running-on : (x : ProcessStanding) → is_running x ≡ true → is_over x ≡ false
    running-on Running h = refl
    running-on (AtSelect alts asked) h = cc
    running-on (AtDelay deadline) h = cc
    running-on (AtCall call) h = cc
    running-on process.Ended h = cc
    running-on (Faulted kind) h = cc
not-all-over (seat ∷ seats) (suc i) h = and-behind (is_over seat.standing) (list_all (λ other. is_over other.standing) seats) (not-all-over seats i h)
  where
    and-behind : (a b : Bool) → b ≡ false → (a && b) ≡ false
    and-behind true b h = h
    and-behind false b h = refl

-- a run with turns left in which a process is running goes on
pub running-goes :
    {P : Type 0} (located : P → ℕ → List ℤ → List Grant → Type 0) (m : Meaning) (s : State) (x : Contents P) (spent allowed i : ℕ)
    → IsState located s x
    → is_unsettled m s ≡ false
    → nat_eq spent allowed ≡ false
    → is_running (process_at s.processes i).standing ≡ true
    → standing_in m s spent allowed ≡ Going
running-goes located m s x spent allowed i k quiet left h =
    let r : is_running (seat_at x.seats i).standing ≡ true = ap is_running (same-standing located s.processes x.seats i k.seated) ∙ h in
    stands-as located m s x spent allowed k quiet
    ∙ shape-going _ _ _ _ _ (not-all-over x.seats i r) (any-running x.seats i r) left

shape-left : (over running spent faulted : Bool) (o : Option ℕ) → (IsOver (settled_shape over running spent faulted o) → ⊥) → spent ≡ false
shape-left true running spent faulted o h = absurd (h tt)
shape-left false true true faulted o h = absurd (h tt)
shape-left false true false faulted o h = refl
shape-left false false spent faulted None h = absurd (h tt)
shape-left false false true faulted (Some until) h = absurd (h tt)
shape-left false false false faulted (Some until) h = refl

going-on : (x : Standing) → x ≡ Going → IsOver x → ⊥
going-on x e over = subst IsOver e over

-- a run that is not over has turns left
pub still-left :
    {P : Type 0} (located : P → ℕ → List ℤ → List Grant → Type 0) (m : Meaning) (s : State) (x : Contents P) (spent allowed : ℕ)
    → IsState located s x
    → is_unsettled m s ≡ false
    → (IsOver (standing_in m s spent allowed) → ⊥)
    → nat_eq spent allowed ≡ false
still-left located m s x spent allowed k quiet h =
    shape-left _ _ (nat_eq spent allowed) _ _ (λ over. h (subst IsOver (sym (stands-as located m s x spent allowed k quiet)) over))

-- a run that goes on has turns left
pub going-left :
    {P : Type 0} (located : P → ℕ → List ℤ → List Grant → Type 0) (m : Meaning) (s : State) (x : Contents P) (spent allowed : ℕ)
    → IsState located s x
    → is_unsettled m s ≡ false
    → standing_in m s spent allowed ≡ Going
    → nat_eq spent allowed ≡ false
going-left located m s x spent allowed k quiet h = still-left located m s x spent allowed k quiet (going-on (standing_in m s spent allowed) h)

pub below-allowed : (spent turns allowed : ℕ) → spent ≡ turns → spent ≤ allowed → nat_eq turns allowed ≡ false → spent < allowed
below-allowed spent turns allowed e le h = grind (arith, nat_tests)
