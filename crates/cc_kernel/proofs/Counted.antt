-- The counts and the list of those that are ready follow the seats.
use Rattle.std.proofs.Common.{rules, ◌≡◌, ◌≢◌, inl, inr, ℕ, zero, suc, ◌+◌, ◌<◌, ◌≤◌, Bool, true, false, ◌||◌, ◌&&◌, List, [], ◌∷◌, ◌++◌, length, set, refl, sym, ap, ◌∙◌, arith, cond, nat_eq, nat_lt, ◌-◌}
use Rattle.std.specs.Prelude.{count_by, if◌then◌else◌}
use Rattle.std.specs.List.{list_all, list_any}
use Rattle.std.proofs.lemmas.Bool.{eqb-true}
use Rattle.std.proofs.lemmas.Bool.Decides.{nat_tests}
use Rattle.std.proofs.lemmas.List.{get_or-set_same, get_or-set_other, get_or_past, length-set, length-append}
use Rattle.std.proofs.lemmas.List.Sums.{count_by-le-length, get_or-le-sum_by, sum_by-cons, sum_by-set, sum_by_push}
use Rattle.cc_base.specs.declared.request.Grant.{Grant}
use Rattle.cc_kernel.proofs.Simulates.{same-or-not}
use Rattle.cc_kernel.specs.Counted.{AreCounted, AreKept, AreListed, Agrees, Covers, HasMoved, IsWaiting, all_may_end, how_many, may_terminate, one_where}
use Rattle.cc_kernel.specs.Seats.{is_ready, seat_at, vacant, whereabouts_ready, with_out, with_ready, woken}
use Rattle.cc_kernel.specs.declared.counts.Counts.{Counts}
use Rattle.cc_kernel.specs.declared.seat.Seat.{Seat}
use Rattle.cc_kernel.specs.declared.seat.Whereabouts.{Whereabouts}
use Rattle.cc_kernel.specs.declared.seat.Whereabouts.TheVariants.{Ready, Out, Waits, Left}
use Rattle.cc_base.specs.Limits.{most_processes}
use Rattle.cc_rules.specs.State.{is_faulted, is_over, is_running}
use Rattle.cc_rules.specs.declared.process.ProcessStanding.{ProcessStanding}
use Rattle.cc_rules.specs.declared.process.ProcessStanding.TheVariants.{Running, AtSelect, AtDelay, AtCall, Ended, Faulted}

same-number : (n : ℕ) → nat_eq n n ≡ true
same-number n = search rules

false-from : (b : Bool) → (b ≡ true → ⊥) → b ≡ false
false-from true h = absurd (h refl)
false-from false h = refl

other-number : (n k : ℕ) → n ≢ k → nat_eq n k ≡ false
other-number n k ne = false-from (nat_eq n k) (λ h. ne (eqb-true n k h))

one-most : (b : Bool) → one_where b ≤ 1
one-most true = omega arith
one-most false = omega arith

zero-plus : (n : ℕ) → 0 + n ≡ n
zero-plus n = omega arith

fewer : (a b : ℕ) → a < b → nat_eq a b ≡ false
fewer a b lt = other-number a b (λ e. omega (arith, e))

more : (a b : ℕ) → nat_eq (1 + a) (suc b) ≡ nat_eq a b
more a b = grind (arith, nat_tests)

ready-from : (b : Bool) (n : ℕ) → 1 + n ≡ one_where b → b ≡ true
ready-from true n h = refl
ready-from false n h = absurd (omega (arith, h))

pub number-same : (a b : ℕ) → a ≡ b → nat_eq a b ≡ true
number-same a b e = ap (nat_eq a) (sym e) ∙ same-number a

pub number-other : (a b : ℕ) → a ≢ b → nat_eq a b ≡ false
number-other a b ne = other-number a b ne

-- a number more at the end
count-push : (i at : ℕ) (ready : List ℕ) → count_by (nat_eq i) (ready ++ at ∷ []) ≡ count_by (nat_eq i) ready + one_where (nat_eq i at)
count-push i at ready = sum_by_push (λ n. cond (nat_eq i n) 1 0) ready at

-- and a number less at the front
count-front : (i at : ℕ) (ready : List ℕ) → count_by (nat_eq i) (at ∷ ready) ≡ one_where (nat_eq i at) + count_by (nat_eq i) ready
count-front i at ready = sum_by-cons (λ n. cond (nat_eq i n) 1 0) at ready

-- whoever has `terminate` among its alternatives waits
pub terminate-waits : (standing : ProcessStanding) → may_terminate standing ≡ true → IsWaiting standing
terminate-waits Running h = cc
terminate-waits (AtSelect alts asked) h = (refl, refl)
terminate-waits (AtDelay deadline) h = cc
terminate-waits (AtCall call) h = cc
terminate-waits Ended h = cc
terminate-waits (Faulted kind) h = cc

not-both : (standing : ProcessStanding) → one_where (is_over standing || may_terminate standing) ≡ one_where (is_over standing) + one_where (may_terminate standing)
not-both Running = refl
not-both (AtSelect alts asked) = sym (zero-plus (one_where (may_terminate (AtSelect alts asked))))
not-both (AtDelay deadline) = refl
not-both (AtCall call) = refl
not-both Ended = refl
not-both (Faulted kind) = refl

module _ {P : Type 0} where
  agrees-not-ready : (x : Whereabouts P) (standing : ProcessStanding) → Agrees standing x → is_running standing ≡ false → whereabouts_ready x ≡ false
  agrees-not-ready (Ready process grant) standing h k = cc
  agrees-not-ready Out standing h k = refl
  agrees-not-ready (Waits process) standing h k = refl
  agrees-not-ready Left standing h k = refl

  -- a process that waits is not ready
  pub waits-not-ready : (seat : Seat P) → Agrees seat.standing seat.whereabouts → IsWaiting seat.standing → is_ready seat ≡ false
  waits-not-ready seat h w = agrees-not-ready seat.whereabouts seat.standing h w.0

  waits-woken : (x : Whereabouts P) (standing : ProcessStanding) (grant : Grant) → Agrees standing x → IsWaiting standing → (whereabouts_ready (woken (record { standing = standing; whereabouts = x }) grant).whereabouts ≡ true) × Agrees Running (woken (record { standing = standing; whereabouts = x }) grant).whereabouts
  waits-woken (Ready process old) standing grant h w = absurd (let a = w.0 in cc)
  waits-woken Out standing grant h w = absurd (let a = w.0 in cc)
  waits-woken (Waits process) standing grant h w = (refl, refl)
  waits-woken Left standing grant h w = absurd (let a = w.1 in cc)

  pub woken-ready : (seat : Seat P) (grant : Grant) → Agrees seat.standing seat.whereabouts → IsWaiting seat.standing → is_ready (woken seat grant) ≡ true
  woken-ready seat grant h w = (waits-woken seat.whereabouts seat.standing grant h w).0

  pub listed-woken :
      (seat : Seat P) (grant : Grant)
      → Agrees seat.standing seat.whereabouts
      → IsWaiting seat.standing
      → (ready : List ℕ) (at : ℕ)
      → ready ++ at ∷ [] ≡ (if is_ready (woken seat grant) then ready ++ at ∷ [] else ready)
  listed-woken seat grant h w ready at = sym (ap (λ b. if b then ready ++ at ∷ [] else ready) (woken-ready seat grant h w))

  pub woken-agrees : (seat : Seat P) (grant : Grant) → Agrees seat.standing seat.whereabouts → IsWaiting seat.standing → Agrees (woken seat grant).standing (woken seat grant).whereabouts
  woken-agrees seat grant h w = (waits-woken seat.whereabouts seat.standing grant h w).1

  -- what holds of each seat, by its number, where one is changed
  pub each-of-set : (F : ℕ → Seat P → Type 0) (seats : List (Seat P)) (at : ℕ) (seat : Seat P) → F at seat → ((i : ℕ) → F i (seat_at seats i)) → (i : ℕ) → F i (seat_at (set seats at seat) i)
  each-of-set F [] at seat h all i = all i
  each-of-set F (x ∷ seats) zero seat h all zero = h
  each-of-set F (x ∷ seats) zero seat h all (suc i) = all (suc i)
  each-of-set F (x ∷ seats) (suc at) seat h all zero = all zero
  each-of-set F (x ∷ seats) (suc at) seat h all (suc i) = each-of-set (λ k. F (suc k)) seats at seat h (λ k. all (suc k)) i

  pub each-of-push : (F : ℕ → Seat P → Type 0) (seats : List (Seat P)) (seat : Seat P) → ((i : ℕ) → F i seat) → ((i : ℕ) → F i (seat_at seats i)) → (i : ℕ) → F i (seat_at (seats ++ seat ∷ []) i)
  each-of-push F [] seat h all zero = h 0
  each-of-push F [] seat h all (suc i) = all (suc i)
  each-of-push F (x ∷ seats) seat h all zero = all zero
  each-of-push F (x ∷ seats) seat h all (suc i) = each-of-push (λ k. F (suc k)) seats seat (λ k. h (suc k)) (λ k. all (suc k)) i

  count-seat : (test : Seat P → Bool) (seats : List (Seat P)) (at : ℕ) (seat : Seat P) → at < length seats → count_by test (set seats at seat) + one_where (test (seat_at seats at)) ≡ count_by test seats + one_where (test seat)
  count-seat test seats at seat lt = sum_by-set (λ x. cond (test x) 1 0) seats at seat vacant lt

  count-more : (test : Seat P → Bool) (seats : List (Seat P)) (seat : Seat P) → count_by test (seats ++ seat ∷ []) ≡ count_by test seats + one_where (test seat)
  count-more test seats seat = sum_by_push (λ x. cond (test x) 1 0) seats seat

  covers-one : (test : ProcessStanding → Bool) (seats : List (Seat P)) (at : ℕ) → at < length seats → one_where (test (seat_at seats at).standing) ≤ how_many test seats
  covers-one test seats at lt = get_or-le-sum_by (λ seat. cond (test seat.standing) 1 0) seats at vacant lt

  few-one : (test : ProcessStanding → Bool) (seats : List (Seat P)) → length seats ≤ most_processes → how_many test seats ≤ most_processes
  few-one test seats le = let h = count_by-le-length (λ (seat : Seat P). test seat.standing) seats in omega (arith, h, le)

  -- the counts cover each seat
  pub covers : (seats : List (Seat P)) (counts : Counts) (at : ℕ) → length seats ≤ most_processes → AreCounted seats counts → at < length seats → Covers (seat_at seats at).standing counts
  covers seats counts at few c lt =
      record {
        running = rw c.running (covers-one is_running seats at lt);
        over = rw c.over (covers-one is_over seats at lt);
        faulted = rw c.faulted (covers-one is_faulted seats at lt);
        terminating = rw c.terminating (covers-one may_terminate seats at lt);
        few_running = rw c.running (few-one is_running seats few);
        few_over = rw c.over (few-one is_over seats few);
        few_faulted = rw c.faulted (few-one is_faulted seats few);
        few_terminating = rw c.terminating (few-one may_terminate seats few);
      }

  moved-one : (test : ProcessStanding → Bool) (seats : List (Seat P)) (at : ℕ) (seat : Seat P) (old new : ℕ) → at < length seats → old ≡ how_many test seats → new + one_where (test (seat_at seats at).standing) ≡ old + one_where (test seat.standing) → new ≡ how_many test (set seats at seat)
  moved-one test seats at seat old new lt e h = let c = count-seat (λ x. test x.standing) seats at seat lt in omega (arith, c, e, h)

  counted-set : (seats : List (Seat P)) (counts counts' : Counts) (at : ℕ) (seat : Seat P) → at < length seats → AreCounted seats counts → HasMoved (seat_at seats at).standing seat.standing counts counts' → AreCounted (set seats at seat) counts'
  counted-set seats counts counts' at seat lt c h =
      record {
        running = moved-one is_running seats at seat counts.running counts'.running lt c.running h.running;
        over = moved-one is_over seats at seat counts.over counts'.over lt c.over h.over;
        faulted = moved-one is_faulted seats at seat counts.faulted counts'.faulted lt c.faulted h.faulted;
        terminating = moved-one may_terminate seats at seat counts.terminating counts'.terminating lt c.terminating h.terminating;
      }

  -- who is ready, where a process that was not becomes so, or not
  set-same : (seats : List (Seat P)) (at i : ℕ) (seat : Seat P) → at < length seats → i ≡ at → is_ready (seat_at (set seats at seat) i) ≡ is_ready seat
  set-same seats at i seat lt e = ap (λ k. is_ready (seat_at (set seats at seat) k)) e ∙ ap is_ready (get_or-set_same seats at seat vacant lt)

  set-other : (seats : List (Seat P)) (at i : ℕ) (seat : Seat P) → i ≢ at → is_ready (seat_at (set seats at seat) i) ≡ is_ready (seat_at seats i)
  set-other seats at i seat ne = ap is_ready (get_or-set_other seats at i seat vacant ne)

  listed-if : (seats : List (Seat P)) (ready : List ℕ) (at : ℕ) (seat : Seat P) (b : Bool) → at < length seats → is_ready (seat_at seats at) ≡ false → is_ready seat ≡ b → AreListed seats ready → AreListed (set seats at seat) (if b then ready ++ at ∷ [] else ready)
  listed-if seats ready at seat b lt idle e l = record { once = each b e; all = long b e }
    where
      was : count_by (nat_eq at) ready ≡ 0
      was = l.once at ∙ ap one_where idle

      each : (b : Bool) → is_ready seat ≡ b → (i : ℕ) → count_by (nat_eq i) (if b then ready ++ at ∷ [] else ready) ≡ one_where (is_ready (seat_at (set seats at seat) i))
      each true e i =
          elim (same-or-not i at) [
            | inl same ↦
                count-push i at ready
                ∙ ap (λ k. count_by (nat_eq k) ready + one_where (nat_eq k at)) same
                ∙ ap (λ n. n + one_where (nat_eq at at)) was
                ∙ ap (λ b. 0 + one_where b) (same-number at)
                ∙ sym (ap one_where (set-same seats at i seat lt same ∙ e))
            | inr ne ↦
                count-push i at ready
                ∙ ap (λ b. count_by (nat_eq i) ready + one_where b) (other-number i at ne)
                ∙ plus-zero (count_by (nat_eq i) ready)
                ∙ l.once i
                ∙ sym (ap one_where (set-other seats at i seat ne))
          ]
        where
          plus-zero : (n : ℕ) → n + 0 ≡ n
          plus-zero n = omega arith
      each false e i =
          elim (same-or-not i at) [
            | inl same ↦ ap (λ k. count_by (nat_eq k) ready) same ∙ was ∙ sym (ap one_where (set-same seats at i seat lt same ∙ e))
            | inr ne ↦ l.once i ∙ sym (ap one_where (set-other seats at i seat ne))
          ]

      long : (b : Bool) → is_ready seat ≡ b → length (if b then ready ++ at ∷ [] else ready) ≡ count_by is_ready (set seats at seat)
      long true e =
          let c = rw (idle, e) at (count-seat is_ready seats at seat lt) in
          let a = length-append ready (at ∷ []) in
          let h = l.all in
          omega (arith, a, c, h)
      long false e =
          let c = rw (idle, e) at (count-seat is_ready seats at seat lt) in
          let h = l.all in
          omega (arith, c, h)

  -- a seat is put in place of one whose process was not ready
  pub kept-set :
      (seats : List (Seat P)) (counts counts' : Counts) (ready ready' : List ℕ) (spare seats_room ready_room : ℕ) (at : ℕ) (seat : Seat P)
      → AreKept seats counts ready spare seats_room ready_room
      → at < length seats
      → is_ready (seat_at seats at) ≡ false
      → Agrees seat.standing seat.whereabouts
      → HasMoved (seat_at seats at).standing seat.standing counts counts'
      → ready' ≡ (if is_ready seat then ready ++ at ∷ [] else ready)
      → AreKept (set seats at seat) counts' ready' spare seats_room ready_room
  kept-set seats counts counts' ready ready' spare seats_room ready_room at seat k lt idle agrees moved same =
      record {
        few = rw length-set k.few;
        agree = each-of-set (λ i seat. Agrees seat.standing seat.whereabouts) seats at seat agrees k.agree;
        counted = counted-set seats counts counts' at seat lt k.counted moved;
        listed = rw same (listed-if seats ready at seat (is_ready seat) lt idle refl k.listed);
        room = rw length-set k.room;
        list_room = rw length-set k.list_room;
      }

  count-cons : (test : Seat P → Bool) (x : Seat P) (seats : List (Seat P)) → count_by test (x ∷ seats) ≡ one_where (test x) + count_by test seats
  count-cons test x seats = sum_by-cons (λ y. cond (test y) 1 0) x seats

  -- where one fails, fewer pass than there are
  count-less : (test : Seat P → Bool) (seats : List (Seat P)) (at : ℕ) → at < length seats → test (seat_at seats at) ≡ false → count_by test seats < length seats
  count-less test [] at lt e = absurd (omega arith)
  count-less test (x ∷ seats) zero lt e =
      let c = count-cons test x seats ∙ ap (λ b. one_where b + count_by test seats) e in
      let l = count_by-le-length test seats in
      omega (arith, c, l)
  count-less test (x ∷ seats) (suc at) lt e =
      let c = count-cons test x seats in
      let o = one-most (test x) in
      let h = count-less test seats at (omega arith) e in
      omega (arith, c, o, h)

  -- there is room in the list for one more that was not ready
  pub list-room :
      (seats : List (Seat P)) (counts : Counts) (ready : List ℕ) (spare seats_room ready_room : ℕ) (at : ℕ)
      → AreKept seats counts ready spare seats_room ready_room
      → at < length seats
      → is_ready (seat_at seats at) ≡ false
      → length ready < ready_room
  list-room seats counts ready spare seats_room ready_room at k lt idle =
      let h = count-less is_ready seats at lt idle in
      let e = k.listed.all in
      let r = k.list_room in
      omega (arith, h, e, r)

  -- all pass where as many pass as there are
  pub all-pass : (test : Seat P → Bool) (seats : List (Seat P)) → nat_eq (count_by test seats) (length seats) ≡ list_all test seats
  all-pass test [] = refl
  all-pass test (x ∷ seats) = step (test x) refl (all-pass test seats)
    where
      counted : (b : Bool) → test x ≡ b → count_by test (x ∷ seats) ≡ one_where b + count_by test seats
      counted b e = count-cons test x seats ∙ ap (λ c. one_where c + count_by test seats) e

      step : (b : Bool) → test x ≡ b → nat_eq (count_by test seats) (length seats) ≡ list_all test seats → nat_eq (count_by test (x ∷ seats)) (length (x ∷ seats)) ≡ (b && list_all test seats)
      step true e rest =
          ap (λ n. nat_eq n (length (x ∷ seats))) (counted true e) ∙ more (count_by test seats) (length seats) ∙ rest
      step false e rest =
          ap (λ n. nat_eq n (length (x ∷ seats))) (counted false e)
          ∙ (let l = count_by-le-length test seats in fewer (0 + count_by test seats) (suc (length seats)) (omega (arith, l)))

  -- some pass where more than none do
  pub some-pass : (test : Seat P → Bool) (seats : List (Seat P)) → nat_lt 0 (count_by test seats) ≡ list_any test seats
  some-pass test [] = refl
  some-pass test (x ∷ seats) = step (test x) refl (some-pass test seats)
    where
      counted : (b : Bool) → test x ≡ b → count_by test (x ∷ seats) ≡ one_where b + count_by test seats
      counted b e = count-cons test x seats ∙ ap (λ c. one_where c + count_by test seats) e

      positive : (n : ℕ) → nat_lt 0 (1 + n) ≡ true
      positive n = grind (arith, nat_tests)

      step : (b : Bool) → test x ≡ b → nat_lt 0 (count_by test seats) ≡ list_any test seats → nat_lt 0 (count_by test (x ∷ seats)) ≡ (b || list_any test seats)
      step true e rest = ap (nat_lt 0) (counted true e) ∙ positive (count_by test seats)
      step false e rest = ap (nat_lt 0) (counted false e ∙ zero-plus (count_by test seats)) ∙ rest

  past-not-ready : (seats : List (Seat P)) (i : ℕ) → length seats ≤ i → is_ready (seat_at seats i) ≡ false
  past-not-ready seats i le = ap is_ready (get_or_past seats i vacant le)

  ready-within : (seats : List (Seat P)) (i : ℕ) → is_ready (seat_at seats i) ≡ true → i < length seats
  ready-within [] i h = cc
  ready-within (x ∷ seats) zero h = omega arith
  ready-within (x ∷ seats) (suc i) h = let r = ready-within seats i h in omega arith

  -- the first in the list is ready
  pub first-ready :
      (seats : List (Seat P)) (ready rest : List ℕ) (at : ℕ)
      → AreListed seats ready
      → ready ≡ at ∷ rest
      → (is_ready (seat_at seats at) ≡ true) × (at < length seats)
  first-ready seats ready rest at l e =
      let here =
      ready-from (is_ready (seat_at seats at)) (count_by (nat_eq at) rest)
      (ap (λ b. one_where b + count_by (nat_eq at) rest) (sym (same-number at))
      ∙ sym (count-front at at rest)
      ∙ ap (count_by (nat_eq at)) (sym e)
      ∙ l.once at) in
      (here, ready-within seats at here)

  -- where the list is empty, none is ready
  pub none-ready : (seats : List (Seat P)) (ready : List ℕ) → AreListed seats ready → ready ≡ [] → (i : ℕ) → is_ready (seat_at seats i) ≡ false
  none-ready seats ready l e i = not-ready (is_ready (seat_at seats i)) (sym (l.once i) ∙ ap (count_by (nat_eq i)) e)
    where
      not-ready : (b : Bool) → one_where b ≡ 0 → b ≡ false
      not-ready true h = absurd (omega (arith, h))
      not-ready false h = refl

  same-counts : (test : ProcessStanding → Bool) (seats : List (Seat P)) (at : ℕ) → at < length seats → how_many test (set seats at (with_out (seat_at seats at))) ≡ how_many test seats
  same-counts test seats at lt = let c = count-seat (λ x. test x.standing) seats at (with_out (seat_at seats at)) lt in omega (arith, c)

  listed-out : (seats : List (Seat P)) (ready rest : List ℕ) (at : ℕ) → AreListed seats ready → ready ≡ at ∷ rest → AreListed (set seats at (with_out (seat_at seats at))) rest
  listed-out seats ready rest at l e =
      let first = first-ready seats ready rest at l e in
      record {
        once = λ i. each i first.0 first.1;
        all =
            (let c = rw first.0 at (count-seat is_ready seats at (with_out (seat_at seats at)) first.1) in
            let a = l.all in
            let n = ap length e in
            omega (arith, c, a, n));
      }
    where
      each : (i : ℕ) → is_ready (seat_at seats at) ≡ true → at < length seats → count_by (nat_eq i) rest ≡ one_where (is_ready (seat_at (set seats at (with_out (seat_at seats at))) i))
      each i here lt =
          elim (same-or-not i at) [
            | inl same ↦
                (let c : 1 + count_by (nat_eq i) rest ≡ 1 =
                ap (λ b. one_where b + count_by (nat_eq i) rest) (sym (ap (λ k. nat_eq k at) same ∙ same-number at))
                ∙ sym (count-front i at rest)
                ∙ ap (count_by (nat_eq i)) (sym e)
                ∙ l.once i
                ∙ ap one_where (ap (λ k. is_ready (seat_at seats k)) same ∙ here) in
                let none : count_by (nat_eq i) rest ≡ 0 = omega (arith, c) in
                none)
                ∙ sym (ap one_where (set-same seats at i (with_out (seat_at seats at)) lt same))
            | inr ne ↦
                (let c : 0 + count_by (nat_eq i) rest ≡ one_where (is_ready (seat_at seats i)) =
                ap (λ b. one_where b + count_by (nat_eq i) rest) (sym (other-number i at ne))
                ∙ sym (count-front i at rest)
                ∙ ap (count_by (nat_eq i)) (sym e)
                ∙ l.once i in
                let less : count_by (nat_eq i) rest ≡ one_where (is_ready (seat_at seats i)) = omega (arith, c) in
                less)
                ∙ sym (ap one_where (set-other seats at i (with_out (seat_at seats at)) ne))
          ]

  ready-agrees : (x : Whereabouts P) (standing : ProcessStanding) → Agrees standing x → whereabouts_ready x ≡ true → is_running standing ≡ true
  ready-agrees (Ready process grant) standing h k = h
  ready-agrees Out standing h k = cc
  ready-agrees (Waits process) standing h k = cc
  ready-agrees Left standing h k = cc

  -- the first in the list goes out
  pub kept-out :
      (seats : List (Seat P)) (counts : Counts) (ready rest : List ℕ) (spare seats_room ready_room : ℕ) (at : ℕ)
      → AreKept seats counts ready spare seats_room ready_room
      → ready ≡ at ∷ rest
      → AreKept (set seats at (with_out (seat_at seats at))) counts rest spare seats_room ready_room
  kept-out seats counts ready rest spare seats_room ready_room at k e =
      let first = first-ready seats ready rest at k.listed e in
      record {
        few = rw length-set k.few;
        agree =
            each-of-set (λ i seat. Agrees seat.standing seat.whereabouts) seats at (with_out (seat_at seats at))
            (ready-agrees (seat_at seats at).whereabouts (seat_at seats at).standing (k.agree at) first.0) k.agree;
        counted =
            record {
              running = k.counted.running ∙ sym (same-counts is_running seats at first.1);
              over = k.counted.over ∙ sym (same-counts is_over seats at first.1);
              faulted = k.counted.faulted ∙ sym (same-counts is_faulted seats at first.1);
              terminating = k.counted.terminating ∙ sym (same-counts may_terminate seats at first.1);
            };
        listed = listed-out seats ready rest at k.listed e;
        room = rw length-set k.room;
        list_room = rw length-set k.list_room;
      }

  push-at : (seats : List (Seat P)) (seat : Seat P) → seat_at (seats ++ seat ∷ []) (length seats) ≡ seat
  push-at [] seat = refl
  push-at (x ∷ seats) seat = push-at seats seat

  push-other : (seats : List (Seat P)) (seat : Seat P) (i : ℕ) → i ≢ length seats → seat_at (seats ++ seat ∷ []) i ≡ seat_at seats i
  push-other [] seat zero ne = absurd (ne refl)
  push-other [] seat (suc i) ne = refl
  push-other (x ∷ seats) seat zero ne = refl
  push-other (x ∷ seats) seat (suc i) ne = push-other seats seat i (λ e. ne (ap suc e))

  listed-push : (seats : List (Seat P)) (ready : List ℕ) (seat : Seat P) → is_ready seat ≡ true → AreListed seats ready → AreListed (seats ++ seat ∷ []) (ready ++ length seats ∷ [])
  listed-push seats ready seat here l =
      record {
        once = each;
        all =
            (let c = rw here at (count-more is_ready seats seat) in
            let a = length-append ready (length seats ∷ []) in
            let h = l.all in
            omega (arith, a, c, h));
      }
    where
      none : count_by (nat_eq (length seats)) ready ≡ 0
      none = l.once (length seats) ∙ ap one_where (past-not-ready seats (length seats) (omega arith))

      each : (i : ℕ) → count_by (nat_eq i) (ready ++ length seats ∷ []) ≡ one_where (is_ready (seat_at (seats ++ seat ∷ []) i))
      each i =
          elim (same-or-not i (length seats)) [
            | inl same ↦
                count-push i (length seats) ready
                ∙ ap (λ k. count_by (nat_eq k) ready + one_where (nat_eq k (length seats))) same
                ∙ ap (λ n. n + one_where (nat_eq (length seats) (length seats))) none
                ∙ ap (λ b. 0 + one_where b) (same-number (length seats))
                ∙ sym (ap one_where (ap (λ k. is_ready (seat_at (seats ++ seat ∷ []) k)) same ∙ ap is_ready (push-at seats seat) ∙ here))
            | inr ne ↦
                count-push i (length seats) ready
                ∙ ap (λ b. count_by (nat_eq i) ready + one_where b) (other-number i (length seats) ne)
                ∙ plus-zero (count_by (nat_eq i) ready)
                ∙ l.once i
                ∙ sym (ap one_where (ap is_ready (push-other seats seat i ne)))
          ]
        where
          plus-zero : (n : ℕ) → n + 0 ≡ n
          plus-zero n = omega arith

  more-same : (test : ProcessStanding → Bool) (seats : List (Seat P)) (seat : Seat P) → test seat.standing ≡ false → how_many test (seats ++ seat ∷ []) ≡ how_many test seats
  more-same test seats seat e = let c = rw e at (count-more (λ x. test x.standing) seats seat) in omega (arith, c)

  more-one : (test : ProcessStanding → Bool) (seats : List (Seat P)) (seat : Seat P) → test seat.standing ≡ true → how_many test (seats ++ seat ∷ []) ≡ how_many test seats + 1
  more-one test seats seat e = let c = rw e at (count-more (λ x. test x.standing) seats seat) in omega (arith, c)

  -- a process that was made is put at the end, ready
  pub kept-push :
      (seats : List (Seat P)) (counts counts' : Counts) (ready : List ℕ) (spare seats_room ready_room : ℕ) (process : P) (grant : Grant)
      → AreKept seats counts ready spare seats_room ready_room
      → length seats < most_processes
      → 0 < spare
      → counts' ≡ record counts { running = counts.running + 1 }
      → AreKept (seats ++ with_ready process grant ∷ []) counts' (ready ++ length seats ∷ []) (spare - 1) seats_room ready_room
  kept-push seats counts counts' ready spare seats_room ready_room process grant k few more same =
      let l = length-append seats (with_ready process grant ∷ []) in
      rw same
      (record {
        few = omega (arith, l, few);
        agree = each-of-push (λ i seat. Agrees seat.standing seat.whereabouts) seats (with_ready process grant) (λ i. refl) k.agree;
        counted =
            record {
              running = ap (λ n. n + 1) k.counted.running ∙ sym (more-one is_running seats (with_ready process grant) refl);
              over = k.counted.over ∙ sym (more-same is_over seats (with_ready process grant) refl);
              faulted = k.counted.faulted ∙ sym (more-same is_faulted seats (with_ready process grant) refl);
              terminating = k.counted.terminating ∙ sym (more-same may_terminate seats (with_ready process grant) refl);
            };
        listed = listed-push seats ready (with_ready process grant) refl k.listed;
        room = (let r = k.room in omega (arith, l, r, more));
        list_room = (let r = k.list_room in omega (arith, l, r, more));
      })

  -- a process that is ready is at hand with its grant
  pub ready-at-hand : (x : Whereabouts P) → whereabouts_ready x ≡ true → ((process : P) (grant : Grant) → x ≡ Ready process grant → ⊥) → ⊥
  ready-at-hand (Ready process grant) h none = none process grant refl
  ready-at-hand Out h none = cc
  ready-at-hand (Waits process) h none = cc
  ready-at-hand Left h none = cc

  -- a process is over or has `terminate` among its alternatives, and not both
  pub count-ending : (seats : List (Seat P)) → count_by (λ seat. is_over seat.standing || may_terminate seat.standing) seats ≡ how_many is_over seats + how_many may_terminate seats
  count-ending [] = refl
  count-ending (seat ∷ seats) =
      let c = count-cons (λ seat. is_over seat.standing || may_terminate seat.standing) seat seats in
      let a = count-cons (λ seat. is_over seat.standing) seat seats in
      let b = count-cons (λ seat. may_terminate seat.standing) seat seats in
      let h = count-ending seats in
      let n = not-both seat.standing in
      omega (arith, c, a, b, h, n)

  pub ending-few : (seats : List (Seat P)) → how_many is_over seats + how_many may_terminate seats ≤ length seats
  ending-few seats = let c = count-ending seats in let l = count_by-le-length (λ (seat : Seat P). is_over seat.standing || may_terminate seat.standing) seats in omega (arith, c, l)

  -- whether all may end, as the counts tell it
  pub all-ending :
      (seats : List (Seat P)) (over terminating long : ℕ)
      → over ≡ how_many is_over seats
      → terminating ≡ how_many may_terminate seats
      → long ≡ length seats
      → (nat_eq (over + terminating) long && nat_lt 0 terminating) ≡ all_may_end seats
  all-ending seats over terminating long e h l =
      rw (e, h, l, ← count-ending, all-pass (λ (seat : Seat P). is_over seat.standing || may_terminate seat.standing) seats, some-pass (λ (seat : Seat P). may_terminate seat.standing) seats) refl
