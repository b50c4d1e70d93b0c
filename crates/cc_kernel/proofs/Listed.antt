-- The list of faults grows by number.
use Rattle.std.proofs.Common.{◌≡◌, ℕ, zero, suc, ◌+◌, ◌<◌, ◌≤◌, ℤ, true, List, [], ◌∷◌, ◌++◌, length, take, refl, sym, ap, ◌∙◌, arith, nat_lt, append_assoc, add-one, length-take-le}
use Rattle.std.specs.Prelude.{All}
use Rattle.std.proofs.lemmas.Bool.Decides.{nat_tests}
use Rattle.std.proofs.lemmas.List.Elements.{All-append, All-cons, All-head, All-nil, All-tail}
use Rattle.cc_base.specs.declared.names.FaultKind.{FaultKind}
use Rattle.cc_base.specs.declared.names.Pid.{Pid}
use Rattle.cc_base.specs.declared.request.Grant.{Grant}
use Rattle.cc_kernel.specs.Seats.{seat_faults, seat_at}
use Rattle.cc_rules.specs.Faulted.{fault_of, faults_from}
use Rattle.cc_kernel.specs.Store.{Seated}
use Rattle.cc_kernel.specs.declared.seat.Seat.{Seat}
use Rattle.cc_rules.specs.Lists.{with_fault}
use Rattle.cc_rules.specs.State.{Process}
use Rattle.cc_rules.specs.declared.process.ProcessStanding.{ProcessStanding}
use Rattle.cc_rules.specs.declared.process.ProcessStanding.TheVariants.{Running, AtSelect, AtDelay, AtCall, Ended, Faulted}

below-of : (p n : ℕ) (x : ProcessStanding) → p < n → All (λ f. f.0.0 < n) (fault_of p x)
below-of p n Running lt = All-nil (λ f. f.0.0 < n)
below-of p n (AtSelect alts asked) lt = All-nil (λ f. f.0.0 < n)
below-of p n (AtDelay deadline) lt = All-nil (λ f. f.0.0 < n)
below-of p n (AtCall call) lt = All-nil (λ f. f.0.0 < n)
below-of p n Ended lt = All-nil (λ f. f.0.0 < n)
below-of p n (Faulted kind) lt = All-cons (λ f. f.0.0 < n) (record { 0 = p }, kind) [] lt (All-nil (λ f. f.0.0 < n))

module _ {P : Type 0} where
  -- the faults of so many processes have numbers below
  pub below-all : (p n : ℕ) (seats : List (Seat P)) → p + length seats ≤ n → All (λ f. f.0.0 < n) (seat_faults p seats)
  below-all p n [] le = All-nil (λ f. f.0.0 < n)
  below-all p n (seat ∷ seats) le =
      All-append (λ f. f.0.0 < n) (fault_of p seat.standing) (seat_faults (p + 1) seats)
      (below-of p n seat.standing (omega arith))
      (below-all (p + 1) n seats (omega arith))

  -- one more process
  pub more-faults :
      (p i : ℕ) (seats : List (Seat P))
      → i < length seats
      → seat_faults p (take (suc i) seats) ≡ seat_faults p (take i seats) ++ fault_of (p + i) (seat_at seats i).standing
  more-faults p i [] lt = absurd (omega arith)
  more-faults p zero (seat ∷ seats) lt = nil-right (fault_of p seat.standing) ∙ ap (λ n. fault_of n seat.standing) (same p)
    where
      nil-right : (xs : List (Pid × FaultKind)) → xs ++ [] ≡ xs
      nil-right [] = refl
      nil-right (x ∷ xs) = ap (λ ys. x ∷ ys) (nil-right xs)

      same : (n : ℕ) → n ≡ n + 0
      same n = omega arith
  more-faults p (suc i) (seat ∷ seats) lt =
      ap (λ xs. fault_of p seat.standing ++ xs) (more-faults (p + 1) i seats (omega arith))
      ∙ sym (append_assoc (fault_of p seat.standing) (seat_faults (p + 1) (take i seats)) (fault_of (p + 1 + i) (seat_at seats i).standing))
      ∙ ap (λ n. (fault_of p seat.standing ++ seat_faults (p + 1) (take i seats)) ++ fault_of n (seat_at seats i).standing) (same p i)
    where
      same : (n k : ℕ) → n + 1 + k ≡ n + suc k
      same n k = omega arith

  -- the faults of the processes are those of the seats
  pub faults-same :
      (located : P → ℕ → List ℤ → List Grant → Type 0) (p : ℕ) (qs : List Process) (seats : List (Seat P))
      → Seated located qs seats
      → faults_from p qs ≡ seat_faults p seats
  faults-same located p [] [] h = refl
  faults-same located p (q ∷ qs) (seat ∷ seats) h = rw (h.0.standing, faults-same located (p + 1) qs seats h.1) refl
  faults-same located p [] (seat ∷ seats) h = absurd h
  faults-same located p (q ∷ qs) [] h = absurd h

-- a process of greater number stands at the end
pub fault-at-end :
    (faults : List (Pid × FaultKind)) (item : Pid × FaultKind)
    → All (λ f. f.0.0 < item.0.0) faults
    → with_fault faults item ≡ faults ++ item ∷ []
fault-at-end [] item h = refl
fault-at-end (f ∷ faults) item h =
    let below : f.0.0 < item.0.0 = All-head (λ g. g.0.0 < item.0.0) f faults h in
    let yes-below : nat_lt f.0.0 item.0.0 ≡ true = grind (arith, nat_tests) in
    rw yes-below (ap (λ xs. f ∷ xs) (fault-at-end faults item (All-tail (λ g. g.0.0 < item.0.0) f faults h)))

module _ {P : Type 0} where
  pub below-taken : (i : ℕ) (seats : List (Seat P)) → i < length seats → All (λ f. f.0.0 < i) (seat_faults 0 (take i seats))
  below-taken i seats lt = below-all 0 i (take i seats) (let e = length-take-le i seats (omega arith) in omega (arith, e))

  pub more-faults-here :
      (i : ℕ) (seats : List (Seat P))
      → i < length seats
      → seat_faults 0 (take (i + 1) seats) ≡ seat_faults 0 (take i seats) ++ fault_of i (seat_at seats i).standing
  more-faults-here i seats lt =
      ap (λ n. seat_faults 0 (take n seats)) (add-one i)
      ∙ more-faults 0 i seats lt
      ∙ ap (λ n. seat_faults 0 (take i seats) ++ fault_of n (seat_at seats i).standing) (same i)
    where
      same : (n : ℕ) → 0 + n ≡ n
      same n = omega arith
