-- A status tells how the command ended.
use Rattle.std.proofs.Common.{◌≡◌, ℕ, List, [], ◌∷◌, Option, Some, None, refl, sym, ap, subst, arith, Result, Contains, IfOk}
use Rattle.std.specs.Prelude.{◌==◌, IfSome, IsErrOf, unwrap_or, if◌then◌else◌}
use Rattle.std.proofs.lemmas.Map.Made.{Contains-tail}
use Rattle.cc_command.specs.Outcomes.{faults_of, FileHasFault, HoldsProgram, ReportsFault, RunsAsFarAsItGoes, RunsTo}
use Rattle.cc_command.specs.Reports.{line_of, run_report}
use Rattle.cc_command.specs.Statuses.{IfText, IsRefused, report_of, status_for, status_in, status_of}
use Rattle.cc_command.specs.declared.cause.Cause.{Cause}
use Rattle.cc_command.specs.declared.cause.Cause.TheVariants.{Usage, Text, Shelf, Write, Memory}
use Rattle.cc_command.specs.declared.cause.Ending.{Ending}
use Rattle.cc_command.specs.declared.cause.Ending.TheVariants.{Well, Faulted, Stuck, Spent}
use Rattle.cc_rules.specs.declared.event.Event.{Event}
use Rattle.cc_world.specs.Shelf.{Files}
use Rattle.cc_world.specs.Told.{Reported}

-- ---- which causes a status tells

-- the cause of a status that tells it whole
abbrev pub cause_of : ℕ → Option Cause
cause_of status =
    if status == 1 then Some Usage
    else (if status == 6 then Some Shelf
    else (if status == 8 then Some Write
    else (if status == 9 then Some Memory
    else None)))

caused : (answer : Result Ending Cause) (cause : Cause) → cause_of (status_of answer) ≡ Some cause → IsErrOf answer cause
caused (Result.Ok Well) cause e = (let bad : None ≡ Some cause = e in cc)
caused (Result.Ok (Faulted faults)) cause e = (let bad : None ≡ Some cause = e in cc)
caused (Result.Ok Stuck) cause e = (let bad : None ≡ Some cause = e in cc)
caused (Result.Ok Spent) cause e = (let bad : None ≡ Some cause = e in cc)
caused (Result.Err Usage) cause e = ap (λ (o : Option Cause). let r : Result Ending Cause = Result.Err (unwrap_or o cause) in r) e
caused (Result.Err (Text fault)) cause e = (let bad : None ≡ Some cause = e in cc)
caused (Result.Err Shelf) cause e = ap (λ (o : Option Cause). let r : Result Ending Cause = Result.Err (unwrap_or o cause) in r) e
caused (Result.Err Write) cause e = ap (λ (o : Option Cause). let r : Result Ending Cause = Result.Err (unwrap_or o cause) in r) e
caused (Result.Err Memory) cause e = ap (λ (o : Option Cause). let r : Result Ending Cause = Result.Err (unwrap_or o cause) in r) e

pub is_usage : (answer : Result Ending Cause) → status_of answer ≡ 1 → IsErrOf answer Usage
is_usage answer e = caused answer Usage (ap cause_of e)

pub is_shelf : (answer : Result Ending Cause) → status_of answer ≡ 6 → IsErrOf answer Shelf
is_shelf answer e = caused answer Shelf (ap cause_of e)

pub is_write : (answer : Result Ending Cause) → status_of answer ≡ 8 → IsErrOf answer Write
is_write answer e = caused answer Write (ap cause_of e)

pub is_memory : (answer : Result Ending Cause) → status_of answer ≡ 9 → IsErrOf answer Memory
is_memory answer e = caused answer Memory (ap cause_of e)

-- ---- which statuses there are

nothing : (z : ℕ) → Contains {X = ℕ} [] z → ⊥
nothing z c = omega (arith, c.1)

of_three : (a b c n : ℕ) → ¬ (a ≡ n) → ¬ (b ≡ n) → ¬ (c ≡ n) → Contains (a ∷ b ∷ c ∷ []) n → ⊥
of_three a b c n x y z among =
    nothing n (Contains-tail c [] n z (Contains-tail b (c ∷ []) n y (Contains-tail a (b ∷ c ∷ []) n x among)))

of_four : (a b c d n : ℕ) → ¬ (a ≡ n) → ¬ (b ≡ n) → ¬ (c ≡ n) → ¬ (d ≡ n) → Contains (a ∷ b ∷ c ∷ d ∷ []) n → ⊥
of_four a b c d n x y z w among = of_three b c d n y z w (Contains-tail a (b ∷ c ∷ d ∷ []) n x among)

pub is_refused : (answer : Result Ending Cause) → Contains (1 ∷ 2 ∷ 6 ∷ []) (status_of answer) → IsRefused answer
is_refused (Result.Ok Well) among = of_three 1 2 6 0 (λ e. omega (arith, e)) (λ e. omega (arith, e)) (λ e. omega (arith, e)) among
is_refused (Result.Ok (Faulted faults)) among = of_three 1 2 6 3 (λ e. omega (arith, e)) (λ e. omega (arith, e)) (λ e. omega (arith, e)) among
is_refused (Result.Ok Stuck) among = of_three 1 2 6 4 (λ e. omega (arith, e)) (λ e. omega (arith, e)) (λ e. omega (arith, e)) among
is_refused (Result.Ok Spent) among = of_three 1 2 6 5 (λ e. omega (arith, e)) (λ e. omega (arith, e)) (λ e. omega (arith, e)) among
is_refused (Result.Err Usage) among = tt
is_refused (Result.Err (Text fault)) among = tt
is_refused (Result.Err Shelf) among = tt
is_refused (Result.Err Write) among = of_three 1 2 6 8 (λ e. omega (arith, e)) (λ e. omega (arith, e)) (λ e. omega (arith, e)) among
is_refused (Result.Err Memory) among = of_three 1 2 6 9 (λ e. omega (arith, e)) (λ e. omega (arith, e)) (λ e. omega (arith, e)) among

no_cause : (cause : Cause) → Contains (0 ∷ 3 ∷ 4 ∷ 5 ∷ []) (status_for cause) → ⊥
no_cause Usage among = of_four 0 3 4 5 1 (λ e. omega (arith, e)) (λ e. omega (arith, e)) (λ e. omega (arith, e)) (λ e. omega (arith, e)) among
no_cause (Text fault) among = of_four 0 3 4 5 2 (λ e. omega (arith, e)) (λ e. omega (arith, e)) (λ e. omega (arith, e)) (λ e. omega (arith, e)) among
no_cause Shelf among = of_four 0 3 4 5 6 (λ e. omega (arith, e)) (λ e. omega (arith, e)) (λ e. omega (arith, e)) (λ e. omega (arith, e)) among
no_cause Write among = of_four 0 3 4 5 8 (λ e. omega (arith, e)) (λ e. omega (arith, e)) (λ e. omega (arith, e)) (λ e. omega (arith, e)) among
no_cause Memory among = of_four 0 3 4 5 9 (λ e. omega (arith, e)) (λ e. omega (arith, e)) (λ e. omega (arith, e)) (λ e. omega (arith, e)) among

pub known-status : (answer : Result Ending Cause) → IfOk answer (λ ending. ending ≡ Well) → Contains (0 ∷ 1 ∷ 2 ∷ 6 ∷ 8 ∷ 9 ∷ []) (status_of answer)
known-status (Result.Ok ending) well = (0, omega arith, sym (ap status_in well))
known-status (Result.Err Usage) well = (1, omega arith, refl)
known-status (Result.Err (Text fault)) well = (2, omega arith, refl)
known-status (Result.Err Shelf) well = (3, omega arith, refl)
known-status (Result.Err Write) well = (4, omega arith, refl)
known-status (Result.Err Memory) well = (5, omega arith, refl)

-- ---- what follows from an answer

pub if_some : {A : Type 0} (P Q : A → Type 0) (o : Option A) → ((x : A) → P x → Q x) → IfSome o P → IfSome o Q
if_some P Q None follows p = tt
if_some P Q (Some x) follows p = follows x p

pub if_ok : {T E : Type 0} (P Q : T → Type 0) (answer : Result T E) → ((x : T) → P x → Q x) → IfOk answer P → IfOk answer Q
if_ok P Q (Result.Ok x) follows p = follows x p
if_ok P Q (Result.Err e) follows p = tt

pub if_both : {T E : Type 0} (P Q R : T → Type 0) (answer : Result T E) → ((x : T) → P x → Q x → R x) → IfOk answer P → IfOk answer Q → IfOk answer R
if_both P Q R (Result.Ok x) follows p q = follows x p q
if_both P Q R (Result.Err e) follows p q = tt

module _ (asked : Option (List ℕ)) (files : Option Files) (h0 h1 : Option (List ℕ)) (f0 f1 w0 w1 : ℕ) where
  -- these lines were reported, or a first part of them
  abbrev Reports : List ℕ → Type 0
  Reports line = Reported h0 h1 line f0 f1 w0 w1

  pub goes :
      (answer : Result Ending Cause) (journal : List Event) (held held_after : Option (List ℕ))
      → IfOk answer (λ ending. IfSome asked (λ file. HoldsProgram files file (λ program. RunsTo program journal ending held held_after)))
      → Reports (report_of answer)
      → Contains (0 ∷ 3 ∷ 4 ∷ 5 ∷ []) (status_of answer)
      → IfSome asked (λ file. HoldsProgram files file (λ program.
      RunsAsFarAsItGoes program journal (status_of answer) held held_after × Reports (run_report (status_of answer) (faults_of program journal))))
  goes (Result.Ok ending) journal held held_after done told among =
      if_some _ _ asked
      (λ file h. record { program = h.program; means = h.means; follows = (h.follows.goes, subst Reports h.follows.reports told) })
      done
  goes (Result.Err cause) journal held held_after done told among = absurd (no_cause cause among)

  pub tells :
      (answer : Result Ending Cause)
      → IfText answer (λ place kind. IfSome asked (λ file. FileHasFault files file place kind))
      → Reports (report_of answer)
      → status_of answer ≡ 2
      → IfSome asked (λ file. ReportsFault files file Reports)
  tells (Result.Ok Well) text told e = absurd (omega (arith, e))
  tells (Result.Ok (Faulted faults)) text told e = absurd (omega (arith, e))
  tells (Result.Ok Stuck) text told e = absurd (omega (arith, e))
  tells (Result.Ok Spent) text told e = absurd (omega (arith, e))
  tells (Result.Err Usage) text told e = absurd (omega (arith, e))
  tells (Result.Err (Text fault)) text told e =
      if_some _ _ asked (λ file h. record { place = fault.place; kind = fault.kind; has = h; reported = told }) text
  tells (Result.Err Shelf) text told e = absurd (omega (arith, e))
  tells (Result.Err Write) text told e = absurd (omega (arith, e))
  tells (Result.Err Memory) text told e = absurd (omega (arith, e))

module _ (h0 h1 : Option (List ℕ)) (f0 f1 w0 w1 : ℕ) where
  pub one_line : (answer : Result Ending Cause) → Reported h0 h1 (report_of answer) f0 f1 w0 w1 → ¬ Contains (2 ∷ 3 ∷ []) (status_of answer) → Reported h0 h1 (line_of (status_of answer)) f0 f1 w0 w1
  one_line (Result.Ok Well) told other = told
  one_line (Result.Ok (Faulted faults)) told other = absurd (other (1, omega arith, refl))
  one_line (Result.Ok Stuck) told other = told
  one_line (Result.Ok Spent) told other = told
  one_line (Result.Err Usage) told other = told
  one_line (Result.Err (Text fault)) told other = absurd (other (0, omega arith, refl))
  one_line (Result.Err Shelf) told other = told
  one_line (Result.Err Write) told other = told
  one_line (Result.Err Memory) told other = told
