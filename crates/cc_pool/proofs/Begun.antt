-- A run as it begins, and as its kernel tells it.
use Rattle.std.proofs.Common.{◌≡◌, ◌≤◌, ℕ, List, [], arith, refl}
use Rattle.cc_base.specs.Meaning.{Meaning}
use Rattle.cc_base.specs.declared.names.FaultKind.{FaultKind}
use Rattle.cc_base.specs.declared.names.Pid.{Pid}
use Rattle.cc_rules.specs.Faulted.{faults_from}
use Rattle.cc_kernel.specs.Contract.{KernelView}
use Rattle.cc_rules.specs.Standing.{standing_of}
use Rattle.cc_pool.specs.Driven.{IsRunOf}
use Rattle.cc_rules.proofs.Settled.{IsSettled-by_test}
use Rattle.cc_rules.specs.Runs.{IsRun, IsSettledRun, state_after, turns}
use Rattle.cc_rules.specs.State.{first_state}
use Rattle.cc_rules.specs.declared.event.Event.{Event}
use Rattle.cc_rules.specs.declared.event.Standing.{Standing}

pub empty-run : (m : Meaning) (input : List ℕ) (allowed : ℕ) (standing : Standing) → standing ≡ standing_of m input [] allowed → IsRunOf m input allowed [] [] standing
empty-run m input allowed standing stands =
    record {
      legal = tt;
      settled = IsSettled-by_test m (first_state input) refl;
      within = omega arith;
      stands = stands;
      lists = refl;
    }

-- what a kernel tells of its run is so of the program, the input and the turns that it was opened for
pub kernel-run :
    {B : Type 0} (means : B → Meaning) (k : KernelView B) (code : B) (input : List ℕ) (allowed : ℕ) (journal : List Event) (faults : List (Pid × FaultKind)) (standing : Standing)
    → k.code ≡ code
    → k.input ≡ input
    → k.turns ≡ allowed
    → journal ≡ k.journal
    → turns journal ≤ k.turns
    → IsRun (means k.code) k.input k.journal
    → IsSettledRun (means k.code) k.input k.journal
    → standing ≡ standing_of (means k.code) k.input k.journal k.turns
    → faults ≡ faults_from 0 (state_after (means k.code) k.input k.journal).processes
    → IsRunOf (means code) input allowed journal faults standing
kernel-run means k code input allowed journal faults standing same-code same-input same-turns same within legal settled stands lists =
    record {
      legal = rw same (rw (same-code, same-input) at legal);
      settled = rw same (rw (same-code, same-input) at settled);
      within = rw same-turns at within;
      stands = rw same (rw (same-code, same-input, same-turns) at stands);
      lists = rw same (rw (same-code, same-input) at lists);
    }
