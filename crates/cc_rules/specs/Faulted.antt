-- The processes that were stopped by a fault.
use Rattle.std.specs.Prelude.{ℕ, ◌+◌, List, [], ◌∷◌, ◌++◌}
use Rattle.cc_base.specs.declared.names.FaultKind.{FaultKind}
use Rattle.cc_base.specs.declared.names.Pid.{Pid}
use Rattle.cc_rules.specs.State.{Process}
use Rattle.cc_rules.specs.declared.process.ProcessStanding.{ProcessStanding}
use Rattle.cc_rules.specs.declared.process.ProcessStanding.TheVariants.{Running, AtSelect, AtDelay, AtCall, Ended, Faulted}

-- the fault of process p, where it stands so
abbrev pub fault_of : ℕ → ProcessStanding → List (Pid × FaultKind)
fault_of p Running = []
fault_of p (AtSelect alts asked) = []
fault_of p (AtDelay deadline) = []
fault_of p (AtCall call) = []
fault_of p Ended = []
fault_of p (Faulted kind) = (record { 0 = p }, kind) ∷ []

-- the faults of these processes, of which the first has this number
abbrev pub faults_from : ℕ → List Process → List (Pid × FaultKind)
faults_from p [] = []
faults_from p (q ∷ qs) = fault_of p q.standing ++ faults_from (p + 1) qs
