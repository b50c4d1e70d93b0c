-- The names of the faults of processes.
use Rattle.std.specs.Prelude.{ℕ, List, codes}
use Rattle.cc_base.specs.declared.names.FaultKind.{FaultKind}
use Rattle.cc_base.specs.declared.names.FaultKind.TheVariants.{Overflow, DivideByZero, Index, NullProcess, CalleeGone, NoAlternative, Depth, Cells, TooMany}

abbrev pub fault_name : FaultKind → List ℕ
fault_name Overflow = codes "Overflow"
fault_name DivideByZero = codes "DivideByZero"
fault_name Index = codes "Index"
fault_name NullProcess = codes "NullProcess"
fault_name CalleeGone = codes "CalleeGone"
fault_name NoAlternative = codes "NoAlternative"
fault_name Depth = codes "Depth"
fault_name Cells = codes "Cells"
fault_name TooMany = codes "TooMany"
