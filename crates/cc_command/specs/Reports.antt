-- What the command reports.
use Rattle.std.specs.Prelude.{◌==◌, ℕ, List, [], ◌++◌, Option, Result, OnOk, OnErr, codes, if◌then◌else◌}
use Rattle.std.specs.Borrow.{Bor}
use Rattle.std.specs.Fmt.{decimal}
use Rattle.std.specs.List.{flat_map}
use Rattle.cc_base.specs.declared.names.FaultKind.{FaultKind}
use Rattle.cc_base.specs.declared.names.Pid.{Pid}
use Rattle.cc_base.specs.declared.names.Place.{Place}
use Rattle.cc_command.specs.ProcessFaults.{fault_name}
use Rattle.cc_command.specs.TextFaults.{kind_name}
use Rattle.cc_world.specs.Causes.{HasCause, HasWant}
use Rattle.cc_world.specs.Told.{GrewBy, GrewByPart}
use Rattle.cc_world.specs.declared.fault.IoFault.{IoFault}
use Rattle.cc_command.specs.declared.text_fault.TextFaultKind.{TextFaultKind}

-- `LINE:COLUMN: KIND`
abbrev pub fault_line : Place → TextFaultKind → List ℕ
fault_line place kind = decimal place.line ++ codes ":" ++ decimal place.column ++ codes ": " ++ kind_name kind ++ codes "\n"

-- `process P: KIND`
abbrev pub process_line : Pid × FaultKind → List ℕ
process_line fault = codes "process " ++ decimal fault.0.0 ++ codes ": " ++ fault_name fault.1 ++ codes "\n"

-- a line for each process
abbrev pub process_lines : List (Pid × FaultKind) → List ℕ
process_lines faults = flat_map process_line faults

-- the report of each status that has one line always
abbrev pub line_of : ℕ → List ℕ
line_of status =
    if status == 1 then codes "usage: ccrun ACTION FILE [options]\n"
    else (if status == 4 then codes "stuck\n"
    else (if status == 5 then codes "budget\n"
    else (if status == 6 then codes "shelf\n"
    else (if status == 8 then codes "write\n"
    else (if status == 9 then codes "memory\n"
    else [])))))

-- the report of a run that ended with this status and these faults
abbrev pub run_report : ℕ → List (Pid × FaultKind) → List ℕ
run_report status faults = if status == 3 then process_lines faults else line_of status

-- the bytes of these pieces, one after the other
abbrev pub bytes_of : List (Bor (List ℕ)) → List ℕ
bytes_of pieces = flat_map (λ piece. piece.now) pieces

-- these bytes were written to a sink: all of them, or a first part of them where the answer is an error, and then a count rose
pub record Wrote {T : Type 0} (held held_after : Option (List ℕ)) (bytes : List ℕ) (faults faults_after wants wants_after : ℕ) (result : Result T IoFault) : Type 0 where
  pub done : OnOk result (GrewBy held held_after bytes)
  pub part : OnErr result (GrewByPart held held_after bytes)
  pub cause : HasCause faults faults_after result
  pub want : HasWant wants wants_after result
