use Rattle.std.proofs.Common.{◌≡◌, Err, rules}
use Rattle.cc_command.proofs.Written.{more_written, stopped_in}
use Rattle.cc_command.specs.Reports.{process_line}
use Rattle.cc_command.proofs.report.write_processes.Goals as goal

pub returns-in_err-write_process : goal.returns-in_err-write_process
returns-in_err-write_process g c =
    let same : c.from_residual.result ≡ Err c.in_err-write_process.field-0.0 = search rules in
    rw same
    (stopped_in process_line c.args.faults.now.items c.loop-at.at c.fault_at.result (search rules) c.fault_at.ensures _ _ _ _ _ _ _ _ _ _
    c.loop-at.invariant c.in_err-write_process.ensures)

pub loop-at-preserved : goal.loop-at-preserved
loop-at-preserved g c =
    more_written process_line c.args.faults.now.items c.loop-at.at c.fault_at.result (search rules) c.fault_at.ensures _ _ _ _ _ _ _ _ _
    c.loop-at.invariant c.in_ok-write_process.ensures
