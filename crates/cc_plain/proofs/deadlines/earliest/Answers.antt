use Rattle.std.proofs.Common.{sym}
use Rattle.std.specs.List.{filter_map}
use Rattle.cc_plain.proofs.Least.{earliest-append}
use Rattle.cc_rules.specs.Choice.{call_deadline}
use Rattle.cc_rules.specs.Standing.{process_deadlines}
use Rattle.cc_rules.specs.declared.process.TransactionCall.{TransactionCall}
use Rattle.cc_plain.proofs.deadlines.earliest.Goals as goal

pub returns : goal.returns
returns c =
    let f = λ (call : TransactionCall). call_deadline call.waiting in
    rw (c.lesser.ensures, c.of_processes.ensures, c.of_calls.ensures, c.processes.ensures, c.pending.ensures)
    (sym (earliest-append (process_deadlines c.args.state.now.processes) (filter_map f c.args.state.now.pending)))
