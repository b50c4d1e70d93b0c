use Rattle.std.proofs.Common.{sym, ◌∙◌}
use Rattle.cc_kernel.proofs.Listed.{faults-same}
use Rattle.cc_rules.specs.Runs.{state_after}
use Rattle.cc_kernel.proofs.kernel.Kernel.into_journal.Goals as goal

pub returns-clause-faults : goal.returns-clause-faults
returns-clause-faults g c =
    let k = c.self.inside in
    rw (← c.self.view_is)
    (c.list_faults.ensures
    ∙ sym
    (faults-same (g.B.Behave.at k.code.value) 0 (state_after (g.B.Behave.means k.code.value) k.store.input k.journal.items).processes
    k.store.seats.items c.self.invariant.state.seated))
