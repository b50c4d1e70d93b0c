use Rattle.cc_kernel.proofs.Others.{outs-run}
use Rattle.cc_rules.specs.Runs.{state_after}
use Rattle.cc_kernel.proofs.kernel.Kernel.journal.Goals as goal

pub returns-clause-outs : goal.returns-clause-outs
returns-clause-outs g c =
    let k = c.self.inside in
    rw (← c.self.view_is)
    (outs-run (g.B.Behave.at k.code.value) (state_after (g.B.Behave.means k.code.value) k.store.input k.journal.items).processes k.store.seats.items
    c.self.invariant.state.seated)
