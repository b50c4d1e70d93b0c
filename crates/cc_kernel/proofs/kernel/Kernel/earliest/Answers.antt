use Rattle.cc_kernel.proofs.Least.{earliest-is}
use Rattle.cc_kernel.specs.Store.{contents}
use Rattle.cc_rules.specs.Runs.{state_after}
use Rattle.cc_kernel.proofs.kernel.Kernel.earliest.Goals as goal

pub returns : goal.returns
returns g c =
    let k = c.self.inside in
    let m = g.B.Behave.means k.code.value in
    record {
      earliest =
          rw (← c.self.view_is)
          (earliest-is (g.B.Behave.at k.code.value) (state_after m k.store.input k.journal.items) (contents k.store) _ c.self.invariant.state c.earliest.ensures);
    }
