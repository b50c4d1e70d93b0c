use Rattle.std.proofs.Common.{arith}
use Rattle.cc_kernel.proofs.Timed.{fewer-without}
use Rattle.cc_kernel.proofs.deadlines.Deadlines.remove.Goals as goal

pub invariant_of-self : goal.invariant_of-self
invariant_of-self c =
    let k = c.self.inside in
    let inv = c.self.invariant in
    let fewer = fewer-without c.args.moment c.args.who k.timers.pairs (rw (← c.self.view_is) at c.requires) in
    let a = inv.0 in
    let b = inv.1 in
    rw c.remove.ensures (omega (arith, fewer, a), omega (arith, b), inv.2)
