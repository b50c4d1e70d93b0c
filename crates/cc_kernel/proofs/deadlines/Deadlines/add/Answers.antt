use Rattle.std.proofs.Common.{arith}
use Rattle.cc_kernel.proofs.Timed.{more-with}
use Rattle.cc_kernel.proofs.deadlines.Deadlines.add.Goals as goal

pub invariant_of-self : goal.invariant_of-self
invariant_of-self c =
    let k = c.self.inside in
    let inv = c.self.invariant in
    let room = rw (← c.self.view_is) at c.requires in
    let more = more-with c.args.moment c.args.who k.timers.pairs in
    let a = inv.0 in
    let b = inv.1 in
    let d = inv.2 in
    rw c.add.ensures (omega (arith, more, a), omega (arith, b, room), omega (arith, d, room))
