use Rattle.std.proofs.Common.{◌∙◌, ◌<◌, ap, length}
use Rattle.cc_kernel.proofs.Ending.{end-step}
use Rattle.cc_kernel.proofs.Walking.{walked-long, walked-whole}
use Rattle.cc_kernel.specs.Counted.{ended_seat}
use Rattle.cc_kernel.specs.Seats.{vacant}
use Rattle.cc_kernel.proofs.seats.Seats.end_terminating.Goals as goal

pub end_where_terminating-requires : goal.end_where_terminating-requires
end_where_terminating-requires g c =
    let seats = c.args.self.now.items in
    let lt : c.loop-at.at < length seats = rw c.len-at-end.ensures at c.loop-at-test.true in
    rw (ap length c.loop-at.invariant, walked-long vacant ended_seat c.loop-at.at seats) lt

pub loop-at-preserved : goal.loop-at-preserved
loop-at-preserved g c =
    let lt : c.loop-at.at < length c.args.self.now.items = rw c.len-at-end.ensures at c.loop-at-test.true in
    c.end_where_terminating.ensures ∙ end-step c.args.self.now.items c.loop-at.self.items c.loop-at.at lt c.loop-at.invariant

pub returns : goal.returns
returns g c =
    let seats = c.args.self.now.items in
    c.loop-at.invariant ∙ walked-whole vacant ended_seat c.loop-at.at seats (rw c.len-at-end.ensures at c.loop-at-test.false)
