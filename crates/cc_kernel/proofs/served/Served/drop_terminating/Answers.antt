use Rattle.std.proofs.Common.{ℕ}
use Rattle.cc_kernel.proofs.Stacks.{dropped-above, dropped-below, dropped-whole}
use Rattle.cc_kernel.specs.Counted.{may_terminate}
use Rattle.cc_kernel.specs.Seats.{seat_at}
use Rattle.cc_kernel.specs.Stacks.{served_by}
use Rattle.cc_kernel.proofs.served.Served.drop_terminating.Goals as goal

pub loop-at-preserved : goal.loop-at-preserved
loop-at-preserved g c =
    let seats = c.args.seats.now.items in
    let gone = λ (p : ℕ). may_terminate (seat_at seats p).standing in
    let first = served_by c.args.self.now in
    let before = served_by c.loop-at.self in
    let after = served_by c.drop_where_terminating.new.self in
    let k = c.loop-at.invariant in
    record {
      below = dropped-below gone first before c.loop-at.at after c.drop_where_terminating.ensures k.below k.above;
      above = dropped-above gone first before c.loop-at.at after c.drop_where_terminating.ensures k.above;
    }

pub returns : goal.returns
returns g c =
    let seats = c.args.seats.now.items in
    dropped-whole seats (served_by c.args.self.now) (served_by c.loop-at.self) c.loop-at.at
    (rw c.len-at-end.ensures at c.loop-at-test.false) c.loop-at.invariant.below c.loop-at.invariant.above
