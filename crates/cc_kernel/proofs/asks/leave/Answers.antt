use Rattle.cc_kernel.proofs.Timed.{changed-timed, gone-timed, over-none, running-none}
use Rattle.cc_kernel.specs.Seats.{seat_at, with_left}
use Rattle.cc_kernel.specs.Stacks.{served_by}
use Rattle.cc_kernel.proofs.asks.leave.Goals as goal

pub drop_calls-requires : goal.drop_calls-requires
drop_calls-requires g c =
    let old = c.args.store.now in
    rw c.put_left.ensures
    (changed-timed old.seats.items old.pending.items old.deadlines.pairs c.args.pid.0 (with_left c.args.standing)
    (running-none (seat_at old.seats.items c.args.pid.0).standing c.requires.running) (over-none c.args.standing c.requires.over) c.requires.timed)

pub returns-clause-timed : goal.returns-clause-timed
returns-clause-timed g c =
    rw c.drop_served.ensures.seats
    (gone-timed c.drop_calls.new.seats.items c.drop_calls.new.pending.items c.drop_calls.new.deadlines.pairs (served_by c.args.store.now.served c.args.pid.0) c.drop_calls.ensures.timed)
