use Rattle.std.proofs.Common.{refl}
use Rattle.cc_base.specs.declared.request.Grant.TheVariants.{Go, Made}
use Rattle.cc_kernel.proofs.Timed.{changed-timed, pushed-timed, running-none}
use Rattle.cc_kernel.specs.Seats.{seat_at, with_ready}
use Rattle.cc_kernel.proofs.asks.create.Goals as goal

pub returns-clause-timed : goal.returns-clause-timed
returns-clause-timed g c =
    let old = c.args.store.now in
    rw (c.add.ensures, c.put_ready.ensures.items)
    (pushed-timed _ old.pending.items old.deadlines.pairs (with_ready c.args.new Go) refl
    (changed-timed old.seats.items old.pending.items old.deadlines.pairs c.args.pid.0 (with_ready c.args.process (Made (record { 0 = c.len-count.result })))
    (running-none (seat_at old.seats.items c.args.pid.0).standing c.requires.running) refl c.requires.timed))
