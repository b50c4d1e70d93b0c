use Rattle.std.proofs.Common.{rules, ◌≡◌, sym, None}
use Rattle.cc_kernel.proofs.Dues.{due-deadline, no-due}
use Rattle.cc_kernel.specs.Seats.{seat_at}
use Rattle.cc_kernel.proofs.seats.Seats.deadline.Goals as goal

pub returns-in_err-due : goal.returns-in_err-due
returns-in_err-due g c =
    let same : c.from_residual.result ≡ None = search rules in
    rw same (sym (no-due (seat_at c.args.self.now.items c.args.at).standing (sym c.in_err-due.ensures)))

pub returns : goal.returns
returns g c = sym (due-deadline (seat_at c.args.self.now.items c.args.at).standing c.in_ok-due.due (sym c.in_ok-due.ensures))
