use Rattle.std.proofs.Common.{rules, ◌≡◌, sym, None}
use Rattle.cc_kernel.proofs.Dues.{due-deadline, no-due}
use Rattle.cc_rules.specs.declared.process.ProcessStanding.TheVariants.{AtSelect}
use Rattle.cc_kernel.proofs.due.select_deadline.Goals as goal

pub returns-in_err-due-clause-deadline : goal.returns-in_err-due-clause-deadline
returns-in_err-due-clause-deadline c =
    let same : c.from_residual.result ≡ None = search rules in
    rw same (sym (no-due (AtSelect c.args.alts.now c.args.asked) (sym c.in_err-due.ensures.due)))

pub returns-clause-deadline : goal.returns-clause-deadline
returns-clause-deadline c = sym (due-deadline (AtSelect c.args.alts.now c.args.asked) c.in_ok-due.due (sym c.in_ok-due.ensures.due))
