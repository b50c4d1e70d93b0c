use Rattle.std.proofs.Common.{◌∙◌, inr, refl, sym, subst}
use Rattle.cc_kernel.specs.Untimed.{AsksNoDeadline}
use Rattle.cc_pool.proofs.Begun.{empty-run, kernel-run}
use Rattle.cc_pool.proofs.Unfinished.{stopped-incomplete}
use Rattle.cc_pool.proofs.driving.drive.Goals as goal

pub run_on-stop-requires-clause-no_deadline : goal.run_on-stop-requires-clause-no_deadline
run_on-stop-requires-clause-no_deadline g c =
    subst (λ code. AsksNoDeadline (g.B.Behave.means code)) (sym c.in-Ok.ensures.code) c.requires.no_deadline

pub returns-in_default-clause-run : goal.returns-in_default-clause-run
returns-in_default-clause-run g c =
    let m = g.B.Behave.means c.args.code.now.value in
    rw (c.unbegun.ensures.journal, c.unbegun.ensures.faults)
    (empty-run m c.args.input c.args.turns c.unbegun.result.standing (c.unbegun.ensures.standing m c.args.input))

pub returns-clause-run : goal.returns-clause-run
returns-clause-run g c =
    let told = c.into_journal-journal.ensures in
    kernel-run g.B.Behave.means c.run_on-stop.new.kernel c.args.code.now.value c.args.input c.args.turns
    c.into_journal-journal.result.0.items c.into_journal-journal.result.1.items c.state-standing.result
    (c.run_on-stop.ensures.code ∙ c.in-Ok.ensures.code)
    (c.run_on-stop.ensures.input ∙ c.in-Ok.ensures.input)
    (c.run_on-stop.ensures.turns ∙ c.in-Ok.ensures.turns)
    told.journal told.within told.runs told.settled c.state-standing.ensures.standing told.faults

pub returns-clause-incomplete : goal.returns-clause-incomplete
returns-clause-incomplete g c =
    let told = c.into_journal-journal.ensures in
    rw told.journal
    (stopped-incomplete (g.B.Behave.means c.args.code.now.value) c.args.input c.run_on-stop.new.kernel.journal _ _ c.run_on-stop.result
    (rw told.journal at (returns-clause-run g c).legal)
    (rw (c.in-Ok.ensures.code, c.in-Ok.ensures.input) at c.run_on-stop.ensures.write)
    (rw (c.in-Ok.ensures.code, c.in-Ok.ensures.input) at c.run_on-stop.ensures.memory))

pub returns-in_default-clause-incomplete : goal.returns-in_default-clause-incomplete
returns-in_default-clause-incomplete g c = inr (rw c.unbegun.ensures.journal refl)
