use Rattle.std.proofs.Common.{sym, ◌∙◌, ℕ, ◌||◌}
use Rattle.cc_rules.specs.Ends.{waits_at_terminate}
use Rattle.cc_rules.specs.State.{is_over, process_at}
use Rattle.cc_plain.proofs.Processes.{every-here, every-more, every-whole}
use Rattle.cc_plain.proofs.ends.all_may_end.Goals as goal

pub returns-then-not-may_end : goal.returns-then-not-may_end
returns-then-not-may_end g c =
    let test = λ (p : ℕ). is_over (process_at c.args.state.now.processes p).standing || waits_at_terminate (g.B.Behave.means c.args.code.now) c.args.state.now p in
    sym (every-here test c.args.state.now c.loop-at.at (rw c.processes-at-end.ensures at c.loop-at-test.true) (sym c.may_end.ensures ∙ c.if-not-may_end.true))

pub loop-at-preserved : goal.loop-at-preserved
loop-at-preserved g c =
    let test = λ (p : ℕ). is_over (process_at c.args.state.now.processes p).standing || waits_at_terminate (g.B.Behave.means c.args.code.now) c.args.state.now p in
    every-more test c.args.state.now c.loop-at.at (rw c.processes-at-end.ensures at c.loop-at-test.true) c.loop-at.invariant (sym c.may_end.ensures ∙ c.if-not-may_end.false)

pub returns : goal.returns
returns g c =
    let test = λ (p : ℕ). is_over (process_at c.args.state.now.processes p).standing || waits_at_terminate (g.B.Behave.means c.args.code.now) c.args.state.now p in
    sym (every-whole test c.args.state.now c.loop-at.at (rw c.processes-at-end.ensures at c.loop-at-test.false) c.loop-at.invariant)
