use Rattle.std.proofs.Common.{sym, ◌∙◌, ℕ}
use Rattle.cc_rules.specs.Ends.{waits_at_terminate}
use Rattle.cc_plain.proofs.Processes.{some-here, some-more, some-whole}
use Rattle.cc_plain.proofs.ends.some_waits.Goals as goal

pub returns-then-waits_at_terminate : goal.returns-then-waits_at_terminate
returns-then-waits_at_terminate g c =
    let test = λ (p : ℕ). waits_at_terminate (g.B.Behave.means c.args.code.now) c.args.state.now p in
    sym (some-here test c.args.state.now c.loop-at.at (rw c.processes-at-end.ensures at c.loop-at-test.true) (sym c.waits_at_terminate.ensures ∙ c.if-waits_at_terminate.true))

pub loop-at-preserved : goal.loop-at-preserved
loop-at-preserved g c =
    let test = λ (p : ℕ). waits_at_terminate (g.B.Behave.means c.args.code.now) c.args.state.now p in
    some-more test c.args.state.now c.loop-at.at (rw c.processes-at-end.ensures at c.loop-at-test.true) c.loop-at.invariant (sym c.waits_at_terminate.ensures ∙ c.if-waits_at_terminate.false)

pub returns : goal.returns
returns g c =
    let test = λ (p : ℕ). waits_at_terminate (g.B.Behave.means c.args.code.now) c.args.state.now p in
    sym (some-whole test c.args.state.now c.loop-at.at (rw c.processes-at-end.ensures at c.loop-at-test.false) c.loop-at.invariant)
