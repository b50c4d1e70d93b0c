use Rattle.std.proofs.Common.{sym, ◌∙◌, ℕ}
use Rattle.std.specs.List.{list_any}
use Rattle.cc_rules.specs.Choice.{takes_at_once}
use Rattle.cc_rules.specs.State.{open_alternatives, process_at}
use Rattle.cc_plain.proofs.Processes.{some-here, some-more, some-whole}
use Rattle.cc_plain.proofs.ends.some_at_once.Goals as goal

pub returns-then-may_go_at_once : goal.returns-then-may_go_at_once
returns-then-may_go_at_once g c =
    let test = λ (p : ℕ). list_any (λ a. takes_at_once (g.B.Behave.means c.args.code.now) c.args.state.now p a.0) (open_alternatives (process_at c.args.state.now.processes p).standing) in
    sym (some-here test c.args.state.now c.loop-at.at (rw c.processes-at-end.ensures at c.loop-at-test.true) (sym c.may_go_at_once.ensures ∙ c.if-may_go_at_once.true))

pub loop-at-preserved : goal.loop-at-preserved
loop-at-preserved g c =
    let test = λ (p : ℕ). list_any (λ a. takes_at_once (g.B.Behave.means c.args.code.now) c.args.state.now p a.0) (open_alternatives (process_at c.args.state.now.processes p).standing) in
    some-more test c.args.state.now c.loop-at.at (rw c.processes-at-end.ensures at c.loop-at-test.true) c.loop-at.invariant (sym c.may_go_at_once.ensures ∙ c.if-may_go_at_once.false)

pub returns : goal.returns
returns g c =
    let test = λ (p : ℕ). list_any (λ a. takes_at_once (g.B.Behave.means c.args.code.now) c.args.state.now p a.0) (open_alternatives (process_at c.args.state.now.processes p).standing) in
    sym (some-whole test c.args.state.now c.loop-at.at (rw c.processes-at-end.ensures at c.loop-at-test.false) c.loop-at.invariant)
