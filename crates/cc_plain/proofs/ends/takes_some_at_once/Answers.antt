use Rattle.std.proofs.Common.{sym, ◌∙◌, ℕ}
use Rattle.cc_base.specs.declared.alternatives.Alt.{Alt}
use Rattle.cc_plain.proofs.Loops.{any-here, any-more}
use Rattle.cc_rules.specs.Choice.{takes_at_once}
use Rattle.cc_plain.proofs.ends.takes_some_at_once.Goals as goal

pub returns-then-takes_at_once : goal.returns-then-takes_at_once
returns-then-takes_at_once g c =
    let test = λ (a : ℕ × Alt). takes_at_once (g.B.Behave.means c.args.code.now) c.args.state.now c.args.at a.0 in
    sym (any-here test c.args.alts.now c.loop-i.i c.in-Some.item.now c.in-Some.ensures (sym c.takes_at_once.ensures ∙ c.if-takes_at_once.true))

pub loop-i-preserved : goal.loop-i-preserved
loop-i-preserved g c =
    let test = λ (a : ℕ × Alt). takes_at_once (g.B.Behave.means c.args.code.now) c.args.state.now c.args.at a.0 in
    any-more test c.args.alts.now c.loop-i.i c.in-Some.item.now c.in-Some.ensures c.loop-i.invariant (sym c.takes_at_once.ensures ∙ c.if-takes_at_once.false)
