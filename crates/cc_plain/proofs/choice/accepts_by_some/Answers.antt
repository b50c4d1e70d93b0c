use Rattle.std.proofs.Common.{sym, ◌∙◌, ℕ}
use Rattle.cc_base.specs.declared.alternatives.Alt.{Alt}
use Rattle.cc_plain.proofs.Loops.{any-here, any-more}
use Rattle.cc_rules.specs.Choice.{accepts}
use Rattle.cc_plain.proofs.choice.accepts_by_some.Goals as goal

pub returns-then-accepts : goal.returns-then-accepts
returns-then-accepts g c =
    let test = λ (a : ℕ × Alt). accepts (g.B.Behave.means c.args.code.now) c.args.state.now c.args.call.now.target.0 a.0 c.args.call.now in
    sym (any-here test c.args.alts.now c.loop-i.i c.in-Some.item.now c.in-Some.ensures (sym c.accepts.ensures ∙ c.if-accepts.true))

pub loop-i-preserved : goal.loop-i-preserved
loop-i-preserved g c =
    let test = λ (a : ℕ × Alt). accepts (g.B.Behave.means c.args.code.now) c.args.state.now c.args.call.now.target.0 a.0 c.args.call.now in
    any-more test c.args.alts.now c.loop-i.i c.in-Some.item.now c.in-Some.ensures c.loop-i.invariant (sym c.accepts.ensures ∙ c.if-accepts.false)
