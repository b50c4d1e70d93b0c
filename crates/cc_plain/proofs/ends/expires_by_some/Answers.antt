use Rattle.std.proofs.Common.{sym, ◌∙◌, ℕ}
use Rattle.cc_base.specs.declared.alternatives.Alt.{Alt}
use Rattle.cc_plain.proofs.Loops.{any-here, any-more, any-mapped, any-whole}
use Rattle.cc_rules.specs.Choice.{expires}
use Rattle.cc_plain.proofs.ends.expires_by_some.Goals as goal

pub returns-then-expires : goal.returns-then-expires
returns-then-expires g c =
    let m = g.B.Behave.means c.args.code.now in
    let test = λ (a : ℕ × Alt). expires m c.args.state.now c.args.at a.0 in
    sym (any-mapped (expires m c.args.state.now c.args.at) c.args.alts.now ∙ any-here test c.args.alts.now c.loop-i.i c.in-Some.item.now c.in-Some.ensures (sym c.expires.ensures ∙ c.if-expires.true))

pub loop-i-preserved : goal.loop-i-preserved
loop-i-preserved g c =
    let test = λ (a : ℕ × Alt). expires (g.B.Behave.means c.args.code.now) c.args.state.now c.args.at a.0 in
    any-more test c.args.alts.now c.loop-i.i c.in-Some.item.now c.in-Some.ensures c.loop-i.invariant (sym c.expires.ensures ∙ c.if-expires.false)

pub returns : goal.returns
returns g c =
    let m = g.B.Behave.means c.args.code.now in
    let test = λ (a : ℕ × Alt). expires m c.args.state.now c.args.at a.0 in
    sym (any-mapped (expires m c.args.state.now c.args.at) c.args.alts.now ∙ any-whole test c.args.alts.now c.loop-i.i (rw c.len-i-end.ensures.len at c.loop-i-test.false) c.loop-i.invariant)
