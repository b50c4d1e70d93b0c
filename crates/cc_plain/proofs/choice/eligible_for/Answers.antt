use Rattle.std.proofs.Common.{sym, ◌∙◌, ℕ}
use Rattle.std.specs.List.{list_any}
use Rattle.cc_base.specs.declared.alternatives.Alt.{Alt}
use Rattle.cc_plain.proofs.Loops.{any-here, any-more}
use Rattle.cc_rules.specs.Choice.{is_eligible}
use Rattle.cc_plain.proofs.choice.eligible_for.Goals as goal

pub returns-then-some_eligible : goal.returns-then-some_eligible
returns-then-some_eligible g c =
    let test = λ (a : ℕ × Alt). list_any (is_eligible (g.B.Behave.means c.args.code.now) c.args.at a.1) c.args.pending.now in
    sym (any-here test c.args.alts.now c.loop-i.i c.in-Some.item.now c.in-Some.ensures (sym c.some_eligible.ensures ∙ c.if-some_eligible.true))

pub loop-i-preserved : goal.loop-i-preserved
loop-i-preserved g c =
    let test = λ (a : ℕ × Alt). list_any (is_eligible (g.B.Behave.means c.args.code.now) c.args.at a.1) c.args.pending.now in
    any-more test c.args.alts.now c.loop-i.i c.in-Some.item.now c.in-Some.ensures c.loop-i.invariant (sym c.some_eligible.ensures ∙ c.if-some_eligible.false)
