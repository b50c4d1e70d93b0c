use Rattle.std.proofs.Common.{ap, ◌∙◌, false, ℕ}
use Rattle.std.specs.List.{list_any}
use Rattle.std.specs.Option.{option_map_or}
use Rattle.cc_base.specs.declared.alternatives.Alt.{Alt}
use Rattle.cc_kernel.proofs.Chosen.{numbered-is}
use Rattle.cc_kernel.proofs.Loops.{any-more}
use Rattle.cc_rules.specs.Choice.{is_chosen, is_eligible}
use Rattle.cc_kernel.proofs.choice.best_call.Goals as goal

pub returns-in-Some-best : goal.returns-in-Some-best
returns-in-Some-best g c =
    let m = g.B.Behave.means c.args.code.now in
    let found = c.in-Some-best.ensures in (
      found.0,
      found.1,
      ap (λ o. option_map_or (λ alt. is_chosen m c.args.pid.0 alt c.args.pending.now.items found.0) o false)
          (numbered-is c.args.alts.now c.loop-at.at c.in-Some.item.now c.len-at-end.ensures.rising c.in-Some.ensures)
          ∙ found.2,
    )

pub loop-at-preserved : goal.loop-at-preserved
loop-at-preserved g c =
    let test = λ (a : ℕ × Alt). list_any (is_eligible (g.B.Behave.means c.args.code.now) c.args.pid.0 a.1) c.args.pending.now.items in
    any-more test c.args.alts.now c.loop-at.at c.in-Some.item.now c.in-Some.ensures c.loop-at.invariant c.in_default-best.ensures
