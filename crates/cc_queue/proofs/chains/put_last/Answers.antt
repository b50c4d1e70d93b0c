use Rattle.std.proofs.Common.{◌<◌, cond, Some, sym, ap, ◌∙◌, subst}
use Rattle.std.specs.HashMap.{spare}
use Rattle.cc_queue.specs.Chains.{ends_at, has_last, is_lane}
use Rattle.cc_queue.proofs.Slots.{on_ok}
use Rattle.cc_queue.proofs.chains.put_last.Goals as goal

pub returns-clause-ends : goal.returns-clause-ends
returns-clause-ends c =
    λ q.
    let same = c.get_mut.follows.holds-at-none in
    let made = on_ok c.insert.result (c.insert.ensures.succeeds (subst (λ m. 0 < spare m) (sym same) c.requires)) c.insert.ensures.updates in
    made.0 q
    ∙ ap (λ m. cond (is_lane c.args.lane q) (Some (record { first = c.args.slot; last = c.args.slot })) (ends_at m q)) same
    ∙ ap (λ o. cond (is_lane c.args.lane q) (Some (has_last c.args.slot o)) (ends_at c.args.ends.now q)) c.in_default.ensures.value
