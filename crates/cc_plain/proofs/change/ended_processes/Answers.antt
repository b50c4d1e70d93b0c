use Rattle.std.proofs.Common.{◌<◌, length, ap, ◌∙◌, sym, ◌++◌, ◌∷◌, [], map, take}
use Rattle.std.specs.List.{enumerate_from}
use Rattle.cc_plain.proofs.Ended.{after_end}
use Rattle.cc_plain.proofs.Processes.{at-is, mapped-more, mapped-whole}
use Rattle.cc_plain.proofs.change.ended_processes.Goals as goal

pub loop-at-preserved : goal.loop-at-preserved
loop-at-preserved g c =
    let m = g.B.Behave.means c.args.code.now in
    let s = c.args.before.now in
    let lt : c.loop-at.at < length s.processes = rw c.processes-process-items.ensures at c.loop-at-test.true in
    c.in_ok-push.ensures.items
    ∙ ap (λ xs. xs ++ c.in_ok-ended_process.field-0 ∷ []) c.loop-at.invariant
    ∙ ap (λ q. map (after_end m s) (take c.loop-at.at (enumerate_from 0 s.processes)) ++ q ∷ []) (c.in_ok-ended_process.ensures ∙ ap (λ q. after_end m s (c.loop-at.at, q)) (at-is s.processes c.loop-at.at c.process-item.result (rw c.processes-process-items.ensures at c.process-item.is) lt))
    ∙ sym (mapped-more (after_end m s) s c.loop-at.at lt)

pub returns : goal.returns
returns g c =
    let m = g.B.Behave.means c.args.code.now in
    let s = c.args.before.now in
    c.loop-at.invariant ∙ mapped-whole (after_end m s) s c.loop-at.at (rw c.processes-process-items.ensures at c.loop-at-test.false)
