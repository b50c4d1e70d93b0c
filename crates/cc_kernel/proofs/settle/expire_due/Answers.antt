use Rattle.std.proofs.Common.{arith, ◌∙◌}
use Rattle.cc_kernel.proofs.Ending.{settles-calm}
use Rattle.cc_kernel.proofs.Resting.{due-rests, rest-calm}
use Rattle.cc_kernel.proofs.Settling.{goes-one}
use Rattle.cc_kernel.specs.Store.{contents}
use Rattle.cc_kernel.proofs.settle.expire_due.Goals as goal

pub loop-event-preserved : goal.loop-event-preserved
loop-event-preserved g c =
    let m = g.B.Behave.means c.args.code.now in
    let located = g.B.Behave.at c.args.code.now in
    let inv = c.loop-event.invariant in
    let fewer = c.in-Some.ensures.fewer in
    let room = inv.events in
    let spare = c.add.ensures.spare in
    record {
      goes_on =
          λ s k.
          rw c.add.ensures.items
          (goes-one m located s c.args.journal.now.items c.loop-event.journal.items (contents c.loop-event.store) (contents c.expire_one.new.store) c.in-Some.event
          (inv.goes_on s k) c.in-Some.ensures.takes);
      rest = c.expire_one.ensures.rest;
      stays = c.in-Some.ensures.stays;
      events = omega (arith, fewer, room, spare);
      outs = c.expire_one.ensures.outs ∙ inv.outs;
      input = c.expire_one.ensures.input ∙ inv.input;
      drawn = c.expire_one.ensures.drawn ∙ inv.drawn;
      cells = λ h. c.expire_one.ensures.cells (inv.cells h);
    }

pub returns-clause-settles : goal.returns-clause-settles
returns-clause-settles g c s k =
    let m = g.B.Behave.means c.args.code.now in
    let located = g.B.Behave.at c.args.code.now in
    let inv = c.loop-event.invariant in
    let x = contents c.loop-event.store in
    rw c.in_default.ensures.same
    (settles-calm m located s c.args.journal.now.items c.loop-event.journal.items x
    (inv.goes_on s k)
    (λ s' k'. rest-calm m located s' x k' inv.rest)
    (due-rests m x inv.rest ∙ inv.stays)
    c.in_default.ensures.none)
