use Rattle.std.proofs.Common.{◌∙◌, arith}
use Rattle.cc_trace.proofs.Texts.{bounds_more, is_there, line_more}
use Rattle.cc_trace.proofs.writing.write_journal.Goals as goal
use Rattle.cc_trace.proofs.writing.write_journal.Goals.{in-Some+in_ok-put_event, in_default}

pub loop-at-preserved : goal.loop-at-preserved
loop-at-preserved c =
    let events = c.args.journal.now.items in
    elim c.match-get.branch [
      | in-Some+in_ok-put_event w ↦ record {
        within_bounds = bounds_more events c.loop-at.at w.in-Some.event.now w.in-Some.ensures.item w.put_event.ensures.within_bounds c.loop-at.invariant.within_bounds;
        text = w.text-is ∙ w.in_ok-put_event.ensures.line ∙ line_more events c.loop-at.at w.in-Some.event.now c.loop-at.text w.in-Some.ensures.item c.loop-at.invariant.text;
      }
      | in_default w ↦ absurd (is_there events c.loop-at.at (omega (arith, c.loop-at-test.true, c.len-at-end.ensures.len)) w.in_default.ensures.item)
    ]
