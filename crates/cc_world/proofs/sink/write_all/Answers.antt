use Rattle.std.proofs.Common.{rules, arith}
use Rattle.std.proofs.lemmas.Grind.{common_steps}
use Rattle.cc_world.proofs.Grown.{put_more}
use Rattle.cc_world.proofs.sink.write_all.Goals as goal

pub loop-done-preserved : goal.loop-done-preserved
loop-done-preserved g c = record {
  in_range = grind (arith, rules, common_steps);
  held = put_more _ _ _ c.args.bytes.now c.loop-done.done c.in_ok-done.field-0 c.loop-done.invariant.held c.in_ok-done.ensures.bytes.2;
  faults = search rules;
  wants = search rules;
  idle = λ none. absurd (omega (arith, c.in_ok-done.ensures.bytes.0));
}
