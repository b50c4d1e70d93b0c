use Rattle.std.proofs.Common.{◌≡◌, drop}
use Rattle.std.specs.List.{list_all}
use Rattle.cc_faults.specs.Expressions.{is_part_step}
use Rattle.cc_rows.proofs.phrases.are_part_steps.Given as goal

abbrev pub invariant-loop-step : goal.invariant-loop-step
invariant-loop-step l = list_all is_part_step (drop l.step-index l.steps) ≡ list_all is_part_step l.steps
