use Rattle.std.proofs.Common.{◌≡◌, ◌≤◌, vec_len}
use Rattle.cc_timer.proofs.timers.fill.Given as goal

abbrev pub invariant-loop : goal.invariant-loop
invariant-loop l = (vec_len l.nodes ≡ l.counter) × (vec_len l.fn.nodes ≤ vec_len l.nodes)
