use Rattle.std.proofs.Common.{◌≡◌, ◌-◌}
use Rattle.cc_pool.proofs.Turns.{OnItsWay}
use Rattle.cc_rules.specs.Runs.{turns}
use Rattle.cc_pool.proofs.driving.run_on.Given as goal

abbrev pub invariant-loop-alloc : goal.invariant-loop-alloc
invariant-loop-alloc g l =
    (l.kernel.code ≡ l.initial.kernel.code)
    × (l.kernel.input ≡ l.initial.kernel.input)
    × (l.kernel.turns ≡ l.initial.kernel.turns)
    × OnItsWay (g.B.Behave.means l.initial.kernel.code) l.initial.kernel.input l.initial.kernel.turns l.kernel.journal l.kernel.outs
    (g.K.Sink.held l.initial.out) (g.K.Sink.held l.out) (g.K.Sink.faults l.initial.out) (g.K.Sink.faults l.out)

abbrev pub decreases-loop-alloc : goal.decreases-loop-alloc
decreases-loop-alloc g l = l.kernel.turns - turns l.kernel.journal
