use Rattle.std.proofs.Common.{◌∙◌, ap, inl, inr, rules, subst, sym, Err}
use Rattle.std.specs.List.{AllPass}
use Rattle.cc_pool.specs.Driven.{is_untimed}
use Rattle.cc_pool.proofs.Turns.{memory-stops, memory-stops_between, sink-stops, way-on}
use Rattle.cc_pool.proofs.Unfinished.{untimed-on}
use Rattle.cc_pool.proofs.driving.run_on.Goals as goal

pub loop-alloc-preserved : goal.loop-alloc-preserved
loop-alloc-preserved g c =
    let was = c.loop-alloc.invariant in
    let done = rw (was.0, was.1) at c.in-Ok.ensures.done in
    let within = rw (c.step.ensures.turns, was.2) at c.in-Ok.ensures.within in (
      c.step.ensures.code ∙ was.0,
      c.step.ensures.input ∙ was.1,
      c.step.ensures.turns ∙ was.2,
      way-on (g.B.Behave.means c.args.kernel.now.code) c.args.kernel.now.input c.args.kernel.now.turns _ _ _ _ _ _ _ _ _ _ done.0
          was.3 done.1 within (untimed-on _ _ _ _ done.0 done.1 was.3.untimed) c.in-Ok.ensures.inside done.2 (search rules),
    )

pub returns-in-Err-Write-clause-write : goal.returns-in-Err-Write-clause-write
returns-in-Err-Write-clause-write g c =
    let was = c.loop-alloc.invariant in
    let stopped = rw (was.0, was.1) at (c.in-Err-Write.ensures.write (ap Err c.in-Err-Write.field-0-is)) in
    λ is. sink-stops (g.B.Behave.means c.args.kernel.now.code) c.args.kernel.now.input _ _ _ _ _ stopped.0 was.3.grew stopped.1 stopped.2

pub returns-in-Err-Memory-clause-memory : goal.returns-in-Err-Memory-clause-memory
returns-in-Err-Memory-clause-memory g c =
    let was = c.loop-alloc.invariant in
    let stopped = rw (was.0, was.1) at (c.in-Err-Memory.ensures.memory (ap Err c.in-Err-Memory.field-0-is)) in
    let m = g.B.Behave.means c.args.kernel.now.code in
    λ is. elim stopped [
      | inl between ↦ memory-stops_between m c.args.kernel.now.input c.args.kernel.now.turns _ _ _ _ _ (search rules) was.3.grew between.0 between.1
      | inr within ↦ memory-stops m c.args.kernel.now.input _ _ _ (sink-stops m c.args.kernel.now.input _ _ _ _ _ within.0 was.3.grew within.1 within.2)
    ]

pub returns-in-Err-Write-clause-untimed : goal.returns-in-Err-Write-clause-untimed
returns-in-Err-Write-clause-untimed g c =
    let was = c.loop-alloc.invariant in
    let stopped = c.in-Err-Write.ensures.write (ap Err c.in-Err-Write.field-0-is) in
    untimed-on _ _ _ _ stopped.0 stopped.1 was.3.untimed

pub returns-in-Err-Memory-clause-untimed : goal.returns-in-Err-Memory-clause-untimed
returns-in-Err-Memory-clause-untimed g c =
    let was = c.loop-alloc.invariant in
    elim (c.in-Err-Memory.ensures.memory (ap Err c.in-Err-Memory.field-0-is)) [
      | inl between ↦ subst (AllPass is_untimed) (sym between.0) was.3.untimed
      | inr within ↦ untimed-on _ _ _ _ within.0 within.1 was.3.untimed
    ]
