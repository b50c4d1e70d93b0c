use Rattle.std.proofs.Common.{◌<◌, List, length, ◌++◌, sym, ap, ◌∙◌, subst, arith}
use Rattle.std.specs.Prelude.{All}
use Rattle.cc_base.specs.declared.names.FaultKind.{FaultKind}
use Rattle.cc_base.specs.declared.names.Pid.{Pid}
use Rattle.cc_kernel.proofs.Listed.{below-taken, more-faults-here}
use Rattle.cc_rules.specs.Faulted.{fault_of}
use Rattle.cc_kernel.specs.Seats.{seat_at}
use Rattle.cc_kernel.proofs.faults.list_faults.Goals as goal

pub list_fault-requires-clause-below : goal.list_fault-requires-clause-below
list_fault-requires-clause-below g c =
    let F : List (Pid × FaultKind) → Type 0 = λ xs. All (λ f. f.0.0 < c.loop-at.at) xs in
    let lt : c.loop-at.at < length c.args.seats.now.items = rw c.len-at-end.ensures at c.loop-at-test.true in
    subst F (sym c.loop-at.invariant.items) (below-taken c.loop-at.at c.args.seats.now.items lt)

pub loop-at-preserved : goal.loop-at-preserved
loop-at-preserved g c =
    let lt : c.loop-at.at < length c.args.seats.now.items = rw c.len-at-end.ensures at c.loop-at-test.true in
    let room = c.list_fault.ensures.room in
    let before = c.loop-at.invariant.room in
    record {
      items =
          c.list_fault.ensures.items
          ∙ ap (λ xs. xs ++ fault_of c.loop-at.at (seat_at c.args.seats.now.items c.loop-at.at).standing) c.loop-at.invariant.items
          ∙ sym (more-faults-here c.loop-at.at c.args.seats.now.items lt);
      room = omega (arith, room, before);
    }
