use Rattle.std.proofs.Common.{◌≡◌, ◌≤◌, false, length, map}
use Rattle.cc_kernel.specs.Counted.{all_may_end}
use Rattle.cc_kernel.specs.Resting.{AllRest}
use Rattle.cc_kernel.specs.Seats.{is_out}
use Rattle.cc_kernel.specs.Settles.{GoesOn}
use Rattle.cc_kernel.specs.Stacks.{AreWithin, served_by}
use Rattle.cc_kernel.specs.Store.{IsState, contents}
use Rattle.cc_rules.specs.State.{State}
use Rattle.cc_kernel.proofs.settle.expire_due.Given as goal

abbrev pub invariant-loop-event : goal.invariant-loop-event
invariant-loop-event g l =
    record {
      goes_on :
          (s : State)
          → IsState (g.B.Behave.at l.code) s (contents l.initial.store)
          → GoesOn (g.B.Behave.means l.code) (g.B.Behave.at l.code) s l.initial.journal.items l.journal.items (contents l.store);
      rest : AllRest (g.B.Behave.means l.code) (contents l.store);
      stays : all_may_end l.store.seats.items ≡ false;
      events : length l.store.deadlines.pairs ≤ l.journal.spare;
      outs : map is_out l.store.seats.items ≡ map is_out l.initial.store.seats.items;
      input : l.store.input ≡ l.initial.store.input;
      drawn : l.store.drawn ≡ l.initial.store.drawn;
      cells :
          AreWithin (g.B.Behave.means l.code) l.initial.store.most (served_by l.initial.store.served)
          → AreWithin (g.B.Behave.means l.code) l.store.most (served_by l.store.served);
    }

abbrev pub decreases-loop-event : goal.decreases-loop-event
decreases-loop-event g l = length l.store.deadlines.pairs
