use Rattle.std.proofs.Common.{ap, refl, Bor}
use Rattle.cc_kernel.proofs.Stacks.{within-same}
use Rattle.cc_kernel.specs.Stacks.{served_by}
use Rattle.cc_base.specs.declared.request.Request.{Request}
use Rattle.cc_kernel.proofs.Known.{known-request}
use Rattle.cc_kernel.proofs.Readying.{kept-prepared, kind-asked, ready-stays, where-some}
use Rattle.cc_kernel.proofs.kernel.Kernel.prepare.Goals as goal

pub need_of-requires : goal.need_of-requires
need_of-requires g c =
    let k = c.self.inside in
    record {
      kind =
          where-some {X = Bor Request} _ _ _
          (λ r asks.
          kind-asked (g.B.Behave.means k.code.value) (g.B.Behave.at k.code.value) k.store.input k.journal.items k.store.seats.items r.now
          c.self.invariant.state.seated
          (known-request (g.B.Behave.means k.code.value)
          (g.met.B.Behave.well_formed k.code.value) k.store.input k.journal.items c.self.invariant.runs)
          asks)
          (rw (← c.self.view_is) at c.requires.asks);
    }

-- out of memory, what was made before stays
pub invariant_of-self : goal.invariant_of-self
invariant_of-self g c =
    let k = c.self.inside in
    let m = g.B.Behave.means k.code.value in
    let located = g.B.Behave.at k.code.value in
    let same = c.make_room.ensures.contents in
    rw c.make_room.ensures.items
    (kept-prepared m located k.turns k.spent k.journal.items k.journal.spare c.make_room.new.journal.spare
    k.store c.make_room.new.store k.need k.need k.faults
    c.self.invariant same c.make_room.ensures.most
    (ready-stays m located k.store c.make_room.new.store k.journal.spare c.make_room.new.journal.spare k.need
    (ap (λ y. y.served) same) c.make_room.ensures.room c.self.invariant.ready))

pub invariant_of-self-2 : goal.invariant_of-self-2
invariant_of-self-2 g c =
    let k = c.self.inside in
    rw c.make_room.ensures.items
    (kept-prepared (g.B.Behave.means k.code.value) (g.B.Behave.at k.code.value) k.turns k.spent k.journal.items k.journal.spare c.make_room.new.journal.spare
    k.store c.make_room.new.store k.need c.in_ok-need.need k.faults
    c.self.invariant c.make_room.ensures.contents c.make_room.ensures.most
    (c.in_ok-need.ensures.ready c.make_room.new.store c.make_room.new.journal.spare
    (within-same (g.B.Behave.means k.code.value) k.store.most k.store.most (served_by k.store.served) (served_by c.make_room.new.store.served) refl
    (ap (λ y. y.served) c.make_room.ensures.contents) c.self.invariant.cells)
    c.in_ok-make_room.ensures.ok))
