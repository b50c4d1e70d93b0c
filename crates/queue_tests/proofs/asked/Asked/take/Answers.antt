use Rattle.std.proofs.Common.{◌<◌, All, nat_eq, not, sym, subst}
use Rattle.std.proofs.lemmas.List.Elements.{All-filter}
use Rattle.cc_queue.specs.Calls.{CallList}
use Rattle.cc_queue.specs.declared.call.PendingCall.{PendingCall}
use Rattle.queue_tests.proofs.asked.Asked.take.Goals as goal

pub invariant_of-self-clause-below : goal.invariant_of-self-clause-below
invariant_of-self-clause-below c =
    let old = c.args.self.now in
    subst (λ (q : CallList). All (λ (call : PendingCall). call.number.0 < old.next) q.calls) (sym c.remove.ensures.others)
    (All-filter (λ call. not (nat_eq call.number.0 c.args.number)) (λ (call : PendingCall). call.number.0 < old.next) old.queues.calls old.below)
