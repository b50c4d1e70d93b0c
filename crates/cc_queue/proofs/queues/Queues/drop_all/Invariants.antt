use Rattle.std.proofs.Common.{◌≡◌, filter, length, not}
use Rattle.std.specs.Prelude.{nat_eq}
use Rattle.cc_queue.specs.declared.call.PendingCall.{PendingCall}
use Rattle.cc_queue.proofs.queues.Queues.drop_all.Given as goal

abbrev pub invariant-loop-call : goal.invariant-loop-call
invariant-loop-call l =
    (filter (λ (c : PendingCall). not (nat_eq c.target.0 l.target.0)) l.self.calls ≡ filter (λ (c : PendingCall). not (nat_eq c.target.0 l.target.0)) l.fn.self.calls) × (l.self.spare ≡ l.fn.self.spare)

abbrev pub decreases-loop-call : goal.decreases-loop-call
decreases-loop-call l = length l.self.calls
