use Rattle.std.proofs.Common.{subst}
use Rattle.cc_queue.specs.Calls.{AreRising, CallList}
use Rattle.cc_queue.specs.Chains.{ends_at}
use Rattle.cc_queue.proofs.Views.{rising, slots_apart}
use Rattle.cc_queue.proofs.queues.Queues.numbers_rise.Goals as goal

pub returns : goal.returns
returns c =
    let i = c.self.inside in
    record {
      rising = subst (λ (v : CallList). AreRising v.calls) c.self.view_is
          (rising i.nodes.slots (slots_apart i.nodes (ends_at i.transactions) c.self.invariant.by_transaction));
    }
