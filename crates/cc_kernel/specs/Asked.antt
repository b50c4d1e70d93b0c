-- The pending calls as the queues hold them, with who waits for the answer of each beside them.
use Rattle.std.specs.Prelude.{ℕ, Option, Some, None}
use Rattle.cc_queue.specs.declared.call.PendingCall.{PendingCall}
use Rattle.cc_rules.specs.declared.process.TransactionCall.{TransactionCall}
use Rattle.cc_rules.specs.declared.process.Waiting.{Waiting}
use Rattle.cc_rules.specs.declared.process.Waiting.TheVariants.{Nobody}

-- who waits, where it is told
abbrev pub who_waits : Option Waiting → Waiting
who_waits None = Nobody
who_waits (Some waiting) = waiting

-- the call with who waits for its answer
abbrev pub asked_call : (ℕ → Option Waiting) → PendingCall → TransactionCall
asked_call waiters call =
    record {
      number = call.number;
      target = call.target;
      trans = call.trans;
      args = call.args;
      waiting = who_waits (waiters call.number.0);
    }
