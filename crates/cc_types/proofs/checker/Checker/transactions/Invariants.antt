use Rattle.std.proofs.Common.{◌≡◌, [], List, take}
use Rattle.cc_typed.specs.declared.tree.Transaction.{Transaction as TypedTransaction}
use Rattle.cc_faults.specs.Faults.{noted}
use Rattle.cc_faults.specs.Judged.{Good, after_each, each_after, faults}
use Rattle.cc_faults.specs.Programs.{and_transaction, transaction}
use Rattle.cc_types.specs.Passing.{AreAlike, and_made}
use Rattle.cc_types.proofs.checker.Checker.transactions.Given as goal

abbrev pub invariant-loop-transaction : goal.invariant-loop-transaction
invariant-loop-transaction l =
    record {
      names : AreAlike l.names (after_each and_transaction [] (take l.transaction-index l.all));
      made : (ds : List TypedTransaction) → each_after (transaction l.kind l.self.scope) and_transaction [] (take l.transaction-index l.all) ≡ Good ds → l.made ≡ after_each and_made l.fn.made ds;
      so_far : l.least ≡ noted l.fn.least (faults (each_after (transaction l.kind l.self.scope) and_transaction [] (take l.transaction-index l.all)));
    }
