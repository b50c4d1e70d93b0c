-- What is known of the items so far, while a text is read from its first item.
use Rattle.std.specs.Prelude.{ℕ, ◌+◌, List, ◌++◌, length}
use Rattle.cc_faults.specs.Declarations.{after_item, head_of, is_async, kind_of, parameters, transaction_heads, transaction_signature, transactions_in}
use Rattle.cc_faults.specs.Judged.{outcome}
use Rattle.cc_faults.specs.Scopes.{Scope}
use Rattle.cc_faults.specs.declared.plain.Identifier.{Identifier}
use Rattle.cc_faults.specs.declared.plain.Item.{Item}
use Rattle.cc_faults.specs.declared.plain.Transaction.{Transaction}
use Rattle.cc_faults.specs.declared.plain.TypeName.{TypeName}
use Rattle.cc_faults.specs.declared.scope.KindHead.{KindHead}
use Rattle.cc_faults.specs.declared.scope.TransactionHead.{TransactionHead}
use Rattle.cc_declared.specs.declared.heads_so_far.Heads.{Heads}

abbrev pub transaction_head : Scope → ℕ → Transaction → TransactionHead
transaction_head s n d =
    record { name = d.name.name; number = n; is_async = is_async d.result; signature = outcome (transaction_signature s d) }

-- a process type, with transactions from number n on
abbrev pub kind_head : Scope → ℕ → Identifier → List TypeName → List Transaction → KindHead
kind_head s n x ts ds =
    record { count = length ts; parameters = outcome (parameters s x ts); transactions = transaction_heads s n ds }

-- an item more
abbrev pub and_item : Heads → Item → Heads
and_item w i =
    record {
      visible = after_item w.visible i;
      transactions = w.transactions + transactions_in i;
      functions = w.functions ++ head_of w.visible i;
      kinds = w.kinds ++ kind_of w.visible w.transactions i;
    }
