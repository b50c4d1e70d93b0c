use Rattle.std.specs.List.{AllWithin}
use Rattle.cc_code.specs.Rules.{HasHeight}
use Rattle.cc_code.specs.declared.code.TableEntry.{TableEntry}
use Rattle.cc_code.proofs.tables.table_level.Given as goal

abbrev pub invariant-loop-entry : goal.invariant-loop-entry
invariant-loop-entry l = AllWithin (λ (e : TableEntry). HasHeight l.raw 0 e.address) l.table 0 l.entry-index
