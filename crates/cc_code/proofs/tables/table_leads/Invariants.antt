use Rattle.std.specs.List.{AllWithin}
use Rattle.cc_code.specs.Rules.{IsAddress}
use Rattle.cc_code.specs.declared.code.TableEntry.{TableEntry}
use Rattle.cc_code.proofs.tables.table_leads.Given as goal

abbrev pub invariant-loop-entry : goal.invariant-loop-entry
invariant-loop-entry l = AllWithin (λ (e : TableEntry). IsAddress l.raw e.address) l.table 0 l.entry-index
