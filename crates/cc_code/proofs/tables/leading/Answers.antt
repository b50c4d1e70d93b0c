use Rattle.std.proofs.Common.{◌≡◌, ℕ, ◌+◌, ◌<◌, List, [], get_or, slice_get, Some, Bool, true, sym, subst}
use Rattle.std.specs.Prelude.{◌↔◌}
use Rattle.std.proofs.lemmas.Option.{get_or_from_slice_get}
use Rattle.cc_code.proofs.Judging.{judged-at}
use Rattle.cc_code.proofs.Lists.{item, one-longer, pushed}
use Rattle.cc_code.specs.Control.{addresses}
use Rattle.cc_code.specs.Rules.{IsAddress, AreAddresses}
use Rattle.cc_code.specs.Works.{table_at}
use Rattle.cc_code.specs.declared.code.RawCode.{RawCode}
use Rattle.cc_code.specs.declared.code.TableEntry.{TableEntry}
use Rattle.cc_code.proofs.tables.leading.Goals as goal

pub loop-table-preserved : goal.loop-table-preserved
loop-table-preserved c =
    let k : RawCode = c.args.raw.now in
    let j : ℕ = c.loop-table.table-index in
    let t : List TableEntry = c.table-item.result in
    let e : slice_get k.tables j ≡ Some t = item c.as_slice-table-items.result.now k.tables j t c.loop-table.invariant.are c.loop-table-test.true c.table-item.is in
    record {
      are = c.loop-table.invariant.are;
      long = one-longer c.loop-table.bits.items c.push.new.self.items c.table_leads.result j c.in_ok-push.ensures.items c.loop-table.invariant.long;
      each = subst (λ (bs : List Bool). (i : ℕ) → i < j + 1 → (get_or bs i true ≡ true) ↔ AreAddresses k (addresses (table_at k i))) (sym c.in_ok-push.ensures.items)
          (pushed true (λ (i : ℕ) (b : Bool). (b ≡ true) ↔ AreAddresses k (addresses (table_at k i))) c.loop-table.bits.items j c.table_leads.result c.loop-table.invariant.long c.loop-table.invariant.each
          (judged-at (IsAddress k) c.as_slice.result.now t (table_at k j) c.table_leads.result c.as_slice.ensures (get_or_from_slice_get k.tables j t [] e) c.table_leads.ensures));
    }
