use Rattle.std.proofs.Common.{◌≡◌, ℕ, ◌+◌, ◌<◌, List, length, get_or, slice_get, Some, Bool, true, false, sym, ◌∙◌, ap, subst, arith}
use Rattle.std.proofs.lemmas.Option.{slice_get_within}
use Rattle.cc_code.proofs.Lists.{item, one-longer, pushed}
use Rattle.cc_code.specs.Waiting.{IsAscending}
use Rattle.cc_code.specs.declared.code.RawCode.{RawCode}
use Rattle.cc_code.specs.declared.code.TableEntry.{TableEntry}
use Rattle.cc_code.proofs.tables.ascending.Goals as goal

abbrev Rises : RawCode → ℕ → Bool → Type 0
Rises k j b = (t : List TableEntry) → slice_get k.tables j ≡ Some t → b ≡ true → IsAscending t

here : (k : RawCode) (j : ℕ) (t u : List TableEntry) (b : Bool) → slice_get k.tables j ≡ Some u → t ≡ u → (b ≡ true → IsAscending t) → Rises k j b
here k j t u b e f h v g is =
    let s : Some u ≡ Some v = sym e ∙ g in
    let same : u ≡ v = cc in
    subst (λ (w : List TableEntry). IsAscending w) (f ∙ same) (h is)

pub loop-table-preserved : goal.loop-table-preserved
loop-table-preserved c =
    let k : RawCode = c.args.raw.now in
    let j : ℕ = c.loop-table.table-index in
    let t : List TableEntry = c.table-item.result in
    let e : slice_get k.tables j ≡ Some t = item c.as_slice-table-items.result.now k.tables j t c.loop-table.invariant.are c.loop-table-test.true c.table-item.is in
    record {
      are = c.loop-table.invariant.are;
      long = one-longer c.loop-table.bits.items c.push.new.self.items c.is_ascending.result j c.in_ok-push.ensures.items c.loop-table.invariant.long;
      each = subst (λ (bs : List Bool). (i : ℕ) → i < j + 1 → Rises k i (get_or bs i false)) (sym c.in_ok-push.ensures.items)
          (pushed false (Rises k) c.loop-table.bits.items j c.is_ascending.result c.loop-table.invariant.long c.loop-table.invariant.each
          (here k j c.as_slice.result.now t c.is_ascending.result e c.as_slice.ensures c.is_ascending.ensures));
    }

pub returns : goal.returns
returns c = λ j t e is. (let b : j < length c.args.raw.now.tables = slice_get_within c.args.raw.now.tables j t e in
    c.loop-table.invariant.each j (omega (arith, ap length c.loop-table.invariant.are, c.loop-table-test.false)) t e is)
