use Rattle.std.proofs.Common.{◌≡◌, ℕ, ◌-◌, List, length, slice_get, Option, Some, None, ◌∙◌, ap}
use Rattle.cc_code.specs.Reach.{table_ways, ways, ways_after, ways_from}
use Rattle.cc_code.specs.declared.code.TableEntry.{TableEntry}
use Rattle.cc_code.specs.declared.instr.Instr.{Instr}
use Rattle.cc_code.proofs.reach.leads_to.Goals as goal

pub returns-in-Some : goal.returns-in-Some
unfolding ways
returns-in-Some c =
    let e : Some c.in-Some.table.now ≡ slice_get c.args.raw.now.tables c.args.place = c.in-Some.ensures.value in
    ap (λ (t : List TableEntry). table_ways c.args.raw.now t) c.as_slice.ensures ∙ ap (λ (o : Option (List TableEntry)). ways_from c.args.raw.now c.args.extent c.args.place o) e

pub returns-in-Some-get : goal.returns-in-Some-get
unfolding ways
returns-in-Some-get c =
    let e : None ≡ slice_get c.args.raw.now.tables c.args.place = c.in-None.ensures.value in
    let n : c.len.result ≡ length c.args.raw.now.tables = c.len.ensures in
    let f : Some c.in-Some-get.instr.now ≡ slice_get c.args.raw.now.instrs (c.args.place - c.len.result) = c.in-Some-get.ensures.value in
    c.instr_ways.ensures
    ∙ ap (λ (o : Option Instr). ways_after c.args.raw.now c.args.extent (c.args.place - c.len.result) o) f
    ∙ ap (λ (m : ℕ). ways_after c.args.raw.now c.args.extent (c.args.place - m) (slice_get c.args.raw.now.instrs (c.args.place - m))) n
    ∙ ap (λ (o : Option (List TableEntry)). ways_from c.args.raw.now c.args.extent c.args.place o) e

pub returns-in-None-get : goal.returns-in-None-get
unfolding ways
returns-in-None-get c =
    let e : None ≡ slice_get c.args.raw.now.tables c.args.place = c.in-None.ensures.value in
    let n : c.len.result ≡ length c.args.raw.now.tables = c.len.ensures in
    let f : None ≡ slice_get c.args.raw.now.instrs (c.args.place - c.len.result) = c.in-None-get.ensures.value in
    ap (λ (o : Option Instr). ways_after c.args.raw.now c.args.extent (c.args.place - c.len.result) o) f
    ∙ ap (λ (m : ℕ). ways_after c.args.raw.now c.args.extent (c.args.place - m) (slice_get c.args.raw.now.instrs (c.args.place - m))) n
    ∙ ap (λ (o : Option (List TableEntry)). ways_from c.args.raw.now c.args.extent c.args.place o) e
