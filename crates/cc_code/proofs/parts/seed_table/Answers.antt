use Rattle.std.proofs.Common.{◌≡◌, ℕ, List, [], ◌∷◌, ◌++◌, get_or, sym, ◌∙◌, ap, subst, take, None, arith}
use Rattle.std.proofs.lemmas.Grind.{common_steps}
use Rattle.std.proofs.lemmas.List.{take_more}
use Rattle.cc_code.proofs.Noting.{Seeded-after, Seeded-none}
use Rattle.cc_code.specs.Checked.{Seeded}
use Rattle.cc_code.specs.Reach.{begin, labelled, place_of, table_ways}
use Rattle.cc_code.specs.declared.code.RawCode.{RawCode}
use Rattle.cc_code.specs.declared.code.TableEntry.{TableEntry}
use Rattle.cc_code.specs.declared.reach.Start.{Start}
use Rattle.cc_code.proofs.parts.seed_table.Goals as goal

one-more : (k : RawCode) (l : ℕ) (es : List TableEntry) (e : TableEntry) → labelled l (table_ways k (es ++ e ∷ [])) ≡ labelled l (table_ways k es) ++ begin (place_of k e.address) l ∷ []
one-more k l es e = grind (arith, common_steps)

pub loop-entry-init : goal.loop-entry-init
loop-entry-init c = Seeded-none c.args.labels.now.items c.args.seeds.now.items

pub loop-entry-preserved : goal.loop-entry-preserved
loop-entry-preserved c =
    let d : TableEntry = record { alt = 0; site = None; address = 0 } in
    let e : TableEntry = get_or c.args.table.now c.loop-entry.entry-index d in
    let front : List TableEntry = take c.loop-entry.entry-index c.args.table.now in
    subst (λ (ss : List Start). Seeded c.args.labels.now.items ss c.args.seeds.now.items c.put_seed.new.seeds.items)
    (sym (ap (λ (es : List TableEntry). labelled c.args.label (table_ways c.args.raw.now es)) (take_more c.args.table.now c.loop-entry.entry-index d c.loop-entry-test.true) ∙ one-more c.args.raw.now c.args.label front e))
    (Seeded-after c.args.labels.now.items (labelled c.args.label (table_ways c.args.raw.now front)) (begin (place_of c.args.raw.now e.address) c.args.label ∷ []) _ _ _ c.loop-entry.invariant
    (subst (λ (p : ℕ). Seeded c.args.labels.now.items (begin p c.args.label ∷ []) c.loop-entry.seeds.items c.put_seed.new.seeds.items) c.place_of-place.ensures c.in_ok-put_seed.ensures))
