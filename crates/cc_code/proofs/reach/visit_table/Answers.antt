use Rattle.std.proofs.Common.{◌≡◌, ℕ, List, [], ◌∷◌, ◌++◌, get_or, sym, ◌∙◌, ap, subst, take, None, arith}
use Rattle.std.proofs.lemmas.Grind.{common_steps}
use Rattle.std.proofs.lemmas.List.{take_more}
use Rattle.cc_code.proofs.Marked.{Grown-after}
use Rattle.cc_code.specs.Reach.{Grown, begin, labelled, place_of, table_ways}
use Rattle.cc_code.specs.declared.code.RawCode.{RawCode}
use Rattle.cc_code.specs.declared.code.TableEntry.{TableEntry}
use Rattle.cc_code.specs.declared.reach.Start.{Start}
use Rattle.cc_code.proofs.reach.visit_table.Goals as goal

one-more : (k : RawCode) (l : ℕ) (es : List TableEntry) (e : TableEntry) → labelled l (table_ways k (es ++ e ∷ [])) ≡ labelled l (table_ways k es) ++ begin (place_of k e.address) l ∷ []
one-more k l es e = grind (arith, common_steps)

pub loop-entry-preserved : goal.loop-entry-preserved
loop-entry-preserved c =
    let d : TableEntry = record { alt = 0; site = None; address = 0 } in
    let e : TableEntry = get_or c.args.table.now c.loop-entry.entry-index d in
    record {
      grown = subst (λ (ss : List Start). Grown ss c.args.labels.now.items c.args.work.now.items c.visit.new.labels.items c.visit.new.work.items)
          (sym (ap (λ (es : List TableEntry). labelled c.args.label (table_ways c.args.raw.now es)) (take_more c.args.table.now c.loop-entry.entry-index d c.loop-entry-test.true) ∙ one-more c.args.raw.now c.args.label (take c.loop-entry.entry-index c.args.table.now) e))
          (Grown-after (labelled c.args.label (table_ways c.args.raw.now (take c.loop-entry.entry-index c.args.table.now))) (begin (place_of c.args.raw.now e.address) c.args.label ∷ []) _ _ _ _ _ _ c.loop-entry.invariant.grown (subst (λ (p : ℕ). Grown (begin p c.args.label ∷ []) c.loop-entry.labels.items c.loop-entry.work.items c.visit.new.labels.items c.visit.new.work.items) c.place_of-place.ensures c.in_ok-visit.ensures.grown));
      lighter = omega (arith, c.in_ok-visit.ensures.left);
    }
