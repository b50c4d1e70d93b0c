use Rattle.std.proofs.Common.{ℕ, List, [], ◌∷◌, ◌++◌, ◌∙◌, subst}
use Rattle.cc_code.proofs.Marked.{followed}
use Rattle.cc_code.specs.Reach.{Grown, Marking, labelled, ways}
use Rattle.cc_code.specs.declared.reach.Start.{Start}
use Rattle.cc_code.proofs.reach.follow.Goals as goal

pub work-preserved : goal.work-preserved
work-preserved c =
    let k : Marking (ways c.args.raw.now c.args.extent) c.args.starts.now c.work.labels.items (c.pop.new.self.items ++ c.in-Some.from ∷ []) = subst (λ (w : List Start). Marking (ways c.args.raw.now c.args.extent) c.args.starts.now c.work.labels.items w) c.in-Some.ensures.items c.work.invariant.marking in
    let g : Grown (labelled c.in-Some.from.label (ways c.args.raw.now c.args.extent c.in-Some.from.place)) c.work.labels.items c.pop.new.self.items c.visit_ways.new.labels.items c.visit_ways.new.work.items =
    subst (λ (l : List ℕ). Grown (labelled c.in-Some.from.label l) c.work.labels.items c.pop.new.self.items c.visit_ways.new.labels.items c.visit_ways.new.work.items) c.leads_to.ensures c.in_ok-visit_ways.ensures.grown in
    record {
      long = g.long ∙ c.work.invariant.long;
      marking = followed (ways c.args.raw.now c.args.extent) c.args.starts.now c.in-Some.from c.work.labels.items c.pop.new.self.items c.visit_ways.new.labels.items c.visit_ways.new.work.items k g;
    }
