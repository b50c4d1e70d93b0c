use Rattle.std.proofs.Common.{List, [], ◌∷◌, get_or, sym, subst, take}
use Rattle.std.proofs.lemmas.List.{take_more}
use Rattle.cc_code.proofs.Marked.{Grown-after, Grown-none}
use Rattle.cc_code.specs.Reach.{Grown, begin}
use Rattle.cc_code.specs.declared.reach.Start.{Start}
use Rattle.cc_code.proofs.reach.seed.Goals as goal

pub loop-start-init : goal.loop-start-init
loop-start-init c = Grown-none c.args.labels.now.items c.args.work.now.items

pub loop-start-preserved : goal.loop-start-preserved
loop-start-preserved c =
    subst (λ (ss : List Start). Grown ss c.args.labels.now.items c.args.work.now.items c.visit.new.labels.items c.visit.new.work.items) (sym (take_more c.args.starts.now c.loop-start.start-index (begin 0 0) c.loop-start-test.true))
    (Grown-after (take c.loop-start.start-index c.args.starts.now) (get_or c.args.starts.now c.loop-start.start-index (begin 0 0) ∷ []) _ _ _ _ _ _ c.loop-start.invariant c.in_ok-visit.ensures.grown)
