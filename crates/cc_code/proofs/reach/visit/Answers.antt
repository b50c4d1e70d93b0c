use Rattle.std.proofs.Common.{◌≡◌, ◌<◌, List, [], ◌∷◌, length, get_or, set, Some, None, inl, inr, sym, subst}
use Rattle.cc_code.proofs.Marked.{marked-or, visited-new, visited-old}
use Rattle.cc_code.specs.Reach.{Grown}
use Rattle.cc_code.specs.declared.reach.Start.{Start}
use Rattle.cc_code.proofs.reach.visit.Goals as goal

pub returns-in_ok-push-clause-grown : goal.returns-in_ok-push-clause-grown
returns-in_ok-push-clause-grown c =
    let new : (c.args.start.place < length c.args.labels.now.items) × (get_or c.args.labels.now.items c.args.start.place None ≡ None) = c.is_new.ensures.0 c.if-is_new.true in
    subst (λ (w : List Start). Grown (c.args.start ∷ []) c.args.labels.now.items c.args.work.now.items (set c.args.labels.now.items c.args.start.place (Some c.args.start.label)) w) (sym c.in_ok-push.ensures.items) (visited-new c.args.labels.now.items c.args.work.now.items c.args.start new.0 new.1)

pub returns-else-is_new-clause-grown : goal.returns-else-is_new-clause-grown
returns-else-is_new-clause-grown c = visited-old c.args.labels.now.items c.args.work.now.items c.args.start (λ b. elim (marked-or c.args.labels.now.items c.args.start.place) [
  | inl e ↦ absurd (let h = c.is_new.ensures.1 (b, e) in let f = c.if-is_new.false in cc)
  | inr h ↦ h
])
