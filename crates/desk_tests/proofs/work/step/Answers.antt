use Rattle.std.proofs.Common.{◌≡◌, None, IsSomeAnd, ap, sym, refl, subst, ◌∙◌}
use Rattle.cc_desk.specs.Lists.{IsSwapped}
use Rattle.desk_tests.proofs.work.step.Goals as goal

pub returns-clause-free : goal.returns-clause-free
returns-clause-free g c =
    let was = c.enter-tray.ensures.turn in let left = c.leave.ensures.left in let t = c.add.new.self in
    let out : c.leave.new.seat.out ≡ None = subst (λ s. IsSomeAnd s.turn (λ e. (more : _) → IsSwapped e.outs s.out t.outs more → c.leave.new.seat.out ≡ more)) was c.leave.ensures.out None
    (subst (λ m. IsSwapped c.enter-tray.result.outs m t.outs None) (sym c.requires.free.1) (c.enter-tray.result.outs, refl, c.add.ensures.outs)) in
    (ap (λ s. s.turn) left, out, ap (λ s. s.desk) left ∙ (ap (λ s. s.desk) was ∙ c.requires.here), ap (λ s. s.root) left ∙ ap (λ s. s.root) was)
