use Rattle.std.proofs.Common.{◌≡◌, None, IsSomeAnd, ap, sym, refl, subst, ◌∙◌}
use Rattle.cc_desk.specs.Lists.{IsSwapped}
use Rattle.desk_tests.proofs.work.keep.Goals as goal

pub returns : goal.returns
returns g c =
    let was = c.enter-tray.ensures.turn in let left = c.leave.ensures.left in let t = c.enter-tray.result in
    let out : c.leave.new.seat.out ≡ None = subst (λ s. IsSomeAnd s.turn (λ e. (more : _) → IsSwapped e.outs s.out t.outs more → c.leave.new.seat.out ≡ more)) was c.leave.ensures.out None
    (subst (λ m. IsSwapped t.outs m t.outs None) (sym c.requires.free.1) (t.outs, refl, refl)) in
    record { free = (ap (λ s. s.turn) left, out, ap (λ s. s.desk) left ∙ (ap (λ s. s.desk) was ∙ c.requires.here)) }
