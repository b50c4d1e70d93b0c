use Rattle.std.proofs.Common.{◌≡◌, ℕ, Bool, true, false, List, [], ◌∷◌, ◌++◌, None, Some, MatchBool, IsSomeAnd, ap, sym, refl, subst, append-nil, ◌∙◌, Option}
use mathlib.Core.List.{IsPrefix}
use Rattle.cc_desk.specs.Lists.{IsSwapped}
use Rattle.cc_desk.specs.Seated.{Seated}
use Rattle.desk_tests.proofs.work.hand_out.Goals as goal

more : Bool → ℕ × ℕ → Option (ℕ × ℕ)
more true e = Some e
more false e = None

swap : (b : Bool) (outs outs' : List (ℕ × ℕ)) (e : ℕ × ℕ) → MatchBool b (outs' ≡ outs ++ e ∷ []) (outs' ≡ outs) → IsSwapped outs None outs' (more b e)
unfolding more
swap true outs outs' e p = (outs, refl, (outs, [], sym (append-nil outs), p))
swap false outs outs' e p = (outs, refl, p)

known : (b : Bool) (e : ℕ × ℕ) (out : Option (ℕ × ℕ)) → out ≡ more b e → MatchBool b (out ≡ Some e) (out ≡ None)
unfolding more
known true e out p = p
known false e out p = p

pub leave-requires-clause-step : goal.leave-requires-clause-step
leave-requires-clause-step g c = let t = c.send_out-given.new.self in let e : ℕ × ℕ = (c.args.pid, c.args.grants) in
    subst (λ (s : Seated _ ℕ ℕ). IsSomeAnd s.turn (λ e. IsPrefix e.events t.journal × (x : _) × IsSwapped e.outs s.out t.outs x)) (sym c.enter-tray.ensures.turn)
    (([], append-nil _ ∙ sym c.send_out-given.ensures.rest.0), more c.send_out-given.result e, subst (λ m. IsSwapped c.enter-tray.result.outs m t.outs (more c.send_out-given.result e)) (sym c.requires.free.1) (swap c.send_out-given.result _ _ e c.send_out-given.ensures.outs))

pub returns-clause-out : goal.returns-clause-out
returns-clause-out g c = let t = c.send_out-given.new.self in let e : ℕ × ℕ = (c.args.pid, c.args.grants) in
    known c.send_out-given.result e c.leave.new.seat.out
    (subst (λ (s : Seated _ ℕ ℕ). IsSomeAnd s.turn (λ e. (more : _) → IsSwapped e.outs s.out t.outs more → c.leave.new.seat.out ≡ more)) c.enter-tray.ensures.turn c.leave.ensures.out (more c.send_out-given.result e)
    (subst (λ m. IsSwapped c.enter-tray.result.outs m t.outs (more c.send_out-given.result e)) (sym c.requires.free.1) (swap c.send_out-given.result _ _ e c.send_out-given.ensures.outs)))

pub returns-clause-stays : goal.returns-clause-stays
returns-clause-stays g c =
    let was = c.enter-tray.ensures.turn in let left = c.leave.ensures.left in
    (ap (λ s. s.turn) left, ap (λ s. s.desk) left ∙ (ap (λ s. s.desk) was ∙ c.requires.here))
