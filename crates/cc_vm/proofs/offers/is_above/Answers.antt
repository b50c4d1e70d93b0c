use Rattle.std.proofs.Common.{◌≡◌, ◌-◌, ℕ, Some, arith, slice_get, subst}
use Rattle.cc_vm.proofs.Offering.{above-last, not-empty}
use Rattle.cc_vm.proofs.offers.is_above.Goals as goal

pub returns-in-Some : goal.returns-in-Some
returns-in-Some c =
    above-last c.args.number c.args.alts.now c.in-Some.last.now c.len-open.ensures.rising (λ e. c.if-open-eq0.false (omega (arith, e, c.len-open.ensures.len)))
    (subst (λ (n : ℕ). slice_get c.args.alts.now (n - 1) ≡ Some c.in-Some.last.now) c.len-open.ensures.len c.in-Some.ensures)

pub returns-in-None : goal.returns-in-None
returns-in-None c = absurd (not-empty c.args.alts.now (c.len-open.result - 1) (omega (arith, c.len-open.ensures.len, c.if-open-eq0.false)) c.in-None.ensures)
