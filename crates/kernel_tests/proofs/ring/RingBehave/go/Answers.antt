use Rattle.std.proofs.Common.{◌≡◌, ◌∷◌, ◌++◌, ◌-◌, [], suc, length, length-append, sym, ap, ◌∙◌, arith}
use Rattle.kernel_tests.specs.Ring.{asked_at, next_stage, stage_after}
use Rattle.kernel_tests.specs.declared.ring.Ring.{Ring}
use Rattle.kernel_tests.proofs.ring.RingBehave.go.Goals as goal

pub returns : goal.returns
returns c code kind args grants at next =
    let a = c.args.this.now in
    let n = length-append grants (c.args._grant ∷ []) in
    let more : length (grants ++ c.args._grant ∷ []) ≡ suc (length grants) = omega (arith, n) in
    let less : length (grants ++ c.args._grant ∷ []) - 1 ≡ length grants = omega (arith, n) in
    let others : c.deref.result.now.others ≡ code.others = ap (λ (r : Ring). r.others) (c.deref.ensures ∙ at.0) in
    let asked = c.in_ok-request.ensures
    ∙ ap (λ o. asked_at o a.kind a.stage) others
    ∙ ap (λ k. asked_at code.others k a.stage) at.1
    ∙ ap (asked_at code.others kind) (at.2 ∙ ap (stage_after code.others kind) (sym less)) in
    let stage = c.next_stage-this.ensures
    ∙ ap (λ o. next_stage o a.stage) others
    ∙ ap (next_stage code.others) at.2
    ∙ ap (stage_after code.others kind) (sym more) in
    (asked, (at.0, at.1, stage))
