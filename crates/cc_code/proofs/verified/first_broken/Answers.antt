use Rattle.std.proofs.Common.{◌≡◌, ℕ, ◌<◌, Option, sym, subst, arith}
use Rattle.cc_code.proofs.Firsts.{all-kept, first-there, more-kept}
use Rattle.cc_code.specs.Judged.{IsLeast, Judged}
use Rattle.cc_code.specs.Rules.{Keeps, KeepsAt}
use Rattle.cc_code.specs.declared.rule.Rule.{Rule}
use Rattle.cc_code.proofs.verified.first_broken.Goals as goal

below-one : (K : ℕ → Rule → Type 0) → ((q : Rule) → K 0 q) → (b : ℕ) (q : Rule) → b < 1 → K b q
below-one K h b q l = let e : b ≡ 0 = omega arith in subst (λ (n : ℕ). K n q) (sym e) (h q)

pub loop-at-init : goal.loop-at-init
loop-at-init c = below-one (λ b q. Keeps c.args.raw.now b q) (subst (λ (o : Option Rule). Judged (Keeps c.args.raw.now 0) o) c.in-None.is c.in_ok-rule.ensures)

pub returns-in-Some-2-clause-verdict : goal.returns-in-Some-2-clause-verdict
returns-in-Some-2-clause-verdict c =
    let least : IsLeast (KeepsAt c.args.raw.now c.loop-at.at c.instr_at.result) c.in-Some-2.rule = subst (λ (o : Option Rule). Judged (KeepsAt c.args.raw.now c.loop-at.at c.instr_at.result) o) c.in-Some-2.is c.in_ok-rule-2.ensures in
    first-there c.args.raw.now c.loop-at.at c.instr_at.result c.in-Some-2.rule (omega arith) c.instr_at.ensures c.loop-at.invariant least

pub loop-at-preserved : goal.loop-at-preserved
loop-at-preserved c = more-kept c.args.raw.now c.loop-at.at c.instr_at.result (omega arith) c.instr_at.ensures c.loop-at.invariant
    (subst (λ (o : Option Rule). Judged (KeepsAt c.args.raw.now c.loop-at.at c.instr_at.result) o) c.in-None-2.is c.in_ok-rule-2.ensures)

pub returns-clause-verdict : goal.returns-clause-verdict
returns-clause-verdict c = all-kept c.args.raw.now c.loop-at.at (omega arith) (omega (arith, c.len-at-end.ensures, c.loop-at-test.false)) c.loop-at.invariant
