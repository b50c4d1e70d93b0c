use Rattle.std.proofs.Common.{Ok, ap, ◌∙◌, arith}
use Rattle.std.specs.Prelude.{neg_ℤ, pos}
use Rattle.cc_typed.specs.Types.{Int}
use Rattle.cc_declared.specs.Walks.{and_constant_found}
use Rattle.cc_declared.proofs.ConstantWalks.{constants-after, constants-found, constants-noted}
use Rattle.cc_declared.proofs.Firsts.{walk-end, walk-read}
use Rattle.cc_declared.proofs.visible.Visible.constants.Goals as goal

pub loop-c-preserved : goal.loop-c-preserved
loop-c-preserved c =
    let s = c.constant-so_far.ensures.after in
    let b = c.constant-so_far.ensures.before in
    let t = c.constant-so_far.ensures.found in
    let m = c.constant-so_far.ensures.noted in
    walk-read and_constant_found (c.loop-c.self, c.loop-c.so_far.before, c.loop-c.so_far.found, c.loop-c.least) (c.constant-so_far.new.self, c.constant-so_far.result.before, c.constant-so_far.result.found, c.constant-so_far.new.least) _ c.args.all.now c.loop-c.c-index _ c.loop-c-test.true (λ i. (s i, b i, t i, m i)) c.loop-c.invariant

pub returns-clause-after : goal.returns-clause-after
returns-clause-after c =
    ap (λ w. w.0) (walk-end and_constant_found (c.loop-c.self, c.loop-c.so_far.before, c.loop-c.so_far.found, c.loop-c.least) _ c.args.all.now c.loop-c.c-index (omega (arith, c.loop-c-test.false)) c.loop-c.invariant)
    ∙ constants-after c.args.self.now (Ok (neg_ℤ (pos 1))) (Ok Int) c.args.least.now c.args.all.now

pub returns-clause-outcome : goal.returns-clause-outcome
returns-clause-outcome c =
    ap (λ w. w.2) (walk-end and_constant_found (c.loop-c.self, c.loop-c.so_far.before, c.loop-c.so_far.found, c.loop-c.least) _ c.args.all.now c.loop-c.c-index (omega (arith, c.loop-c-test.false)) c.loop-c.invariant)
    ∙ constants-found c.args.self.now (Ok (neg_ℤ (pos 1))) c.args.least.now c.args.all.now

pub returns-clause-noted : goal.returns-clause-noted
returns-clause-noted c =
    ap (λ w. w.3) (walk-end and_constant_found (c.loop-c.self, c.loop-c.so_far.before, c.loop-c.so_far.found, c.loop-c.least) _ c.args.all.now c.loop-c.c-index (omega (arith, c.loop-c-test.false)) c.loop-c.invariant)
    ∙ constants-noted c.args.self.now (Ok (neg_ℤ (pos 1))) (Ok Int) c.args.least.now c.args.all.now
