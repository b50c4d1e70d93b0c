use Rattle.std.proofs.Common.{rules, ◌≡◌, ℕ, ◌-◌, ◌<◌, List, length, replicate, ◌∙◌, ap, arith}
use Rattle.std.proofs.lemmas.List.{length-replicate}
use Rattle.std.proofs.lemmas.Option.{slice_get_within}
use Rattle.std.proofs.Math.ListN.{length-set}
use Rattle.cc_code.proofs.Waiting.{known-first, known-set, known-step}
use Rattle.cc_code.specs.declared.waits.Waits.{Waits}
use Rattle.cc_code.specs.declared.waits.Waits.TheVariants as waits
use Rattle.cc_code.proofs.waits.all_waits.Goals as goal

length-all : (n : ℕ) (known : List Waits) → known ≡ replicate n waits.Unknown → length known ≡ n
length-all n known e = ap length e ∙ length-replicate n waits.Unknown

pub loop-at-init : goal.loop-at-init
loop-at-init c =
    let e = c.in_ok-known.ensures.items_if_clones_equal (λ y h. search rules) in
    record {
      long = length-all _ c.in_ok-known.known.items e ∙ c.len.ensures;
      known = known-first c.args.raw.now c.in_ok-known.known.items _ e c.len.ensures;
    }

pub loop-at-preserved : goal.loop-at-preserved
loop-at-preserved c =
    let at : ℕ = c.loop-at.at - 1 in
    let b : at < length c.loop-at.known.items = omega (arith, c.loop-at.invariant.long, slice_get_within c.args.raw.now.instrs at c.instr_at.result c.instr_at.ensures) in
    record {
      long = length-set c.loop-at.known.items at c.waits_at-waits.result ∙ c.loop-at.invariant.long;
      known = known-set c.args.raw.now c.loop-at.known.items at c.waits_at-waits.result b c.loop-at.invariant.known
          (known-step c.args.raw.now c.loop-at.known.items at c.instr_at.result c.waits_at-waits.result c.instr_at.ensures c.loop-at.invariant.known c.waits_at-waits.ensures.successors c.waits_at-waits.ensures.wait);
    }
