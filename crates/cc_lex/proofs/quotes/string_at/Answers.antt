use Rattle.std.proofs.Common.{◌++◌, List, ℕ, length, sym, ◌∙◌, ap, drop, arith}
use Rattle.std.proofs.lemmas.List.{append_assoc, drop-drop, length-drop}
use Rattle.cc_lex.proofs.Steps.{StringStep, string_step}
use Rattle.cc_lex.proofs.quotes.string_at.Goals as goal

pub loop-b-preserved : goal.loop-b-preserved
loop-b-preserved c =
    let kept = c.loop-b.invariant in
    let step : StringStep c.loop-b.left.now c.in-Some.b c.in-Some.n = string_step c.loop-b.left.now c.in-Some.b c.in-Some.n (sym c.in-Some.ensures.value) in
    let behind = c.split_at.ensures.back in
    record {
      bytes = rw (c.in_ok-push.ensures.ok, behind, append_assoc) (kept.bytes ∙ ap (λ (xs : List ℕ). c.loop-b.bytes ++ xs) step.bytes);
      len = rw behind (omega (arith, kept.len, step.len));
      left = behind ∙ ap (drop c.in-Some.n) kept.left ∙ drop-drop c.in-Some.n c.loop-b.len c.args.text.now;
      within = omega (arith, step.within, kept.within, ap length kept.left, length-drop c.loop-b.len c.args.text.now);
    }
