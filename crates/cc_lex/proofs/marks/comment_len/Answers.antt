use Rattle.std.proofs.Common.{◌≡◌, ◌+◌, sym, ◌∙◌, ap, drop, arith}
use Rattle.cc_lex.specs.Reading as reading
use Rattle.cc_lex.proofs.Steps.{comment_len-more, comment_len-end, further-further}
use Rattle.cc_lex.proofs.marks.comment_len.Goals as goal
use Rattle.cc_lex.proofs.marks.comment_len.Goals.{else-text-n-eq42-via-then-text-n-eq42+else-text-n-eq47, else-text-n-eq42-via-else-text-n-eq42}

pub loop-n-preserved : goal.loop-n-preserved
loop-n-preserved c =
    let text = c.args.text.now in
    let n = c.loop-n.n in
    let step : reading.comment_len (drop n text) ≡ reading.further 1 (reading.comment_len (drop (n + 1) text)) =
    comment_len-more text n (omega arith) (λ p q. elim c.else-text-n-eq42.branch [ else-text-n-eq42-via-then-text-n-eq42+else-text-n-eq47 w ↦ w.if-text-n-eq47.false q | else-text-n-eq42-via-else-text-n-eq42 w ↦ w.if-text-n-eq42.false p ]) in
    record {
      within = omega arith;
      so_far = c.loop-n.invariant.so_far ∙ ap (reading.further n) step ∙ further-further n 1 (reading.comment_len (drop (n + 1) text));
    }

pub returns-clause-value : goal.returns-clause-value
returns-clause-value c =
    sym (c.loop-n.invariant.so_far ∙ ap (reading.further c.loop-n.n) (comment_len-end c.args.text.now c.loop-n.n (omega arith)))
