use Rattle.std.proofs.Common.{◌≡◌, ◌<◌, ℕ, ◌+◌, ◌*◌, sym, ◌∙◌, get_or, drop, arith}
use Rattle.std.proofs.lemmas.List.{at_drop_more, at_drop_all}
use Rattle.cc_lex.specs.Bytes as spec
use Rattle.cc_lex.specs.Pieces.{greatest_number}
use Rattle.cc_lex.proofs.Steps.{bounded-small, bounded-large, value_after-grows, too_large, digit_of-le}
use Rattle.cc_lex.proofs.numbers.value_of.Goals as goal

pub returns-then-value-digit-clause-value : goal.returns-then-value-digit-clause-value
returns-then-value-digit-clause-value c =
    let base = c.args.base in
    let digits = c.args.digits.now in
    let i = c.loop-d.d-index in
    let digit : ℕ = spec.digit_of (get_or digits i 0) in
    let is : c.digit_of-digit.result ≡ digit = c.digit_of-digit.ensures.digit in
    let large : greatest_number < c.loop-d.value * base + digit = too_large base digit c.loop-d.value c.requires.positive (digit_of-le (get_or digits i 0)) (rw c.digit_of-digit.ensures.digit at c.if-value-digit.true) in
    let step : spec.value_of base digits ≡ spec.value_after base (c.loop-d.value * base + digit) (drop (i + 1) digits) =
    c.loop-d.invariant.so_far ∙ at_drop_more (spec.value_after base c.loop-d.value) digits i 0 (omega arith) in
    sym (bounded-large (spec.value_of base digits) (omega (arith, value_after-grows base c.requires.positive (c.loop-d.value * base + digit) (drop (i + 1) digits))))

pub returns-clause-value : goal.returns-clause-value
returns-clause-value c =
    let ended : spec.value_of c.args.base c.args.digits.now ≡ c.loop-d.value = c.loop-d.invariant.so_far ∙ at_drop_all (spec.value_after c.args.base c.loop-d.value) c.args.digits.now c.loop-d.d-index (omega arith) in
    rw ended (sym (bounded-small c.loop-d.value c.loop-d.invariant.bounded))
