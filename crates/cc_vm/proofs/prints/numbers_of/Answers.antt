use Rattle.std.proofs.Common.{◌≡◌, ◌+◌, ◌<◌, ◌≤◌, ℕ, Bool, List, [], ◌∷◌, add-one, ap, arith, drop, drop-cons, get_or, length, sym, ◌∙◌}
use Rattle.std.specs.Prelude.{cond}
use Rattle.std.proofs.lemmas.List.{drop_all}
use Rattle.cc_vm.proofs.Printing.{counts, count-step, none-counts}
use Rattle.cc_vm.specs.Printing.{IsMark, numbered, numbers_from, reading_after}
use Rattle.cc_vm.specs.declared.marks.Mark.{Mark}
use Rattle.cc_vm.specs.declared.marks.Reading.{Reading}
use Rattle.cc_vm.proofs.prints.numbers_of.Goals as goal

pub loop-byte-preserved : goal.loop-byte-preserved
loop-byte-preserved c =
    let format : List ℕ = c.args.format.now in
    let i : ℕ = c.loop-byte.byte-index in
    let r : Reading = c.loop-byte.reading in
    let m : Mark = c.mark_of-mark.result in
    let b : ℕ = get_or format i 0 in
    let below : i < length format = c.loop-byte-test.true in
    let next : drop i format ≡ b ∷ drop (i + 1) format = drop-cons format i 0 below ∙ ap (λ (n : ℕ). b ∷ drop n format) (sym (add-one i)) in
    let is : IsMark b m = c.mark_of-mark.ensures in
    let more : numbers_from r (drop i format) ≡ cond (numbered r m) 1 0 + numbers_from (reading_after r m) (drop (i + 1) format) =
    ap (λ (xs : List ℕ). numbers_from r xs) next ∙ counts r m b (drop (i + 1) format) is in
    let count : c.counted-count.result ≡ c.loop-byte.count + cond (numbered r m) 1 0 = c.counted-count.ensures ∙ ap (λ (t : Bool). c.loop-byte.count + cond t 1 0) c.is_numbered.ensures in
    let at : numbers_from c.reading_after-reading.result (drop (i + 1) format) ≡ numbers_from (reading_after r m) (drop (i + 1) format) =
    ap (λ (x : Reading). numbers_from x (drop (i + 1) format)) c.reading_after-reading.ensures in
    let one : cond (numbered r m) 1 0 ≤ 1 = count-step (numbered r m) in
    record { rest = omega (arith, more, count, at, c.loop-byte.invariant.rest); few = omega (arith, count, one, c.loop-byte.invariant.few) }

pub returns : goal.returns
returns c =
    let none : drop c.loop-byte.byte-index c.args.format.now ≡ [] = drop_all c.loop-byte.byte-index c.args.format.now (omega (arith, c.loop-byte-test.false)) in
    let zero : numbers_from c.loop-byte.reading (drop c.loop-byte.byte-index c.args.format.now) ≡ 0 = ap (λ (xs : List ℕ). numbers_from c.loop-byte.reading xs) none ∙ none-counts c.loop-byte.reading in
    omega (arith, zero, c.loop-byte.invariant.rest)
