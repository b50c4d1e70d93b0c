use Rattle.std.proofs.Common.{◌≡◌, ◌+◌, ◌<◌, ℕ, ℤ, Bool, List, [], ◌++◌, ◌∷◌, ap, add-one, arith, drop, drop-cons, get_or, length, pos, rules, w64, sym, ◌∙◌, if◌then◌else◌}
use Rattle.std.proofs.lemmas.Int.{to_z-of_z}
use Rattle.std.proofs.lemmas.List.{drop_all}
use Rattle.cc_vm.proofs.Printing.{ends, prints-on}
use Rattle.cc_base.specs.Formats.{formatted}
use Rattle.cc_vm.specs.Printing.{IsMark, numbered, printed_from, written}
use Rattle.cc_vm.specs.declared.marks.Mark.{Mark}
use Rattle.cc_vm.specs.declared.marks.Reading.{Reading}
use Rattle.cc_vm.proofs.prints.print_format.Goals as goal

pub loop-byte-preserved : goal.loop-byte-preserved
loop-byte-preserved c =
    let format : List ℕ = c.args.format.now in
    let i : ℕ = c.loop-byte.byte-index in
    let r : Reading = c.loop-byte.reading in
    let m : Mark = c.mark_of-mark.result in
    let ns : List ℤ = drop c.loop-byte.used c.args.numbers.now in
    let rest : List ℤ = drop c.used_after-used.result c.args.numbers.now in
    let left : rest ≡ (if numbered r m then drop 1 ns else ns) = c.used_after-used.ensures ∙ ap (λ (b : Bool). if b then drop 1 ns else ns) c.is_numbered.ensures in
    let text : List ℕ = c.loop-byte.text in
    let b : ℕ = get_or format i 0 in
    let below : i < length format = c.loop-byte-test.true in
    let next : drop i format ≡ b ∷ drop (i + 1) format = drop-cons format i 0 below ∙ ap (λ (n : ℕ). b ∷ drop n format) (sym (add-one i)) in
    let is : IsMark b m = c.mark_of-mark.ensures in
    let put : c.put_written.new.text ≡ text ++ written r m b c.next_number.result =
    c.in_ok-put_written.ensures ∙ ap (λ (z : ℤ). text ++ written r m b z) (to_z-of_z w64 c.next_number.result (search rules)) in
    let number : c.next_number.result ≡ get_or ns 0 (pos 0) = c.next_number.ensures in
    ap (λ (t : List ℕ). t ++ printed_from c.reading_after-reading.result (drop (i + 1) format) rest) (put ∙ ap (λ (z : ℤ). text ++ written r m b z) number)
    ∙ ap (λ (x : Reading). (text ++ written r m b (get_or ns 0 (pos 0))) ++ printed_from x (drop (i + 1) format) rest) c.reading_after-reading.ensures
    ∙ prints-on format i r m b ns rest text (formatted format c.args.numbers.now) next is left c.loop-byte.invariant

pub returns : goal.returns
returns c =
    let format : List ℕ = c.args.format.now in
    let none : drop c.loop-byte.byte-index format ≡ [] = drop_all c.loop-byte.byte-index format (omega (arith, c.loop-byte-test.false)) in
    c.in_ok-put_left_over.ensures
    ∙ ap (λ (xs : List ℕ). c.loop-byte.text ++ xs) (sym (ends c.loop-byte.reading (drop c.loop-byte.used c.args.numbers.now)))
    ∙ ap (λ (xs : List ℕ). c.loop-byte.text ++ printed_from c.loop-byte.reading xs (drop c.loop-byte.used c.args.numbers.now)) (sym none)
    ∙ c.loop-byte.invariant
