use Rattle.std.proofs.Common.{◌≡◌, ◌++◌, ◌∷◌, ℕ, ◌+◌, ◌<◌, length, List, [], take, sym, ◌∙◌, ap, arith, append_assoc}
use Rattle.std.proofs.lemmas.Grind.{common_steps}
use Rattle.cc_code.proofs.Lists.{take_next}
use Rattle.cc_code.specs.Listing.{line, lines}
use Rattle.cc_code.specs.declared.instr.Instr.{Instr}
use Rattle.cc_code.proofs.lines.listed.Goals as goal

-- one more line
lines-more : (at : ℕ) (is : List Instr) (i : Instr) → lines at (is ++ i ∷ []) ≡ lines at is ++ line (at + length is) i
unfolding lines
lines-more at [] i = (let e : at ≡ at + length {A = Instr} [] = omega arith in ap (λ (n : ℕ). line n i ++ []) e ∙ grind (arith, common_steps))
lines-more at (j ∷ js) i =
    let e : at + 1 + length js ≡ at + length (j ∷ js) = grind (arith, common_steps) in
    ap (λ (l : List ℕ). line at j ++ l) (lines-more (at + 1) js i ∙ ap (λ (n : ℕ). lines (at + 1) js ++ line n i) e) ∙ sym (append_assoc (line at j) (lines (at + 1) js) (line (at + length (j ∷ js)) i))

pub loop-at-init : goal.loop-at-init
unfolding lines
loop-at-init c = c.new-text.ensures

pub loop-at-preserved : goal.loop-at-preserved
loop-at-preserved c =
    let front : List Instr = take c.loop-at.at c.args.instrs.now in
    let b : c.loop-at.at < length c.args.instrs.now = c.loop-at-test.true in
    let n : 0 + length front ≡ c.loop-at.at = grind (arith, common_steps) in
    let next : lines 0 (take (c.loop-at.at + 1) c.args.instrs.now) ≡ lines 0 front ++ line (0 + length front) c.instr_at.result =
    ap (λ (is : List Instr). lines 0 is) (take_next c.args.instrs.now c.loop-at.at c.instr_at.result c.instr_at.ensures) ∙ lines-more 0 front c.instr_at.result in
    c.in_ok-put_line.ensures ∙ ap (λ (t : List ℕ). t ++ line c.loop-at.at c.instr_at.result) c.loop-at.invariant ∙ ap (λ (m : ℕ). lines 0 front ++ line m c.instr_at.result) (sym n) ∙ sym next
