use Rattle.std.proofs.Common.{◌≡◌, ◌∷◌, ◌++◌, ℤ, List, [], ap, rules, sym, ◌∙◌}
use Rattle.cc_code.proofs.Lists.{take_next}
use Rattle.cc_vm.proofs.starts.copy_cells.Goals as goal

pub loop-at-preserved : goal.loop-at-preserved
loop-at-preserved c =
    let pushed : c.push.new.self.items ≡ c.loop-at.copy.items ++ c.cell_of.result ∷ [] = search rules in
    pushed ∙ ap (λ (xs : List ℤ). xs ++ c.cell_of.result ∷ []) c.loop-at.invariant ∙ sym (take_next c.args.cells.now c.loop-at.at c.cell_of.result c.cell_of.ensures)
