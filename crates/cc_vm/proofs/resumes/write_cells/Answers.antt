use Rattle.std.proofs.Common.{◌≡◌, ◌+◌, ◌<◌, ℤ, List, ap, length, rules, slice_get, take, ◌∙◌, w64}
use Rattle.std.specs.Prelude.{slice_set}
use Rattle.std.proofs.lemmas.Int.{to_z-of_z}
use Rattle.cc_vm.proofs.Granting.{one-more-cell}
use Rattle.cc_vm.proofs.resumes.write_cells.Goals as goal

pub loop-at-preserved : goal.loop-at-preserved
loop-at-preserved c =
    ap (λ (z : ℤ). slice_set c.loop-at.stack (c.args.place + c.loop-at.at) z) (to_z-of_z w64 c.cell_of.result (search rules))
    ∙ ap (λ (S : List ℤ). slice_set S (c.args.place + c.loop-at.at) c.cell_of.result) c.loop-at.invariant
    ∙ one-more-cell c.args.stack.now c.args.cells.now c.args.place c.loop-at.at c.cell_of.result c.requires c.cell_of.ensures
