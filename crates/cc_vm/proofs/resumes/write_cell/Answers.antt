use Rattle.std.proofs.Common.{◌≡◌, ℤ, ap, rules, ◌∙◌, w64}
use Rattle.std.specs.Prelude.{slice_set}
use Rattle.std.proofs.lemmas.Int.{to_z-of_z}
use Rattle.cc_vm.proofs.Between.{set-with}
use Rattle.cc_vm.proofs.resumes.write_cell.Goals as goal

pub returns : goal.returns
returns c =
    ap (λ (z : ℤ). slice_set c.args.stack.now c.args.place z) (to_z-of_z w64 c.args.cell (search rules)) ∙ set-with c.args.stack.now c.args.place c.args.cell c.requires
