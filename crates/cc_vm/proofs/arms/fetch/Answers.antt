use mir.Syntax.{w64}
use Rattle.std.proofs.lemmas.Int.{to_z-of_z}
use Rattle.std.proofs.Common.{rules, ℤ, ◌-◌, ap, ◌∙◌}
use Rattle.cc_vm.proofs.Copies.{fetched-so}
use Rattle.cc_vm.proofs.arms.fetch.Goals as goal
use Rattle.cc_vm.specs.Machine.{between, cell_of, located}

pub returns-in-Some : goal.returns-in-Some
returns-in-Some c =
    fetched-so c.args.stack.now c.args.cells.now c.args.r.now c.requires.within c.args.count c.in-Some.offset (cell_of c.args.stack.now (c.args.r.now.top - 1)) (c.in-Some.ensures ∙ ap (λ (x : ℤ). located x c.args.count (between c.args.r.now.first c.args.r.now.end c.args.cells.now)) (to_z-of_z w64 c.cell_at-offset.result (search rules) ∙ c.cell_at-offset.ensures))
    (c.args.r.now.top - 1) c.put_cells.new.target c.go_on.new.r c.put_cells.ensures c.go_on.ensures
