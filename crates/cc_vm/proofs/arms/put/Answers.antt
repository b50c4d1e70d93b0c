use mir.Syntax.{w64}
use Rattle.std.proofs.lemmas.Int.{to_z-of_z}
use Rattle.std.proofs.Common.{rules, ℤ, ◌-◌, ap, ◌∙◌, arith}
use Rattle.cc_vm.proofs.Copies.{stored-so}
use Rattle.cc_vm.proofs.arms.put.Goals as goal
use Rattle.cc_vm.specs.Machine.{between, cell_of, located}

pub returns-in-Some : goal.returns-in-Some
returns-in-Some c =
    stored-so c.args.stack.now c.args.cells.now c.args.r.now c.requires.within c.args.count c.in-Some.offset (cell_of c.args.stack.now (c.args.r.now.top - c.args.count - 1)) (c.in-Some.ensures ∙ ap (λ (x : ℤ). located x c.args.count (between c.args.r.now.first c.args.r.now.end c.args.cells.now)) (to_z-of_z w64 c.cell_at-offset.result (search rules) ∙ c.cell_at-offset.ensures))
    (c.args.r.now.top - c.args.count) (c.args.r.now.top - c.args.count - 1) c.move_cells.new.list c.put_cells.new.target c.go_on.new.r (omega (arith, c.requires.operands)) c.put_cells.ensures c.move_cells.ensures c.go_on.ensures
