use mir.Syntax.{w64}
use mir.Val.{Fits}
use Rattle.std.proofs.lemmas.Int.{to_z-of_z}
use Rattle.std.proofs.Common.{rules, ℤ, ap, ◌∙◌, ◌-◌, ◌*◌, sym, arith}
use Rattle.cc_base.specs.Numbers.{indexed}
use Rattle.cc_vm.proofs.Copies.{element-within, index-below, picked-so}
use Rattle.cc_vm.proofs.arms.pick.Goals as goal
use Rattle.cc_vm.specs.Machine.{cell_of}

pub overflow_add-array : goal.overflow_add-array
overflow_add-array c =
    let w = element-within c.in-Ok.number c.args.elements c.args.stride (index-below c.args.elements (cell_of c.args.stack.now (c.args.r.now.top - 1)) c.in-Ok.number (sym (c.in-Ok.ensures.value ∙ ap (λ (x : ℤ). indexed c.args.elements x) (to_z-of_z w64 c.cell_at-number.result (search rules) ∙ c.cell_at-number.ensures)))) in
    let f : Fits w64 c.args.r.now.top = search rules in
    omega (arith, w, c.requires.operands, f)

pub move_cells-requires-clause-from : goal.move_cells-requires-clause-from
move_cells-requires-clause-from c =
    let w = element-within c.in-Ok.number c.args.elements c.args.stride (index-below c.args.elements (cell_of c.args.stack.now (c.args.r.now.top - 1)) c.in-Ok.number (sym (c.in-Ok.ensures.value ∙ ap (λ (x : ℤ). indexed c.args.elements x) (to_z-of_z w64 c.cell_at-number.result (search rules) ∙ c.cell_at-number.ensures)))) in
    omega (arith, w, c.requires.operands, c.requires.top)

pub move_cells-requires-clause-to : goal.move_cells-requires-clause-to
move_cells-requires-clause-to c =
    let w = element-within c.in-Ok.number c.args.elements c.args.stride (index-below c.args.elements (cell_of c.args.stack.now (c.args.r.now.top - 1)) c.in-Ok.number (sym (c.in-Ok.ensures.value ∙ ap (λ (x : ℤ). indexed c.args.elements x) (to_z-of_z w64 c.cell_at-number.result (search rules) ∙ c.cell_at-number.ensures)))) in
    omega (arith, w, c.requires.operands, c.requires.top)

pub returns-in-Ok : goal.returns-in-Ok
returns-in-Ok c =
    picked-so c.args.stack.now c.args.r.now c.move_cells.new.list c.go_on.new.r c.args.elements c.args.stride c.in-Ok.number (cell_of c.args.stack.now (c.args.r.now.top - 1)) (c.in-Ok.ensures.value ∙ ap (λ (x : ℤ). indexed c.args.elements x) (to_z-of_z w64 c.cell_at-number.result (search rules) ∙ c.cell_at-number.ensures)) c.requires.operands c.requires.top
    (c.args.r.now.top - 1 - c.args.elements * c.args.stride) (omega (arith, c.requires.operands)) c.move_cells.ensures c.go_on.ensures
