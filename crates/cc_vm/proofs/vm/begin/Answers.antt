use Rattle.std.proofs.Common.{◌≤◌, [], arith, length}
use Rattle.cc_base.specs.Limits.{most_cells}
use Rattle.cc_code.specs.declared.code.Part.{Part}
use Rattle.cc_vm.proofs.Processes.{begins-so, kind-args}
use Rattle.cc_vm.proofs.vm.begin.Goals as goal

pub returns : goal.returns
returns c =
    let p : Part = c.kind_at-part.result in
    let most : p.cells ≤ most_cells = omega (arith, c.if-part-from.false, c.from.ensures) in
    let among : p.args ≤ p.cells = omega (arith, c.if-from-part.false, c.from-2.ensures) in
    begins-so c.args.raw.now c.requires.verified c.args.kind p c.kind_at-part.ensures c.args.args.now c.args.room c.in_ok-lists.lists [] (kind-args c.args.raw.now c.args.kind (length c.args.args.now) p c.requires.kind c.kind_at-part.ensures)
    most among c.in_ok-lists.ensures
