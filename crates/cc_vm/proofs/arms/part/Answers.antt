use Rattle.cc_vm.proofs.Copies.{parted}
use Rattle.cc_vm.proofs.arms.part.Goals as goal

pub returns : goal.returns
returns c =
    parted c.args.stack.now c.args.r.now c.move_cells.new.list c.go_on.new.r c.args.from c.args.count c.args.kept c.if-from-kept.false c.requires.operands c.requires.top c.move_cells.ensures c.go_on.ensures
