use Rattle.cc_vm.proofs.Offering.{part-some}
use Rattle.cc_vm.proofs.offers.append_part.Goals as goal

pub returns-in_ok-append_cells-in-Some : goal.returns-in_ok-append_cells-in-Some
returns-in_ok-append_cells-in-Some c =
    part-some c.args.part c.args.r.now.first c.args.r.now.end c.args.cells.now c.args.env.now c.in-Some.offset c.append_cells.new.cells c.in-Some.ensures c.requires.first c.requires.end
    c.in_ok-append_cells-in-Some.ensures
